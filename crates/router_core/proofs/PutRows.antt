-- One UPDATE is put, or what was told as it is to be is due no more.
use Rattle.std.proofs.Common.{◌≡◌, ◌≢◌, ℕ, ◌<◌, List, [], ◌∷◌, ◌++◌, length, Option, option_map, None, Bool, true, false}
use Rattle.std.proofs.Common.{cond, ◌||◌, ◌&&◌, not, is_some, refl, sym, ap, subst, ◌∙◌, set, inl, inr, Some}
use Rattle.std.specs.Prelude.{fold}
use Rattle.std.specs.FinMap as map
use Rattle.std.specs.List.{list_any, All}
use Rattle.std.specs.Cmp.{eq_by_cmp_equiv}
use Rattle.std.specs.Ordering.{eq_by_cmp}
use Rattle.std.proofs.lemmas.Bool.{false≢true}
use Rattle.std.proofs.lemmas.List.Sums.{fold-append}
use Rattle.ring_net.specs.declared.post.Post.{Post}
use Rattle.graft_steps.specs.declared.item.Item.{Item}
use Rattle.session_places.specs.Places.{with_place}
use Rattle.router_tables.proofs.Points.{one_or_other, at_here, at_else}
use Rattle.router_core.specs.declared.place.Errand.{Errand}
use Rattle.bgp_types.specs.declared.message.Message.TheVariants.{UpdateMsg}
use Rattle.bgp_types.specs.declared.message.SessionState.TheVariants.{OpenSent, Established}
use Rattle.bgp_types.specs.Prefixes.{PrefixValue, IsPrefix, same_prefix}
use Rattle.bgp_types.specs.Tables.{prefix_cmp}
use Rattle.bgp_types.proofs.TableLaws.{prefix_total, tied}
use Rattle.bgp_story.specs.declared.line.Line.{Line}
use Rattle.bgp_story.specs.declared.line.Line.TheVariants.{Put as PutLine, Got, Tick}
use Rattle.bgp_story.specs.Legal.{Peering, got_open, both_offer, is_wide}
use Rattle.bgp_story.specs.Readings.{apply}
use Rattle.bgp_story.specs.States.{state_of, after}
use Rattle.bgp_types.specs.Spelling.{spell}
use Rattle.session_value.specs.declared.config.SessionConfig.{SessionConfig}
use Rattle.session_value.specs.Fronts.{BeginsNothing}
use Rattle.session_value.specs.Cases.{PutsUpdate, sending, update_for}
use Rattle.session_value.specs.Sessions.{SessionValue, state, peering_of, unread}
use Rattle.session_value.specs.Sets.{Prefixes, has}
use Rattle.bgp_session.specs.Running.{RunningSession}
use Rattle.rib_stages.specs.Values.{rib_of, table_at}
use Rattle.update_plan.specs.Plans.{IsPlan, IsWritableFor}
use Rattle.update_plan.specs.declared.batch.Batch.{Batch}
use Rattle.update_plan.proofs.Listed.{same_itself, is_same}
use Rattle.update_plan.proofs.PlanLaws.{changes, one_way, rest}
use Rattle.graft_model.specs.Points.{at}
use Rattle.graft_model.specs.Parts.{RouterPart}
use Rattle.graft_model.specs.RouterRows.{IsToTell, PutsSome, RouterTaken, RouterSent}
use Rattle.graft_model.specs.Setups.{Setup}
use Rattle.graft_model.specs.Decisions.{to_tell}
use Rattle.graft_model.specs.declared.event.RouterEvent.TheVariants.{Put}
use Rattle.graft_model.specs.Steps.{put_row}
use Rattle.graft_actors.specs.Emissions.{Tally}
use Rattle.router_core.specs.Parts.{router_part, RouterInvariant, KeepsPlace}
use Rattle.router_core.specs.Places.{place_of, place_at, errand_of}
use Rattle.router_core.specs.Putting.{CanOffer, WasPut, PlannedAt, PutsSomeAt}
use Rattle.router_core.specs.Rounds.{CarefulRouter, DidAsRouter, PutsNext, SameRouter, WritesEvent}
use Rattle.router_core.specs.Stages.{PlaceGoes, PutsMore}
use Rattle.router_core.specs.Updates.{IsNextUpdate}
use Rattle.router_core.specs.Visits.{SameButLeaving}
use Rattle.router_core.specs.declared.fields.Fields.{Fields}
use Rattle.router_core.specs.declared.place.Place.{Place}
use Rattle.router_core.specs.declared.place.Place.TheVariants.{Live}
use Rattle.router_core.proofs.Dids.{did_one}
use Rattle.router_core.proofs.Kept.{keeps_on}
use Rattle.std.proofs.lemmas.List.{length-set}
use Rattle.router_core.proofs.PlaceLists.{listed, rooms}
use Rattle.router_core.proofs.VisitSteps.{set_here, set_other, set_at}

-- ---- a session that has put an UPDATE

opens_put : (p : Peering) (lines : List Line) (line : Line) → got_open p (line ∷ []) ≡ None → got_open p (lines ++ line ∷ []) ≡ got_open p lines
opens_put p [] line none = none
opens_put p (PutLine m ∷ lines) line none = opens_put p lines line none
opens_put p (Tick r ∷ lines) line none = opens_put p lines line none
opens_put p (Got bytes ∷ lines) line none = refl

module _ (s u : SessionValue) (batch : Batch) (put : PutsUpdate s (update_for batch.attrs batch.prefixes) u) where
  story_then : u.story ≡ s.story ++ PutLine (UpdateMsg (update_for batch.attrs batch.prefixes)) ∷ []
  story_then = ap (λ (v : SessionValue). v.story) put.effect

  pub state_then : state u ≡ state s
  state_then = ap state_of story_then ∙ fold-append after OpenSent s.story (PutLine (UpdateMsg (update_for batch.attrs batch.prefixes)) ∷ [])

  pub config_then : u.config ≡ s.config
  config_then = ap (λ (v : SessionValue). v.config) put.effect

  pub unread_then : unread u ≡ unread s
  unread_then = ap unread put.effect

  pub wide_then : is_wide (peering_of u.config) u.story ≡ is_wide (peering_of s.config) s.story
  wide_then =
      ap (λ (v : SessionValue). is_wide (peering_of v.config) v.story) put.effect
      ∙ ap (both_offer (peering_of s.config).first) (opens_put (peering_of s.config) s.story (PutLine (UpdateMsg (update_for batch.attrs batch.prefixes))) refl)

-- ---- sets of prefixes

either : (t u old : Bool) → (not u && (not t && old)) ≡ (not (t || u) && old)
either true true old = refl
either true false old = refl
either false u old = refl

one_test : (p q : PrefixValue) → eq_by_cmp prefix_cmp p q ≡ same_prefix p q
one_test p q = elim (same_prefix p q) as (λ b. same_prefix p q ≡ b → eq_by_cmp prefix_cmp p q ≡ b) [
  | true ↦ λ e. ap (eq_by_cmp prefix_cmp p) (sym (is_same p q e)) ∙ (eq_by_cmp_equiv prefix_total).refl p
  | false ↦ λ e. elim (eq_by_cmp prefix_cmp p q) as (λ b. eq_by_cmp prefix_cmp p q ≡ b → eq_by_cmp prefix_cmp p q ≡ false) [
    | true ↦ λ f. absurd (false≢true (sym e ∙ (ap (same_prefix p) (sym (tied p q f)) ∙ same_itself p)))
    | false ↦ λ f. f
  ] refl
] refl

removed_one : (set : Prefixes) (x p : PrefixValue) → has (map.remove set x) p ≡ (not (same_prefix p x) && has set p)
removed_one set x p = ap is_some (map.get-remove prefix_total set x p) ∙ by_test (eq_by_cmp prefix_cmp p x) (same_prefix p x) (one_test p x)
  where
    by_test : (a b : Bool) → a ≡ b → is_some (cond a None (map.get set p)) ≡ (not b && has set p)
    by_test true true e = refl
    by_test true false e = absurd (false≢true (sym e))
    by_test false true e = absurd (false≢true e)
    by_test false false e = refl

removed_all : (xs : List PrefixValue) (set : Prefixes) (p : PrefixValue) → has (fold map.remove set xs) p ≡ (not (list_any (same_prefix p) xs) && has set p)
removed_all [] set p = refl
removed_all (x ∷ xs) set p =
    removed_all xs (map.remove set x) p
    ∙ (ap (λ (b : Bool). not (list_any (same_prefix p) xs) && b) (removed_one set x p)
    ∙ either (same_prefix p x) (list_any (same_prefix p) xs) (has set p))

turned : (a b : Bool) → (not a && b) ≡ (b && not a)
turned true true = refl
turned true false = refl
turned false true = refl
turned false false = refl

pub less_due : (xs : List PrefixValue) (set : Prefixes) (p : PrefixValue) → has (fold map.remove set xs) p ≡ (has set p && not (list_any (same_prefix p) xs))
less_due xs set p = removed_all xs set p ∙ turned (list_any (same_prefix p) xs) (has set p)

-- ---- the row

some_row : (setup : Setup) (r p : ℕ) (prefixes : List PrefixValue) (before : RouterPart)
    (taken : Option RouterTaken) (sent : List RouterSent) (then : RouterPart)
    → prefixes ≢ [] → PutsSome setup r p (length prefixes) before taken sent then → put_row setup r p (length prefixes) before taken sent then
some_row setup r p [] before taken sent then some row = absurd (some refl)
some_row setup r p (x ∷ xs) before taken sent then some row = row

some_careful : (setup : Setup) (r p : ℕ) (prefixes : List PrefixValue) (part : RouterPart) → prefixes ≢ []
    → PutsNext setup r part p (length prefixes) → CarefulRouter setup r part (Put p (length prefixes))
some_careful setup r p [] part some next = absurd (some refl)
some_careful setup r p (x ∷ xs) part some next = next

-- the places of f with another session at n, and less due on n, are those of g
module _ (f g : Fields) (p q : Post (Item RunningSession)) (n : ℕ) (s u : RunningSession)
    (o : Option Errand) (batch : Batch) (keeps : RouterInvariant f) (there : n < length f.places.places)
    (is : place_at f.places.places n ≡ Some (Live s o)) (next : IsNextUpdate f.known.setup f.number.0 (router_part f) n s.session batch)
    (put : WasPut s (update_for batch.attrs batch.prefixes) u)
    (items : g.places ≡ with_place f.places n (Some (Live u o)))
    (due : table_at g.due_out ≡ at (table_at f.due_out) n (fold map.remove (table_at f.due_out n) batch.prefixes))
    (same : SameButLeaving f g) where
  same_router_then : SameRouter f g
  same_router_then = record { setup = ap (λ (h : Fields). h.known.setup) same; number = ap (λ (h : Fields). h.number) same }

  part_then : router_part g ≡ record (router_part f) {
    places = at (router_part f).places n (place_of (Some (Live u o)));
    due_out = at (router_part f).due_out n ((router_part g).due_out n);
  }
  part_then =
      let here : table_at g.due_out n ≡ fold map.remove (table_at f.due_out n) batch.prefixes =
      ap (λ (d : ℕ → Prefixes). d n) due ∙ at_here (table_at f.due_out) n (fold map.remove (table_at f.due_out n) batch.prefixes) n refl in
      ap router_part same
      ∙ (λ i. record (router_part f) {
        places = λ k. (ap (λ (xs : List (Option Place)). place_of (place_at xs k)) (listed items) ∙ set_at f.places.places n (Some (Live u o)) there k) i;
        due_out = (due ∙ ap (at (table_at f.due_out) n) (sym here)) i;
      })

  row : PutsSome f.known.setup f.number.0 n (length batch.prefixes) (router_part f) None [] (router_part g)
  row = record {
    alone = (refl, refl);
    session = s.session;
    errand = option_map errand_of o;
    live = record { is = ap place_of is };
    first = next.first;
    is_to_tell = next.least.is;
    least = next.least.least;
    attrs = batch.attrs;
    told_first = next.told_first;
    prefixes = batch.prefixes;
    later = next.later;
    alike = next.alike;
    size = refl;
    next = u.session;
    puts = put.puts;
    due = record {
      members = λ x. ap (λ (d : ℕ → Prefixes). has (d n) x) due
          ∙ (ap (λ (d : Prefixes). has d x) (at_here (table_at f.due_out) n (fold map.remove (table_at f.due_out n) batch.prefixes) n refl)
          ∙ less_due batch.prefixes (table_at f.due_out n) x);
    };
    effect = part_then;
  }

  pub did_put : (t : ℕ → Tally) → WritesEvent p (Put n (length batch.prefixes)) [] q → DidAsRouter f p t (Put n (length batch.prefixes) ∷ []) g q t
  did_put t wrote = did_one f g p q t (Put n (length batch.prefixes)) same_router_then wrote
      (some_row f.known.setup f.number.0 n batch.prefixes (router_part f) None [] (router_part g) next.some row)
      (some_careful f.known.setup f.number.0 n batch.prefixes (router_part f) next.some
      (record { session = s.session; errand = option_map errand_of o; live = record { is = ap place_of is }; batch = batch; next = next; size = refl }))

  abbrev then : Fields
  then = record f { places = g.places; due_out = g.due_out }

  told_then : SessionValue
  told_then = record s.session {
    story = s.session.story ++ PutLine (UpdateMsg (update_for batch.attrs batch.prefixes)) ∷ [];
    adj_rib_out = apply s.session.adj_rib_out (update_for batch.attrs batch.prefixes);
    end = sending (spell (UpdateMsg (update_for batch.attrs batch.prefixes)) (is_wide (peering_of s.session.config) s.session.story)) s.session.end;
  }

  less_due_then : (x : PrefixValue) → has (table_at g.due_out n) x ≡ (has (table_at f.due_out n) x && not (list_any (same_prefix x) batch.prefixes))
  less_due_then x =
      ap (λ (d : ℕ → Prefixes). has (d n) x) due
      ∙ (ap (λ (d : Prefixes). has d x) (at_here (table_at f.due_out) n (fold map.remove (table_at f.due_out n) batch.prefixes) n refl)
      ∙ less_due batch.prefixes (table_at f.due_out n) x)

  -- what is left of the plan is the plan then
  pub rest_then : (batches : List Batch) → PlannedAt f.known.setup f.number.0 (router_part f) n (Some (Live s o)) (batch ∷ batches)
      → PlannedAt g.known.setup g.number.0 (router_part g) n (Some (Live u o)) batches
  rest_then batches plan =
      subst (λ (h : Fields). PlannedAt h.known.setup h.number.0 (router_part h) n (Some (Live u o)) batches) (sym same)
      (subst (λ (w : Bool). IsPlan (IsToTell f.known.setup f.number.0 (router_part then) n u.session)
      (to_tell f.known.setup f.number.0 (router_part then) u.session) w batches) (sym (wide_then s.session u.session batch put.puts))
      (subst (λ (v : SessionValue). IsPlan (IsToTell f.known.setup f.number.0 (router_part then) n v)
      (to_tell f.known.setup f.number.0 (router_part then) v) (is_wide (peering_of s.session.config) s.session.story) batches) (sym put.puts.effect)
      (rest (table_at f.due_out n) (table_at g.due_out n) f.rib.dirty s.session.adj_rib_out (to_tell f.known.setup f.number.0 (router_part f) s.session)
      (is_wide (peering_of s.session.config) s.session.story) batch less_due_then batches plan)))

  -- ---- what stands then

  other_due : (k : ℕ) → k ≢ n → table_at g.due_out k ≡ table_at f.due_out k
  other_due k not = ap (λ (d : ℕ → Prefixes). d k) due ∙ at_else (table_at f.due_out) n (fold map.remove (table_at f.due_out n) batch.prefixes) k not

  puts_more : PutsMore s u
  puts_more = record {
    acked = ap (λ (v : SessionValue). v.end.acked) put.puts.effect;
    emitted = ap (λ (v : SessionValue). v.end.emitted) put.puts.effect;
    at_turn = put.same_turn;
  }

  of_both : (a b : Bool) → (a && b) ≡ true → a ≡ true
  of_both true b e = refl
  of_both false b e = e

  keeps_here : KeepsPlace f.known.setup f.number.0 n ((rib_of f.rib).entries n) (table_at f.due_out n) (Some (Live s o))
      → KeepsPlace f.known.setup f.number.0 n ((rib_of f.rib).entries n) (table_at g.due_out n) (Some (Live u o))
  keeps_here k = (
    record {
      peering = ap (λ (c : SessionConfig). c.peering.0) (config_then s.session u.session batch put.puts) ∙ k.0.peering;
      sends = ap (λ (c : SessionConfig). c.send_first.0) (config_then s.session u.session batch put.puts) ∙ k.0.sends;
      receives = ap (λ (c : SessionConfig). c.receive_first.0) (config_then s.session u.session batch put.puts) ∙ k.0.receives;
    },
    λ unclosed. subst BeginsNothing (sym (unread_then s.session u.session batch put.puts))
        (k.1 (λ closed. unclosed (state_then s.session u.session batch put.puts ∙ closed))),
    k.2,
    λ x has_it. state_then s.session u.session batch put.puts
        ∙ k.3 x (of_both (has (table_at f.due_out n) x) (not (list_any (same_prefix x) batch.prefixes)) (sym (less_due_then x) ∙ has_it)),
  )

  place_here : place_at g.places.places n ≡ Some (Live u o)
  place_here = ap (λ (xs : List (Option Place)). place_at xs n) (listed items) ∙ set_here f.places.places n (Some (Live u o)) there

  place_other : (k : ℕ) → k ≢ n → place_at g.places.places k ≡ place_at f.places.places k
  place_other k not = ap (λ (xs : List (Option Place)). place_at xs k) (listed items) ∙ set_other f.places.places n (Some (Live u o)) there k not

  each_then : (k : ℕ) → KeepsPlace f.known.setup f.number.0 k ((rib_of f.rib).entries k) (table_at g.due_out k) (place_at g.places.places k)
  each_then k = elim (one_or_other n k) [
    | inl e ↦ subst (λ (m : ℕ). KeepsPlace f.known.setup f.number.0 m ((rib_of f.rib).entries m) (table_at g.due_out m) (place_at g.places.places m)) (sym e)
        (subst (KeepsPlace f.known.setup f.number.0 n ((rib_of f.rib).entries n) (table_at g.due_out n)) (sym place_here)
        (keeps_here (subst (KeepsPlace f.known.setup f.number.0 n ((rib_of f.rib).entries n) (table_at f.due_out n)) is (keeps.each n))))
    | inr not ↦ subst (λ (d : Prefixes). KeepsPlace f.known.setup f.number.0 k ((rib_of f.rib).entries k) d (place_at g.places.places k))
        (sym (other_due k not))
        (subst (KeepsPlace f.known.setup f.number.0 k ((rib_of f.rib).entries k) (table_at f.due_out k)) (sym (place_other k not)) (keeps.each k))
  ]

  keeps_then : length g.due_out ≡ length f.due_out → RouterInvariant g
  keeps_then sizes = keeps_on f g keeps
      (subst (λ (h : Fields). h ≡ record f { places = h.places; rib = h.rib; due_in = h.due_in; due_out = h.due_out; turns = h.turns }) (sym same) refl)
      (record {
        places = ap length (listed items) ∙ length-set f.places.places n (Some (Live u o));
        reserved = rooms items;
        due_in = ap (λ (h : Fields). length h.due_in) same;
        due_out = sizes;
        config = ap (λ (h : Fields). h.rib.config) same;
        tellings = λ q out. ap (λ (h : Fields). (rib_of h.rib).tellings q) same;
      })
      (λ k. subst (λ (h : Fields). KeepsPlace f.known.setup f.number.0 k ((rib_of h.rib).entries k) (table_at g.due_out k) (place_at g.places.places k))
      (sym same) (each_then k))

  pub puts_some : length g.due_out ≡ length f.due_out → WritesEvent p (Put n (length batch.prefixes)) [] q → PutsSomeAt n f p g q
  puts_some sizes wrote = record {
    events = Put n (length batch.prefixes) ∷ [];
    did = λ t. did_put t wrote;
    at = (refl, tt);
    goes = subst (λ (x : Option Place). PlaceGoes PutsMore x (place_at g.places.places n)) (sym is) (u, place_here, puts_more);
    others = λ k not. (place_other k not, other_due k not);
    same = same;
    keeps = keeps_then sizes;
  }

-- an UPDATE of the plan may be offered
pub can_offer : (setup : Setup) (r n : ℕ) (part : RouterPart) (s : SessionValue) (batch : Batch) → state s ≡ Established
    → IsNextUpdate setup r part n s batch → All IsPrefix batch.prefixes → IsWritableFor batch
    → CanOffer s (update_for batch.attrs batch.prefixes)
can_offer setup r n part s batch established next sound writable = record {
  established = established;
  one_way = one_way (IsToTell setup r part n s) (to_tell setup r part s) (is_wide (peering_of s.config) s.story) batch next sound writable;
  changes = changes (part.due_out n) part.dirty s.adj_rib_out (to_tell setup r part s) (is_wide (peering_of s.config) s.story) batch next;
}
