-- What is put at one place after another.
use Rattle.std.proofs.Common.{◌≡◌, ◌≢◌, ℕ, zero, suc, ◌+◌, ◌<◌, ◌≤◌, List, [], ◌∷◌, ◌++◌, length, Option, option_map, Some, None, Bool, true}
use Rattle.std.proofs.Common.{false, is_some, not, ◌&&◌, refl, sym, ap, subst, ◌∙◌, arith, inl, inr, append_assoc, append-nil}
use Rattle.std.specs.FinMap as map
use Rattle.std.specs.Prelude.{fold, reverse}
use Rattle.std.proofs.lemmas.List.{reverse-append}
use Rattle.std.specs.List.{All}
use Rattle.std.proofs.lemmas.Bool.{false≢true, cases_lt}
use Rattle.ring_net.specs.declared.post.Post.{Post}
use Rattle.graft_steps.specs.declared.item.Item.{Item}
use Rattle.session_places.specs.Places.{with_place}
use Rattle.router_tables.proofs.Points.{one_or_other, at_here, at_else}
use Rattle.router_core.specs.declared.place.Errand.{Errand}
use Rattle.bgp_types.specs.Prefixes.{PrefixValue, IsPrefix}
use Rattle.bgp_types.specs.declared.message.SessionState.TheVariants.{Established}
use Rattle.bgp_types.specs.Tables.{prefix_cmp, first_above}
use Rattle.rib_stages.proofs.Drops.{no_least_is}
use Rattle.router_core.proofs.Kept.{keeps_on}
use Rattle.session_value.specs.Cases.{update_for}
use Rattle.session_value.specs.Sessions.{SessionValue, state, peering_of}
use Rattle.session_value.specs.Sets.{BestRoutes, Prefixes, has}
use Rattle.bgp_session.specs.Running.{RunningSession}
use Rattle.rib_stages.specs.Values.{rib_of, table_at}
use Rattle.update_plan.specs.Plans.{IsWritableFor, octets}
use Rattle.update_plan.proofs.Sizes.{one_more}
use Rattle.bgp_types.specs.declared.attrs.Attrs.{Attrs}
use Rattle.bgp_types.proofs.WalkLaws.{next_entry}
use Rattle.bgp_story.specs.Legal.{is_wide}
use Rattle.update_plan.specs.declared.batch.Batch.{Batch}
use Rattle.graft_model.specs.Points.{at}
use Rattle.graft_model.specs.Parts as model
use Rattle.graft_model.specs.Parts.{RouterPart}
use Rattle.graft_model.specs.RouterRows.{PutsNothing}
use Rattle.graft_model.specs.Sets.{Drops}
use Rattle.graft_model.specs.Setups.{Setup}
use Rattle.graft_model.specs.declared.event.RouterEvent.TheVariants.{Put}
use Rattle.graft_actors.specs.Emissions.{Tally}
use Rattle.router_core.specs.Parts.{router_part, RouterInvariant, KeepsPlace}
use Rattle.router_core.specs.Places.{errand_of, place_of, place_at}
use Rattle.router_core.specs.Putting.{HadNoRoom, LeavesPlan, NextAt, OfferedAt, OffersAt, PlannedAt, PutsAt, PutsFirst, PutsSomeAt}
use Rattle.router_core.specs.Rested.{IsDone}
use Rattle.router_core.specs.Rounds.{DidAsRouter, WritesEvent}
use Rattle.router_core.specs.Stages.{PlaceGoes, PutsMore, PutsAll}
use Rattle.router_core.specs.Updates.{IsNextUpdate, IsStuck, IsUnwritable, length_with}
use Rattle.router_core.specs.Visits.{SameButLeaving, SameButPlaces, leaving_twice}
use Rattle.router_core.specs.declared.fields.Fields.{Fields}
use Rattle.router_core.specs.declared.place.Place.{Place}
use Rattle.router_core.specs.declared.place.Place.TheVariants.{Live, Shadow}
use Rattle.router_core.proofs.Dids.{did_one, did_same, did_then}
use Rattle.router_core.proofs.PlaceSteps.{elsewhere, here, keeps_at, part_same}
use Rattle.router_core.proofs.PutRows.{can_offer, puts_some, rest_then}
use Rattle.router_core.proofs.RoundLists.{at-append}
use Rattle.router_tables.proofs.DueSteps.{table_at_end}
use Rattle.router_core.proofs.PlaceLists.{listed}
use Rattle.router_core.proofs.VisitSteps.{place_at_end, set_here}

-- ---- what is done at a place depends on what is due there, on what is dirty, and on the best routes

abbrev part_with : Prefixes → Prefixes → BestRoutes → RouterPart
part_with due dirty best = record {
  places = λ p. model.Vacant;
  entries = λ p. map.empty;
  tellings = λ q. map.empty;
  best = best;
  dirty = dirty;
  due_in = λ q. map.empty;
  due_out = λ p. due;
}

next_as : (setup : Setup) (r : ℕ) (a b : RouterPart) (p : ℕ) (s : SessionValue) (batch : Batch) → a.due_out p ≡ b.due_out p → a.dirty ≡ b.dirty
    → a.best ≡ b.best → IsNextUpdate setup r a p s batch → IsNextUpdate setup r b p s batch
next_as setup r a b p s batch due dirty best next =
    subst (λ (x : Prefixes). IsNextUpdate setup r (part_with x b.dirty b.best) p s batch) due
    (subst (λ (x : Prefixes). IsNextUpdate setup r (part_with (a.due_out p) x b.best) p s batch) dirty
    (subst (λ (x : BestRoutes). IsNextUpdate setup r (part_with (a.due_out p) a.dirty x) p s batch) best next))

stuck_as : (setup : Setup) (r : ℕ) (a b : RouterPart) (p : ℕ) (s : SessionValue) (n : ℕ) → a.due_out p ≡ b.due_out p → a.dirty ≡ b.dirty
    → a.best ≡ b.best → IsStuck setup r a p s n → IsStuck setup r b p s n
stuck_as setup r a b p s n due dirty best x = record {
  established = x.established;
  batch = x.batch;
  next = next_as setup r a b p s x.batch due dirty best x.next;
  writable = x.writable;
  size = x.size;
  above = x.above;
}

unwritable_as : (setup : Setup) (r : ℕ) (a b : RouterPart) (p : ℕ) (s : SessionValue) → a.due_out p ≡ b.due_out p → a.dirty ≡ b.dirty
    → a.best ≡ b.best → IsUnwritable setup r a p s → IsUnwritable setup r b p s
unwritable_as setup r a b p s due dirty best x =
    record { established = x.established; batch = x.batch; next = next_as setup r a b p s x.batch due dirty best x.next; unwritable = x.unwritable }

done_as : (setup : Setup) (r : ℕ) (a b : RouterPart) (p : ℕ) (place : model.Place) → a.due_out p ≡ b.due_out p → a.dirty ≡ b.dirty → a.best ≡ b.best
    → IsDone setup r a p place → IsDone setup r b p place
done_as setup r a b p model.Vacant due dirty best done = sym due ∙ done
done_as setup r a b p (model.Live s o) due dirty best (inl none) = inl (sym due ∙ none)
done_as setup r a b p (model.Live s o) due dirty best (inr (inl (n, x))) = inr (inl (n, stuck_as setup r a b p s n due dirty best x))
done_as setup r a b p (model.Live s o) due dirty best (inr (inr x)) = inr (inr (unwritable_as setup r a b p s due dirty best x))
done_as setup r a b p (model.Frozen s o) due dirty best done = done
done_as setup r a b p (model.Shadow k) due dirty best done = sym due ∙ done

-- ---- one piece after another at a place

more_then : (s u v : RunningSession) → PutsMore s u → PutsMore u v → PutsMore s v
more_then s u v x y = record { acked = y.acked ∙ x.acked; emitted = y.emitted ∙ x.emitted; at_turn = y.at_turn ∙ x.at_turn }

goes_then : (x y z : Option Place) → PlaceGoes PutsMore x y → PlaceGoes PutsMore y z → PlaceGoes PutsMore x z
goes_then None y z first second = subst (λ (a : Option Place). PlaceGoes PutsMore a z) first second
goes_then (Some (Live s o)) y z (u, is, first) second =
    let (v, z_is, then) = subst (λ (a : Option Place). PlaceGoes PutsMore a z) is second in (v, z_is, more_then s u v first then)
goes_then (Some (Shadow away)) y z first second = subst (λ (a : Option Place). PlaceGoes PutsMore a z) first second

goes_same : (x : Option Place) → PlaceGoes PutsMore x x
goes_same None = refl
goes_same (Some (Live s o)) = (s, refl, record { acked = refl; emitted = refl; at_turn = refl })
goes_same (Some (Shadow away)) = refl

pub some_first : (n : ℕ) (f : Fields) (p : Post (Item RunningSession)) → RouterInvariant f → PutsSomeAt n f p f p
some_first n f p keeps = record {
  events = [];
  did = λ t. did_same f f p t (record { setup = refl; number = refl }) refl;
  at = tt;
  goes = goes_same (place_at f.places.places n);
  others = λ k not. (refl, refl);
  same = refl;
  keeps = keeps;
}

pub some_then : (n : ℕ) (f g h : Fields) (p r s : Post (Item RunningSession)) → PutsSomeAt n f p g r → PutsSomeAt n g r h s → PutsSomeAt n f p h s
some_then n f g h p r s x y = record {
  events = x.events ++ y.events;
  did = λ t. did_then f g h p r s t t t x.events y.events (x.did t) (y.did t);
  at = at-append 6 x.events y.events x.at y.at;
  goes = goes_then (place_at f.places.places n) (place_at g.places.places n) (place_at h.places.places n) x.goes y.goes;
  others = λ k not. ((y.others k not).0 ∙ (x.others k not).0, (y.others k not).1 ∙ (x.others k not).1);
  same = leaving_twice f g h x.same y.same;
  keeps = y.keeps;
}

-- ---- one place after another

pub puts_first : (f : Fields) (p : Post (Item RunningSession)) → RouterInvariant f → PutsFirst zero f p f p
puts_first f p keeps = record {
  events = [];
  did = λ t. did_same f f p t (record { setup = refl; number = refl }) refl;
  at = tt;
  goes = λ k below. absurd (omega (arith, below));
  done = λ k below. absurd (omega (arith, below));
  left = λ k from. refl;
  same = refl;
  keeps = keeps;
}

module _ (n : ℕ) (f g h : Fields) (p r s : Post (Item RunningSession)) (before : PutsFirst n f p g r) (one : PutsAt n g r h s) where
  lower : (k : ℕ) → k < suc n → k ≢ n → k < n
  lower k below not = elim (cases_lt k n) [ inl under ↦ under | inr from ↦ absurd (not (omega (arith, from, below))) ]

  apart : (k : ℕ) → suc n ≤ k → k ≢ n
  apart k from e = omega (arith, from, e)

  done_here : IsDone f.known.setup f.number.0 (router_part h) n ((router_part h).places n)
  done_here =
      subst (λ (x : Fields). IsDone x.known.setup x.number.0 (router_part h) n ((router_part h).places n)
      → IsDone f.known.setup f.number.0 (router_part h) n ((router_part h).places n)) (sym before.same) (λ d. d) one.done

  done_before : (k : ℕ) → k < n → k ≢ n → IsDone f.known.setup f.number.0 (router_part h) k ((router_part h).places k)
  done_before k below not =
      subst (λ (x : Option Place). IsDone f.known.setup f.number.0 (router_part h) k (place_of x)) (sym (one.some.others k not).0)
      (done_as f.known.setup f.number.0 (router_part g) (router_part h) k ((router_part g).places k) (sym (one.some.others k not).1)
      (sym (ap (λ (x : Fields). x.rib.dirty) one.some.same)) (sym (ap (λ (x : Fields). x.rib.best) one.some.same)) (before.done k below))

  pub puts_next : PutsFirst (suc n) f p h s
  puts_next = record {
    events = before.events ++ one.some.events;
    did = λ t. did_then f g h p r s t t t before.events one.some.events (before.did t) (one.some.did t);
    at = at-append 6 before.events one.some.events before.at one.some.at;
    goes = λ k below. elim (one_or_other n k) [
      | inl e ↦ subst (λ (m : ℕ). PlaceGoes PutsMore (place_at f.places.places m) (place_at h.places.places m)) (sym e)
          (subst (λ (x : Option Place). PlaceGoes PutsMore x (place_at h.places.places n)) (before.left n (omega arith)) one.some.goes)
      | inr not ↦ subst (PlaceGoes PutsMore (place_at f.places.places k)) (sym (one.some.others k not).0) (before.goes k (lower k below not))
    ];
    done = λ k below. elim (one_or_other n k) [
      | inl e ↦ subst (λ (m : ℕ). IsDone f.known.setup f.number.0 (router_part h) m ((router_part h).places m)) (sym e) done_here
      | inr not ↦ done_before k (lower k below not) not
    ];
    left = λ k from. (one.some.others k (apart k from)).0 ∙ before.left k (omega (arith, from));
    same = leaving_twice f g h before.same one.some.same;
    keeps = one.some.keeps;
  }

pub puts_all : (n : ℕ) (f g : Fields) (p q : Post (Item RunningSession)) → PutsFirst n f p g q → length f.places.places ≤ n
    → length g.places.places ≤ n → length g.due_out ≤ n → PutsAll f p g q
puts_all n f g p q first last last_place last_due = record {
  events = first.events;
  did = first.did;
  at = first.at;
  places = λ k. elim (cases_lt k n) [
    | inl below ↦ first.goes k below
    | inr from ↦ subst (λ (x : Option Place). PlaceGoes PutsMore x (place_at g.places.places k))
        (sym (place_at_end f.places.places k (omega (arith, from, last))))
        (place_at_end g.places.places k (omega (arith, from, last_place)))
  ];
  done = λ k. elim (cases_lt k n) [
    | inl below ↦ first.done k below
    | inr from ↦ subst (λ (x : Option Place). IsDone f.known.setup f.number.0 (router_part g) k (place_of x))
        (sym (place_at_end g.places.places k (omega (arith, from, last_place)))) (table_at_end g.due_out k (omega (arith, from, last_due)))
  ];
  same = first.same;
  keeps = first.keeps;
}

-- ---- there was no room

module _ (f g : Fields) (p : Post (Item RunningSession)) (n : ℕ) (s u : RunningSession) (o : Option Errand) (batch : Batch)
    (keeps : RouterInvariant f) (there : n < length f.places.places) (is : place_at f.places.places n ≡ Some (Live s o))
    (x : Option Place) (x_is : x ≡ Some (Live u o)) (items : g.places ≡ with_place f.places n x)
    (same : SameButPlaces f g) (no_room : HadNoRoom s (update_for batch.attrs batch.prefixes) u) where
  stays : x ≡ place_at f.places.places n
  stays = x_is ∙ (ap (λ (v : RunningSession). Some (Live v o)) no_room.same ∙ sym is)

  same_due : g.due_out ≡ f.due_out
  same_due = ap (λ (h : Fields). h.due_out) same

  pub idle : PutsSomeAt n f p g p
  idle = record {
    events = [];
    did = λ t. did_same f g p t (record { setup = ap (λ (h : Fields). h.known.setup) same; number = ap (λ (h : Fields). h.number) same })
        (part_same f g n x there same items (ap place_of stays));
    at = tt;
    goes = subst (PlaceGoes PutsMore (place_at f.places.places n)) (sym (here f g n x there same items ∙ stays)) (goes_same (place_at f.places.places n));
    others = λ k not. (elsewhere f g n x there same items k not, ap (λ (d : List Prefixes). table_at d k) same_due);
    same = same ∙ ap (λ (d : List Prefixes). let h : Fields = record f { places = g.places; due_out = d } in h) (sym same_due);
    keeps = keeps_at f g n x there same items keeps
        (subst (KeepsPlace f.known.setup f.number.0 n ((rib_of f.rib).entries n) (table_at f.due_out n)) (sym stays) (keeps.each n));
  }

  pub stuck_then : NextAt f.known.setup f.number.0 (router_part f) n (Some (Live s o)) batch → IsWritableFor batch
      → IsDone f.known.setup f.number.0 (router_part g) n ((router_part g).places n)
  stuck_then next writable =
      subst (λ (y : Option Place). IsDone f.known.setup f.number.0 (router_part g) n (place_of y)) (sym (here f g n x there same items ∙ (stays ∙ is)))
      (inr (inl (
        length_with s.session batch,
        record {
          established = next.0;
          batch = batch;
          next = next_as f.known.setup f.number.0 (router_part f) (router_part g) n s.session batch
              (sym (ap (λ (d : List Prefixes). table_at d n) same_due))
              (sym (ap (λ (h : Fields). h.rib.dirty) same)) (sym (ap (λ (h : Fields). h.rib.best) same)) next.1;
          writable = writable;
          size = refl;
          above = no_room.full;
        },
      )))

-- ---- nothing is left to put

-- what is due on a live session is due while it is established
pub established : (f : Fields) (n : ℕ) (s : RunningSession) (o : Option Errand) → RouterInvariant f → place_at f.places.places n ≡ Some (Live s o)
    → (x : PrefixValue) → has (table_at f.due_out n) x ≡ true → state s.session ≡ Established
established f n s o keeps is x due = (subst (KeepsPlace f.known.setup f.number.0 n ((rib_of f.rib).entries n) (table_at f.due_out n)) is (keeps.each n)).3 x due

pub done_none : (setup : Setup) (r : ℕ) (part : RouterPart) (n : ℕ) (place : Option Place) → part.due_out n ≡ map.empty → IsDone setup r part n (place_of place)
done_none setup r part n None none = none
done_none setup r part n (Some (Live s o)) none = inl none
done_none setup r part n (Some (Shadow away)) none = none

-- the first UPDATE of a plan is the next one of an established session
pub next_at : (f : Fields) (n : ℕ) (place : Option Place) (batch : Batch) (batches : List Batch) → RouterInvariant f
    → place_at f.places.places n ≡ place → PlannedAt f.known.setup f.number.0 (router_part f) n place (batch ∷ batches)
    → NextAt f.known.setup f.number.0 (router_part f) n place batch
next_at f n None batch batches keeps is plan = absurd cc
next_at f n (Some (Live s o)) batch batches keeps is plan = (established f n s o keeps is plan.0.first plan.0.least.is.0.0, plan.0)
next_at f n (Some (Shadow away)) batch batches keeps is plan = absurd cc

pub unwritable_then : (f : Fields) (n : ℕ) (place : Option Place) (batch : Batch) → NextAt f.known.setup f.number.0 (router_part f) n place batch
    → ¬ IsWritableFor batch → IsDone f.known.setup f.number.0 (router_part f) n (place_of place)
unwritable_then f n None batch next not = absurd next
unwritable_then f n (Some (Live s o)) batch next not = inr (inr (record { established = next.0; batch = batch; next = next.1; unwritable = not }))
unwritable_then f n (Some (Shadow away)) batch next not = absurd next

nothing_in : (x : PrefixValue) → has map.empty x ≡ false
nothing_in x = ap is_some (map.get-empty prefix_cmp x)

module _ (f g : Fields) (p q : Post (Item RunningSession)) (n : ℕ) (keeps : RouterInvariant f)
    (clean : f.rib.dirty ≡ map.empty) (x : PrefixValue) (due : has (table_at f.due_out n) x ≡ true)
    (cleared : table_at g.due_out ≡ at (table_at f.due_out) n map.empty) (sizes : length g.due_out ≡ length f.due_out)
    (same : g ≡ record f { due_out = g.due_out }) (wrote : WritesEvent p (Put n 0) [] q) where
  cleared_here : table_at g.due_out n ≡ map.empty
  cleared_here = ap (λ (d : ℕ → Prefixes). d n) cleared ∙ at_here (table_at f.due_out) n map.empty n refl

  cleared_other : (k : ℕ) → k ≢ n → table_at g.due_out k ≡ table_at f.due_out k
  cleared_other k not = ap (λ (d : ℕ → Prefixes). d k) cleared ∙ at_else (table_at f.due_out) n map.empty k not

  same_places : g.places ≡ f.places
  same_places = ap (λ (h : Fields). h.places) same

  is_clean : (y : PrefixValue) → has f.rib.dirty y ≡ false
  is_clean y = ap (λ (d : Prefixes). has d y) clean ∙ nothing_in y

  drops : Drops (table_at f.due_out n) (λ y. not (has f.rib.dirty y)) (table_at g.due_out n)
  drops = record {
    members = λ y. ap (λ (d : Prefixes). has d y) cleared_here
        ∙ (nothing_in y ∙ sym (ap (λ (b : Bool). has (table_at f.due_out n) y && not (not b)) (is_clean y) ∙ and_false (has (table_at f.due_out n) y)));
  }
    where
      and_false : (b : Bool) → (b && false) ≡ false
      and_false true = refl
      and_false false = refl

  nothing_row : (s : RunningSession) (o : Option Errand) → place_at f.places.places n ≡ Some (Live s o)
      → PlannedAt f.known.setup f.number.0 (router_part f) n (Some (Live s o)) []
      → PutsNothing f.known.setup f.number.0 n (router_part f) None [] (router_part g)
  nothing_row s o is plan = record {
    alone = (refl, refl);
    session = s.session;
    errand = option_map errand_of o;
    live = record { is = ap place_of is };
    established = established f n s o keeps is x due;
    prefix = x;
    waits = (due, is_clean x);
    nothing = plan;
    due = drops;
    effect = ap router_part same
        ∙ ap (λ (d : ℕ → Prefixes). let y : RouterPart = record (router_part f) { due_out = d } in y)
        (cleared ∙ ap (at (table_at f.due_out) n) (sym cleared_here));
  }

  each_then : (k : ℕ) → KeepsPlace f.known.setup f.number.0 k ((rib_of f.rib).entries k) (table_at g.due_out k) (place_at g.places.places k)
  each_then k = subst (λ y. KeepsPlace f.known.setup f.number.0 k ((rib_of f.rib).entries k) (table_at g.due_out k) (place_at y.places k)) (sym same_places)
      (elim (one_or_other n k) [
        | inl e ↦
            subst (λ (m : ℕ). KeepsPlace f.known.setup f.number.0 m ((rib_of f.rib).entries m) (table_at g.due_out m) (place_at f.places.places m)) (sym e)
            (subst (λ (d : Prefixes). KeepsPlace f.known.setup f.number.0 n ((rib_of f.rib).entries n) d (place_at f.places.places n))
            (sym cleared_here) (none_due (place_at f.places.places n) (keeps.each n)))
        | inr not ↦ subst (λ (d : Prefixes). KeepsPlace f.known.setup f.number.0 k ((rib_of f.rib).entries k) d (place_at f.places.places k))
            (sym (cleared_other k not)) (keeps.each k)
      ])
    where
      none_due : (y : Option Place) → KeepsPlace f.known.setup f.number.0 n ((rib_of f.rib).entries n) (table_at f.due_out n) y
          → KeepsPlace f.known.setup f.number.0 n ((rib_of f.rib).entries n) map.empty y
      none_due None k = (k.0, nothing_in)
      none_due (Some (Live s o)) k = (k.0, k.1, k.2, λ z due_it. absurd (false≢true (sym (nothing_in z) ∙ due_it)))
      none_due (Some (Shadow away)) k = (k.0, nothing_in)

  keeps_then : RouterInvariant g
  keeps_then = keeps_on f g keeps
      (subst (λ (h : Fields). h ≡ record f { places = h.places; rib = h.rib; due_in = h.due_in; due_out = h.due_out; turns = h.turns }) (sym same) refl)
      (record {
        places = ap (λ (h : Fields). length h.places.places) same;
        reserved = ap (λ (h : Fields). h.places.room) same;
        due_in = ap (λ (h : Fields). length h.due_in) same;
        due_out = sizes;
        config = ap (λ (h : Fields). h.rib.config) same;
        tellings = λ q out. ap (λ (h : Fields). (rib_of h.rib).tellings q) same;
      })
      (λ k. subst (λ (h : Fields). KeepsPlace f.known.setup f.number.0 k ((rib_of h.rib).entries k) (table_at g.due_out k) (place_at g.places.places k))
      (sym same) (each_then k))

  did_nothing : (place : Option Place) → place_at f.places.places n ≡ place → PlannedAt f.known.setup f.number.0 (router_part f) n place []
      → KeepsPlace f.known.setup f.number.0 n ((rib_of f.rib).entries n) (table_at f.due_out n) place
      → (t : ℕ → Tally) → DidAsRouter f p t (Put n zero ∷ []) g q t
  did_nothing None is plan k t = absurd (false≢true (sym (k.1 x) ∙ due))
  did_nothing (Some (Live s o)) is plan k t = did_one f g p q t (Put n zero)
      (record { setup = ap (λ (h : Fields). h.known.setup) same; number = ap (λ (h : Fields). h.number) same }) wrote (nothing_row s o is plan) tt
  did_nothing (Some (Shadow away)) is plan k t = absurd (false≢true (sym (k.1 x) ∙ due))

  pub puts_nothing : PlannedAt f.known.setup f.number.0 (router_part f) n (place_at f.places.places n) [] → PutsAt n f p g q
  puts_nothing plan = record {
    some = record {
      events = Put n zero ∷ [];
      did = λ t. did_nothing (place_at f.places.places n) refl plan (keeps.each n) t;
      at = (refl, tt);
      goes = subst (λ y. PlaceGoes PutsMore (place_at f.places.places n) (place_at y.places n)) (sym same_places) (goes_same (place_at f.places.places n));
      others = λ k not. (ap (λ y. place_at y.places k) same_places, cleared_other k not);
      same = same ∙ ap (λ y. let h : Fields = record f { places = y; due_out = g.due_out } in h) (sym same_places);
      keeps = keeps_then;
    };
    done = done_none f.known.setup f.number.0 (router_part g) n (place_at g.places.places n) cleared_here;
  }

-- nothing is due there
pub puts_idle : (n : ℕ) (f : Fields) (p : Post (Item RunningSession)) → RouterInvariant f → first_above None (map.keys (table_at f.due_out n)) ≡ None
    → PutsAt n f p f p
puts_idle n f p keeps none = record {
  some = some_first n f p keeps;
  done = done_none f.known.setup f.number.0 (router_part f) n (place_at f.places.places n) (no_least_is (table_at f.due_out n) none);
}

-- ---- what an offer leaves

pub offers_at : (setup : Setup) (r : ℕ) (part : RouterPart) (n : ℕ) (place : Option Place) (batch : Batch) → NextAt setup r part n place batch
    → All IsPrefix batch.prefixes → IsWritableFor batch → OffersAt place (update_for batch.attrs batch.prefixes)
offers_at setup r part n None batch next sound writable = next
offers_at setup r part n (Some (Live s o)) batch next sound writable = can_offer setup r n part s.session batch next.0 next.1 sound writable
offers_at setup r part n (Some (Shadow away)) batch next sound writable = next

module _ (f g : Fields) (p q : Post (Item RunningSession)) (n : ℕ) (x : Option Place) (batch : Batch)
    (keeps : RouterInvariant f) (there : n < length f.places.places) (items : g.places ≡ with_place f.places n x) where
  module _ (due : table_at g.due_out ≡ at (table_at f.due_out) n (fold map.remove (table_at f.due_out n) batch.prefixes))
      (sizes : length g.due_out ≡ length f.due_out) (same : SameButLeaving f g) where
    pub offered_some : (place : Option Place) → place_at f.places.places n ≡ place → NextAt f.known.setup f.number.0 (router_part f) n place batch
        → OfferedAt true (update_for batch.attrs batch.prefixes) place x → WritesEvent p (Put n (length batch.prefixes)) [] q → PutsSomeAt n f p g q
    offered_some None is next offered wrote = absurd next
    offered_some (Some (Live s o)) is next (u, x_is, put) wrote =
        puts_some f g p q n s u o batch keeps there is next.1 put (items ∙ ap (with_place f.places n) x_is) due same sizes wrote
    offered_some (Some (Shadow away)) is next offered wrote = absurd next

    pub offered_rest : (place : Option Place) → place_at f.places.places n ≡ place → NextAt f.known.setup f.number.0 (router_part f) n place batch
        → OfferedAt true (update_for batch.attrs batch.prefixes) place x → LeavesPlan n batch f g
    offered_rest None is next offered = absurd next
    offered_rest (Some (Live s o)) is next (u, x_is, put) = record {
      rest = λ batches plan.
          let is_now : place_at g.places.places n ≡ Some (Live u o) =
          ap (λ (xs : List (Option Place)). place_at xs n) (listed items) ∙ (set_here f.places.places n x there ∙ x_is) in
          subst (λ (y : Option Place). PlannedAt g.known.setup g.number.0 (router_part g) n y batches) (sym is_now)
          (rest_then f g p q n s u o batch keeps there is next.1 put (items ∙ ap (with_place f.places n) x_is) due same batches
          (subst (λ (y : Option Place). PlannedAt f.known.setup f.number.0 (router_part f) n y (batch ∷ batches)) is plan));
    }
    offered_rest (Some (Shadow away)) is next offered = absurd next

  module _ (same : SameButPlaces f g) where
    pub offered_none : (place : Option Place) → place_at f.places.places n ≡ place → NextAt f.known.setup f.number.0 (router_part f) n place batch
        → OfferedAt false (update_for batch.attrs batch.prefixes) place x → PutsSomeAt n f p g p
    offered_none None is next offered = absurd next
    offered_none (Some (Live s o)) is next (u, x_is, full) = idle f g p n s u o batch keeps there is x x_is items same full
    offered_none (Some (Shadow away)) is next offered = absurd next

    pub offered_stuck : (place : Option Place) → place_at f.places.places n ≡ place → NextAt f.known.setup f.number.0 (router_part f) n place batch
        → OfferedAt false (update_for batch.attrs batch.prefixes) place x → IsWritableFor batch
        → IsDone f.known.setup f.number.0 (router_part g) n ((router_part g).places n)
    offered_stuck None is next offered writable = absurd next
    offered_stuck (Some (Live s o)) is next (u, x_is, full) writable = stuck_then f g p n s u o batch keeps there is x x_is items same full next writable
    offered_stuck (Some (Shadow away)) is next offered writable = absurd next

-- ---- small facts of calls

pub none_of : {A : Type 0} (o : Option A) (none : Bool) → is_some o ≡ not none → none ≡ true → o ≡ None
none_of None none e f = refl
none_of (Some x) none e f = absurd (false≢true (sym (e ∙ ap not f)))

pub some_due : (due : Prefixes) (o : Option PrefixValue) (none : Bool) → o ≡ first_above None (map.keys due) → is_some o ≡ not none → none ≡ false
    → (x : PrefixValue) × (has due x ≡ true)
some_due due None none e f g = absurd (false≢true (f ∙ ap not g))
some_due due (Some x) none e f g =
    let found = next_entry None x (map.entries due) (map.entries_sorted due) (sym e) in (x, ap is_some (map.get-entries due x ∙ found.found))

pub reversed_pop : (old new : List Batch) (batch : Batch) → old ≡ new ++ batch ∷ [] → reverse old ≡ batch ∷ reverse new
reversed_pop old new batch e = ap reverse e ∙ reverse-append new (batch ∷ [])

pub settled_more : (F G H : ℕ → Prefixes) (n : ℕ) (S Y : Prefixes) (p : PrefixValue) → G ≡ at F n S → H ≡ at G n (map.remove (G n) p)
    → map.remove S p ≡ Y → H ≡ at F n Y
settled_more F G H n S Y p g h y = h ∙ (λ i. at (g i) n (map.remove ((g i) n) p)) ∙ twice
  where
    here_is : map.remove ((at F n S) n) p ≡ Y
    here_is = ap (λ (d : Prefixes). map.remove d p) (at_here F n S n refl) ∙ y

    each : (k : ℕ) → at (at F n S) n (map.remove ((at F n S) n) p) k ≡ at F n Y k
    each k = elim (one_or_other n k) [
      | inl e ↦ at_here (at F n S) n (map.remove ((at F n S) n) p) k e ∙ (here_is ∙ sym (at_here F n Y k e))
      | inr not ↦ at_else (at F n S) n (map.remove ((at F n S) n) p) k not ∙ (at_else F n S k not ∙ sym (at_else F n Y k not))
    ]

    twice : at (at F n S) n (map.remove ((at F n S) n) p) ≡ at F n Y
    twice = λ i k. each k i

counted : (wide : Bool) (attrs : Option Attrs) (front xs : List PrefixValue) → octets wide attrs front + length xs ≤ octets wide attrs (front ++ xs)
counted wide attrs front [] = subst (λ (l : List PrefixValue). octets wide attrs front + 0 ≤ octets wide attrs l) (sym (append-nil front)) (omega arith)
counted wide attrs front (x ∷ xs) =
    let one = one_more wide attrs front x in
    let rest = subst (λ (l : List PrefixValue). octets wide attrs (front ++ x ∷ []) + length xs ≤ octets wide attrs l)
    (append_assoc front (x ∷ []) xs) (counted wide attrs (front ++ x ∷ []) xs) in
    step (octets wide attrs front) (octets wide attrs (front ++ x ∷ [])) (length xs)
    (octets wide attrs (front ++ x ∷ xs)) (subst (λ m. octets wide attrs front + 1 ≤ m) (sym one) (omega arith)) rest
  where
    step : (a b n c : ℕ) → a + 1 ≤ b → b + n ≤ c → a + suc n ≤ c
    step a b n c l m = omega arith

pub few_prefixes : (wide : Bool) (attrs : Option Attrs) (xs : List PrefixValue) → octets wide attrs xs ≤ 4096 → length xs ≤ 4096
few_prefixes wide attrs xs fits = let c = counted wide attrs [] xs in omega arith

pub next_fits : (setup : Setup) (r : ℕ) (part : RouterPart) (n : ℕ) (place : Option Place) (batch : Batch) → NextAt setup r part n place batch
    → length batch.prefixes ≤ 4096
next_fits setup r part n None batch next = absurd next
next_fits setup r part n (Some (Live s o)) batch next =
    few_prefixes (is_wide (peering_of s.session.config) s.session.story) batch.attrs batch.prefixes next.1.fits
next_fits setup r part n (Some (Shadow away)) batch next = absurd next

-- ---- what was put there, and then all

pub puts_done : (n : ℕ) (f g : Fields) (p r : Post (Item RunningSession)) → PutsSomeAt n f p g r
    → IsDone g.known.setup g.number.0 (router_part g) n (place_of (place_at g.places.places n)) → PutsAt n f p g r
puts_done n f g p r some done = record {
  some = some;
  done = subst (λ (s : Setup). IsDone s f.number.0 (router_part g) n (place_of (place_at g.places.places n))) (ap (λ (h : Fields). h.known.setup) some.same)
      (subst (λ (k : ℕ). IsDone g.known.setup k (router_part g) n (place_of (place_at g.places.places n))) (ap (λ (h : Fields). h.number.0) some.same) done);
}

pub puts_then : (n : ℕ) (f g h : Fields) (p r s : Post (Item RunningSession)) → PutsSomeAt n f p g r → PutsAt n g r h s → PutsAt n f p h s
puts_then n f g h p r s x y = record {
  some = some_then n f g h p r s x y.some;
  done = subst (λ (t : Setup). IsDone t f.number.0 (router_part h) n ((router_part h).places n)) (ap (λ (k : Fields). k.known.setup) x.same)
      (subst (λ (m : ℕ). IsDone g.known.setup m (router_part h) n ((router_part h).places n)) (ap (λ (k : Fields). k.number.0) x.same) y.done);
}
