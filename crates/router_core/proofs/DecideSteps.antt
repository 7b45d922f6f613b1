-- Prefixes are decided, one after another.
use Rattle.std.proofs.Common.{◌≡◌, ℕ, ◌+◌, ◌<◌, [], ◌∷◌, ◌++◌, length, Option, Some, None, Bool, true, false}
use Rattle.std.proofs.Common.{is_some, ◌&&◌, ◌||◌, ◌==◌, not, ◌⊎◌, inl, inr, refl, sym, ap, subst, ◌∙◌, arith}
use Rattle.std.specs.FinMap as map
use Rattle.std.proofs.lemmas.Bool.{lt-ltb, le-ltb}
use Rattle.bgp_types.specs.Prefixes.{PrefixValue, same_prefix}
use Rattle.bgp_types.specs.declared.message.SessionState.{SessionState}
use Rattle.bgp_types.specs.declared.message.SessionState.TheVariants.{OpenSent, OpenConfirm, Established, Closed}
use Rattle.loc_rib.specs.Values.{with_best, DifferIf}
use Rattle.ring_net.specs.declared.post.Post.{Post}
use Rattle.graft_steps.specs.declared.item.Item.{Item}
use Rattle.bgp_session.specs.Running.{RunningSession}
use Rattle.session_value.specs.Sessions.{state}
use Rattle.session_value.specs.Sets.{Entries, Prefixes, has}
use Rattle.rib_stages.specs.Choosing as rib_choosing
use Rattle.rib_stages.specs.Choosing.{NoneBehind}
use Rattle.rib_stages.specs.Values.{RibStore, rib_of, table_at}
use Rattle.rib_stages.proofs.Drops.{fewer_left}
use Rattle.graft_model.specs.Decisions as model_choosing
use Rattle.graft_model.specs.Points.{at}
use Rattle.graft_model.specs.Parts.{RouterPart}
use Rattle.graft_model.specs.Sets.{Adds}
use Rattle.graft_model.specs.Setups.{Setup, peerings_in, routers_in}
use Rattle.graft_model.specs.declared.event.RouterEvent.TheVariants.{Decide}
use Rattle.graft_model.specs.TableRows.{Decides, DueEverywhere, holds_established, is_established, only_prefix}
use Rattle.graft_actors.specs.Emissions.{Tally}
use Rattle.router_core.specs.Deciding.{DecidesOne, DecidesSome, DueToAll, is_other_router, is_up_at}
use Rattle.router_core.specs.Parts.{router_part, RouterInvariant, KeepsPlace}
use Rattle.router_core.specs.Places.{place_of, place_at}
use Rattle.router_core.specs.Rounds.{DidAsRouter, SameRouter, WritesEvent}
use Rattle.router_core.specs.Stages.{DecidesAll}
use Rattle.router_core.specs.declared.fields.Fields.{Fields}
use Rattle.router_core.specs.declared.place.Place.{Place}
use Rattle.router_core.specs.declared.place.Place.TheVariants.{Live, Shadow}
use Rattle.router_tables.proofs.AddSteps.{adds_all}
use Rattle.router_tables.proofs.Choices.{chosen_here}
use Rattle.router_core.proofs.Dids.{did_same, did_then, did_one}
use Rattle.router_core.proofs.RoundLists.{at-append}
use Rattle.router_core.proofs.Kept.{keeps_on}
use Rattle.router_core.proofs.VisitSteps.{place_at_end}

-- ---- what a place keeps

added_or : (h b : Bool) → (h || b) ≡ true → (h ≡ true) ⊎ (b ≡ true)
added_or true b e = inl refl
added_or false b e = inr e

both_true : (b c : Bool) → (b && c) ≡ true → c ≡ true
both_true true c e = e
both_true false c e = absurd (let x : ⊥ = cc in x)

none_added : (h b : Bool) → h ≡ false → (h || (b && false)) ≡ false
none_added h true e = ap (λ (x : Bool). x || false) e
none_added h false e = ap (λ (x : Bool). x || false) e

up_is : (s : SessionState) → is_established s ≡ true → s ≡ Established
up_is OpenSent e = absurd (let x : ⊥ = cc in x)
up_is OpenConfirm e = absurd (let x : ⊥ = cc in x)
up_is Established e = refl
up_is Closed e = absurd (let x : ⊥ = cc in x)

add_keeps : (setup : Setup) (r p : ℕ) (entries : Entries) (due more : Prefixes) (prefix : PrefixValue) (x : Option Place)
    → KeepsPlace setup r p entries due x → Adds due (only_prefix prefix (holds_established (place_of x))) more → KeepsPlace setup r p entries more x
add_keeps setup r p entries due more prefix None keeps adds = (keeps.0, λ y. adds.members y ∙ none_added (has due y) (same_prefix prefix y) (keeps.1 y))
add_keeps setup r p entries due more prefix (Some (Live s o)) keeps adds = (
  keeps.0,
  keeps.1,
  keeps.2,
  λ y has_more. elim (added_or (has due y) (same_prefix prefix y && is_established (state s.session)) (sym (adds.members y) ∙ has_more)) [
    | inl there ↦ keeps.3 y there
    | inr new ↦ up_is (state s.session) (both_true (same_prefix prefix y) (is_established (state s.session)) new)
  ],
)
add_keeps setup r p entries due more prefix (Some (Shadow away)) keeps adds =
    (keeps.0, λ y. adds.members y ∙ none_added (has due y) (same_prefix prefix y) (keeps.1 y))

-- ---- the choice

none_of : {A : Type 0} (o : Option A) → is_some o ≡ false → o ≡ None
none_of None e = refl
none_of (Some x) e = absurd (let y : ⊥ = cc in y)

-- The choice is the laboratory's: nothing stands behind its peerings and routers.
pub chosen_is : (f : Fields) (prefix : PrefixValue) → RouterInvariant f
    → rib_choosing.rib_choice (rib_of f.rib) prefix ≡ model_choosing.chosen f.known.setup f.number.0 (router_part f) prefix
chosen_is f prefix keeps = chosen_here f.known.setup f.number.0 f.rib (router_part f) prefix keeps.rib keeps.few_peerings
    (omega (arith, keeps.routers, keeps.few_routers)) behind refl refl
  where
    behind : NoneBehind (peerings_in f.known.setup) (routers_in f.known.setup) (rib_of f.rib) prefix
    behind = record {
      entries = λ p from. none_of _ ((subst (KeepsPlace f.known.setup f.number.0 p ((rib_of f.rib).entries p) (table_at f.due_out p))
          (place_at_end f.places.places p (omega (arith, keeps.places, from))) (keeps.each p)).0 prefix);
      tellings = λ q from. none_of _ (keeps.tellings q from prefix);
    }

-- ---- one prefix

module _ (f h g : Fields) (p q : Post (Item RunningSession)) (prefix : PrefixValue) (keeps : RouterInvariant f)
    (dirty : has f.rib.dirty prefix ≡ true) (decided : h ≡ record f { rib = h.rib })
    (rib : h.rib ≡ record f.rib { best = with_best f.rib.best prefix (rib_choosing.rib_choice (rib_of f.rib) prefix); dirty = map.remove f.rib.dirty prefix })
    (wrote : WritesEvent p (Decide prefix) [] q) where
  -- the routes that it has then
  pub keeps_decided : RouterInvariant h
  keeps_decided = keeps_on f h keeps
      (subst (λ (x : Fields). x ≡ record f { places = x.places; rib = x.rib; due_in = x.due_in; due_out = x.due_out; turns = x.turns }) (sym decided) refl)
      (record {
        places = ap (λ (x : Fields). length x.places.places) decided;
        reserved = ap (λ (x : Fields). x.places.room) decided;
        due_in = ap (λ (x : Fields). length x.due_in) decided;
        due_out = ap (λ (x : Fields). length x.due_out) decided;
        config = ap (λ (x : RibStore). x.config) rib;
        tellings = λ q out. ap (λ (x : RibStore). (rib_of x).tellings q) rib;
      })
      (λ k. subst (λ (x : Fields). KeepsPlace f.known.setup f.number.0 k ((rib_of h.rib).entries k) (table_at x.due_out k) (place_at x.places.places k))
      (sym decided)
      (subst (λ (x : RibStore). KeepsPlace f.known.setup f.number.0 k ((rib_of x).entries k) (table_at f.due_out k) (place_at f.places.places k))
      (sym rib) (keeps.each k)))

  abbrev part_then : RouterPart
  part_then = record (router_part f) {
    best = with_best f.rib.best prefix (model_choosing.chosen f.known.setup f.number.0 (router_part f) prefix);
    dirty = map.remove f.rib.dirty prefix;
  }

  part_decided : router_part h ≡ part_then
  part_decided = ap router_part decided
      ∙ ap (λ (x : RibStore). let y : RouterPart =
      record (router_part f) { entries = (rib_of x).entries; tellings = (rib_of x).tellings; best = x.best; dirty = x.dirty } in y) rib
      ∙ ap (λ b. let y : RouterPart = record (router_part f) { best = with_best f.rib.best prefix b; dirty = map.remove f.rib.dirty prefix } in y)
      (chosen_is f prefix keeps)

  did_decide : (part : RouterPart) → router_part g ≡ part → SameRouter f g → Decides f.known.setup f.number.0 prefix (router_part f) None [] part
      → (t : ℕ → Tally) → DidAsRouter f p t (Decide prefix ∷ []) g q t
  did_decide part is same row t =
      did_one f g p q t (Decide prefix) same wrote (subst (Decides f.known.setup f.number.0 prefix (router_part f) None []) (sym is) row) tt

  -- the best route stays
  pub decides_same : DifferIf (rib_choosing.rib_choice (rib_of f.rib) prefix) (map.get f.rib.best prefix) false → g ≡ h → DecidesOne prefix f p g q
  decides_same stays is = subst (λ (x : Fields). DecidesOne prefix f p x q) (sym is) whole
    where
      row : Decides f.known.setup f.number.0 prefix (router_part f) None [] part_then
      row = record { alone = (refl, refl); dirty = dirty; due = inl (sym (chosen_is f prefix keeps) ∙ stays, refl, refl); effect = refl }

      whole : DecidesOne prefix f p h q
      whole = record {
        did = λ t. did_one f h p q t (Decide prefix)
            (record { setup = ap (λ (x : Fields). x.known.setup) decided; number = ap (λ (x : Fields). x.number) decided }) wrote
            (subst (Decides f.known.setup f.number.0 prefix (router_part f) None []) (sym part_decided) row) tt;
        dirty = ap (λ (x : RibStore). x.dirty) rib;
        same = subst (λ (x : Fields). x ≡ record f { rib = x.rib; due_in = x.due_in; due_out = x.due_out }) (sym decided) refl;
        keeps = keeps_decided;
      }

  -- another one is best
  pub decides_other : DifferIf (rib_choosing.rib_choice (rib_of f.rib) prefix) (map.get f.rib.best prefix) true → DueToAll prefix h g
      → DecidesOne prefix f p g q
  decides_other apart due = record {
    did = did_decide part_new part_is (record { setup = ap (λ (x : Fields). x.known.setup) g_same; number = ap (λ (x : Fields). x.number) g_same }) row;
    dirty = ap (λ (x : Fields). x.rib.dirty) due.same ∙ ap (λ (x : RibStore). x.dirty) rib;
    same = g_same;
    keeps = keeps_on h g keeps_decided (subst
        (λ (x : Fields). x ≡ record h { places = x.places; rib = x.rib; due_in = x.due_in; due_out = x.due_out; turns = x.turns }) (sym due.same) refl)
        (record {
          places = ap (λ (x : Fields). length x.places.places) due.same;
          reserved = ap (λ (x : Fields). x.places.room) due.same;
          due_in = due.due_in.size;
          due_out = due.due_out.size;
          config = ap (λ (x : Fields). x.rib.config) due.same;
          tellings = λ q out. ap (λ (x : Fields). (rib_of x.rib).tellings q) due.same;
        })
        (λ k. subst (λ (x : Fields). KeepsPlace h.known.setup h.number.0 k ((rib_of x.rib).entries k) (table_at g.due_out k) (place_at x.places.places k))
        (sym due.same)
        (add_keeps h.known.setup h.number.0 k ((rib_of h.rib).entries k) (table_at h.due_out k)
        (table_at g.due_out k) prefix (place_at h.places.places k) (keeps_decided.each k) (out k)));
  }
    where
      g_same : g ≡ record f { rib = g.rib; due_in = g.due_in; due_out = g.due_out }
      g_same = due.same
          ∙ ap (λ (x : Fields). let y : Fields = record x { due_in = g.due_in; due_out = g.due_out } in y) decided ∙ ap
          (λ (x : RibStore). let y : Fields = record f { rib = x; due_in = g.due_in; due_out = g.due_out } in y) (sym (ap (λ (x : Fields). x.rib) due.same))

      part_new : RouterPart
      part_new = record part_then { due_in = table_at g.due_in; due_out = table_at g.due_out }

      part_is : router_part g ≡ part_new
      part_is = ap router_part due.same
          ∙ ap (λ (x : RouterPart). let y : RouterPart = record x { due_in = table_at g.due_in; due_out = table_at g.due_out } in y) part_decided

      out : (k : ℕ) → Adds (table_at h.due_out k) (only_prefix prefix (holds_established (place_of (place_at h.places.places k)))) (table_at g.due_out k)
      out = adds_all (is_up_at h) prefix h.due_out g.due_out due.due_out (λ k from. ap (λ (x : Option Place). holds_established (place_of x))
          (place_at_end h.places.places k (omega (arith, from, keeps_decided.places, keeps_decided.due_out))))

      into : (k : ℕ) → Adds (table_at h.due_in k) (only_prefix prefix (is_other_router h k)) (table_at g.due_in k)
      into = adds_all (is_other_router h) prefix h.due_in g.due_in due.due_in
          (λ k from. ap (λ (b : Bool). b && not (k == h.number.0)) (le-ltb k (routers_in h.known.setup) (omega (arith, from, keeps_decided.due_in))))

      everywhere : DueEverywhere f.known.setup f.number.0 prefix (router_part f) part_new
      everywhere = record {
        routers = subst (λ (x : Fields). (k : ℕ) → Adds (table_at x.due_in k) (only_prefix prefix (is_other_router x k)) (table_at g.due_in k)) decided into;
        peerings = subst (λ (x : Fields). (k : ℕ) → Adds (table_at x.due_out k)
            (only_prefix prefix (holds_established (place_of (place_at x.places.places k)))) (table_at g.due_out k)) decided out;
      }

      row : Decides f.known.setup f.number.0 prefix (router_part f) None [] part_new
      row = record { alone = (refl, refl); dirty = dirty; due = inr (λ e. apart (chosen_is f prefix keeps ∙ e), everywhere); effect = refl }

-- ---- one after another

pub decides_first : (f : Fields) (p : Post (Item RunningSession)) → RouterInvariant f → DecidesSome f p f p
decides_first f p keeps = record { events = []; did = λ t. did_same f f p t (record { setup = refl; number = refl }) refl; at = tt; same = refl; keeps = keeps }

module _ (f g h : Fields) (p r s : Post (Item RunningSession)) (prefix : PrefixValue) (before : DecidesSome f p g r) (one : DecidesOne prefix g r h s) where
  pub decides_next : DecidesSome f p h s
  decides_next = record {
    events = before.events ++ Decide prefix ∷ [];
    did = λ t. did_then f g h p r s t t t before.events (Decide prefix ∷ []) (before.did t) (one.did t);
    at = at-append 3 before.events (Decide prefix ∷ []) before.at (refl, tt);
    same = one.same ∙ ap (λ (x : Fields). let y : Fields = record x { rib = h.rib; due_in = h.due_in; due_out = h.due_out } in y) before.same;
    keeps = one.keeps;
  }

  -- one prefix less is dirty
  pub fewer_dirty : has g.rib.dirty prefix ≡ true → map.len h.rib.dirty < map.len g.rib.dirty
  fewer_dirty there = subst (λ (d : Prefixes). map.len d < map.len g.rib.dirty) (sym one.dirty) (fewer_left g.rib.dirty prefix there)

pub decides_all : (f g : Fields) (p r : Post (Item RunningSession)) → DecidesSome f p g r → g.rib.dirty ≡ map.empty → DecidesAll f p g r
decides_all f g p r some clean = record { events = some.events; did = some.did; at = some.at; clean = clean; same = some.same; keeps = some.keeps }

-- ---- where it is due

pub other_is : (f : Fields) (q : ℕ) (b : Bool) → q < routers_in f.known.setup → b ≡ not (q == f.number.0) → b ≡ is_other_router f q
other_is f q b below is = is ∙ sym (ap (λ (c : Bool). c && not (q == f.number.0)) (lt-ltb q (routers_in f.known.setup) below))
