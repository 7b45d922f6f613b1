-- A graft that is past the way back is over, and one that is on its way, or on its way back, has an item in the channel that it goes by.
use Rattle.std.proofs.Common.{◌≡◌, ◌≤◌, ◌<◌, ℕ, Bool, true, false, List, [], ◌∷◌, length, if◌then◌else◌, refl, sym, ap, ◌∙◌, subst, inl, inr, arith}
use Rattle.std.specs.List.{list_any}
use Rattle.session_value.specs.Sessions.{SessionValue}
use Rattle.graft_model.specs.Setups.{Setup, IsSetup, peerings_in}
use Rattle.graft_model.specs.Parts.{Place, Vacant, Live, Frozen, Shadow, Mesh, Moved, Back, World}
use Rattle.graft_laws.specs.Phases.{Stage, Halted, Moving, Returning, Phase, Busy}
use Rattle.graft_laws.specs.Owned.{is_on, mesh_items_on, Stands, Owned}
use Rattle.graft_laws.specs.Keeps.{Reached}
use Rattle.graft_laws.proofs.Deeds.{below_or, known_place}
use Rattle.graft_laws.proofs.Grafts.{equal}
use Rattle.graft_laws.proofs.Heads.{only2_here}
use Rattle.graft_laws.proofs.Phases.{halted_at, moved_in, back_in}
use Rattle.graft_laws.proofs.Runs.{always_owned}
use Rattle.bounded_moves.specs.Moves.{carries, IsFrozenFor, HasArrived}
use Rattle.bounded_moves.proofs.Counts.{tells}
use Rattle.bounded_moves.proofs.Ranks.{rank, IsOn, raised}
use Rattle.bounded_moves.proofs.Queues.{one_of}

-- ---- its item

not_empty : (p : ℕ) (items : List Mesh) (x : Mesh) → mesh_items_on p items ≡ [] → mesh_items_on p items ≡ x ∷ [] → ⊥
not_empty p items x none some = let e : [] ≡ x ∷ [] = sym none ∙ some in cc

module _ (setup : Setup) (sound : IsSetup setup) (k p q t : ℕ) (w : World) where
  moving : (stage : Stage) (s : SessionValue) → mesh_items_on p (w.mesh q t) ≡ [] → Stands setup w p (Busy q k t stage) s → rank stage ≡ 3 → ⊥
  moving Moving s none stands is = not_empty p (w.mesh q t) (Moved k p s) none (stands.mesh q t ∙ only2_here q t (Moved k p s))
  moving _ s none stands is = cc

  returning : (stage : Stage) (s : SessionValue) → mesh_items_on p (w.mesh t q) ≡ [] → Stands setup w p (Busy q k t stage) s → rank stage ≡ 4 → ⊥
  returning (Returning refusal) s none stands is = not_empty p (w.mesh t q) (Back k p s refusal) none
      (stands.mesh t q ∙ only2_here t q (Back k p s refusal))
  returning _ s none stands is = cc

  pub has_arrived : IsOn setup k p q t 3 w → mesh_items_on p (w.mesh q t) ≡ [] → IsOn setup k p q t 4 w
  has_arrived on none = raised setup sound k p q t 3 w (λ stage s stands is. moving stage s none stands is) on

  pub has_returned : IsOn setup k p q t 4 w → mesh_items_on p (w.mesh t q) ≡ [] → IsOn setup k p q t 5 w
  has_returned on none = raised setup sound k p q t 4 w (λ stage s stands is. returning stage s none stands is) on

-- ---- nothing of it

not_below : (n : ℕ) → 5 ≤ n → n < 5 → ⊥
not_below n l m = omega (arith, l, m)

-- One of the items carries the session in this graft; where they have one item at most of its peering, it is that one.
record Sole (k : ℕ) (items : List Mesh) : Type 0 where
  item : Mesh
  carried : carries k item ≡ true
  found : (p : ℕ) → is_on p item ≡ true → length (mesh_items_on p items) ≤ 1 → mesh_items_on p items ≡ item ∷ []

only_one : (x y : Mesh) (own : List Mesh) → length (x ∷ own) ≤ 1 → own ≡ y ∷ [] → ⊥
only_one x y own few e = let l = subst (λ (items : List Mesh). length (x ∷ items) ≤ 1) e few in omega (arith, l)

below_one : (t : Bool) (x : Mesh) (own : List Mesh) → length (if t then x ∷ own else own) ≤ 1 → length own ≤ 1
below_one true x own few = omega (arith, few)
below_one false x own few = few

skip : (t : Bool) (x y : Mesh) (own : List Mesh) → length (if t then x ∷ own else own) ≤ 1 → own ≡ y ∷ [] → (if t then x ∷ own else own) ≡ y ∷ []
skip true x y own few e = absurd (only_one x y own few e)
skip false x y own few e = e

alone : (x : Mesh) (own : List Mesh) → length (x ∷ own) ≤ 1 → x ∷ own ≡ x ∷ []
alone x [] few = refl
alone x (y ∷ own) few = absurd (omega (arith, few))

sole : (k : ℕ) (items : List Mesh) → list_any (carries k) items ≡ true → Sole k items
sole k [] e = absurd cc
sole k (x ∷ items) e = by_test (carries k x) refl e (λ f. sole k items f)
  where
    here : (p : ℕ) (t : Bool) → t ≡ true → length (if t then x ∷ mesh_items_on p items else mesh_items_on p items) ≤ 1
        → (if t then x ∷ mesh_items_on p items else mesh_items_on p items) ≡ x ∷ []
    here p true own few = alone x (mesh_items_on p items) few
    here p false own few = absurd cc

    by_test : (t : Bool) → carries k x ≡ t → list_any (carries k) (x ∷ items) ≡ true → (list_any (carries k) items ≡ true → Sole k items)
        → Sole k (x ∷ items)
    by_test true is f rest = record { item = x; carried = is; found = λ p own few. here p (is_on p x) own few }
    by_test false is f rest =
        let r = rest (let g : list_any (carries k) items ≡ true = grind (arith, is, f) in g) in
        record {
          item = r.item;
          carried = r.carried;
          found = λ p own few. skip (is_on p x) x r.item (mesh_items_on p items) few
              (r.found p own (below_one (is_on p x) x (mesh_items_on p items) few));
        }

module _ (setup : Setup) (sound : IsSetup setup) (k p q t : ℕ) (w : World) (reached : Reached setup w) (on : IsOn setup k p q t 5 w) where
  owned : Owned setup w
  owned = always_owned setup sound w reached

  no_stage : (x a b : ℕ) (stage : Stage) (s : SessionValue) (phase : Phase) → x < peerings_in setup → rank stage < 5 → phase ≡ Busy a k b stage
      → Stands setup w x phase s → ⊥
  no_stage x a b stage s phase below low is stands = not_below (rank stage)
      (on.only x a b stage s below (subst (λ (y : Phase). Stands setup w x y s) is stands)).3 low

  -- an item of a peering is of one that is there
  below_of : (x a b : ℕ) (item : Mesh) → mesh_items_on x (w.mesh a b) ≡ item ∷ [] → x < peerings_in setup
  below_of x a b item e = elim (below_or x (peerings_in setup)) [
    | inl l ↦ l
    | inr past ↦ absurd (not_empty x (w.mesh a b) item ((owned.no_others x past).mesh a b) e)
  ]

  few : (x a b : ℕ) → length (mesh_items_on x (w.mesh a b)) ≤ 1
  few x a b = elim (below_or x (peerings_in setup)) [
    | inl l ↦ one_of setup w x a b owned l
    | inr past ↦ subst (λ (items : List Mesh). length items ≤ 1) (sym ((owned.no_others x past).mesh a b)) (omega arith)
  ]

  no_item : (a b : ℕ) (item : Mesh) → carries k item ≡ true → ((x : ℕ) → is_on x item ≡ true → mesh_items_on x (w.mesh a b) ≡ item ∷ []) → ⊥
  no_item a b (Moved j x s) carried found =
      let is : mesh_items_on x (w.mesh a b) ≡ Moved j x s ∷ [] = found x (equal x) in
      let below = below_of x a b (Moved j x s) is in
      let held = owned.peerings x below in
      let e = moved_in held.phase x held.session s a b j [] (sym is ∙ held.stands.mesh a b) in
      no_stage x a b Moving held.session held.phase below (omega arith) (e.0 ∙ ap (λ (n : ℕ). Busy a n b Moving) (tells j k carried)) held.stands
  no_item a b (Back j x s refusal) carried found =
      let is : mesh_items_on x (w.mesh a b) ≡ Back j x s refusal ∷ [] = found x (equal x) in
      let below = below_of x a b (Back j x s refusal) is in
      let held = owned.peerings x below in
      let e = back_in held.phase x held.session s refusal a b j [] (sym is ∙ held.stands.mesh a b) in
      no_stage x b a (Returning refusal) held.session held.phase below (omega arith)
      (e.0 ∙ ap (λ (n : ℕ). Busy b n a (Returning refusal)) (tells j k carried)) held.stands
  no_item a b _ carried found = cc

  none_carried : (a b : ℕ) → list_any (carries k) (w.mesh a b) ≡ false
  none_carried a b = by_test (list_any (carries k) (w.mesh a b)) refl
    where
      by_test : (t : Bool) → list_any (carries k) (w.mesh a b) ≡ t → list_any (carries k) (w.mesh a b) ≡ false
      by_test false e = e
      by_test true e = let x = sole k (w.mesh a b) e in absurd (no_item a b x.item x.carried (λ n own. x.found n own (few n a b)))

  none_frozen : (r x : ℕ) (place : Place) → (w.router r).places x ≡ place → IsFrozenFor k place → ⊥
  none_frozen r x (Frozen s order) is frozen =
      let below = known_place setup w owned r x (Frozen s order) is (λ none. cc) in
      let held = owned.peerings x below in
      let e = halted_at held.phase held.session s r order.graft order.target (sym is ∙ held.stands.places r) in
      no_stage x r order.target Halted held.session held.phase below (omega arith) (e.0 ∙ ap (λ (n : ℕ). Busy r n order.target Halted) frozen) held.stands
  none_frozen r x Vacant is frozen = frozen
  none_frozen r x (Live s errand) is frozen = frozen
  none_frozen r x (Shadow graft) is frozen = frozen

  pub is_over : HasArrived k w
  is_over = record { mesh = none_carried; places = λ r x frozen. none_frozen r x ((w.router r).places x) refl frozen }
