-- When a router has nothing left to do, and how many of its places are taken.
use Rattle.std.proofs.Common.{◌≡◌, ℕ, suc, ◌+◌, ◌<◌, List, [], ◌∷◌, length, get_or, Bool, true, false, not, Option, Some, None}
use Rattle.std.proofs.Common.{inl, inr, refl, sym, ap, ◌∙◌, subst, arith}
use Rattle.std.specs.Prelude.{All, count_by, filter, fold, if◌then◌else◌}
use Rattle.std.specs.List.{range_with_len}
use Rattle.std.proofs.lemmas.Bool.{cases_lt, false≢true}
use Rattle.std.proofs.lemmas.List.{get_or_past}
use Rattle.session_value.specs.Sets.{has}
use Rattle.rib_stages.specs.Values.{table_at}
use Rattle.graft_steps.specs.declared.rest.Pending.{Pending}
use Rattle.graft_steps.specs.declared.rest.Pending.TheVariants.{Bag, Channel, Dirty, DueIn, DueOut, Graft, Script, Stream}
use Rattle.graft_model.specs.GraftRows.{is_taken, taken_in}
use Rattle.settled_check.specs.Left.{LeftAtRouter, graft_in_place}
use Rattle.audit_tables.specs.Parts.{NothingIsLeft}
use Rattle.audit_router.specs.Parts.{RouterInvariant, places_of, router_part, setup_of_router}
use Rattle.audit_router.specs.Places.{RestsAt, place_of}
use Rattle.audit_router.specs.declared.place.Place.{Place}
use Rattle.audit_router.specs.declared.place.Place.TheVariants.{Vacant}
use Rattle.audit_router.specs.declared.router.AuditedRouter.{AuditedRouter}
use Rattle.std.proofs.lemmas.Option.{none-some, same_Some, slice_get-get_or}

-- ---- the places

pub rests_everywhere : (r : AuditedRouter) → All (λ place. RestsAt (place_of place)) r.places.items → (p : ℕ) → RestsAt (places_of r p)
rests_everywhere r all p = elim (cases_lt p (length r.places.items)) [
  | inl below ↦ all p Vacant below
  | inr from ↦ subst (λ (place : Place). RestsAt (place_of place)) (sym (get_or_past r.places.items p Vacant from)) (refl, λ left. left)
]

pub rests_each : (r : AuditedRouter) → ((p : ℕ) → RestsAt (places_of r p)) → All (λ place. RestsAt (place_of place)) r.places.items
rests_each r rests p default below = subst (λ (place : Place). RestsAt (place_of place))
    (same_Some _ _ (sym (slice_get-get_or r.places.items p Vacant below) ∙ slice_get-get_or r.places.items p default below)) (rests p)

-- ---- the router

false_true : ◌≡◌ {A = Bool} false true → ⊥
false_true e = false≢true e

some_or_none : (b : Bool) → (b ≡ true → ⊥) → b ≡ false
some_or_none true not = absurd (not refl)
some_or_none false not = refl

module _ (r : AuditedRouter) where
  pub nothing_left : ((p : ℕ) → RestsAt (places_of r p)) → NothingIsLeft r.tables → (x : Pending) → ¬ LeftAtRouter r.tables.number.0 (router_part r) x
  nothing_left places tables Script left = left
  nothing_left places tables (Graft k) left = none-some k (sym (places left.0).0 ∙ left.1)
  nothing_left places tables (Channel a b) left = left
  nothing_left places tables (Bag p) left = left
  nothing_left places tables (Stream p) left = (places p.0).1 left
  nothing_left places tables (Dirty s) left = false_true (sym (tables.clean left.1.0) ∙ left.1.1)
  nothing_left places tables (DueIn s q) left = false_true (sym (tables.told_in q.0 left.1.0) ∙ left.1.1)
  nothing_left places tables (DueOut p) left = false_true (sym (tables.told_out p.0 left.0) ∙ left.1)

  module _ (none : (x : Pending) → ¬ LeftAtRouter r.tables.number.0 (router_part r) x) where
    pub places_rest : (p : ℕ) → RestsAt (places_of r p)
    places_rest p = (by_graft (graft_in_place (places_of r p)) refl, none (Stream (record { 0 = p })))
      where
        by_graft : (o : Option ℕ) → graft_in_place (places_of r p) ≡ o → o ≡ None
        by_graft None e = refl
        by_graft (Some k) e = absurd (none (Graft k) (p, e))

    pub tables_rest : NothingIsLeft r.tables
    tables_rest = record {
      clean = λ x. some_or_none (has r.tables.rib.dirty x) (λ e. none (Dirty r.tables.number) (refl, (x, e)));
      told_in = λ q x. some_or_none (has (table_at r.tables.due_in q) x) (λ e. none (DueIn r.tables.number (record { 0 = q })) (refl, (x, e)));
      told_out = λ p x. some_or_none (has (table_at r.tables.due_out p) x) (λ e. none (DueOut (record { 0 = p })) (x, e));
    }

-- ---- how many places are taken

module _ (test : Place → Bool) where
  add_from : (xs : List Place) (m n : ℕ) → fold (λ (k : ℕ) (z : Place). k + (if test z then 1 else 0)) (m + n) xs
      ≡ m + fold (λ (k : ℕ) (z : Place). k + (if test z then 1 else 0)) n xs
  add_from [] m n = refl
  add_from (x ∷ xs) m n =
      ap (λ (k : ℕ). fold (λ (j : ℕ) (z : Place). j + (if test z then 1 else 0)) k xs)
      (let e : m + n + (if test x then 1 else 0) ≡ m + (n + (if test x then 1 else 0)) = omega arith in e)
      ∙ add_from xs m (n + (if test x then 1 else 0))

  count_first : (x : Place) (xs : List Place) → count_by test (x ∷ xs) ≡ (if test x then 1 else 0) + count_by test xs
  count_first x xs = ap (λ (n : ℕ). fold (λ (m : ℕ) (z : Place). m + (if test z then 1 else 0)) n xs)
      (let e : 0 + (if test x then 1 else 0) ≡ (if test x then 1 else 0) + 0 = omega arith in e) ∙ add_from xs (if test x then 1 else 0) 0

  count_from : (g : ℕ → Bool) (xs : List Place) (k : ℕ) → ((i : ℕ) → i < length xs → g (k + i) ≡ test (get_or xs i Vacant))
      → length (filter g (range_with_len k (length xs))) ≡ count_by test xs
  count_from g [] k same = refl
  count_from g (x ∷ xs) k same =
      let rest = count_from g xs (k + 1) (λ i below. ap g (let e : k + 1 + i ≡ k + suc i = omega arith in e) ∙ same (suc i) (omega (arith, below))) in
      ap (λ (n : ℕ). length (filter g (range_with_len k n))) (let e : length (x ∷ xs) ≡ suc (length xs) = omega arith in e)
      ∙ (one (g k) (filter g (range_with_len (k + 1) (length xs)))
      ∙ ((λ i. (if first i then 1 else 0) + rest i) ∙ sym (count_first x xs)))
    where
      first : g k ≡ test x
      first = ap g (let e : k ≡ k + 0 = omega arith in e) ∙ same 0 (omega arith)

      one : (b : Bool) (ns : List ℕ) → length (if b then k ∷ ns else ns) ≡ (if b then 1 else 0) + length ns
      one true ns = omega arith
      one false ns = omega arith

pub taken_is : (r : AuditedRouter) → RouterInvariant r → count_by (λ place. is_taken (place_of place)) r.places.items ≡ taken_in (setup_of_router r) (router_part r)
taken_is r k =
    sym (count_from (λ place. is_taken (place_of place)) (λ p. is_taken (places_of r p)) r.places.items 0
    (λ i below. ap (λ (p : ℕ). is_taken (places_of r p)) (let e : 0 + i ≡ i = omega arith in e)))
    ∙ ap (λ (n : ℕ). length (filter (λ p. is_taken (places_of r p)) (range_with_len 0 n))) k.all
