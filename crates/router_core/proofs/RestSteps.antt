-- What is left, the lowest of it.
use Rattle.std.proofs.Common.{◌≡◌, ℕ, ◌+◌, ◌<◌, ◌≤◌, min, List, length, Option, Some, None, Bool, true, false}
use Rattle.std.proofs.Common.{is_some, inl, inr, ◌⊎◌, ◌↔◌, refl, sym, ap, subst, ◌∙◌, arith}
use Rattle.std.specs.FinMap as map
use Rattle.std.proofs.lemmas.Bool.{cases_lt}
use Rattle.bgp_types.specs.Prefixes.{PrefixValue}
use Rattle.bgp_types.specs.Tables.{first_above}
use Rattle.session_value.specs.Sets.{Prefixes, has}
use Rattle.rib_stages.specs.Values.{table_at}
use Rattle.rib_stages.proofs.Drops.{least_is, no_least_is}
use Rattle.settled_check.specs.Firsts.{IsLowestOf}
use Rattle.settled_check.specs.Left.{HoldsGraft, HasSome, graft_in_place}
use Rattle.graft_model.specs.Parts.{RouterPart}
use Rattle.router_tables.proofs.Points.{one_or_other}
use Rattle.router_core.specs.Places.{lower_of, place_of, place_at}
use Rattle.router_core.specs.declared.place.Place.{Place}
use Rattle.router_tables.proofs.DueSteps.{none_in, table_at_end}
use Rattle.router_core.proofs.VisitSteps.{place_at_end}

-- none of the first so many is so
abbrev pub NoneBelow : (ℕ → Type 0) → ℕ → Type 0
NoneBelow Is n = (k : ℕ) → k < n → Is k → ⊥

pub none_next : (Is : ℕ → Type 0) (n : ℕ) → NoneBelow Is n → (Is n → ⊥) → NoneBelow Is (n + 1)
none_next Is n none not k below so = elim (one_or_other n k) [
  | inl e ↦ not (subst Is e so)
  | inr apart ↦ none k (elim (cases_lt k n) [ inl under ↦ under | inr from ↦ absurd (apart (omega (arith, from, below))) ]) so
]

pub lowest_is : (Is : ℕ → Type 0) (n : ℕ) → NoneBelow Is n → Is n → IsLowestOf Is (Some n)
lowest_is Is n none so = (so, λ k also. elim (cases_lt k n) [ inl below ↦ absurd (none k below also) | inr from ↦ from ])

pub lowest_none : (Is : ℕ → Type 0) (n : ℕ) → NoneBelow Is n → ((k : ℕ) → n ≤ k → Is k → ⊥) → IsLowestOf Is None
lowest_none Is n none behind k so = elim (cases_lt k n) [ inl below ↦ none k below so | inr from ↦ behind k from so ]

-- ---- sets

pub some_due : (s : Prefixes) (o : Option PrefixValue) → o ≡ first_above None (map.keys s) → is_some o ≡ true → HasSome s
some_due s None is e = absurd (let x : ⊥ = cc in x)
some_due s (Some p) is e = (p, least_is s p (sym is))

false_true : ◌≡◌ {A = Bool} false true → ⊥
false_true e = let y : ⊥ = cc in y

pub none_due : (s : Prefixes) (o : Option PrefixValue) → o ≡ first_above None (map.keys s) → is_some o ≡ false → HasSome s → ⊥
none_due s None is e (p, there) = false_true (sym (ap (λ (t : Prefixes). has t p) (no_least_is s (sym is)) ∙ none_in p) ∙ there)
none_due s (Some q) is e (p, there) = false_true (sym e)

pub none_behind : (sets : List Prefixes) (n k : ℕ) → length sets ≤ n → n ≤ k → HasSome (table_at sets k) → ⊥
none_behind sets n k all from (p, there) =
    false_true (sym (ap (λ (t : Prefixes). has t p) (table_at_end sets k (omega (arith, all, from))) ∙ none_in p) ∙ there)

-- ---- places

-- ---- grafts

-- the lowest number of a graft at the first so many places
abbrev pub LowestBelow : List (Option Place) → ℕ → Option ℕ → Type 0
LowestBelow places n lowest = IsLowestOf (λ k. (p : ℕ) × (p < n) × (graft_in_place (place_of (place_at places p)) ≡ Some k)) lowest

pub lowest_first : (places : List (Option Place)) → LowestBelow places 0 None
lowest_first places k has = let (p, below, is) = has in let x : ⊥ = omega (arith, below) in x

module _ (places : List (Option Place)) (n : ℕ) where
  -- what is at one of n + 1 places is at one of n, or at the last of them
  cut : (p k : ℕ) → p < n + 1 → graft_in_place (place_of (place_at places p)) ≡ Some k → (p < n) ⊎ (graft_in_place (place_of (place_at places n)) ≡ Some k)
  cut p k below is = elim (one_or_other n p) [
    | inl e ↦ inr (subst (λ (m : ℕ). graft_in_place (place_of (place_at places m)) ≡ Some k) e is)
    | inr not ↦ inl (elim (cases_lt p n) [ inl under ↦ under | inr from ↦ absurd (not (omega (arith, from, below))) ])
  ]

  pub lowest_next : (one other : Option ℕ) → LowestBelow places n one → graft_in_place (place_of (place_at places n)) ≡ other
      → LowestBelow places (n + 1) (lower_of one other)
  lowest_next None None lowest is = λ k has. let (p, below, at) = has in
      elim (cut p k below at) [ inl under ↦ lowest k (p, under, at) | inr here ↦ (let x : ⊥ = no_some k (sym is ∙ here) in x) ]
    where
      no_some : (k : ℕ) → ◌≡◌ {A = Option ℕ} None (Some k) → ⊥
      no_some k e = let x : ⊥ = cc in x
  lowest_next None (Some m) lowest is = (
    (n, omega arith, is),
    λ k has. let (p, below, at) = has in elim (cut p k below at) [
      | inl under ↦ absurd (lowest k (p, under, at))
      | inr here ↦ (let e : m ≡ k = (let f : ◌≡◌ {A = Option ℕ} (Some m) (Some k) = sym is ∙ here in cc) in omega (arith, e))
    ],
  )
  lowest_next (Some m) None lowest is = (
    (lowest.0.0, omega (arith, lowest.0.1), lowest.0.2),
    λ k has. let (p, below, at) = has in elim (cut p k below at) [
      | inl under ↦ lowest.1 k (p, under, at)
      | inr here ↦ absurd (let f : ◌≡◌ {A = Option ℕ} None (Some k) = sym is ∙ here in (let x : ⊥ = cc in x))
    ],
  )
  lowest_next (Some m) (Some j) lowest is = (
    elim (cases_lt j m) [
      | inl under ↦ (n, omega arith, is ∙ ap Some (let e : j ≡ min m j = omega (arith, under) in e))
      | inr from ↦ (lowest.0.0, omega (arith, lowest.0.1), lowest.0.2 ∙ ap Some (let e : m ≡ min m j = omega (arith, from) in e))
    ],
    λ k has. let (p, below, at) = has in elim (cut p k below at) [
      | inl under ↦ let h : m ≤ k = lowest.1 k (p, under, at) in omega (arith, h)
      | inr here ↦ let e : j ≡ k = (let f : ◌≡◌ {A = Option ℕ} (Some j) (Some k) = sym is ∙ here in cc) in omega (arith, e)
    ],
  )

  pub lowest_all : (o : Option ℕ) → length places ≤ n → LowestBelow places n o
      → IsLowestOf (λ k. (p : ℕ) × (graft_in_place (place_of (place_at places p)) ≡ Some k)) o
  lowest_all None all lowest = λ k has. let (p, at) = has in elim (cases_lt p n) [ inl below ↦ lowest k (p, below, at) | inr from ↦ behind p k from at ]
    where
      behind : (p k : ℕ) → n ≤ p → graft_in_place (place_of (place_at places p)) ≡ Some k → ⊥
      behind p k from at = let f : ◌≡◌ {A = Option ℕ} None (Some k) =
          sym (ap (λ (x : Option Place). graft_in_place (place_of x)) (place_at_end places p (omega (arith, all, from)))) ∙ at in (let x : ⊥ = cc in x)
  lowest_all (Some m) all lowest = (
    (lowest.0.0, lowest.0.2),
    λ k has. let (p, at) = has in elim (cases_lt p n) [
      | inl below ↦ lowest.1 k (p, below, at)
      | inr from ↦ absurd (let f : ◌≡◌ {A = Option ℕ} None (Some k) =
          sym (ap (λ (x : Option Place). graft_in_place (place_of x)) (place_at_end places p (omega (arith, all, from)))) ∙ at in (let x : ⊥ = cc in x))
    ],
  )

-- whether anything is in a set
pub has_some : (s : Prefixes) (o : Option PrefixValue) (b : Bool) → o ≡ first_above None (map.keys s) → b ≡ is_some o → (b ≡ true) ↔ HasSome s
has_some s o b is same = (
  λ e. some_due s o is (sym same ∙ e),
  λ some. by_flag (is_some o) refl some,
)
  where
    by_flag : (c : Bool) → is_some o ≡ c → HasSome s → b ≡ true
    by_flag true e some = same ∙ e
    by_flag false e some = absurd (none_due s o is e some)

pub lowest_in : (part : RouterPart) (o : Option ℕ) → IsLowestOf (λ k. (p : ℕ) × (graft_in_place (part.places p) ≡ Some k)) o → IsLowestOf (HoldsGraft part) o
lowest_in part None lowest = lowest
lowest_in part (Some k) lowest = lowest
