-- Places at which something holds.
use Rattle.std.proofs.Common.{◌≡◌, ◌≢◌, ℕ, ◌+◌, ◌<◌, ◌≤◌, List, length, inl, inr, sym, ◌∙◌, subst, arith}
use Rattle.std.specs.Prelude.{slice_index_or}
use Rattle.std.proofs.lemmas.Bool.{cases_lt}
use Rattle.std.proofs.lemmas.List.{get_or_past, get_or_read}
use Rattle.audit_router.specs.Places.{place_at}
use Rattle.audit_router.specs.declared.place.Place.{Place}
use Rattle.audit_router.specs.declared.place.Place.TheVariants.{Vacant}

-- none of the first so many is so
abbrev pub NoneBelow : (ℕ → Type 0) → ℕ → Type 0
NoneBelow Is n = (p : ℕ) → p < n → ¬ Is p

pub none_anywhere : (places : List Place) (Is : ℕ → Type 0) (n : ℕ) → length places ≤ n → NoneBelow Is n
    → ((p : ℕ) → place_at places p ≡ Vacant → ¬ Is p) → (p : ℕ) → ¬ Is p
none_anywhere places Is n all none vacant p so = elim (cases_lt p n) [
  | inl below ↦ none p below so
  | inr from ↦ vacant p (get_or_past places p Vacant (omega (arith, all, from))) so
]

-- neither of the next one
pub none_more : (Is : ℕ → Type 0) (n : ℕ) → NoneBelow Is n → ¬ Is n → NoneBelow Is (n + 1)
none_more Is n below not p less so = elim (cases_lt p n) [
  | inl under ↦ below p under so
  | inr from ↦ not (subst Is (let e : p ≡ n = omega (arith, less, from) in e) so)
]

-- what is read of a place is what is there
pub read_is : (places : List Place) (p : ℕ) (x : Place) → p < length places → x ≡ slice_index_or places p x → x ≡ place_at places p
read_is places p x there is = get_or_read places p x there is Vacant

-- a place with something is there
pub there_is : (places : List Place) (p : ℕ) → place_at places p ≢ Vacant → p < length places
there_is places p some = elim (cases_lt p (length places)) [
  | inl below ↦ below
  | inr from ↦ absurd (some (get_or_past places p Vacant from))
]

-- and so is what is matched of it
pub seen_at : (places : List Place) (p : ℕ) (now x : Place) → p < length places → now ≡ slice_index_or places p now → now ≡ x → place_at places p ≡ x
seen_at places p now x there is same = sym (read_is places p now there is) ∙ same
