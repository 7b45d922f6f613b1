-- The index of a prefix among entries in ascending order of prefix.
use Rattle.std.specs.Prelude.{◌≡◌, ℕ, ◌+◌, ◌<◌, ◌≤◌, List, [], ◌∷◌, Option, Some, None, length, take, drop, slice_index_or}
use Rattle.std.specs.declared.cmp.Ordering.TheVariants.{Less, Greater}
use Rattle.std.specs.List.{AllByRecursion}
use Rattle.bgp_types.specs.Prefixes.{PrefixValue}
use Rattle.bgp_types.specs.Tables.{prefix_cmp}

-- each prefix is below p, or above it
abbrev pub AllBelow : {V : Type 0} → PrefixValue → List (PrefixValue × V) → Type 0
AllBelow p es = AllByRecursion (λ e. prefix_cmp p e.0 ≡ Greater) es

abbrev pub AllAbove : {V : Type 0} → PrefixValue → List (PrefixValue × V) → Type 0
AllAbove p es = AllByRecursion (λ e. prefix_cmp p e.0 ≡ Less) es

-- p stands at this index, with smaller prefixes before it and greater ones after it
pub record IsIndexOfPrefix {V : Type 0} (es : List (PrefixValue × V)) (p : PrefixValue) (at : ℕ) : Type 0 where
  pub in_range : at < length es
  pub has : (d : PrefixValue × V) → (slice_index_or es at d).0 ≡ p
  pub before : AllBelow p (take at es)
  pub after : AllAbove p (drop (at + 1) es)

-- p would be inserted at this index: smaller prefixes are before it, and greater ones from it on
pub record IsGapForPrefix {V : Type 0} (es : List (PrefixValue × V)) (p : PrefixValue) (at : ℕ) : Type 0 where
  pub in_range : at ≤ length es
  pub before : AllBelow p (take at es)
  pub after : AllAbove p (drop at es)

abbrev pub first_prefix : {V : Type 0} → List (PrefixValue × V) → Option PrefixValue
first_prefix [] = None
first_prefix (e ∷ es) = Some e.0
