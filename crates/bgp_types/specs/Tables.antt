-- What a table of prefixes is: a finite map, in the order of prefixes.
use Rattle.std.specs.Prelude.{ℕ, Bool, true, Option, Some, None, List, refl}
use Rattle.std.specs.declared.cmp.Ordering.{Ordering}
use Rattle.std.specs.Ordering.{nat_cmp, ordering_then, is_lt}
use Rattle.std.specs.List.{find}
use Rattle.std.specs.Coded.{Coded, code_by, coded×, coded_ℕ}
use Rattle.bgp_types.specs.Prefixes.{PrefixValue}

-- prefixes are ordered by address, and then by length
abbrev pub prefix_cmp : PrefixValue → PrefixValue → Ordering
prefix_cmp p q = ordering_then (nat_cmp p.address q.address) (nat_cmp p.len q.len)

-- a prefix is stored as the pair of its numbers
abbrev pub coded_prefix : Coded PrefixValue
coded_prefix = code_by (ℕ × ℕ) (coded× coded_ℕ coded_ℕ) (λ p. (p.address, p.len)) (λ n. record { address = n.0; len = n.1 }) (λ _. refl)

-- whether a prefix is above another; every prefix is above none
abbrev pub is_above : Option PrefixValue → PrefixValue → Bool
is_above None q = true
is_above (Some p) q = is_lt (prefix_cmp p q)

-- of prefixes in ascending order, the first that is above another, or the first of all
abbrev pub first_above : Option PrefixValue → List PrefixValue → Option PrefixValue
first_above other prefixes = find (is_above other) prefixes
