-- A table as its callers see it.
use Rattle.std.specs.Prelude.{ℕ, refl}
use Rattle.std.specs.Coded.{Coded, code_by, coded×, coded_ℕ}
use Rattle.std.specs.FinMap.{FinMap, code}
use Rattle.bgp_types.specs.Tables.{prefix_cmp, coded_prefix}

-- its prefixes and values, and the number of further prefixes for which it has memory
pub record TableValue (V : Type 0) : Type 0 where
  pub contents : FinMap prefix_cmp V
  pub room : ℕ

-- it is stored as the pair of the two
abbrev pub coded_table : {V : Type 0} → Coded V → Coded (TableValue V)
coded_table {V} v = code_by (FinMap prefix_cmp V × ℕ) (coded× (code coded_prefix v) coded_ℕ)
    (λ t. (t.contents, t.room)) (λ p. record { contents = p.0; room = p.1 }) (λ _. refl)
