-- Prefixes in a set and in a list.
use Rattle.std.proofs.Common.{◌≡◌, List, [], ◌∷◌, ◌++◌, Bool, true, false, cond, eqb, ltb, refl, sym, ap, ◌∙◌, arith}
use Rattle.std.specs.Prelude.{◌||◌}
use Rattle.std.specs.List.{list_any}
use Rattle.std.specs.Ordering.{is_eq}
use Rattle.std.proofs.lemmas.Bool.Decides.{nat_tests}
use Rattle.bgp_types.specs.Prefixes.{PrefixValue, same_prefix, put_once}
use Rattle.bgp_types.specs.Tables.{prefix_cmp}
use Rattle.bgp_types.proofs.OnceLaws as once
use Rattle.bgp_wire.specs.declared.set.SeenPrefixes.{SeenPrefixes}
use Rattle.bgp_wire.specs.Sets.{has, IsSetOf}

-- prefixes compare alike exactly where they are the same
pub is_same : (p q : PrefixValue) → is_eq (prefix_cmp p q) ≡ same_prefix p q
is_same p q = by_test (ltb p.address q.address) (eqb p.address q.address) (ltb p.len q.len) (eqb p.len q.len) refl refl refl refl where
  by_test : (a b c d : Bool) → ltb p.address q.address ≡ a → eqb p.address q.address ≡ b → ltb p.len q.len ≡ c → eqb p.len q.len ≡ d
      → is_eq (prefix_cmp p q) ≡ same_prefix p q
  by_test a b c d e f g h = grind (arith, nat_tests)

any_last : (p q : PrefixValue) (ps : List PrefixValue) → list_any (same_prefix p) (ps ++ q ∷ []) ≡ cond (same_prefix p q) true (list_any (same_prefix p) ps)
any_last p q [] = by_test (same_prefix p q) where
  by_test : (t : Bool) → (t || false) ≡ cond t true false
  by_test true = refl
  by_test false = refl
any_last p q (x ∷ ps) =
    by_test (same_prefix p x) (same_prefix p q) (list_any (same_prefix p) (ps ++ q ∷ [])) (list_any (same_prefix p) ps) (any_last p q ps)
  where
    by_test : (t u v w : Bool) → v ≡ cond u true w → (t || v) ≡ cond u true (t || w)
    by_test true true v w e = refl
    by_test true false v w e = refl
    by_test false u v w e = e

-- a set after a prefix was put in
abbrev pub IsPut : SeenPrefixes → SeenPrefixes → PrefixValue → Type 0
IsPut old new q = (p : PrefixValue) → has new p ≡ cond (same_prefix p q) true (has old p)

pub not_there : (set : SeenPrefixes) (q : PrefixValue) (ps : List PrefixValue) → IsSetOf set ps → (new : Bool) → has set q ≡ new
    → put_once ps q ≡ cond new ps (ps ++ q ∷ [])
not_there set q ps s new e = ap (λ (t : Bool). cond t ps (ps ++ q ∷ [])) (sym (s q) ∙ e)
