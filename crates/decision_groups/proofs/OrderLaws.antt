-- The order of candidates is a total one, and the one that `cmp` of their sources computes.
use Rattle.std.proofs.Common.{◌≡◌, ℕ, refl, ap, subst}
use Rattle.std.proofs.Math.Path.{fun_ext}
use Rattle.std.specs.Cmp.{IsTotalOrder}
use Rattle.std.specs.Ordering.{nat_cmp, on, then_cmp}
use Rattle.std.specs.declared.cmp.Ordering.{Ordering}
use Rattle.std.proofs.lemmas.Cmp.{nat_cmp_total, on_total, then_total}
use Rattle.std.proofs.lemmas.Map.Lookups.{CmpEqualImpliesEq, exact_unsigned}
use Rattle.bgp_types.specs.declared.rank.From.{From}
use Rattle.bgp_types.specs.declared.rank.From.TheVariants.{Own, Peering, Router}
use Rattle.bgp_types.specs.contracts.rank.FromOrd.TheImpl.{ghosts}
use Rattle.decision_groups.specs.Order.{from_order}

abbrev kind_of : From → ℕ
kind_of Own = 0
kind_of (Peering p) = 1
kind_of (Router r) = 2

abbrev number_of : From → ℕ
number_of Own = 0
number_of (Peering p) = p.0
number_of (Router r) = r.0

abbrev by_kind_and_number : From → From → Ordering
by_kind_and_number = then_cmp (on kind_of nat_cmp) (on number_of nat_cmp)

same_order : (a b : From) → by_kind_and_number a b ≡ from_order a b
same_order Own Own = refl
same_order Own (Peering q) = refl
same_order Own (Router s) = refl
same_order (Peering p) Own = refl
same_order (Peering p) (Peering q) = refl
same_order (Peering p) (Router s) = refl
same_order (Router r) Own = refl
same_order (Router r) (Peering q) = refl
same_order (Router r) (Router s) = refl

pub from_order_total : IsTotalOrder from_order
from_order_total =
    subst IsTotalOrder (fun_ext (λ a. fun_ext (λ b. same_order a b))) (then_total (on_total kind_of nat_cmp_total) (on_total number_of nat_cmp_total))

pub from_order_exact : CmpEqualImpliesEq from_order
from_order_exact Own Own h = refl
from_order_exact Own (Peering q) h = cc
from_order_exact Own (Router s) h = cc
from_order_exact (Peering p) Own h = cc
from_order_exact (Peering p) (Peering q) h = ap (λ n. Peering (record { 0 = n })) (exact_unsigned p.0 q.0 h)
from_order_exact (Peering p) (Router s) h = cc
from_order_exact (Router r) Own h = cc
from_order_exact (Router r) (Peering q) h = cc
from_order_exact (Router r) (Router s) h = ap (λ n. Router (record { 0 = n })) (exact_unsigned r.0 s.0 h)

pub derived_order : (a b : From) → ghosts.cmp a b ≡ from_order a b
derived_order Own Own = refl
derived_order Own (Peering q) = refl
derived_order Own (Router s) = refl
derived_order (Peering p) Own = refl
derived_order (Peering p) (Peering q) = refl
derived_order (Peering p) (Router s) = refl
derived_order (Router r) Own = refl
derived_order (Router r) (Peering q) = refl
derived_order (Router r) (Router s) = refl
