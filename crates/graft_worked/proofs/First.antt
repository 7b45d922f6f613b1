-- The first world of the worked setup.
use Rattle.std.proofs.Common.{◌≡◌, ℕ, zero, suc, ◌==◌, false, cond, None, refl, sym, ap, ◌∙◌, arith}
use Rattle.std.specs.Prelude.{slice_get}
use Rattle.std.proofs.lemmas.Bool.Decides.{nat_tests}
use Rattle.bgp_types.specs.Spelling.{spell}
use Rattle.session_value.specs.Sessions.{begun}
use Rattle.graft_model.specs.First.{place_in, first_router, first_far, first_world}
use Rattle.graft_model.specs.Points.{at}
use Rattle.graft_model.specs.Parts.{Vacant, Live}
use Rattle.graft_worked.specs.Base.{base, peering_c}
use Rattle.graft_worked.specs.Places.{two, idle_router, idle_far}
use Rattle.graft_worked.specs.First.{session_first, a_first, far_first, operator_first, first_worked}
use Rattle.graft_worked.proofs.Ungiven.{empties, nothing_given}
use Rattle.graft_worked.proofs.Points.{empty_at, empty_two, empty_one}

not_zero : (n : ℕ) → (suc n == 0) ≡ false
not_zero n = grind (arith, nat_tests)

zero_not : (n : ℕ) → (0 == suc n) ≡ false
zero_not n = grind (arith, nat_tests)

not_one : (n : ℕ) → (suc (suc n) == 1) ≡ false
not_one n = grind (arith, nat_tests)

at_beyond : {A : Type 0} (none a : A) (n : ℕ) → at (λ m. none) 0 a (suc n) ≡ none
at_beyond none a n = ap (λ t. cond t a none) (not_zero n)

two_beyond : {A : Type 0} (none a b : A) (n : ℕ) → two none a b (suc (suc n)) ≡ none
two_beyond none a b n = ap (λ t. cond t a (cond (suc (suc n) == 1) b none)) (not_zero (suc n)) ∙ ap (λ t. cond t b none) (not_one n)

places_at_a : (p : ℕ) → place_in 0 (slice_get base.peerings p) ≡ at (λ p. Vacant) 0 (Live session_first None) p
unfolding spell
places_at_a zero = refl
places_at_a (suc p) = sym (at_beyond Vacant (Live session_first None) p)

places_at_others : (r p : ℕ) → place_in (suc r) (slice_get base.peerings p) ≡ Vacant
places_at_others r zero = ap (λ t. cond t (Live (begun peering_c.config) None) Vacant) (zero_not r)
places_at_others r (suc p) = refl

router_at : (r : ℕ) → first_router base r ≡ two idle_router a_first idle_router r
router_at zero = λ i. record idle_router { places = λ p. places_at_a p i }
router_at (suc zero) = λ i. record idle_router { places = λ p. places_at_others 0 p i }
router_at (suc (suc r)) = (λ i. record idle_router { places = λ p. places_at_others (suc r) p i }) ∙ sym (two_beyond idle_router a_first idle_router r)

far_at : (p : ℕ) → first_far (slice_get base.peerings p) ≡ at (λ p. idle_far) 0 far_first p
far_at zero = refl
far_at (suc p) = sym (at_beyond idle_far far_first p)

-- no step of the worked script empties a router
pub base_empties : (n : ℕ) → empties (slice_get base.steps n) ≡ false
base_empties zero = refl
base_empties (suc zero) = refl
base_empties (suc (suc zero)) = refl
base_empties (suc (suc (suc zero))) = refl
base_empties (suc (suc (suc (suc n)))) = refl

pub first_is : first_world base ≡ first_worked
first_is = λ i. record {
  router = λ r. router_at r i;
  far = λ p. far_at p i;
  operator = nothing_given base operator_first base_empties i;
  mesh = λ r q. sym (empty_two 1 0 r q) i;
  outward = λ r p. sym (empty_two 0 0 r p) i;
  inward = λ p r. sym (empty_one p r) i;
  orders = λ r. sym (empty_at 0 r) i;
  reports = λ r. sym (empty_at 0 r) i;
  says = λ p. sym (empty_at 0 p) i;
}
