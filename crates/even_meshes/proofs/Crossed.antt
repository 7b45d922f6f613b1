-- A mesh that isn't even has two solutions.
use Rattle.std.proofs.Common.{◌≡◌, ◌≢◌, ℕ, refl, sym, ap, ◌∙◌}
use Rattle.std.specs.Prelude.{Option, Some, None, unwrap_or}
use Rattle.decision_core.specs.Choice.{choice, left_of, keep}
use Rattle.route_policy.specs.declared.best.Best.{Best}
use Rattle.even_meshes.specs.Meshes.{SolvesMesh, IsEven}
use Rattle.even_meshes.specs.Worked.{crossed, one_way, other_way}

-- the routes of AS 1 have MED 0 at one router, and MED 1 at the other
pub crossed_uneven : ¬ IsEven crossed
crossed_uneven even =
    let at_first : 0 ≡ even.med 1 = even.each.0.0 in
    let at_second : 1 ≡ even.med 1 = even.each.1.0.0 in
    let same : ◌≡◌ {A = ℕ} 0 1 = at_first ∙ sym at_second in
    absurd cc

pub one_solves : SolvesMesh crossed one_way
unfolding choice left_of keep
one_solves = (refl, (refl, tt))

pub other_solves : SolvesMesh crossed other_way
unfolding choice left_of keep
other_solves = (refl, (refl, tt))

-- the MED of a best route
abbrev med_of : Option Best → ℕ
med_of None = 0
med_of (Some best) = unwrap_or best.route.attrs.med 0

meds_differ : (one other : Option Best) → med_of one ≡ 0 → med_of other ≡ 1 → one ≢ other
meds_differ one other h k e = let same : ◌≡◌ {A = ℕ} 0 1 = sym h ∙ ap med_of e ∙ k in absurd cc

pub first_differs : one_way 0 ≢ other_way 0
first_differs = meds_differ (one_way 0) (other_way 0) refl refl

pub second_differs : one_way 1 ≢ other_way 1
second_differs = meds_differ (one_way 1) (other_way 1) refl refl
