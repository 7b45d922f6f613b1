use Rattle.std.proofs.Common.{◌≡◌, ℕ, ◌+◌, Some, refl, subst, arith}
use Rattle.std.proofs.lemmas.Option.{slice_get_within}
use Rattle.graft_model.specs.Setups.{MoveStep, EvacuateStep, grafts_in, grafts_before, graft_at}
use Rattle.graft_model.proofs.Numbers.{graft_of_step, number_is, index_of_graft, numbered_peering}
use Rattle.graft_model.proofs.conditions.grafts_are_numbered.Goals as goal

-- src/conditions.rt
pub returns-clause-step : goal.returns-clause-step
returns-clause-step c setup n p target there =
    subst (λ (k : ℕ). graft_at setup k ≡ Some (record { graft = k; peering = p; step = n }))
    (let e : grafts_before setup n + 0 + 1 ≡ grafts_before setup n + 1 = omega arith in e)
    (graft_of_step setup n 0 p (MoveStep p target) there refl)

pub returns-clause-evacuation : goal.returns-clause-evacuation
returns-clause-evacuation c setup n router p there below = graft_of_step setup n p p (EvacuateStep router) there (numbered_peering setup p below)

pub returns-clause-known : goal.returns-clause-known
returns-clause-known c setup k graft at =
    let t = index_of_graft setup k graft at in
    let within = slice_get_within (grafts_in setup) t.0 graft t.2 in
    (number_is setup k graft at, omega (arith, t.1), omega (arith, t.1, within))
