use Rattle.std.proofs.Common.{◌≡◌, min, take}
use Rattle.std.specs.Prelude.{sum_by}
use Rattle.toml.specs.View.{view}
use Rattle.lab_tables.specs.Expects.{grafts_of}
use Rattle.lab_tables.proofs.expects.most_of.Given as goal

-- the number so far is that of the steps so far
abbrev pub invariant-loop-step : goal.invariant-loop-step
invariant-loop-step l = l.most ≡ min 4294967295 (sum_by (λ step. grafts_of l.peerings (view step)) (take l.step-index l.steps))
