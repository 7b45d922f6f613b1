use Rattle.std.proofs.Common.{ℕ, ◌<◌}
use Rattle.router_core.specs.Parts.{router_part}
use Rattle.router_core.specs.Updates.{IsStuckAt}
use Rattle.router_core.proofs.stages.put.stuck.Given as goal

abbrev pub invariant-loop-n : goal.invariant-loop-n
invariant-loop-n l = (p m : ℕ) → p < l.n → ¬ IsStuckAt l.router.known.setup l.router.number.0 (router_part l.router) p m
