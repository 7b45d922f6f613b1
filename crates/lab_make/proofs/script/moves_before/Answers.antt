use Rattle.std.proofs.Common.{◌≡◌, ℕ, ap, ◌∙◌, arith}
use Rattle.lab_make.specs.Made.{moves_before}
use Rattle.lab_make.proofs.Each.{moves_none, moves_step}
use Rattle.lab_make.proofs.script.moves_before.Goals as goal

pub loop-h-init : goal.loop-h-init
loop-h-init c = record { counted = moves_none c.args.seed c.args.peering; few = omega arith }

pub loop-h-preserved : goal.loop-h-preserved
loop-h-preserved c = record {
  counted = moves_step c.args.seed c.args.peering c.loop-h.h c.loop-h.moves c.moves_by-moves.result c.loop-h.invariant.counted c.moves_by-moves.ensures.counted;
  few = omega arith;
}

pub returns-clause-counted : goal.returns-clause-counted
returns-clause-counted c =
    let done : c.loop-h.h ≡ c.args.g = omega arith in
    c.loop-h.invariant.counted ∙ ap (λ (n : ℕ). moves_before c.args.seed c.args.peering n) done
