use Rattle.std.proofs.Common.{arith}
use Rattle.lab_answers.specs.Imports.{meds_of_route}
use Rattle.lab_answers.proofs.Adding.{flat_step, flat_all, adds_both}
use Rattle.lab_answers.proofs.imports.Imports.note_prefixes.Goals as goal

pub loop-prefix-preserved : goal.loop-prefix-preserved
loop-prefix-preserved c =
    flat_step (λ prefix. meds_of_route c.args.self.now prefix c.args.route.now) c.args.prefixes.now c.loop-prefix.prefix-index _ _ _ _
    (omega arith) c.prefix-item.is
    c.loop-prefix.invariant (adds_both _ _ _ _ _ c.in_ok-note_route.ensures c.in_ok-note_let_in.ensures)

pub returns : goal.returns
returns c =
    flat_all (λ prefix. meds_of_route c.args.self.now prefix c.args.route.now) c.args.prefixes.now c.loop-prefix.prefix-index _ _
    (omega arith) c.loop-prefix.invariant
