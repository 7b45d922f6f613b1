use Rattle.std.proofs.Common.{◌≡◌, take}
use Rattle.lab_answers.specs.PlainPeerings.{plain_in}
use Rattle.lab_answers.proofs.sureness.plain_peerings.Given as goal

abbrev pub invariant-loop-i : goal.invariant-loop-i
invariant-loop-i l = l.plain ≡ plain_in l.steps (take l.i l.peerings)
