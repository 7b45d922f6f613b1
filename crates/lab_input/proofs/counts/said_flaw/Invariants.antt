use Rattle.std.proofs.Common.{◌≡◌, List, drop}
use Rattle.lab_keys.specs.Kinds.{each_from}
use Rattle.lab_tables.specs.declared.input.Step.{Step}
use Rattle.lab_input.specs.Counts.{AreSaid, said_flaw}
use Rattle.lab_input.proofs.counts.said_flaw.Given as goal

abbrev pub invariant-loop-i : goal.invariant-loop-i
invariant-loop-i l =
    (steps : List Step) → AreSaid steps l.peerings l.said
    → each_from (said_flaw steps) l.i (drop l.i l.peerings) ≡ each_from (said_flaw steps) 0 l.peerings
