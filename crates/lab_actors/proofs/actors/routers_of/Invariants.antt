use Rattle.lab_setup.specs.Setups.{setup_of}
use Rattle.lab_actors.specs.Firsts.{AreFirstUpTo}
use Rattle.lab_actors.proofs.actors.routers_of.Given as goal

abbrev pub invariant-loop-n : goal.invariant-loop-n
invariant-loop-n l = AreFirstUpTo (setup_of l.input) l.input.faults l.n l.actors
