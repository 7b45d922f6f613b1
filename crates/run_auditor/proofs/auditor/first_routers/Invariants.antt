use Rattle.lab_setup.specs.Setups.{setup_of}
use Rattle.run_auditor.specs.Begins.{IsFirstRouter}
use Rattle.run_auditor.proofs.Begun.{AllAt}
use Rattle.run_auditor.proofs.auditor.first_routers.Given as goal

abbrev pub ghost-known_for : goal.ghost-known_for
ghost-known_for a = setup_of a._input.now

abbrev pub invariant-loop-n : goal.invariant-loop-n
invariant-loop-n l = AllAt (IsFirstRouter (setup_of l.input)) l.n l.routers.items
