use Rattle.lab_setup.specs.Setups.{setup_of}
use Rattle.run_auditor.proofs.auditor.Auditor.new.Given as goal

abbrev pub ghost-known_for : goal.ghost-known_for
ghost-known_for a = setup_of a._input.now
