use Rattle.lab_setup.specs.Setups.{setup_of}
use Rattle.lab_actors.proofs.actors.operator_of.Given as goal

abbrev pub ghost-known_for : goal.ghost-known_for
ghost-known_for a = setup_of a._input.now
