use Rattle.actor_rows.proofs.laboratory.known_for.Given as goal

abbrev pub ghost-new : goal.ghost-new
ghost-new g a = g.setup
