use Rattle.run_auditor.proofs.auditor.known_for.Given as goal

abbrev pub ghost-new : goal.ghost-new
ghost-new g a = g.setup
