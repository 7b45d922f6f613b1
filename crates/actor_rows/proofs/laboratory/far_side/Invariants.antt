use Rattle.actor_rows.specs.Laboratory.{laboratory}
use Rattle.actor_rows.proofs.laboratory.far_side.Given as goal

-- the laboratory in which the remote says the bytes of this call
abbrev pub ghost-known_for : goal.ghost-known_for
ghost-known_for a = laboratory a._opening.now a._first.now a._second.now a._third.now
