use Rattle.std.proofs.Common.{◌≡◌, ◌≤◌}
use Rattle.lab_make.specs.Made.{moves_before}
use Rattle.lab_make.proofs.script.moves_before.Given as goal

abbrev pub invariant-loop-h : goal.invariant-loop-h
invariant-loop-h l = record { counted : l.moves ≡ moves_before l.seed l.peering l.h; few : l.moves ≤ l.h }
