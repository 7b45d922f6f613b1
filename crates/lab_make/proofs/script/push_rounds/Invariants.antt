use Rattle.std.proofs.Common.{◌≡◌, ◌++◌, string_bytes}
use Rattle.lab_make.specs.Made.{each_below, graft_round}
use Rattle.lab_make.proofs.script.push_rounds.Given as goal

-- the text so far is that of the steps so far
abbrev pub invariant-loop-g : goal.invariant-loop-g
invariant-loop-g l = string_bytes l.text ≡ string_bytes l.initial.text ++ each_below (graft_round l.seed) l.g
