use Rattle.std.proofs.Common.{◌≡◌, ◌++◌, string_bytes}
use Rattle.lab_make.specs.Made.{each_below, first_step}
use Rattle.lab_make.proofs.script.push_announcements.Given as goal

-- the text so far is that of the steps so far
abbrev pub invariant-loop-j : goal.invariant-loop-j
invariant-loop-j l = string_bytes l.text ≡ string_bytes l.initial.text ++ each_below (first_step l.seed) l.j
