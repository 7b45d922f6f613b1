use Rattle.std.proofs.Common.{◌≡◌}
use Rattle.lab_make.specs.Made.{prefixes_below}
use Rattle.lab_make.proofs.announce.prefixes_of.Given as goal

abbrev pub invariant-loop-i : goal.invariant-loop-i
invariant-loop-i l = l.prefixes ≡ prefixes_below l.i l.shift l.j
