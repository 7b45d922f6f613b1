use Rattle.std.proofs.Common.{◌≡◌, ◌++◌, take}
use Rattle.attr_codec.proofs.merge.met.Given as goal

abbrev pub invariant-loop-other : goal.invariant-loop-other
invariant-loop-other l = l.path.items ≡ l.initial.path.items ++ take l.other-index l.others
