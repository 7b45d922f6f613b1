use Rattle.std.proofs.Common.{◌≡◌, drop}
use Rattle.lab_keys.specs.Kinds.{each_from}
use Rattle.lab_hints.specs.Later.{crowded_words}
use Rattle.lab_hints.proofs.crowd.crowd_in.Given as goal

abbrev pub invariant-loop-i : goal.invariant-loop-i
invariant-loop-i l = each_from (crowded_words l.peerings) l.i (drop l.i l.routers) ≡ each_from (crowded_words l.peerings) 0 l.routers
