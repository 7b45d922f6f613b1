use Rattle.std.proofs.Common.{◌≡◌, drop}
use Rattle.lab_keys.specs.Kinds.{each_from}
use Rattle.lab_input.specs.Counts.{room_flaw}
use Rattle.lab_input.proofs.counts.room_flaw.Given as goal

abbrev pub invariant-loop-i : goal.invariant-loop-i
invariant-loop-i l = each_from (room_flaw l.peerings) l.i (drop l.i l.routers) ≡ each_from (room_flaw l.peerings) 0 l.routers
