use Rattle.std.specs.Prelude.{All, take}
use Rattle.bgp_types.specs.Writable.{IsPart}
use Rattle.update_plan.proofs.writable.are_parts.Given as goal

abbrev pub invariant-loop-part : goal.invariant-loop-part
invariant-loop-part l = All IsPart (take l.part-index l.path)
