use Rattle.std.proofs.Common.{◌≡◌, ◌++◌, take}
use Rattle.std.specs.Prelude.{None}
use Rattle.capsule_bytes.specs.Fields.{spelled, members}
use Rattle.capsule_bytes.specs.Capsules.{piece_fields}
use Rattle.capsule_bytes.proofs.write.push_pieces.Given as goal

abbrev pub invariant-loop-piece : goal.invariant-loop-piece
invariant-loop-piece l = l.octets ≡ l.initial.octets ++ spelled (members piece_fields None (take l.piece-index l.pieces))
