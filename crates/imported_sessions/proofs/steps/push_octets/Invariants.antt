use Rattle.std.proofs.Common.{◌≡◌, ◌++◌, ◌*◌, ◌+◌, ◌<◌, length, map, drop}
use Rattle.std.specs.List.{range_with_len}
use Rattle.std.specs.Fork.{slice_chunk}
use Rattle.std.specs.Slice.Iter.{chunks_rest, chunks_size}
use Rattle.imported_sessions.specs.Heard.{said_by}
use Rattle.imported_sessions.proofs.steps.push_octets.Given as goal

abbrev pub invariant-loop-piece : goal.invariant-loop-piece
invariant-loop-piece l = record {
  size : chunks_size l.piece-iterator ≡ 4096;
  rest : chunks_rest l.piece-iterator ≡ drop (length l.yielded * 4096) l.octets;
  within : length l.yielded * 4096 < length l.octets + 4096;
  steps : l.steps.items ≡ l.fn.steps.items ++ map (said_by l.peer) (map (slice_chunk l.octets 4096) (range_with_len 0 (length l.yielded)));
}
