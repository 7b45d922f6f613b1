-- The segment over whole numbers that a segment of 32-bit numbers stands for.
use Rattle.std.specs.Prelude.{ℕ}
use Rattle.tcp_seq.specs.Numbers.{offset_from}
use Rattle.tcp_seq.specs.Endpoint.{PlacedSegment}
use Rattle.tcp_seq.specs.declared.segment.Segment.{Segment}

-- Its offsets are counted from the numbers of the first bytes: of the stream that its bytes are of, and of the other stream, which it acknowledges.
abbrev pub placed : (seq_first ack_first : ℕ) → Segment → PlacedSegment
placed seq_first ack_first g = record { offset = offset_from g.seq.0 seq_first; bytes = g.bytes; ack = offset_from g.ack.0 ack_first }
