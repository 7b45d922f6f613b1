-- What kind of segment arrives, and what it changes (RFC 9293, sections 3.4 and 3.10.7.4).
use Rattle.std.specs.Prelude.{ℕ, ◌≡◌, ◌⊎◌, ◌<◌, ◌+◌, ◌-◌, ◌^◌, ◌%◌, ◌||◌, nat_lt, nat_le, if◌then◌else◌, true, length, drop}
use Rattle.tcp_seq.specs.Numbers.{offset_from}
use Rattle.tcp_seq.specs.Rules.{Acceptable, IsAck}
use Rattle.tcp_seq.specs.declared.rules.AckKind.{AckKind}
use Rattle.tcp_seq.specs.declared.rules.AckKind.TheVariants.{New, Beyond}
use Rattle.tcp_seq.specs.declared.segment.Segment.{Segment}
use Rattle.tcp_seq.specs.declared.state.EndState.{EndState}
use Rattle.tcp_reasm.specs.Reassembly.{Reassembly}
use Rattle.tcp_end.specs.Receiving.{BringsByte, Receives}
use Rattle.tcp_end.specs.State.{got, own_number, expected, counted_from}
use Rattle.tcp_end.specs.declared.arrival.Arrival.{Arrival}
use Rattle.tcp_end.specs.declared.arrival.Arrival.TheVariants.{Outside, Ahead, Duplicate, Accepted}

-- the pieces ahead of a hole, with their offsets counted from the one expected next
abbrev pub ahead_of : EndState → Reassembly
ahead_of s = record { next = expected s; pieces = counted_from (got s % 2 ^ 32) s.ahead }

-- a segment is acceptable to the side that it arrives at
abbrev pub IsAcceptableTo : EndState → Segment → Type 0
IsAcceptableTo s g = Acceptable (expected s) 16384 g.seq.0 (length g.bytes)

-- what the acknowledgement of a segment says to the side that it arrives at
abbrev pub SaysAck : AckKind → EndState → Segment → Type 0
SaysAck kind s g = IsAck kind (own_number s s.acked) (own_number s s.sent) g.ack.0

-- a segment brings a byte for an offset of the window that has none
abbrev pub BringsNewByte : EndState → Segment → Type 0
BringsNewByte s g = BringsByte (ahead_of s) g.seq.0 g.bytes

-- what kind of segment arrives
abbrev pub IsArrival : Arrival → EndState → Segment → Type 0
IsArrival Outside s g = ¬ IsAcceptableTo s g
IsArrival (Ahead ack) s g = IsAcceptableTo s g × SaysAck Beyond s g × (ack ≡ g.ack)
IsArrival Duplicate s g = IsAcceptableTo s g × (¬ SaysAck Beyond s g) × (¬ SaysAck New s g) × (¬ BringsNewByte s g)
IsArrival Accepted s g = IsAcceptableTo s g × (¬ SaysAck Beyond s g) × (SaysAck New s g ⊎ BringsNewByte s g)

-- how many outstanding bytes a segment newly acknowledges
abbrev pub newly_acked : EndState → Segment → ℕ
newly_acked s g =
    let ahead = offset_from g.ack.0 (own_number s s.acked) in if nat_le ahead (s.sent - s.acked) then ahead else 0

-- A segment that newly acknowledges this many outstanding bytes is accepted: its bytes are received, the bytes that it acknowledges are removed, and
-- an answer is owed if it has bytes.
pub record TakesByNumbers (before : EndState) (g : Segment) (acked : ℕ) (after : EndState) : Type 0 where
  pub received : Receives (ahead_of before) (ahead_of after) before.ready after.ready g.seq.0 g.bytes
  pub changed : after ≡ record before {
    acked = before.acked + acked;
    waiting = drop acked before.waiting;
    ready = after.ready;
    ahead = after.ahead;
    owed = before.owed || nat_lt 0 (length g.bytes);
  }

-- what an arriving segment changes: unless it is accepted, only that an answer is owed
abbrev pub ChangesByArrival : Arrival → EndState → Segment → EndState → Type 0
ChangesByArrival Outside before g after = after ≡ record before { owed = true }
ChangesByArrival (Ahead ack) before g after = after ≡ record before { owed = true }
ChangesByArrival Duplicate before g after = after ≡ record before { owed = before.owed || nat_lt 0 (length g.bytes) }
ChangesByArrival Accepted before g after = TakesByNumbers before g (newly_acked before g) after

-- an accepted segment, with the number of bytes that it newly acknowledges
abbrev pub TakenIn : Arrival → EndState → Segment → ℕ → EndState → Type 0
TakenIn Outside before g acked after = ⊥
TakenIn (Ahead ack) before g acked after = ⊥
TakenIn Duplicate before g acked after = (acked ≡ 0) × (¬ BringsNewByte before g) × ChangesByArrival Duplicate before g after
TakenIn Accepted before g acked after = ((0 < acked) ⊎ BringsNewByte before g) × TakesByNumbers before g acked after
