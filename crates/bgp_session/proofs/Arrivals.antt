-- What an arriving segment is to the endpoint that an end stands for.
use Rattle.std.proofs.Common.{◌≡◌, ℕ, ◌+◌, ◌%◌, ◌^◌, ◌<◌, ◌≤◌, length, Option, Some, None, sym, ap, ◌∙◌, subst, arith, inl, inr}
use Rattle.std.specs.Prelude.{IsSome}
use Rattle.std.specs.Option.{option_or}
use Rattle.std.proofs.lemmas.Bool.{cases_lt}
use Rattle.tcp_seq.specs.Numbers.{number}
use Rattle.tcp_seq.specs.Rules.{IsAck}
use Rattle.tcp_seq.specs.Endpoint.{Endpoint, PlacedSegment, IsInStreams, byte_brought, received}
use Rattle.tcp_seq.specs.declared.rules.AckKind.TheVariants.{New, Beyond}
use Rattle.tcp_seq.specs.declared.segment.Segment.{Segment}
use Rattle.tcp_seq.specs.declared.state.EndState.{EndState}
use Rattle.tcp_seq.proofs.Received.{some_none}
use Rattle.tcp_reasm.specs.Reassembly.{brought, byte_ahead}
use Rattle.tcp_reasm.specs.Runs.{held}
use Rattle.tcp_end.specs.Arriving.{BringsNewByte, IsArrival, SaysAck, ahead_of}
use Rattle.tcp_end.specs.State.{counted_from, expected, got, own_number}
use Rattle.tcp_end.specs.Standing.{EndStands, Numbered}
use Rattle.tcp_end.specs.declared.arrival.Arrival.{Arrival}
use Rattle.tcp_end.specs.declared.arrival.Arrival.TheVariants.{Outside, Ahead, Duplicate, Accepted}
use Rattle.tcp_end.proofs.Arrives.{acceptable_for, acceptable_to, beyond_for, beyond_to, brought_is, brought_to, byte_then_is, nothing_new, within_sent}
use Rattle.tcp_end.proofs.Offsets.{ahead_offset, behind_offset, held_from, new_offset}
use Rattle.tcp_end.proofs.Steps.{received_is}
use Rattle.bgp_session.specs.Steps.{ArrivesAs, BringsTo}

-- an acknowledgement that is new by numbers is above what was acknowledged
new_ack : (f acked emitted ack : ℕ) → acked ≤ emitted → emitted < 2 ^ 30 → ack < 2 ^ 30
    → IsAck New (number f acked) (number f emitted) (number f ack) → acked < ack
new_ack f acked emitted ack le small fits is = elim (cases_lt acked ack) [
  | inl above ↦ above
  | inr not ↦ elim (cases_lt ack acked) [
    | inl below ↦ absurd (omega
        (arith, behind_offset f acked ack below (omega (arith, le, small)), ahead_offset f acked emitted le (omega (arith, small)), is.1, le, small, below))
    | inr same ↦ absurd (omega (arith, ahead_offset f acked ack same (omega (arith, fits)), is.0, not))
  ]
]

some_or : (o more then' : Option ℕ) → o ≡ None → option_or o more ≡ option_or o then' → IsSome more → IsSome then'
some_or None more then' e same some = subst (λ (x : Option ℕ). IsSome x) same some
some_or (Some x) more then' e same some = absurd cc

module _ (s : EndState) (e : Endpoint) (g : Segment) (p : PlacedSegment) (stands : EndStands s e)
    (numbered : Numbered s.receive_first.0 s.send_first.0 g p) (streams : IsInStreams p) (short : length g.bytes < 2 ^ 16) where
  old_ack : ¬ SaysAck New s g → ¬ SaysAck Beyond s g → p.ack ≤ e.acked
  old_ack old within =
      let le : p.ack ≤ s.acked = new_offset s.send_first.0 s.acked s.sent p.ack stands.sound.sending.acked
      (omega (arith, stands.sound.sending.emitted, stands.sound.sending.stream)) (omega (arith, streams.ack))
      (within_sent s e g p stands numbered streams within)
      (λ new. old (subst (λ (m : ℕ). IsAck New (own_number s s.acked) (own_number s s.sent) m) (sym numbered.ack) new)) in
      omega (arith, le, stands.acked)

  above_acked : SaysAck New s g → e.acked < p.ack
  above_acked new =
      let lt : s.acked < p.ack = new_ack s.send_first.0 s.acked s.sent p.ack stands.sound.sending.acked
      (omega (arith, stands.sound.sending.emitted, stands.sound.sending.stream)) (omega (arith, streams.ack))
      (subst (λ (m : ℕ). IsAck New (own_number s s.acked) (own_number s s.sent) m) numbered.ack new) in
      omega (arith, lt, stands.acked)

  brings_none : ¬ BringsNewByte s g → BringsTo e p → ⊥
  brings_none none b = some_none (byte_brought e p b.offset) b.some (nothing_new s e g p b.offset stands numbered streams short none b.empty)

  brings : BringsNewByte s g → BringsTo e p
  brings b =
      let j = b.0 in
      let k = got s + j in
      let all : received e ≡ got s = received_is s e stands in
      let n : length g.bytes ≡ length p.bytes = ap length numbered.bytes in
      let old : byte_ahead (ahead_of s) j ≡ held s.ahead k =
      ap (λ (m : ℕ). held (counted_from m s.ahead) j) (let small : got s % 2 ^ 32 ≡ got s = omega (arith, stands.sound.received) in small)
      ∙ held_from (got s) (got s + 1) (got s + 16384) s.ahead j (omega arith) (omega (arith, stands.sound.received)) stands.sound.ahead in
      let then_is = byte_then_is s g p j stands.sound numbered (omega (arith, streams.end)) (omega (arith, n, short)) in
      record {
        offset = k;
        empty = stands.ahead k (omega (arith, all)) ∙ (sym old ∙ b.1);
        some = subst (λ (o : Option ℕ). IsSome o) (sym (brought_is s e p k all (omega arith)))
            (some_or (held s.ahead k) (brought (expected s) g.seq.0 g.bytes j) (brought_to s p k) (sym old ∙ b.1)
            (ap (λ (o : Option ℕ). option_or o (brought (expected s) g.seq.0 g.bytes j)) (sym old) ∙ then_is) b.2);
      }

  pub arrives_as : (arrival : Arrival) → IsArrival arrival s g → ArrivesAs arrival e p g.ack
  arrives_as Outside is = λ acceptable. is (acceptable_to s e g p stands numbered streams short acceptable)
  arrives_as (Ahead ack) is = (acceptable_for s e g p stands numbered streams short is.0, beyond_for s e g p stands numbered streams is.1, is.2)
  arrives_as Duplicate is = (
    acceptable_for s e g p stands numbered streams short is.0,
    (λ beyond. is.1 (beyond_to s e g p stands numbered streams beyond)),
    old_ack is.2 is.1,
    brings_none is.3,
  )
  arrives_as Accepted is = (
    acceptable_for s e g p stands numbered streams short is.0,
    (λ beyond. is.1 (beyond_to s e g p stands numbered streams beyond)),
    elim is.2 [ inl new ↦ inl (above_acked new) | inr b ↦ inr (brings b) ],
  )
