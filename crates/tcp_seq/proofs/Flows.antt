-- What flows between two endpoints, whatever one of them does.
use Rattle.std.proofs.Common.{◌≡◌, ℕ, ◌+◌, ◌-◌, ◌^◌, ◌<◌, ◌≤◌, max, List, ◌++◌, length, take, drop, get_or, refl}
use Rattle.std.proofs.Common.{sym, ap, subst, ◌∙◌, arith, ◌⊎◌, inl, inr, length-append, Option, None, Some}
use Rattle.std.specs.Prelude.{Bool, true, false, nat_lt, nat_le, ◌&&◌, ◌||◌, if◌then◌else◌}
use Rattle.std.specs.Option.{option_or}
use Rattle.std.specs.List.{slice_get}
use Rattle.std.specs.Ordering.{nat_cmp}
use Rattle.std.specs.FinMap as map
use Rattle.std.proofs.lemmas.Bool.{cases_lt}
use Rattle.std.proofs.lemmas.List.{length-drop, length-take, drop-append-le, take-append-le}
use Rattle.std.proofs.lemmas.Option.{slice_get-get_or, slice_get_within}
use Rattle.tcp_seq.specs.Endpoint.{Bytes, Endpoint, PlacedSegment, fresh_endpoint, bytes_in_order, received, received_bytes, byte_from}
use Rattle.tcp_seq.specs.Endpoint.{byte_brought, SendsBytes, EmitsSlice, EmitsEmpty, ReadsBytes, TakesSegment, IsInStreams}
use Rattle.tcp_seq.specs.Connection.{IsEmittedBy, Flows, AreLinked, StaysLinked}
use Rattle.tcp_seq.proofs.Lookups.{get-append_left, get-drop, get-take}
use Rattle.tcp_seq.proofs.ByteFrom.{byte_below, byte_there}
use Rattle.tcp_seq.proofs.Received.{byte_in_order, first_bytes}
use Rattle.tcp_seq.proofs.Arriving.{received_stays}

-- a byte stands where the stream has it, below what was emitted
abbrev Stands : Endpoint → ℕ → ℕ → Type 0
Stands from offset byte = (offset < from.emitted) × (slice_get from.stream offset ≡ Some byte)

-- what flows, but for what follows from the rest
record Carries (from to : Endpoint) : Type 0 where
  acked : from.acked ≤ received to
  emitted : from.emitted ≤ length from.stream
  stream : length from.stream ≤ 2 ^ 20
  flight : from.emitted ≤ from.acked + 15360
  read : to.read ≤ received to
  arrived : (offset byte : ℕ) → map.get to.arrived offset ≡ Some byte → Stands from offset byte

carries_flows : (from to : Endpoint) → Flows from to → Carries from to
carries_flows from to f = record { acked = f.acked; emitted = f.emitted; stream = f.stream; flight = f.flight; read = f.read; arrived = f.arrived }

-- the received bytes are the stream's
received_stands : (from to : Endpoint) → Carries from to → (k : ℕ) → k < received to → Stands from k (get_or (received_bytes to) k 0)
received_stands from to c k below =
    c.arrived k (get_or (received_bytes to) k 0) (sym (byte_in_order to.arrived k below) ∙ slice_get-get_or (received_bytes to) k 0 below)

flows : (from to : Endpoint) → Carries from to → Flows from to
flows from to c =
    let within : received to ≤ from.emitted = elim (cases_lt from.emitted (received to)) [
      | inl past ↦ absurd (omega (arith, (received_stands from to c from.emitted past).0))
      | inr le ↦ le
    ] in
    record {
      acked = c.acked;
      within = within;
      emitted = c.emitted;
      stream = c.stream;
      flight = c.flight;
      read = c.read;
      bytes = first_bytes (received_bytes to) from.stream (omega (arith, within, c.emitted))
          (λ k below. slice_get-get_or (received_bytes to) k 0 below ∙ sym (received_stands from to c k below).1);
      arrived = c.arrived;
    }

-- ---- the side that sends

-- a slice of a list that grows
pub slice_grows : (from len : ℕ) (xs more : List ℕ) → from + len ≤ length xs → take len (drop from (xs ++ more)) ≡ take len (drop from xs)
slice_grows from len xs more within =
    ap (take len) (drop-append-le from xs more (omega (arith, within)))
    ∙ take-append-le len (drop from xs) more (omega (arith, within, length-drop from xs))

-- more bytes are sent
from_sends : (from to : Endpoint) (bytes : List ℕ) → Carries from to → length from.stream + length bytes ≤ 2 ^ 20
    → Carries (record from { stream = from.stream ++ bytes }) to
from_sends from to bytes c fits = record {
  acked = c.acked;
  emitted = omega (arith, c.emitted, length-append from.stream bytes);
  stream = omega (arith, fits, length-append from.stream bytes);
  flight = c.flight;
  read = c.read;
  arrived = λ offset byte is. (
    (c.arrived offset byte is).0,
    get-append_left from.stream bytes offset (omega (arith, (c.arrived offset byte is).0, c.emitted)) ∙ (c.arrived offset byte is).1,
  );
}

still_sends : (e : Endpoint) (bytes : List ℕ) (p : PlacedSegment) → e.emitted ≤ length e.stream → IsEmittedBy e p
    → IsEmittedBy (record e { stream = e.stream ++ bytes }) p
still_sends e bytes p within is = record {
  within = is.within;
  short = is.short;
  bytes = is.bytes ∙ sym (slice_grows p.offset (length p.bytes) e.stream bytes (omega (arith, is.within, within)));
  ack = is.ack;
}

-- more is emitted, and an answer is owed or not
from_emits : (from to : Endpoint) (emitted : ℕ) (owed : Bool) → Carries from to → from.emitted ≤ emitted → emitted ≤ length from.stream
    → emitted ≤ from.acked + 15360
    → Carries (record from { emitted = emitted; owed = owed }) to
from_emits from to emitted owed c more within flight = record {
  acked = c.acked;
  emitted = within;
  stream = c.stream;
  flight = flight;
  read = c.read;
  arrived = λ offset byte there. (omega (arith, (c.arrived offset byte there).0, more), (c.arrived offset byte there).1);
}

still_emits : (e : Endpoint) (emitted : ℕ) (owed : Bool) (p : PlacedSegment) → e.emitted ≤ emitted → IsEmittedBy e p
    → IsEmittedBy (record e { emitted = emitted; owed = owed }) p
still_emits e emitted owed p more is = record { within = omega (arith, is.within, more); short = is.short; bytes = is.bytes; ack = is.ack }

-- bytes are read, and an answer is owed or not
from_reads : (from to : Endpoint) (read : ℕ) (owed : Bool) → Carries from to → Carries (record from { read = read; owed = owed }) to
from_reads from to read owed c = record { acked = c.acked; emitted = c.emitted; stream = c.stream; flight = c.flight; read = c.read; arrived = c.arrived }

still_reads : (e : Endpoint) (read : ℕ) (owed : Bool) (p : PlacedSegment) → IsEmittedBy e p → IsEmittedBy (record e { read = read; owed = owed }) p
still_reads e read owed p is = record { within = is.within; short = is.short; bytes = is.bytes; ack = is.ack }

-- an acknowledgement is taken, and bytes of the other stream
from_acked : (from to : Endpoint) (ack : ℕ) (arrived : Bytes) (owed : Bool) → Carries from to → ack ≤ received to
    → Carries (record from { acked = max from.acked ack; arrived = arrived; owed = owed }) to
from_acked from to ack arrived owed c within = record {
  acked = omega (arith, c.acked, within);
  emitted = c.emitted;
  stream = c.stream;
  flight = omega (arith, c.flight);
  read = c.read;
  arrived = c.arrived;
}

still_acked : (e : Endpoint) (acked : ℕ) (arrived : Bytes) (owed : Bool) (p : PlacedSegment) → received e ≤ length (bytes_in_order arrived) → IsEmittedBy e p
    → IsEmittedBy (record e { acked = acked; arrived = arrived; owed = owed }) p
still_acked e acked arrived owed p grows is = record { within = is.within; short = is.short; bytes = is.bytes; ack = omega (arith, is.ack, grows) }

-- ---- the side that receives

-- nothing arrives
to_same : (from to e : Endpoint) → Carries from to → e.arrived ≡ to.arrived → e.read ≤ received to → Carries from e
to_same from to e c same read =
    let n : received e ≡ received to = ap (λ (m : Bytes). length (bytes_in_order m)) same in
    record {
      acked = omega (arith, c.acked, n);
      emitted = c.emitted;
      stream = c.stream;
      flight = c.flight;
      read = omega (arith, read, n);
      arrived = λ offset byte there. c.arrived offset byte (ap (λ (m : Bytes). map.get m offset) (sym same) ∙ there);
    }

-- bytes arrive
to_arrived : (from to e : Endpoint) → Carries from to → ((offset byte : ℕ) → map.get e.arrived offset ≡ Some byte → Stands from offset byte)
    → received to ≤ received e → e.read ≡ to.read → Carries from e
to_arrived from to e c stands grows same = record {
  acked = omega (arith, c.acked, grows);
  emitted = c.emitted;
  stream = c.stream;
  flight = c.flight;
  read = omega (arith, c.read, grows, same);
  arrived = stands;
}

-- the byte that a segment brings is the stream's
slice_stands : (from : Endpoint) (p : PlacedSegment) (k byte : ℕ) → IsEmittedBy from p → byte_from p.offset p.bytes k ≡ Some byte → Stands from k byte
slice_stands from p k byte is there = elim (cases_lt k p.offset) [
  | inl below ↦ let e : Some byte ≡ None = sym there ∙ byte_below p.offset p.bytes k below in cc
  | inr above ↦
      let here : slice_get p.bytes (k - p.offset) ≡ Some byte = sym (byte_there p.offset p.bytes k above) ∙ there in
      let inside : k - p.offset < length p.bytes = slice_get_within p.bytes (k - p.offset) byte here in (
        omega (arith, inside, above, is.within),
        sym (get-drop p.offset from.stream (k - p.offset) k (omega (arith, above)))
            ∙ sym (get-take (length p.bytes) (drop p.offset from.stream) (k - p.offset) inside)
            ∙ ap (λ (xs : List ℕ). slice_get xs (k - p.offset)) (sym is.bytes) ∙ here,
      )
]

brought_stands : (b : Bool) (from : Endpoint) (p : PlacedSegment) (k byte : ℕ) → IsEmittedBy from p
    → (if b then byte_from p.offset p.bytes k else None) ≡ Some byte → Stands from k byte
brought_stands true from p k byte is there = slice_stands from p k byte is there
brought_stands false from p k byte is there = cc

either_stands : (old new : Option ℕ) (from : Endpoint) (k byte : ℕ) → (old ≡ Some byte → Stands from k byte) → (new ≡ Some byte → Stands from k byte)
    → option_or old new ≡ Some byte → Stands from k byte
either_stands None new from k byte first second there = second there
either_stands (Some x) new from k byte first second there = first there

-- ---- both ways

linked : (x y : Endpoint) → Carries x y → Carries y x → AreLinked x y
linked x y there back = record { there = flows x y there; back = flows y x back }

pub turned : (x y : Endpoint) → AreLinked x y → AreLinked y x
turned x y is = record { there = is.back; back = is.there }

-- an endpoint by its fields
stays_as : (x after e y : Endpoint) → after ≡ e → StaysLinked x e y → StaysLinked x after y
stays_as x after e y is stays = subst (λ (a : Endpoint). StaysLinked x a y) (sym is) stays

pub sends_linked : (x after y : Endpoint) (bytes : List ℕ) → AreLinked x y → SendsBytes x bytes after → StaysLinked x after y
sends_linked x after y bytes is sends =
    let e : Endpoint = record x { stream = x.stream ++ bytes } in
    stays_as x after e y sends.sent (record {
      linked = linked e y (from_sends x y bytes (carries_flows x y is.there) sends.fits) (to_same y x e (carries_flows y x is.back) refl is.back.read);
      still = λ p emitted. still_sends x bytes p is.there.emitted emitted;
    })

emitted_on : (x y : Endpoint) (emitted : ℕ) (owed : Bool) → AreLinked x y → x.emitted ≤ emitted → emitted ≤ length x.stream → emitted ≤ x.acked + 15360
    → StaysLinked x (record x { emitted = emitted; owed = owed }) y
emitted_on x y emitted owed is more within flight =
    let e : Endpoint = record x { emitted = emitted; owed = owed } in
    record {
      linked = linked e y (from_emits x y emitted owed (carries_flows x y is.there) more within flight)
          (to_same y x e (carries_flows y x is.back) refl is.back.read);
      still = λ p old. still_emits x emitted owed p more old;
    }

slice_emitted : (e : Endpoint) (p : PlacedSegment) (after : Endpoint) → EmitsSlice e p after
    → IsEmittedBy (record e { emitted = max e.emitted (p.offset + length p.bytes); owed = e.owed }) p
slice_emitted e p after emits = record {
  within = omega arith;
  short = emits.short;
  bytes = ap (λ (q : PlacedSegment). q.bytes) emits.slice;
  ack = omega (arith, ap (λ (q : PlacedSegment). q.ack) emits.slice);
}

empty_emitted : (e : Endpoint) (p : PlacedSegment) (after : Endpoint) → EmitsEmpty e p after → IsEmittedBy (record e { emitted = e.emitted; owed = false }) p
empty_emitted e p after empty =
    let none : length p.bytes ≡ 0 = ap (λ (q : PlacedSegment). length q.bytes) empty.empty in
    let at : p.offset ≡ e.emitted = ap (λ (q : PlacedSegment). q.offset) empty.empty in
    record {
      within = omega (arith, none, at);
      short = omega (arith, none);
      bytes = ap (λ (q : PlacedSegment). q.bytes) empty.empty ∙ sym (ap (λ (n : ℕ). take n (drop p.offset e.stream)) none);
      ack = omega (arith, ap (λ (q : PlacedSegment). q.ack) empty.empty);
    }

pub emits_linked : (x after y : Endpoint) (p : PlacedSegment) → AreLinked x y → EmitsSlice x p after ⊎ EmitsEmpty x p after
    → StaysLinked x after y × IsEmittedBy after p
emits_linked x after y p is (inl emits) = (
  stays_as x after _ y emits.rises
      (emitted_on x y (max x.emitted (p.offset + length p.bytes)) x.owed is (omega arith)
      (omega (arith, is.there.emitted, emits.within)) (omega (arith, is.there.flight, emits.flight))),
  subst (λ (a : Endpoint). IsEmittedBy a p) (sym emits.rises) (slice_emitted x p after emits),
)
emits_linked x after y p is (inr empty) = (
  stays_as x after _ y empty.given (emitted_on x y x.emitted false is (omega arith) is.there.emitted is.there.flight),
  subst (λ (a : Endpoint). IsEmittedBy a p) (sym empty.given) (empty_emitted x p after empty),
)

read_on : (x y : Endpoint) (read : ℕ) (owed : Bool) → AreLinked x y → read ≤ received x → StaysLinked x (record x { read = read; owed = owed }) y
read_on x y read owed is within =
    let e : Endpoint = record x { read = read; owed = owed } in
    record {
      linked = linked e y (from_reads x y read owed (carries_flows x y is.there)) (to_same y x e (carries_flows y x is.back) refl within);
      still = λ p old. still_reads x read owed p old;
    }

pub reads_linked : (x after y : Endpoint) (n : ℕ) → AreLinked x y → ReadsBytes x n after → StaysLinked x after y
reads_linked x after y n is reads = stays_as x after _ y reads.read (read_on x y (x.read + n) x.owed is reads.there)

pub takes_linked : (x after y : Endpoint) (p : PlacedSegment) → AreLinked x y → IsEmittedBy y p → TakesSegment x p after → StaysLinked x after y
takes_linked x after y p is emitted (inl drops) = stays_as x after _ y drops.stays (read_on x y x.read true is is.back.read)
takes_linked x after y p is emitted (inr accepts) =
    let front : received_bytes x ≡ take (received x) (received_bytes after) = received_stays x after p (inr accepts) in
    let grows : received x ≤ received after = omega (arith, ap (λ (xs : List ℕ). length xs) front, length-take (received x) (received_bytes after)) in
    let owed : Bool = x.owed || nat_lt 0 (length p.bytes) in
    let e : Endpoint = record x { acked = max x.acked p.ack; arrived = after.arrived; owed = owed } in
    stays_as x after e y accepts.changed (record {
      linked = linked e y (from_acked x y p.ack after.arrived owed (carries_flows x y is.there) emitted.ack)
          (to_arrived y x e (carries_flows y x is.back)
          (λ offset byte there. either_stands (map.get x.arrived offset) (byte_brought x p offset) y offset byte
          (is.back.arrived offset byte)
          (λ new. brought_stands (nat_le (received x) offset && nat_lt offset (received x + 16384)) y p offset byte emitted new)
          (sym (accepts.arrived offset) ∙ there))
          grows refl);
      still = λ q old. still_acked x (max x.acked p.ack) after.arrived owed q grows old;
    })

-- nothing was sent
nothing_arrived : (offset byte : ℕ) → map.get fresh_endpoint.arrived offset ≡ Some byte → ⊥
nothing_arrived offset byte is = let none : None ≡ Some byte = sym (map.get-empty nat_cmp offset) ∙ is in cc

nothing_flows : Flows fresh_endpoint fresh_endpoint
nothing_flows = flows fresh_endpoint fresh_endpoint (record {
  acked = omega arith;
  emitted = omega arith;
  stream = omega arith;
  flight = omega arith;
  read = omega arith;
  arrived = λ offset byte is. absurd (nothing_arrived offset byte is);
})

pub fresh_linked : AreLinked fresh_endpoint fresh_endpoint
fresh_linked = record { there = nothing_flows; back = nothing_flows }

pub emitted_in_streams : (x y : Endpoint) (p : PlacedSegment) → AreLinked x y → IsEmittedBy x p → IsInStreams p
emitted_in_streams x y p is emitted = record {
  end = omega (arith, emitted.within, is.there.emitted, is.there.stream);
  ack = omega (arith, emitted.ack, is.back.within, is.back.emitted, is.back.stream);
}
