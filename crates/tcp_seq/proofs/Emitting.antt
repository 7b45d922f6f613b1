-- The slices that a call emits may be emitted.
use Rattle.std.proofs.Common.{◌≡◌, ℕ, ◌+◌, ◌≤◌, List, length, take, drop, max, sym, ap, ◌∙◌, arith}
use Rattle.std.proofs.lemmas.List.{length-drop, length-take}
use Rattle.tcp_seq.specs.Endpoint.{Endpoint, PlacedSegment, slice_at, next_length, again_length, EmitsNext, EmitsAgain, EmitsSlice}

slice_length : (stream : List ℕ) (offset n : ℕ) → offset + n ≤ length stream → length (take n (drop offset stream)) ≡ n
slice_length stream offset n within = omega (arith, within, length-take n (drop offset stream), length-drop offset stream)

-- a slice by its own offset and length
itself : (e : Endpoint) (p : PlacedSegment) (offset n : ℕ) → p.offset ≡ offset → length p.bytes ≡ n → p ≡ slice_at e offset n
    → p ≡ slice_at e p.offset (length p.bytes)
itself e p offset n at len is = is ∙ sym (ap (λ (m : ℕ). slice_at e m n) at) ∙ sym (ap (slice_at e p.offset) len)

pub next_is_slice : (before after : Endpoint) (p : PlacedSegment) → before.acked ≤ before.emitted → EmitsNext before p after → EmitsSlice before p after
next_is_slice before after p acked next =
    let n = next_length before in
    let within : before.emitted + n ≤ length before.stream = omega (arith, next.some) in
    let at : p.offset ≡ before.emitted = ap (λ (q : PlacedSegment). q.offset) next.slice in
    let len : length p.bytes ≡ n = ap (λ (q : PlacedSegment). length q.bytes) next.slice ∙ slice_length before.stream before.emitted n within in
    record {
      from = omega (arith, at, acked);
      to = omega (arith, at);
      some = omega (arith, len, next.some);
      short = omega (arith, len);
      within = omega (arith, at, len, within);
      flight = omega (arith, at, len, next.some);
      slice = itself before p before.emitted n at len next.slice;
      rises = next.rises
          ∙ ap (λ (m : ℕ). let e : Endpoint = record before { emitted = m } in e)
          (let e : before.emitted + n ≡ max before.emitted (p.offset + length p.bytes) = omega (arith, at, len) in e);
    }

pub again_is_slice : (before after : Endpoint) (p : PlacedSegment) → before.emitted ≤ length before.stream → before.emitted ≤ before.acked + 15360
    → EmitsAgain before p after → EmitsSlice before p after
again_is_slice before after p emitted flight again =
    let n = again_length before in
    let within : before.acked + n ≤ before.emitted = omega (arith, again.some) in
    let at : p.offset ≡ before.acked = ap (λ (q : PlacedSegment). q.offset) again.slice in
    let len : length p.bytes ≡ n =
    ap (λ (q : PlacedSegment). length q.bytes) again.slice ∙ slice_length before.stream before.acked n (omega (arith, within, emitted)) in
    record {
      from = omega (arith, at);
      to = omega (arith, at, within);
      some = omega (arith, len, again.some);
      short = omega (arith, len);
      within = omega (arith, at, len, within, emitted);
      flight = omega (arith, at, len, within, flight);
      slice = itself before p before.acked n at len again.slice;
      rises = again.stays
          ∙ ap (λ (m : ℕ). let e : Endpoint = record before { emitted = m } in e)
          (let e : before.emitted ≡ max before.emitted (p.offset + length p.bytes) = omega (arith, at, len, within) in e);
    }
