-- What endpoint an end stands for after bytes were sent and read.
use Rattle.std.proofs.Common.{◌≡◌, ℕ, ◌+◌, ◌-◌, ◌^◌, ◌≤◌, List, ◌++◌, length, length-append, drop, refl, sym, ap, ◌∙◌, subst, append_assoc, arith}
use Rattle.std.proofs.Math.Seq.{drop-append_seam}
use Rattle.tcp_seq.specs.Numbers.{plus}
use Rattle.tcp_seq.specs.Endpoint.{Bytes, ReadsBytes, SendsBytes}
use Rattle.tcp_seq.specs.declared.state.EndState.{EndState}
use Rattle.tcp_end.specs.State.{got, stream_length, unsent}
use Rattle.tcp_end.specs.Standing.{EndStands, Becomes}
use Rattle.tcp_end.specs.Whole.{arrived_of, endpoint_of}
use Rattle.tcp_end.proofs.Steps.{sends, reads_by}
use Rattle.session_value.specs.Cases.{having_read}

-- bytes at the end of the waiting ones
abbrev pub with_sent : EndState → List ℕ → EndState
with_sent s bytes = record s { waiting = s.waiting ++ bytes }

-- the first ready bytes are read
abbrev pub with_read : EndState → ℕ → EndState
with_read s n = record s { taken = plus s.taken n; ready = drop n s.ready }

pub sent_stands : (s : EndState) (put got bytes : List ℕ) → EndStands s (endpoint_of put got s) → stream_length s + length bytes ≤ 2 ^ 20
    → EndStands (with_sent s bytes) (endpoint_of (put ++ bytes) got (with_sent s bytes))
sent_stands s put got bytes stands fits =
    let b : Becomes (λ e e'. SendsBytes e bytes e') (endpoint_of put got s) (with_sent s bytes) =
    sends s (with_sent s bytes) bytes fits refl (endpoint_of put got s) stands in
    subst (EndStands (with_sent s bytes)) b.step.sent b.stands

module _ (s : EndState) (put got' bytes rest : List ℕ) (stands : EndStands s (endpoint_of put got' s)) (front : s.ready ≡ bytes ++ rest) where
  taken_is : plus s.taken (length bytes) ≡ s.taken + length bytes
  taken_is =
      let few = stands.sound.received in
      let n : length s.ready ≡ length bytes + length rest = ap (λ (xs : List ℕ). length xs) front ∙ length-append bytes rest in
      omega (arith, few, n)

  bytes_are : (got' ++ bytes) ++ drop (length bytes) s.ready ≡ got' ++ s.ready
  bytes_are =
      append_assoc got' bytes (drop (length bytes) s.ready)
      ∙ ap (λ (xs : List ℕ). got' ++ (bytes ++ xs)) (ap (drop (length bytes)) front ∙ drop-append_seam bytes rest)
      ∙ ap (λ (xs : List ℕ). got' ++ xs) (sym front)

  pub read_is : endpoint_of put (got' ++ bytes) (with_read s (length bytes)) ≡ having_read (length bytes) (endpoint_of put got' s)
  read_is =
      ap (λ (m : Bytes). record (endpoint_of put got' s) { arrived = m; read = plus s.taken (length bytes) })
      (ap (λ (xs : List ℕ). arrived_of xs s.ahead) bytes_are)
      ∙ ap (λ (n : ℕ). record (endpoint_of put got' s) { read = n }) taken_is

  pub read_stands : EndStands (with_read s (length bytes)) (endpoint_of put (got' ++ bytes) (with_read s (length bytes)))
  read_stands =
      let within : length bytes ≤ length s.ready = omega (arith, ap (λ (xs : List ℕ). length xs) front, length-append bytes rest) in
      let b : Becomes (λ e e'. ReadsBytes e (length bytes) e') (endpoint_of put got' s) (with_read s (length bytes)) =
      (reads_by s (with_read s (length bytes)) (length bytes) within refl).becomes (endpoint_of put got' s) stands in
      subst (EndStands (with_read s (length bytes))) (b.step.read ∙ sym read_is) b.stands

-- bytes that were just sent can be taken back, and then the end is as before
pub all_unsent : (s after : EndState) (bytes : List ℕ) → s.sent ≤ stream_length s → after ≡ with_sent s bytes → length bytes ≤ unsent after
all_unsent s after bytes within is =
    subst (λ (x : EndState). length bytes ≤ unsent x) (sym is) (let n = length-append s.waiting bytes in omega (arith, n, within))
