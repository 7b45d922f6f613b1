-- Acceptable segments and acknowledgements, by numbers and by offsets of a stream (RFC 9293, sections 3.4
-- and 3.10.7.4).
use Rattle.std.specs.Prelude.{ℕ, ◌≡◌, ◌⊎◌, ◌<◌, ◌≤◌, ◌+◌, ◌-◌, ◌^◌}
use Rattle.tcp_seq.specs.declared.rules.AckKind.{AckKind}
use Rattle.tcp_seq.specs.declared.rules.AckKind.TheVariants.{New, Old, Beyond}
use Rattle.tcp_seq.specs.Numbers.{plus, offset_from}

-- a number in the window that begins at the number expected next
abbrev pub IsInWindow : ℕ → ℕ → ℕ → Type 0
IsInWindow next window seq = offset_from seq next < window

-- A segment of `len` bytes at `seq` is acceptable in three of the four cases:
-- without bytes and at a closed window, if it is at the number expected next
-- without bytes and at an open window, if it is in the window
-- with bytes and at a closed window, never
-- with bytes and at an open window, if its first or its last byte is in the window
abbrev pub Acceptable : ℕ → ℕ → ℕ → ℕ → Type 0
Acceptable next window seq len =
    ((len ≡ 0) × (window ≡ 0) × (seq ≡ next))
    ⊎ ((len ≡ 0) × (0 < window) × IsInWindow next window seq)
    ⊎ ((0 < len) × (0 < window) × (IsInWindow next window seq ⊎ IsInWindow next window (plus seq (len - 1))))

-- What an acknowledgement says to a sender whose oldest unacknowledged number is `una` and whose next number is `nxt`. A number with an offset of
-- 2^31 or more counts as older; this bound is the project's own.
abbrev pub IsAck : AckKind → ℕ → ℕ → ℕ → Type 0
IsAck New una nxt ack = (0 < offset_from ack una) × (offset_from ack una ≤ offset_from nxt una)
IsAck Old una nxt ack = (offset_from ack una ≡ 0) ⊎ (2 ^ 31 ≤ offset_from ack una)
IsAck Beyond una nxt ack = (offset_from nxt una < offset_from ack una) × (offset_from ack una < 2 ^ 31)

-- The same without any modulus, on offsets of a stream

-- an offset in the window that begins at the offset expected next
abbrev pub IsOffsetInWindow : ℕ → ℕ → ℕ → Type 0
IsOffsetInWindow next window offset = (next ≤ offset) × (offset < next + window)

abbrev pub AcceptableOffset : ℕ → ℕ → ℕ → ℕ → Type 0
AcceptableOffset next window offset len =
    ((len ≡ 0) × (window ≡ 0) × (offset ≡ next))
    ⊎ ((len ≡ 0) × (0 < window) × IsOffsetInWindow next window offset)
    ⊎ ((0 < len) × (0 < window) × (IsOffsetInWindow next window offset ⊎ IsOffsetInWindow next window (offset + len - 1)))

abbrev pub IsOffsetAck : AckKind → ℕ → ℕ → ℕ → Type 0
IsOffsetAck New acked emitted ack = (acked < ack) × (ack ≤ emitted)
IsOffsetAck Old acked emitted ack = ack ≤ acked
IsOffsetAck Beyond acked emitted ack = emitted < ack

-- an offset of a stream of at most 1 MiB, or one in a window at its end
abbrev pub IsInStream : ℕ → Type 0
IsInStream offset = offset ≤ 2 ^ 20 + 2 ^ 16
