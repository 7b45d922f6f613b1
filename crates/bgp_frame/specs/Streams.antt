-- A sequence of calls of a framer.
use Rattle.std.specs.Prelude.{◌≡◌, ℕ, ◌≤◌, List, [], ◌∷◌, ◌++◌, length, Option, Some, None}
use Rattle.std.specs.List.{flat_map}
use Rattle.bgp_types.specs.declared.fault.HeaderFault.{HeaderFault}
use Rattle.bgp_types.specs.Header.{header_fault, frame_at}
use Rattle.bgp_types.specs.Many.{many}

-- what was fed so far, the frames that were given, and the bytes held
pub record Stream : Type 0 where
  pub fed : List ℕ
  pub given : List (List ℕ)
  pub held : List ℕ

pub data Call : Type 0 where
  Feed : (bytes : List ℕ) → Call
  Ask : Call

abbrev pub asked : Stream → Option (List ℕ × List ℕ) → Stream
asked s None = s
asked s (Some f) = record { fed = s.fed; given = s.given ++ f.0 ∷ []; held = f.1 }

-- `feed` and `next` as their contracts say
abbrev pub after_call : Stream → Call → Stream
after_call s (Feed bytes) = record { fed = s.fed ++ bytes; given = s.given; held = s.held ++ bytes }
after_call s Ask = asked s (frame_at s.held)

abbrev pub all_called : Stream → List Call → Stream
all_called s [] = s
all_called s (c ∷ calls) = all_called (after_call s c) calls

abbrev pub empty_stream : Stream
empty_stream = record { fed = []; given = []; held = [] }

-- The frames and what is held, joined, are what was fed; and the frames, with those still in what is held, are the frames of what was fed.
pub record IsStream (s : Stream) : Type 0 where
  pub joined : flat_map (λ frame. frame) s.given ++ s.held ≡ s.fed
  pub frames : (s.given ++ (many frame_at s.held).0, (many frame_at s.held).1) ≡ many frame_at s.fed

-- The header at the front has this fault, and the frames are those that were given before.
pub record HasFaultAtFront (fault : HeaderFault) (before s : Stream) : Type 0 where
  pub enough : 19 ≤ length s.held
  pub fault_is : header_fault s.held ≡ Some fault
  pub given : s.given ≡ before.given
