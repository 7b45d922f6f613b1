-- What stands at the front of bytes, and what a framer answers for the bytes that it holds.
use Rattle.std.specs.Prelude.{◌≡◌, ℕ, ◌≤◌, List, length, take, drop, Option, Some, None, Result, Ok, Err, Bool, nat_le, ◌||◌, ◌&&◌, is_some}
use Rattle.bgp_types.specs.declared.fault.HeaderFault.{HeaderFault}
use Rattle.bgp_types.specs.Header.{header_fault, kind_in, frame_at}
use Rattle.bgp_frame.specs.declared.framer.Frame.{Frame}
use Rattle.bgp_frame.specs.declared.front.FrontFrame.{FrontFrame}
use Rattle.bgp_frame.specs.declared.framer.FrameStop.{FrameStop}
use Rattle.bgp_frame.specs.declared.framer.FrameStop.TheVariants as stops

-- The bytes begin with no whole message and no faulty header, with a whole message of this type and length, or with a faulty header.
abbrev pub IsFrontOf : Result (Option FrontFrame) HeaderFault → List ℕ → Type 0
IsFrontOf (Ok None) bytes = (frame_at bytes ≡ None) × (19 ≤ length bytes → header_fault bytes ≡ None)
IsFrontOf (Ok (Some front)) bytes = (frame_at bytes ≡ Some (take front.len bytes, drop front.len bytes))
    × (front.kind ≡ kind_in bytes) × (19 ≤ front.len) × (front.len ≤ length bytes) × (header_fault bytes ≡ None)
IsFrontOf (Err fault) bytes = (19 ≤ length bytes) × (header_fault bytes ≡ Some fault)

-- the bytes begin with a whole message or a faulty header
abbrev pub has_next : List ℕ → Bool
has_next bytes = is_some (frame_at bytes) || (nat_le 19 (length bytes) && is_some (header_fault bytes))

-- None: no whole message and no faulty header. A frame: the message at the front, which is removed. A faulty header: nothing is removed.
abbrev pub Next : Result (Option Frame) FrameStop → List ℕ → List ℕ → Type 0
Next (Ok None) old new = (frame_at old ≡ None) × (19 ≤ length old → header_fault old ≡ None) × (new ≡ old)
Next (Ok (Some f)) old new = (frame_at old ≡ Some (f.bytes, new)) × (f.kind ≡ kind_in old)
Next (Err (stops.Header fault)) old new = (19 ≤ length old) × (header_fault old ≡ Some fault) × (new ≡ old)
Next (Err stops.NoMemory) old new = new ≡ old
