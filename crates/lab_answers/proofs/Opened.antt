-- The OPEN at the front of bytes.
use Rattle.std.proofs.Common.{◌≡◌, ℕ, List, refl, sym, ◌∙◌}
use Rattle.std.specs.Prelude.{Option, Some, None, Result, Ok, Err}
use Rattle.bgp_types.specs.declared.fault.HeaderFault.{HeaderFault}
use Rattle.bgp_types.specs.declared.message.Message.{Message}
use Rattle.bgp_types.specs.declared.message.Notice.{Notice}
use Rattle.bgp_types.specs.Faults.{fault_in}
use Rattle.bgp_types.specs.Header.{header_fault, frame_at}
use Rattle.bgp_types.proofs.FrameLaws.{frame_is}
use Rattle.bgp_story.specs.Legal.{open_in}
use Rattle.lab_setup.proofs.Lists.{none_is}

-- No message stands at the front of bytes with a faulty header.
pub no_front : (bytes : List ℕ) (fault : HeaderFault) → header_fault bytes ≡ Some fault → frame_at bytes ≡ None
no_front bytes fault faulty = by_front (frame_at bytes) refl where
  by_front : (front : Option (List ℕ × List ℕ)) → frame_at bytes ≡ front → front ≡ None
  by_front None is = refl
  by_front (Some x) is = absurd (none_is fault (sym (frame_is bytes x is).1 ∙ faulty))

-- A message with a fault is no OPEN.
pub no_open : (read : Result Message Notice) (notice : Notice) → fault_in read ≡ Some notice → open_in read ≡ None
no_open (Ok message) notice e = absurd (none_is notice e)
no_open (Err fault) notice e = refl
