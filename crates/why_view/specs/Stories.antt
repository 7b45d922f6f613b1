-- What the story of a session says of its remote.
use Rattle.std.specs.Prelude.{ℕ, false, List, Option, Some, None, option_map, unwrap_or, slice_get, Result, Ok, Err}
use Rattle.bgp_types.specs.declared.fault.Expected.{Expected}
use Rattle.bgp_types.specs.declared.message.Message.{Message}
use Rattle.bgp_types.specs.declared.message.Notice.{Notice}
use Rattle.bgp_types.specs.declared.message.OpenMsg as open_type
use Rattle.bgp_types.specs.declared.message.SessionState.TheVariants.{OpenSent}
use Rattle.bgp_types.specs.declared.message.Update.{Update}
use Rattle.bgp_story.specs.declared.line.Line.{Line}
use Rattle.bgp_story.specs.Legal.{Peering, got_open, open_in}
use Rattle.bgp_story.specs.Opens.{offers, home_open}
use Rattle.bgp_story.specs.Readings.{update_in}
use Rattle.lab_tables.specs.declared.input.LabInput.{LabInput}
use Rattle.lab_tables.specs.declared.input.PeeringInput.{PeeringInput}

-- the BGP Identifier of the router of this number
abbrev pub identifier_at : LabInput → ℕ → ℕ
identifier_at input r = unwrap_or (option_map (λ router. router.id) (slice_get input.routers r)) 0

-- What the story of a peering's session is read by: the OPEN that it puts, with the identifier of the router at which it starts, and the AS of its
-- remote.
abbrev pub story_peering : LabInput → PeeringInput → Peering
story_peering input p = record {
  first = home_open input.home_as p.home_hold (identifier_at input p.at.0) p.as4 p.unicast;
  remote_as = p.remote_as;
}

-- the BGP Identifier in the OPEN that a session got
abbrev pub remote_identifier : Peering → List Line → ℕ
remote_identifier peering story = unwrap_or (option_map (λ o. o.identifier) (got_open peering story)) 0

-- ---- its messages

-- what is expected of the first message, with AS numbers of two octets
abbrev pub expected_open : Peering → Expected
expected_open p = record { state = OpenSent; remote_as = p.remote_as; offered = offers p.first; wide = false }

-- the message that was read, unless it has a fault
abbrev pub message_in : Result Message Notice → Option Message
message_in (Ok message) = Some message
message_in (Err fault) = None

-- the OPEN, or the UPDATE, that it is
abbrev pub open_of : Option Message → Option open_type.OpenMsg
open_of None = None
open_of (Some message) = open_in (Ok message)

abbrev pub update_of : Option Message → Option Update
update_of None = None
update_of (Some message) = update_in (Ok message)
