-- What a story says of its peering, and how its octets were read.
use Rattle.std.specs.Prelude.{ℕ, List, take, Option, Some, None, slice_get}
use Rattle.std.specs.Option.{option_map}
use Rattle.bgp_types.specs.declared.fault.Expected.{Expected}
use Rattle.bgp_types.specs.declared.message.Message.TheVariants.{OpenMsg, UpdateMsg, NoticeMsg, KeepaliveMsg}
use Rattle.bgp_types.specs.declared.message.OpenMsg as open_type
use Rattle.bgp_types.specs.declared.message.SessionState.TheVariants.{OpenSent}
use Rattle.bgp_story.specs.declared.line.Line.{Line}
use Rattle.bgp_story.specs.declared.line.Line.TheVariants.{Put, Got, Tick}
use Rattle.bgp_story.specs.Legal.{Peering, expected_next}
use Rattle.bgp_story.specs.States.{StoryValue, state_of}

abbrev pub open_put : Option Line → Option open_type.OpenMsg
open_put None = None
open_put (Some (Put (OpenMsg o))) = Some o
open_put (Some (Put (UpdateMsg _))) = None
open_put (Some (Put (NoticeMsg _))) = None
open_put (Some (Put KeepaliveMsg)) = None
open_put (Some (Got _)) = None
open_put (Some (Tick _)) = None

-- the OPEN that stands first, and the remote's AS: every story has such an OPEN
abbrev pub peering_of : StoryValue → Option Peering
peering_of story = option_map (λ o. record { first = o; remote_as = story.remote_as }) (open_put (slice_get story.lines 0))

-- what the session expects at the line of an index, with the state after the lines before it
abbrev pub expected_at : Expected → List Line → ℕ → Expected
expected_at expected lines index = record expected { state = state_of (take index lines) }

-- what a session expects at first, in the width of AS numbers that it comes to have
abbrev pub expected_first : Peering → List Line → Expected
expected_first p lines = expected_next p lines OpenSent
