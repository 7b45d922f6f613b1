-- What a session makes of all that its remote says, where no timer runs on it (RFC 4271, sections 6 and 8.2.2).
use Rattle.std.specs.Prelude.{ℕ, ◌&&◌, List, [], ◌∷◌, ◌++◌, Option, None, Result, fold, take, length, nat_le, is_some, if◌then◌else◌}
use Rattle.std.specs.FinMap as map
use Rattle.bgp_types.specs.declared.fault.Expected.{Expected}
use Rattle.bgp_types.specs.declared.message.Message.{Message}
use Rattle.bgp_types.specs.declared.message.Notice.{Notice}
use Rattle.bgp_types.specs.declared.message.OpenMsg as open_type
use Rattle.bgp_types.specs.declared.message.SessionState.{SessionState}
use Rattle.bgp_types.specs.declared.message.SessionState.TheVariants.{OpenSent, OpenConfirm, Established, Closed}
use Rattle.bgp_types.specs.FirstFault.{message_of}
use Rattle.bgp_types.specs.Header.{frame_at, header_fault}
use Rattle.bgp_types.specs.Many.{many}
use Rattle.bgp_story.specs.Legal.{open_in, both_offer, reply_to}
use Rattle.bgp_story.specs.Readings.{Routes, apply_if, update_in, unless_closed}
use Rattle.session_value.specs.Sessions.{peering_of}
use Rattle.graft_model.specs.Setups.{PeeringSetup}

-- the state of a session, the OPEN that it got, and the routes that it heard
pub record Reading : Type 0 where
  pub state : SessionState
  pub opened : Option open_type.OpenMsg
  pub adj_rib_in : Routes

-- a session that put its OPEN and got nothing
abbrev pub nothing_read : Reading
nothing_read = record { state = OpenSent; opened = None; adj_rib_in = map.empty }

-- as what its next message is read
abbrev pub expected_by : PeeringSetup → Reading → Expected
expected_by peering r = record {
  state = r.state;
  remote_as = peering.config.remote_as;
  offered = peering.config.offered;
  wide = both_offer (peering_of peering.config).first r.opened;
}

-- The first message is the OPEN, or closes the session.
abbrev pub opened_with : SessionState → Option open_type.OpenMsg → Option open_type.OpenMsg → Option open_type.OpenMsg
opened_with OpenSent before now = now
opened_with OpenConfirm before now = before
opened_with Established before now = before
opened_with Closed before now = before

-- a message, or its fault, is got
abbrev pub with_message : Reading → Result Message Notice → Reading
with_message r got = record {
  state = (reply_to got).1;
  opened = opened_with r.state r.opened (open_in got);
  adj_rib_in = unless_closed (reply_to got).1 (apply_if r.adj_rib_in (update_in got));
}

abbrev pub unless_ended : SessionState → Reading → Reading → Reading
unless_ended OpenSent before after = after
unless_ended OpenConfirm before after = after
unless_ended Established before after = after
unless_ended Closed before after = before

abbrev pub read_next : PeeringSetup → Reading → List ℕ → Reading
read_next peering r bytes = unless_ended r.state r (with_message r (message_of (expected_by peering r) bytes))

-- a header with a fault at the front of bytes
abbrev pub faulty_front : List ℕ → List (List ℕ)
faulty_front bytes = if nat_le 19 (length bytes) && is_some (header_fault bytes) then take 19 bytes ∷ [] else []

-- The messages in these bytes one after another, and a faulty header behind them.
abbrev pub fronts_in : List ℕ → List (List ℕ)
fronts_in said = (many frame_at said).0 ++ faulty_front (many frame_at said).1

-- Message by message, up to the end of the session.
abbrev pub reading_of : PeeringSetup → List ℕ → Reading
reading_of peering said = fold (read_next peering) nothing_read (fronts_in said)
