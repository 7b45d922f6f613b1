-- What the remotes of a laboratory announce, by its script alone.
use Rattle.std.specs.Prelude.{ℕ, false, List, [], Option, Some, None, map}
use Rattle.std.specs.List.{filter_map}
use Rattle.bgp_types.specs.declared.attrs.Attrs.{Attrs}
use Rattle.bgp_types.specs.declared.fault.Expected.{Expected}
use Rattle.bgp_types.specs.declared.message.OpenMsg as open_type
use Rattle.bgp_types.specs.declared.message.SessionState.TheVariants.{OpenSent, Established}
use Rattle.bgp_types.specs.declared.message.Update.{Update}
use Rattle.bgp_types.specs.FirstFault.{message_of}
use Rattle.bgp_types.specs.Header.{frame_at}
use Rattle.bgp_types.specs.Many.{many}
use Rattle.bgp_types.specs.Prefixes.{PrefixValue}
use Rattle.bgp_story.specs.Legal.{open_in, both_offer}
use Rattle.bgp_story.specs.Readings.{update_in}
use Rattle.session_value.specs.Sessions.{peering_of}
use Rattle.graft_model.specs.Setups.{Setup, PeeringSetup}
use Rattle.one_answer.specs.Settled.{said_in_all}

-- the OPEN at the front of what a remote says, where a sound one stands there
abbrev pub open_at_front : PeeringSetup → Option (List ℕ × List ℕ) → Option open_type.OpenMsg
open_at_front peering None = None
open_at_front peering (Some front) =
    open_in (message_of (record { state = OpenSent; remote_as = peering.config.remote_as; offered = peering.config.offered; wide = false }) front.0)

-- As what the messages of a remote that says these bytes are read, once its session is established: with AS numbers of four octets where the OPENs of
-- both sides offer them (RFC 6793, section 4.1).
abbrev pub established : PeeringSetup → List ℕ → Expected
established peering said = record {
  state = Established;
  remote_as = peering.config.remote_as;
  offered = peering.config.offered;
  wide = both_offer (peering_of peering.config).first (open_at_front peering (frame_at said));
}

-- the UPDATEs among the messages in these bytes, up to a faulty header
abbrev pub updates_in : PeeringSetup → List ℕ → List Update
updates_in peering said = filter_map (λ frame. update_in (message_of (established peering said) frame)) (many frame_at said).0

-- the UPDATEs among all that a remote says over the script
abbrev pub updates_of : Setup → ℕ → PeeringSetup → List Update
updates_of setup p peering = updates_in peering (said_in_all setup p peering)

abbrev pub with_attrs : List PrefixValue → Option Attrs → List (PrefixValue × Attrs)
with_attrs prefixes None = []
with_attrs prefixes (Some attrs) = map (λ prefix. (prefix, attrs)) prefixes

-- the prefixes that an UPDATE announces, each with the attributes
abbrev pub announced_by : Update → List (PrefixValue × Attrs)
announced_by u = with_attrs u.nlri u.attrs
