-- What a far side promises of one turn.
use Rattle.std.specs.Prelude.{◌≡◌, ◌+◌, List, ◌++◌, length, false}
use Rattle.ring_net.specs.Deeds.{Deed}
use Rattle.ring_net.specs.Posts.{Moved}
use Rattle.ring_net.specs.declared.post.Post.{Post}
use Rattle.graft_steps.specs.declared.item.Item.{Item}
use Rattle.tcp_seq.specs.Endpoint.{Endpoint}
use Rattle.session_value.specs.Sessions.{SessionValue}
use Rattle.graft_model.specs.Parts.{FarPart}
use Rattle.graft_model.specs.declared.event.FarEvent.{FarEvent}
use Rattle.graft_actors.specs.Acts.{acts}
use Rattle.graft_actors.specs.Emissions.{IsRested}
use Rattle.remote_end.specs.Remotes.{RemoteValue}
use Rattle.far_side.specs.Links.{home_events, remote_events, left_in_link}
use Rattle.far_side.specs.Parts.{far_part, own_part, FarSideInvariant}
use Rattle.far_side.specs.Turns.{FarRetransmits, SendsNew, SendsAnswer, SendsNone, FarGoes}
use Rattle.far_side.specs.Passes.{fates_in, plans_put, SameLink, SameRemote, again_events, FreshEvents, answer_events, Beats}
use Rattle.far_side.specs.declared.fields.Fields.{Fields}
use Rattle.graft_actors.specs.Makes.{AreDeeds}
use Rattle.graft_model.specs.Codes.{far_code}

-- One turn. Its events are, in this order: those that the plan has for the link to home and for the link to the remote, the first outstanding slice
-- again, a KEEPALIVE if one is due, all new slices, and the owed acknowledgement.
pub record FarTurned {C : Type 0} (old : Fields) (deeds : List (Deed (Item C))) (new : Fields) : Type 0 where
  pub keepalives : List FarEvent
  pub fresh : List FarEvent
  -- the remote after the deliveries, the far side before and after its KEEPALIVE, and the endpoint that has emitted all new slices
  pub reached : RemoteValue
  pub before : Fields
  pub beaten : Fields
  pub sent : Endpoint
  pub is_reached : SameRemote old.remote reached
  pub is_before : (before.remote ≡ record reached { at_turn = reached.end.acked }) × (before.turns ≡ old.turns + 1)
      × (before.keepalive_interval ≡ old.keepalive_interval) × (before.keepalives ≡ old.keepalives) × (before.last_keepalive ≡ old.last_keepalive)
  pub are_keepalives : Beats before keepalives beaten
  pub is_fresh : FreshEvents beaten.remote.end fresh sent
  pub events : AreDeeds far_code (home_events old.pointer.0 old.homeward.plans
      ++ (remote_events old.remoteward.plans ++ (again_events reached ++ (keepalives ++ (fresh ++ answer_events sent))))) deeds
  -- after the deliveries only an old slice is sent; after the KEEPALIVE only new slices, and then only the owed acknowledgement
  pub delivered : FarPart
  pub resent : FarPart
  pub said : FarPart
  pub level : FarPart
  pub delivers : FarGoes old.known.setup old.peering.0 SendsNone (far_part old)
      (home_events old.pointer.0 old.homeward.plans ++ remote_events old.remoteward.plans) delivered
  pub resends : FarGoes old.known.setup old.peering.0 FarRetransmits delivered (again_events reached) resent
  pub says : FarGoes old.known.setup old.peering.0 SendsNone resent keepalives said
  pub sends : FarGoes old.known.setup old.peering.0 SendsNew said fresh level
  pub answers : FarGoes old.known.setup old.peering.0 SendsAnswer level (answer_events sent) (far_part new)
  -- At its end all that may be emitted is emitted, and no acknowledgement is owed.
  pub end : new.remote.end ≡ record sent { owed = false }
  pub rested : IsRested new.remote.end
  pub at_turn : new.remote.at_turn ≡ reached.end.acked
  -- Each link keeps the segments that haven't left, one turn older. On the link to home those sent in this turn come after them.
  pub homeward : new.homeward.plans ≡ left_in_link old.homeward.plans
      ++ plans_put (fates_in old.plan old.homeward) old.pointer.0 old.homeward.put
      (length (again_events reached) + (length fresh + length (answer_events sent)))
  pub put : new.homeward.put ≡ old.homeward.put + (length (again_events reached) + (length fresh + length (answer_events sent)))
  pub remoteward : (new.remoteward.plans ≡ left_in_link old.remoteward.plans) × (new.remoteward.put ≡ old.remoteward.put)
  pub links : SameLink old.homeward new.homeward × SameLink old.remoteward new.remoteward
  pub turns : new.turns ≡ old.turns + 1
  pub same : new ≡ record old {
    remote = new.remote;
    homeward = new.homeward;
    remoteward = new.remoteward;
    turns = new.turns;
    keepalives = new.keepalives;
    last_keepalive = new.last_keepalive;
  }

-- a turn, after which the far side is sound
pub record FarTurnsOnce {C : Type 0} (session : C → SessionValue) (old : Fields) (before : Post (Item C)) (new : Fields) (after : Post (Item C)) : Type 0 where
  pub moved : Moved own_part (acts session) FarTurned old before new after
  pub keeps : FarSideInvariant new
