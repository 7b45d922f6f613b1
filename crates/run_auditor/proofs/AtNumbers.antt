-- The actors of an auditor and their channels, at their numbers.
use Rattle.std.proofs.Common.{◌≡◌, ℕ, ◌+◌, ◌<◌, List, length, Some, sym, ap, ◌∙◌, subst, get_or, arith}
use Rattle.std.specs.Prelude.{slice_get, slice_set}
use Rattle.std.specs.List.{AllByRecursion}
use Rattle.std.proofs.lemmas.Option.{slice_get-get_or}
use Rattle.bgp_session.specs.Running.{carried}
use Rattle.graft_model.specs.Setups.{Setup, peerings_in, routers_in}
use Rattle.graft_actors.specs.Actors.{ActorName, FarSide, IsActor, Router, number_in}
use Rattle.graft_actors.specs.Items.{MayGo}
use Rattle.graft_actors.proofs.Numbers.{some_same}
use Rattle.audit_ruling.specs.Rulings.{Parcel}
use Rattle.audit_channels.specs.Channels.{parcels, parcels_in}
use Rattle.audit_channels.specs.declared.channel.Channel.{Channel}
use Rattle.audit_channels.specs.declared.inboxes.Inbox.{Inbox}
use Rattle.world_runs.specs.Labs.{actors_in}
use Rattle.audit_far.specs.Decides as far
use Rattle.audit_far.specs.Parts.{FarInvariant, HasRoomToBeat, far_part}
use Rattle.audit_far.specs.declared.far.AuditedFar.{AuditedFar}
use Rattle.audit_router.specs.Decides as router
use Rattle.audit_router.specs.Parts.{RouterInvariant, setup_of_router}
use Rattle.audit_router.specs.declared.router.AuditedRouter.{AuditedRouter}
use Rattle.run_auditor.specs.Sound.{AuditorInvariant}
use Rattle.run_auditor.specs.declared.auditor.Auditor.{Auditor}
use Rattle.run_auditor.proofs.Fits.{all_fit, room_to_beat}
use Rattle.run_auditor.proofs.Made.{number_below}
use Rattle.run_auditor.proofs.Taken.{ChannelSet, channel_set, items_are}
use Rattle.run_auditor.proofs.Seen.{far_is}

module _ (f : Auditor) (inv : AuditorInvariant f) where
  -- the items from an actor that is there to this one may go there
  may_go : (from to : ActorName) (items : List Parcel) → IsActor f.known.setup from → IsActor f.known.setup to
      → parcels f.inboxes.items (number_in f.known.setup from) (number_in f.known.setup to) ≡ items → AllByRecursion (MayGo carried f.known.setup from to) items
  may_go from to items here there is =
      subst (AllByRecursion (MayGo carried f.known.setup from to)) is (all_fit f inv.world inv.stands from to here there)

  -- the channel from one actor to another, at their numbers
  module _ (from to : ActorName) (n m : ℕ) (giver : IsActor f.known.setup from × (n ≡ number_in f.known.setup from))
      (taker : IsActor f.known.setup to × (m ≡ number_in f.known.setup to)) (inbox : Inbox) (is : inbox ≡ get_or f.inboxes.items m inbox)
      (channel : Channel) (channel_is : channel ≡ get_or inbox.channels.items n channel) where
    n_below : n < actors_in f.known.setup
    n_below = subst (λ (k : ℕ). k < actors_in f.known.setup) (sym giver.1) (number_below f.known.setup from giver.0)

    m_below : m < actors_in f.known.setup
    m_below = subst (λ (k : ℕ). k < actors_in f.known.setup) (sym taker.1) (number_below f.known.setup to taker.0)

    pub items_there : parcels f.inboxes.items (number_in f.known.setup from) (number_in f.known.setup to) ≡ parcels_in channel
    items_there = ap (λ (k : ℕ). parcels f.inboxes.items k (number_in f.known.setup to)) (sym giver.1)
        ∙ (ap (parcels f.inboxes.items n) (sym taker.1)
        ∙ items_are (actors_in f.known.setup) f.inboxes.items inv.square m m_below inbox is n channel n_below channel_is)

    pub set_there : (after : Inbox) (now : Channel) → after.channels.items ≡ slice_set inbox.channels.items n now
        → ChannelSet f.inboxes.items (slice_set f.inboxes.items m after) (number_in f.known.setup from) (number_in f.known.setup to) channel now
    set_there after now set =
        subst (λ (k : ℕ). ChannelSet f.inboxes.items (slice_set f.inboxes.items m after) k (number_in f.known.setup to) channel now) giver.1
        (subst (λ (k : ℕ). ChannelSet f.inboxes.items (slice_set f.inboxes.items m after) n k channel now) taker.1
        (channel_set (actors_in f.known.setup) f.inboxes.items inv.square m m_below inbox is n after channel now n_below channel_is set))

  module _ (r : ℕ) (known : r < routers_in f.known.setup) where
    pub router_below : r < length f.routers.items
    router_below = omega (arith, known, inv.all_routers)

    module _ (x : AuditedRouter) (is : x ≡ get_or f.routers.items r x) where
      pub router_at : slice_get f.routers.items r ≡ Some x
      router_at = slice_get-get_or f.routers.items r x router_below ∙ ap Some (sym is)

      pub router_sound : RouterInvariant x
      router_sound = (inv.routers r x router_at).sound

      pub router_may_take : (from : ActorName) (items : List Parcel) → IsActor f.known.setup from
          → parcels f.inboxes.items (number_in f.known.setup from) r ≡ items → IsActor (setup_of_router x) from × router.AllFit x from items
      router_may_take from items here items_are =
          let k = inv.routers r x router_at in (
            subst (λ (s : Setup). IsActor s from) (sym k.setup) here,
            subst (λ (n : ℕ). AllByRecursion (MayGo carried (setup_of_router x) from (Router n)) items) (sym k.number)
                (subst (λ (s : Setup). AllByRecursion (MayGo carried s from (Router r)) items) (sym k.setup) (may_go from (Router r) items here known items_are)),
          )

  module _ (p : ℕ) (known : p < peerings_in f.known.setup) where
    pub far_below : p < length f.far_sides.items
    far_below = omega (arith, known, inv.all_far_sides)

    module _ (x : AuditedFar) (is : x ≡ get_or f.far_sides.items p x) where
      pub far_at : slice_get f.far_sides.items p ≡ Some x
      far_at = slice_get-get_or f.far_sides.items p x far_below ∙ ap Some (sym is)

      pub far_sound : FarInvariant x
      far_sound = (inv.far_sides p x far_at).sound

      pub has_room : HasRoomToBeat x
      has_room =
          let k = inv.far_sides p x far_at in
          room_to_beat f inv.world inv.stands x k.setup k.sound (subst (λ (n : ℕ). far_part x ≡ inv.world.far n) (sym k.number) (far_is f inv inv.world inv.stands p x far_at))

      pub far_may_take : (from : ActorName) (items : List Parcel) → IsActor f.known.setup from
          → parcels f.inboxes.items (number_in f.known.setup from) (routers_in f.known.setup + p) ≡ items → far.AllFit x from items
      far_may_take from items here items_are =
          let k = inv.far_sides p x far_at in
          subst (λ (n : ℕ). AllByRecursion (MayGo carried x.known.setup from (FarSide n)) items) (sym k.number)
          (subst (λ (s : Setup). AllByRecursion (MayGo carried s from (FarSide p)) items) (sym k.setup) (may_go from (FarSide p) items here known items_are))

      pub router_known : (r : ℕ) → r < routers_in f.known.setup → r < routers_in x.known.setup
      router_known r below = subst (λ (s : Setup). r < routers_in s) (sym (inv.far_sides p x far_at).setup) below

-- an actor that was found by another one's name
pub found_as : (setup : Setup) (sender from : ActorName) (n : ℕ) → Some sender ≡ Some from → IsActor setup sender × (n ≡ number_in setup sender)
    → IsActor setup from × (n ≡ number_in setup from)
found_as setup sender from n same found =
    subst (λ (a : ActorName). IsActor setup a × (n ≡ number_in setup a)) (some_same sender from same) found
