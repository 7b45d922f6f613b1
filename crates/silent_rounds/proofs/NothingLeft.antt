-- Where all actors are at rest and nothing is on its way, nothing is left to do.
use Rattle.std.proofs.Common.{◌≡◌, ◌<◌, ◌≤◌, ◌+◌, ◌==◌, ◌∙◌, ℕ, Bool, true, false, List, [], ◌∷◌, ◌++◌}
use Rattle.std.proofs.Common.{length, map, Option, Some, None, refl, ap, subst, inl, inr, arith}
use Rattle.std.specs.Prelude.{◌⊎◌, is_some, min, slice_get, IfSome}
use Rattle.std.specs.FinMap as finite
use Rattle.std.proofs.Math.Path.{subst⁻¹}
use Rattle.bgp_types.specs.Tables.{prefix_cmp}
use Rattle.bgp_types.specs.Prefixes.{PrefixValue}
use Rattle.bgp_types.specs.declared.attrs.Attrs.{Attrs}
use Rattle.bgp_types.specs.Writable.{IsWritableAttrs}
use Rattle.tcp_seq.specs.Endpoint.{Endpoint}
use Rattle.session_value.specs.Sessions.{SessionValue}
use Rattle.session_value.specs.Sets.{Prefixes, has}
use Rattle.graft_steps.specs.declared.rest.Pending.{Pending}
use Rattle.graft_steps.specs.declared.rest.Pending.TheVariants.{Script, Graft, Channel, Bag, Stream, Dirty, DueIn, DueOut}
use Rattle.graft_model.specs.Setups.{Setup, PeeringSetup, IsSetup, routers_in, peerings_in}
use Rattle.graft_model.specs.Parts.{Errand, Place, Vacant, Live, Frozen, Shadow, RouterPart, World}
use Rattle.graft_model.specs.Decisions.{to_tell}
use Rattle.graft_model.specs.First.{first_router, place_in}
use Rattle.graft_laws.specs.Keeps.{Reached, Has}
use Rattle.graft_laws.specs.Ranges.{IsInRange}
use Rattle.graft_laws.specs.Streams.{IsUnbroken}
use Rattle.graft_actors.specs.Actors.{RouterIs, ActorName, Router, FarSide, Operator, IsActor, actor_at, MeshItem, OrderItem, ReportItem}
use Rattle.graft_actors.specs.Seen.{channel_of, IsWithin}
use Rattle.graft_actors.specs.Laws.{NumbersAreOfActors}
use Rattle.graft_actors.specs.Emissions.{IsRested}
use Rattle.operator_state.specs.Holds.{NothingToOrder}
use Rattle.settled_check.specs.Left.{HasSome, HasStream, IsUnacked, LeftAtRouter, LeftAtFar, LeftToOperator}
use Rattle.settled_check.specs.Worlds.{LeftOnItsWay, IsLeft, OnItsWay, AtRouter, AtFarSide, ToOperator, StreamsFit}
use Rattle.still_grafts.specs.Still.{HasNoneStored, HasNoGraftLeft, StillWorldsHaveNoGraftLeft}
use Rattle.router_core.specs.Rested.{IsQuietPlace, IsDone}
use Rattle.world_nodes.specs.Looks.{IsStuckIn}
use Rattle.silent_rounds.proofs.SameWorlds.{below_or_past, RouterRests, FarRests}

-- what is told is written
abbrev pub WhatIsToldCanBeWritten : Type 0
WhatIsToldCanBeWritten = (setup : Setup) (w : World) (r p : ℕ) (session : SessionValue) (errand : Option Errand) (x : PrefixValue) (attrs : Attrs)
    → IsSetup setup → IsInRange setup → Reached setup w
    → (w.router r).places p ≡ Live session errand → to_tell setup r (w.router r) session x ≡ Some attrs → IsWritableAttrs attrs

abbrev pub SessionsAreUnbroken : Type 0
SessionsAreUnbroken = (setup : Setup) (w : World) (p : ℕ) → IsSetup setup → Reached setup w → p < peerings_in setup → Has setup (IsUnbroken setup) w p

-- A world whose actors are all at rest, between which nothing is on its way, and in which no session is stuck.
pub record IsResting (setup : Setup) (w : World) : Type 0 where
  pub sound : IsSetup setup
  pub ranges : IsInRange setup
  pub reached : Reached setup w
  pub within : IsWithin setup w
  pub streams : StreamsFit w
  pub routers : (r : ℕ) → r < routers_in setup → RouterRests setup r (w.router r)
  pub far_sides : (p : ℕ) → p < peerings_in setup → FarRests (w.far p)
  pub operator : NothingToOrder setup w.operator
  pub channels : (x y : ActorName) → IsActor setup x → IsActor setup y → channel_of w (Some x) (Some y) ≡ []
  pub links : (p : ℕ) → p < peerings_in setup → ((w.far p).homeward ≡ []) × ((w.far p).remoteward ≡ [])
  pub stuck : (p n : ℕ) → ¬ IsStuckIn setup w p n

-- ---- lists, sets and optional attributes

map_none : {A B : Type 0} (f : A → B) (xs : List A) → map f xs ≡ [] → xs ≡ []
map_none f [] e = refl
map_none f (x ∷ xs) e = absurd cc

nobody : ¬ HasSome finite.empty
nobody (q, there) =
    let e : has finite.empty q ≡ false = ap is_some (finite.get-empty prefix_cmp q) in
    absurd cc

some_in : (prefixes : Prefixes) → prefixes ≡ finite.empty → ¬ HasSome prefixes
some_in prefixes none some = nobody (subst (λ (s : Prefixes). HasSome s) none some)

if_written : (attrs : Option Attrs) → ((x : Attrs) → attrs ≡ Some x → IsWritableAttrs x) → IfSome attrs IsWritableAttrs
if_written None written = tt
if_written (Some x) written = written x refl

-- ---- an endpoint

-- what rests with nothing outstanding has the whole stream acknowledged
all_acked : (e : Endpoint) → IsRested e → e.emitted ≤ e.acked → e.acked ≤ length e.stream → ¬ IsUnacked e
all_acked e rested sent within unacked = unacked (whole e.acked e.emitted (length e.stream) rested.emitted sent within)
  where
    whole : (acked emitted n : ℕ) → emitted ≡ min n (acked + 15360) → emitted ≤ acked → acked ≤ n → acked ≡ n
    whole acked emitted n is sent within = grind arith

-- ---- places

none_stored : (place : Place) → IsQuietPlace place → HasNoneStored place
none_stored Vacant quiet = tt
none_stored (Live session errand) quiet = quiet.0
none_stored (Frozen session order) quiet = quiet
none_stored (Shadow graft) quiet = tt

none_at_first : (r : ℕ) (peering : Option PeeringSetup) → HasNoneStored (place_in r peering)
none_at_first r None = tt
none_at_first r (Some peering) = by_test (peering.start == r) refl
  where
    by_test : (b : Bool) → (peering.start == r) ≡ b → HasNoneStored (place_in r (Some peering))
    by_test true e = rw e tt
    by_test false e = rw e tt

module _ (numbers : NumbersAreOfActors) (written : WhatIsToldCanBeWritten) (unbroken : SessionsAreUnbroken)
    (grafts : StillWorldsHaveNoGraftLeft) (setup : Setup) (w : World) (at_rest : IsResting setup w) where
  -- ---- on its way

  no_channel : (x y : ActorName) → channel_of w (Some x) (Some y) ≡ []
  no_channel x y = elim (is_actor x) [
    | inl x_known ↦ elim (is_actor y) [
      | inl y_known ↦ at_rest.channels x y x_known y_known
      | inr y_unknown ↦ at_rest.within.channels x y (λ first second. y_unknown second)
    ]
    | inr x_unknown ↦ at_rest.within.channels x y (λ first second. x_unknown first)
  ]
    where
      past : (m n : ℕ) → n ≤ m → ¬ (m < n)
      past m n le l = omega (arith, le, l)

      is_actor : (z : ActorName) → IsActor setup z ⊎ (¬ IsActor setup z)
      is_actor (Router r) = elim (below_or_past r (routers_in setup)) [ inl l ↦ inl l | inr le ↦ inr (past r (routers_in setup) le) ]
      is_actor (FarSide p) = elim (below_or_past p (peerings_in setup)) [ inl l ↦ inl l | inr le ↦ inr (past p (peerings_in setup) le) ]
      is_actor Operator = inl tt

  nothing_between : (from to : Option ActorName) → channel_of w from to ≡ []
  nothing_between None to = refl
  nothing_between (Some x) None = to_nobody x
    where
      to_nobody : (x : ActorName) → channel_of w (Some x) None ≡ []
      to_nobody (Router r) = refl
      to_nobody (FarSide p) = refl
      to_nobody Operator = refl
  nothing_between (Some x) (Some y) = no_channel x y

  not_on_its_way : (x : Pending) → ¬ LeftOnItsWay setup w x
  not_on_its_way (Channel a b) left = left (nothing_between (actor_at setup a) (actor_at setup b))
  not_on_its_way Script left = left
  not_on_its_way (Graft k) left = left
  not_on_its_way (Bag p) left = left
  not_on_its_way (Stream p) left = left
  not_on_its_way (Dirty r) left = left
  not_on_its_way (DueIn r q) left = left
  not_on_its_way (DueOut p) left = left

  -- ---- grafts

  no_graft : HasNoGraftLeft setup w
  no_graft = grafts setup w at_rest.sound at_rest.reached (record {
    mesh = λ a b. map_none MeshItem (w.mesh a b) (no_channel (Router a) (Router b));
    orders = λ r. map_none OrderItem (w.orders r) (no_channel Operator (Router r));
    reports = λ r. map_none ReportItem (w.reports r) (no_channel (Router r) Operator);
    places = places;
    operator = at_rest.operator;
  })
    where
      beyond : (r p : ℕ) → routers_in setup ≤ r → HasNoneStored ((w.router r).places p)
      beyond r p past =
          let first : RouterIs (w.router r) ≡ RouterIs (first_router setup r) = at_rest.within.parts (Router r) (λ l. omega (arith, l, past)) in
          let same : w.router r ≡ first_router setup r = cc in
          subst⁻¹ (λ (part : RouterPart). HasNoneStored (part.places p)) same (none_at_first r (slice_get setup.peerings p))

      places : (r p : ℕ) → HasNoneStored ((w.router r).places p)
      places r p = elim (below_or_past r
          (routers_in setup)) [ inl l ↦ none_stored ((w.router r).places p) ((at_rest.routers r l).rested.quiet p) | inr past ↦ beyond r p past ]

  -- ---- a router

  module _ (r : ℕ) (known : r < routers_in setup) where
    nothing_due : (p : ℕ) (place : Place) → (w.router r).places p ≡ place → IsDone setup r (w.router r) p place → ¬ HasSome ((w.router r).due_out p)
    nothing_due p Vacant is done = some_in ((w.router r).due_out p) done
    nothing_due p (Live session errand) is done = elim done [
      | inl none ↦ some_in ((w.router r).due_out p) none
      | inr (inl (n, stuck)) ↦ absurd (at_rest.stuck p n
          (record { router = r; there = known; stuck = record { session = session; errand = errand; live = record { is = is }; stuck = inl stuck } }))
      | inr (inr bad) ↦ absurd (bad.unwritable (subst⁻¹ (λ (o : Option Attrs). IfSome o IsWritableAttrs) bad.next.told_first
          (if_written (to_tell setup r (w.router r) session bad.next.first)
          (λ attrs told. written setup w r p session errand bad.next.first attrs at_rest.sound at_rest.ranges at_rest.reached is told))))
    ]
    nothing_due p (Frozen session order) is done = absurd done
    nothing_due p (Shadow graft) is done = some_in ((w.router r).due_out p) done

    no_stream : (p : ℕ) (place : Place) → (w.router r).places p ≡ place → IsQuietPlace place → ¬ HasStream place
    no_stream p Vacant is quiet left = left
    no_stream p (Live session errand) is quiet left = elim left [
      | inl unacked ↦ (
          let fits = (at_rest.streams r p session errand is).0 in
          all_acked session.end quiet.2 ((at_rest.routers r known).sent p session errand (record { is = is }))
          (omega (arith, fits.acked, fits.received)) unacked)
      | inr more ↦ quiet.1 more.unclosed more.front more.rest more.is more.got
    ]
    no_stream p (Frozen session order) is quiet left = quiet
    no_stream p (Shadow graft) is quiet left = left

    not_at_router : (x : Pending) → ¬ LeftAtRouter r (w.router r) x
    not_at_router (Graft k) left = no_graft.routers r k left
    not_at_router (Stream p) left = no_stream p.0 ((w.router r).places p.0) refl ((at_rest.routers r known).rested.quiet p.0) left
    not_at_router (Dirty s) left = some_in (w.router r).dirty (at_rest.routers r known).rested.clean left.1
    not_at_router (DueIn s q) left = some_in ((w.router r).due_in q.0) ((at_rest.routers r known).rested.due_in q.0) left.1
    not_at_router (DueOut p) left = nothing_due p.0 ((w.router r).places p.0) refl ((at_rest.routers r known).rested.done p.0) left
    not_at_router Script left = left
    not_at_router (Channel a b) left = left
    not_at_router (Bag p) left = left

  -- ---- a far side, and the operator

  not_at_far : (p : ℕ) → p < peerings_in setup → (x : Pending) → ¬ LeftAtFar p (w.far p) x
  not_at_far p known (Bag q) left = left.1 (ap (λ xs. xs ++ (w.far p).remoteward) (at_rest.links p known).0 ∙ (at_rest.links p known).1)
  not_at_far p known (Stream q) left =
      let flows = (unbroken setup w p at_rest.sound at_rest.reached known).more.streams.linked.back in
      all_acked (w.far p).end (at_rest.far_sides p known).rested (at_rest.far_sides p known).sent
      (omega (arith, flows.acked, flows.within, flows.emitted)) left.1
  not_at_far p known Script left = left
  not_at_far p known (Graft k) left = left
  not_at_far p known (Channel a b) left = left
  not_at_far p known (Dirty s) left = left
  not_at_far p known (DueIn s q) left = left
  not_at_far p known (DueOut q) left = left

  not_to_operator : (x : Pending) → ¬ LeftToOperator setup w.operator x
  not_to_operator Script left = no_graft.script left
  not_to_operator (Graft k) left = no_graft.unended k left
  not_to_operator (Channel a b) left = left
  not_to_operator (Bag p) left = left
  not_to_operator (Stream p) left = left
  not_to_operator (Dirty s) left = left
  not_to_operator (DueIn s q) left = left
  not_to_operator (DueOut q) left = left

  pub nothing_left : (x : Pending) → ¬ IsLeft setup w x
  nothing_left x (OnItsWay left) = not_on_its_way x left
  nothing_left x (AtRouter r known left) = not_at_router r known x left
  nothing_left x (AtFarSide p known left) = not_at_far p known x left
  nothing_left x (ToOperator left) = not_to_operator x left
