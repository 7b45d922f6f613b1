-- Nothing is left in a world exactly where it is quiet.
use Rattle.std.proofs.Common.{◌≡◌, ℕ, ◌<◌, ◌≤◌, ◌==◌, nat_lt, Bool, true, false, List, [], ◌∷◌, ◌++◌, length}
use Rattle.std.proofs.Common.{map, Option, Some, None, refl, sym, ap, ◌∙◌, subst, inl, inr, arith}
use Rattle.std.specs.Prelude.{◌≢◌, ◌⊎◌, ◌↔◌, is_some, fold, slice_get, unwrap_or}
use Rattle.std.specs.Option.{option_map}
use Rattle.std.specs.List.{flat_map}
use Rattle.std.specs.FinMap as finite
use Rattle.std.proofs.lemmas.Bool.Decides.{nat_tests}
use Rattle.std.proofs.lemmas.Option.{slice_get_past}
use Rattle.bgp_types.specs.Tables.{prefix_cmp}
use Rattle.bgp_types.specs.declared.message.SessionState.{SessionState}
use Rattle.bgp_types.specs.declared.message.SessionState.TheVariants.{OpenSent, OpenConfirm, Established, Closed}
use Rattle.bgp_types.proofs.TableLaws.{prefix_total, exact_prefixes}
use Rattle.tcp_seq.specs.Endpoint.{Endpoint}
use Rattle.session_value.specs.Sessions.{SessionValue, state, unread}
use Rattle.session_value.specs.Sets.{Prefixes, has}
use Rattle.session_value.specs.Fronts.{BeginsNothing}
use Rattle.graft_steps.specs.declared.rest.Pending.{Pending}
use Rattle.graft_steps.specs.declared.rest.Pending.TheVariants.{Script, Graft, Channel, Bag, Stream, Dirty, DueIn, DueOut}
use Rattle.graft_steps.specs.declared.rest.RouterRest.{RouterRest}
use Rattle.graft_steps.specs.declared.rest.FarRest.{FarRest}
use Rattle.graft_steps.specs.declared.rest.OperatorRest.{OperatorRest}
use Rattle.graft_model.specs.Setups.{Setup, PeeringSetup, RouterSetup, ScriptGraft, SayStep, group_of, routers_in, peerings_in, router_numbers}
use Rattle.graft_model.specs.Parts.{Place, Vacant, Live, Frozen, Shadow, Errand, RouterPart, FarPart, World}
use Rattle.graft_model.specs.First.{first_router, first_far, place_in}
use Rattle.graft_model.specs.Quiet.{Quiet, HasRead, AllAcked, IsIdle}
use Rattle.graft_model.specs.Claims.{sessions_at, sessions_on}
use Rattle.graft_actors.specs.Actors.{ActorName, Router, FarSide, Operator, IsActor, number_in, actor_at, RouterIs, FarIs}
use Rattle.graft_actors.specs.Actors.{MeshItem, OutwardItem, SegmentItem, OrderItem, ReportItem, StepItem}
use Rattle.graft_actors.specs.Seen.{channel_of}
use Rattle.graft_actors.specs.Laws.{ActorsHaveNumbers}
use Rattle.settled_check.specs.Left.{HasSome, HasStream, HasUnread, IsUnacked, graft_in_place, IsUnended, HasUnissued, LeftAtRouter, LeftAtFar}
use Rattle.settled_check.specs.Worlds.{LeftOnItsWay, IsLeft, OnItsWay, AtRouter, AtFarSide, ToOperator, Fits, IsOnTheWay, AreRests, NothingIsNamed}
use Rattle.settled_check.proofs.Actors.{router_has, router_names, far_has, far_names, operator_has, operator_names}

-- ---- decisions

by_test : (b : Bool) → (b ≡ true) ⊎ (b ≡ false)
by_test true = inl refl
by_test false = inr refl

below : (m n : ℕ) → (m < n) ⊎ (n ≤ m)
below m n = elim (by_test (nat_lt m n)) [ inl e ↦ inl (grind (arith, nat_tests)) | inr e ↦ inr (grind (arith, nat_tests)) ]

same_number : (m n : ℕ) → ¬ (m ≢ n) → m ≡ n
same_number m n not_other = elim (by_test (m == n)) [ inl e ↦ grind (arith, nat_tests) | inr e ↦ absurd (not_other (λ same. grind (arith, nat_tests))) ]

none_there : {A : Type 0} (xs : List A) → ¬ (xs ≢ []) → xs ≡ []
none_there [] none = refl
none_there (x ∷ xs) none = absurd (none (λ e. cc))

no_value : {A : Type 0} (o : Option A) → ((x : A) → o ≡ Some x → ⊥) → o ≡ None
no_value None none = refl
no_value (Some x) none = absurd (none x refl)

is_none_of : {A : Type 0} (o : Option A) → ¬ (is_some o ≡ true) → o ≡ None
is_none_of None none = refl
is_none_of (Some x) none = absurd (none refl)

map_none : {A B : Type 0} (f : A → B) (xs : List A) → map f xs ≡ [] → xs ≡ []
map_none f [] e = refl
map_none f (x ∷ xs) e = absurd cc

append_none : {A : Type 0} (xs ys : List A) → xs ++ ys ≡ [] → (xs ≡ []) × (ys ≡ [])
append_none [] ys e = (refl, e)
append_none (x ∷ xs) ys e = absurd cc

flat_map_none : {A B : Type 0} (f : A → List B) (xs : List A) → ((x : A) → f x ≡ []) → flat_map f xs ≡ []
flat_map_none f [] none = refl
flat_map_none f (x ∷ xs) none = ap (λ ys. ys ++ flat_map f xs) (none x) ∙ flat_map_none f xs none

-- ---- sets of prefixes

no_prefix : (prefixes : Prefixes) → ¬ HasSome prefixes → prefixes ≡ finite.empty
no_prefix prefixes none = finite.same_map prefix_total exact_prefixes prefixes finite.empty
    (λ q. is_none_of (finite.get prefixes q) (λ there. none (q, there)) ∙ sym (finite.get-empty prefix_cmp q))

some_prefix : (prefixes : Prefixes) → prefixes ≡ finite.empty → ¬ HasSome prefixes
some_prefix prefixes none (q, there) =
    let e : has prefixes q ≡ false = ap (λ (s : Prefixes). has s q) none ∙ ap is_some (finite.get-empty prefix_cmp q) in
    absurd cc

-- ---- places

has_read : (session : SessionValue) → ¬ HasUnread session → HasRead session
has_read session none = by_state (state session) refl
  where
    unclosed : state session ≢ Closed → BeginsNothing (unread session)
    unclosed open_still front rest is got = none (record { unclosed = open_still; front = front; rest = rest; is = is; got = got })

    by_state : (s : SessionState) → state session ≡ s → HasRead session
    by_state OpenSent e = inr (unclosed (λ c. cc))
    by_state OpenConfirm e = inr (unclosed (λ c. cc))
    by_state Established e = inr (unclosed (λ c. cc))
    by_state Closed e = inl e

all_acked : (from to : Endpoint) → Fits from to → ¬ IsUnacked from → AllAcked from to
all_acked from to fits none =
    let acked : from.acked ≡ length from.stream = same_number from.acked (length from.stream) none in
    record { received = omega (arith, fits.acked, fits.received, acked); acked = acked }

idle : (remote : Endpoint) (place : Place) → graft_in_place place ≡ None → ¬ HasStream place → ¬ IsUnacked remote
    → ((session : SessionValue) (order : Option Errand) → place ≡ Live session order → Fits session.end remote × Fits remote session.end) → IsIdle remote place
idle remote Vacant no_graft no_stream acked fits = tt
idle remote (Live session None) no_graft no_stream acked fits = (
  has_read session (λ more. no_stream (inr more)),
  all_acked session.end remote (fits session None refl).0 (λ more. no_stream (inl more)),
  all_acked remote session.end (fits session None refl).1 acked,
)
idle remote (Live session (Some order)) no_graft no_stream acked fits = absurd cc
idle remote (Frozen session order) no_graft no_stream acked fits = absurd cc
idle remote (Shadow graft) no_graft no_stream acked fits = absurd cc

idle_has_no_graft : (remote : Endpoint) (place : Place) (k : ℕ) → IsIdle remote place → graft_in_place place ≡ Some k → ⊥
idle_has_no_graft remote Vacant k is e = absurd cc
idle_has_no_graft remote (Live session None) k is e = absurd cc
idle_has_no_graft remote (Live session (Some order)) k is e = is
idle_has_no_graft remote (Frozen session order) k is e = is
idle_has_no_graft remote (Shadow graft) k is e = is

idle_has_no_stream : (remote : Endpoint) (place : Place) → IsIdle remote place → HasStream place → ⊥
idle_has_no_stream remote Vacant is left = left
idle_has_no_stream remote (Live session None) is left = elim left [
  | inl unacked ↦ unacked is.1.acked
  | inr more ↦ elim is.0 [ inl closed ↦ more.unclosed closed | inr nothing ↦ nothing more.front more.rest more.is more.got ]
]
idle_has_no_stream remote (Live session (Some order)) is left = is
idle_has_no_stream remote (Frozen session order) is left = is
idle_has_no_stream remote (Shadow graft) is left = is

-- an idle place whose remote has unacknowledged bytes has no session
idle_without : (remote : Endpoint) (place : Place) → IsIdle remote place → IsUnacked remote → sessions_at place ≡ []
idle_without remote Vacant is unacked = refl
idle_without remote (Live session None) is unacked = absurd (unacked is.2.acked)
idle_without remote (Live session (Some order)) is unacked = absurd is
idle_without remote (Frozen session order) is unacked = absurd is
idle_without remote (Shadow graft) is unacked = absurd is

vacant_beyond : (n r : ℕ) (o : Option PeeringSetup) → n ≤ r → ((peering : PeeringSetup) → o ≡ Some peering → peering.start < n) → place_in r o ≡ Vacant
vacant_beyond n r None le below_n = refl
vacant_beyond n r (Some peering) le below_n =
    let l : peering.start < n = below_n peering refl in
    let e : (peering.start == r) ≡ false = grind (arith, nat_tests) in
    rw e refl

module _ (numbers : ActorsHaveNumbers) (setup : Setup) (w : World) (is : IsOnTheWay setup w) where
  known : (x : ActorName) → IsActor setup x ⊎ (¬ IsActor setup x)
  known (Router r) = elim (below r (routers_in setup)) [ inl l ↦ inl l | inr le ↦ inr (λ l. omega arith) ]
  known (FarSide p) = elim (below p (peerings_in setup)) [ inl l ↦ inl l | inr le ↦ inr (λ l. omega arith) ]
  known Operator = inl tt

  outside_router : (r : ℕ) → routers_in setup ≤ r → w.router r ≡ first_router setup r
  outside_router r le = let e : RouterIs (w.router r) ≡ RouterIs (first_router setup r) = is.within.parts (Router r) (λ l. omega arith) in cc

  outside_far : (p : ℕ) → peerings_in setup ≤ p → w.far p ≡ first_far None
  outside_far p le =
      let e : FarIs (w.far p) ≡ FarIs (first_far (slice_get setup.peerings p)) = is.within.parts (FarSide p) (λ l. omega arith) in
      let f : w.far p ≡ first_far (slice_get setup.peerings p) = cc in
      f ∙ ap first_far (slice_get_past setup.peerings p le)

  -- ---- quiet, where nothing is left

  module _ (nothing : (x : Pending) → ¬ IsLeft setup w x) where
    nothing_comes : (a b : ℕ) → channel_of w (actor_at setup a) (actor_at setup b) ≡ []
    nothing_comes a b = none_there (channel_of w (actor_at setup a) (actor_at setup b)) (λ on_its_way. nothing (Channel a b) (OnItsWay on_its_way))

    channel_none : (x y : ActorName) → channel_of w (Some x) (Some y) ≡ []
    channel_none x y = elim (known x) [
      | inr unknown ↦ is.within.channels x y (λ l m. unknown l)
      | inl l ↦ elim (known y) [
        | inr unknown ↦ is.within.channels x y (λ k m. unknown m)
        | inl m ↦ ap (λ o. channel_of w o (Some y)) (sym (numbers setup x l))
            ∙ ap (λ o. channel_of w (actor_at setup (number_in setup x)) o) (sym (numbers setup y m))
            ∙ nothing_comes (number_in setup x) (number_in setup y)
      ]
    ]

    none_at_router : (r : ℕ) → r < routers_in setup → (x : Pending) → ¬ LeftAtRouter r (w.router r) x
    none_at_router r l x left = nothing x (AtRouter r l left)

    decided : (r : ℕ) → (w.router r).dirty ≡ finite.empty
    decided r = elim (below r (routers_in setup)) [
      | inl l ↦ no_prefix (w.router r).dirty (λ some. none_at_router r l (Dirty (record { 0 = r })) (refl, some))
      | inr le ↦ ap (λ (part : RouterPart). part.dirty) (outside_router r le)
          ∙ ap (λ (o : Option RouterSetup). fold (λ (prefixes : Prefixes) network. finite.insert prefixes network tt) finite.empty
          (unwrap_or (option_map (λ (router : RouterSetup). router.networks) o) [])) (slice_get_past setup.routers r le)
    ]

    told_in : (r q : ℕ) → (w.router r).due_in q ≡ finite.empty
    told_in r q = elim (below r (routers_in setup)) [
      | inl l ↦ no_prefix ((w.router r).due_in q) (λ some. none_at_router r l (DueIn (record { 0 = r }) (record { 0 = q })) (refl, some))
      | inr le ↦ ap (λ (part : RouterPart). part.due_in q) (outside_router r le)
    ]

    told_out : (r p : ℕ) → (w.router r).due_out p ≡ finite.empty
    told_out r p = elim (below r (routers_in setup)) [
      | inl l ↦ no_prefix ((w.router r).due_out p) (λ some. none_at_router r l (DueOut (record { 0 = p })) some)
      | inr le ↦ ap (λ (part : RouterPart). part.due_out p) (outside_router r le)
    ]

    links : (p : ℕ) → ((w.far p).homeward ≡ []) × ((w.far p).remoteward ≡ [])
    links p = elim (below p (peerings_in setup)) [
      | inl l ↦ append_none (w.far p).homeward (w.far p).remoteward (none_there _ (λ some. nothing (Bag (record { 0 = p })) (AtFarSide p l (refl, some))))
      | inr le ↦ (ap (λ (part : FarPart). part.homeward) (outside_far p le), ap (λ (part : FarPart). part.remoteward) (outside_far p le))
    ]

    acked : (p : ℕ) → ¬ IsUnacked (w.far p).end
    acked p = elim (below p (peerings_in setup)) [
      | inl l ↦ λ unacked. nothing (Stream (record { 0 = p })) (AtFarSide p l (refl, unacked))
      | inr le ↦ subst (λ (part : FarPart). ¬ IsUnacked part.end) (sym (outside_far p le)) (λ unacked. unacked refl)
    ]

    places : (r p : ℕ) → IsIdle (w.far p).end ((w.router r).places p)
    places r p = elim (below r (routers_in setup)) [
      | inl l ↦ idle (w.far p).end ((w.router r).places p)
          (no_value _ (λ k at_place. none_at_router r l (Graft k) (p, at_place)))
          (λ left. none_at_router r l (Stream (record { 0 = p })) left)
          (acked p) (λ session order held. is.streams r p session order held)
      | inr le ↦ subst (λ (place : Place). IsIdle (w.far p).end place)
          (sym (ap (λ (part : RouterPart). part.places p) (outside_router r le)
          ∙ vacant_beyond (routers_in setup) r (slice_get setup.peerings p) le (λ peering e. (is.sound.peerings p peering e).start))) tt
    ]

    issued : (n p : ℕ) (bytes : List ℕ) → slice_get setup.steps n ≡ Some (SayStep p bytes) → group_of setup n ≡ w.operator.group → w.operator.issued n ≡ true
    issued n p bytes there_is group = elim (by_test (w.operator.issued n)) [
      | inl e ↦ e
      | inr e ↦ absurd (nothing Script (ToOperator (inl (n, record { peering = p; bytes = bytes; is = there_is; group = group; unissued = e }))))
    ]

    -- a graft that has no outcome is left, whether it was ordered or not
    none_unended : (g : ScriptGraft) → IsUnended setup w.operator g → ⊥
    none_unended g unended = by_source (w.operator.source g.graft) refl where
      by_source : (source : Option ℕ) → w.operator.source g.graft ≡ source → ⊥
      by_source None e = nothing Script (ToOperator (inr (g, (unended, e))))
      by_source (Some r) e = nothing (Graft g.graft) (ToOperator (g, refl, unended, λ none. (let f : Some r ≡ None = sym e ∙ none in absurd cc)))

    pub quiet : Quiet setup w
    quiet = record {
      mesh = λ a b. map_none MeshItem (w.mesh a b) (channel_none (Router a) (Router b));
      outward = λ r p. map_none OutwardItem (w.outward r p) (channel_none (Router r) (FarSide p));
      inward = λ p r. map_none SegmentItem (w.inward p r) (channel_none (FarSide p) (Router r));
      orders = λ r. map_none OrderItem (w.orders r) (channel_none Operator (Router r));
      reports = λ r. map_none ReportItem (w.reports r) (channel_none (Router r) Operator);
      says = λ p. map_none StepItem (w.says p) (channel_none Operator (FarSide p));
      homeward = λ p. (links p).0;
      remoteward = λ p. (links p).1;
      decided = decided;
      told_in = told_in;
      told_out = told_out;
      places = places;
      issued = issued;
      ended = λ g known group made none. none_unended g (record { known = known; group = group; made = made; unended = none });
    }

  -- ---- nothing, where it is quiet

  module _ (q : Quiet setup w) where
    pub no_item : (from to : Option ActorName) → channel_of w from to ≡ []
    no_item (Some (Router a)) (Some (Router b)) = ap (map MeshItem) (q.mesh a b)
    no_item (Some (Router r)) (Some (FarSide p)) = ap (map OutwardItem) (q.outward r p)
    no_item (Some (Router r)) (Some Operator) = ap (map ReportItem) (q.reports r)
    no_item (Some (FarSide p)) (Some (Router r)) = ap (map SegmentItem) (q.inward p r)
    no_item (Some (FarSide p)) (Some (FarSide s)) = refl
    no_item (Some (FarSide p)) (Some Operator) = refl
    no_item (Some Operator) (Some (Router r)) = ap (map OrderItem) (q.orders r)
    no_item (Some Operator) (Some (FarSide p)) = ap (map StepItem) (q.says p)
    no_item (Some Operator) (Some Operator) = refl
    no_item (Some (Router a)) None = refl
    no_item (Some (FarSide p)) None = refl
    no_item (Some Operator) None = refl
    no_item None (Some x) = refl
    no_item None None = refl

    none_on_its_way : (x : Pending) → ¬ LeftOnItsWay setup w x
    none_on_its_way (Channel a b) left = left (no_item (actor_at setup a) (actor_at setup b))
    none_on_its_way Script left = left
    none_on_its_way (Graft k) left = left
    none_on_its_way (Bag p) left = left
    none_on_its_way (Stream p) left = left
    none_on_its_way (Dirty r) left = left
    none_on_its_way (DueIn r s) left = left
    none_on_its_way (DueOut p) left = left

    none_of_router : (r : ℕ) (x : Pending) → ¬ LeftAtRouter r (w.router r) x
    none_of_router r Script left = left
    none_of_router r (Graft k) left = idle_has_no_graft (w.far left.0).end ((w.router r).places left.0) k (q.places r left.0) left.1
    none_of_router r (Channel a b) left = left
    none_of_router r (Bag p) left = left
    none_of_router r (Stream p) left = idle_has_no_stream (w.far p.0).end ((w.router r).places p.0) (q.places r p.0) left
    none_of_router r (Dirty s) left = some_prefix (w.router r).dirty (q.decided r) left.1
    none_of_router r (DueIn s t) left = some_prefix ((w.router r).due_in t.0) (q.told_in r t.0) left.1
    none_of_router r (DueOut p) left = some_prefix ((w.router r).due_out p.0) (q.told_out r p.0) left

    -- a remote's bytes are acknowledged, since its session is somewhere, and that is live
    far_acked : (p : ℕ) → p < peerings_in setup → ¬ IsUnacked (w.far p).end
    far_acked p l unacked = is.held p l (
        ap (λ xs. xs ++ flat_map (λ a. flat_map (λ b. flat_map (sessions_on p) (w.mesh a b)) (router_numbers setup)) (router_numbers setup))
        (flat_map_none (λ r. sessions_at ((w.router r).places p)) (router_numbers setup)
        (λ r. idle_without (w.far p).end ((w.router r).places p) (q.places r p) unacked))
        ∙ flat_map_none (λ a. flat_map (λ b. flat_map (sessions_on p) (w.mesh a b)) (router_numbers setup)) (router_numbers setup)
        (λ a. flat_map_none (λ b. flat_map (sessions_on p) (w.mesh a b)) (router_numbers setup) (λ b. ap (flat_map (sessions_on p)) (q.mesh a b))))

    none_of_far : (p : ℕ) → p < peerings_in setup → (x : Pending) → ¬ LeftAtFar p (w.far p) x
    none_of_far p l Script left = left
    none_of_far p l (Graft k) left = left
    none_of_far p l (Channel a b) left = left
    none_of_far p l (Bag s) left = left.1 (ap (λ xs. xs ++ (w.far p).remoteward) (q.homeward p) ∙ q.remoteward p)
    none_of_far p l (Stream s) left = far_acked p l left.1
    none_of_far p l (Dirty s) left = left
    none_of_far p l (DueIn s t) left = left
    none_of_far p l (DueOut s) left = left

    unended : (g : ScriptGraft) → ¬ IsUnended setup w.operator g
    unended g u = q.ended g u.known u.group u.made u.unended

    unissued : ¬ HasUnissued setup w.operator
    unissued (inl (n, u)) = let e : w.operator.issued n ≡ true = q.issued n u.peering u.bytes u.is u.group in
        let f : w.operator.issued n ≡ false = u.unissued in absurd cc
    unissued (inr (g, u)) = unended g u.0

    pub nothing_left : (x : Pending) → ¬ IsLeft setup w x
    nothing_left x (OnItsWay left) = none_on_its_way x left
    nothing_left x (AtRouter r l left) = none_of_router r x left
    nothing_left x (AtFarSide p l left) = none_of_far p l x left
    nothing_left Script (ToOperator left) = unissued left
    nothing_left (Graft k) (ToOperator (g, same, u, ordered)) = unended g u
    nothing_left (Channel a b) (ToOperator left) = left
    nothing_left (Bag p) (ToOperator left) = left
    nothing_left (Stream p) (ToOperator left) = left
    nothing_left (Dirty r) (ToOperator left) = left
    nothing_left (DueIn r s) (ToOperator left) = left
    nothing_left (DueOut p) (ToOperator left) = left

  -- ---- by rests

  module _ (router : ℕ → RouterRest) (far : ℕ → FarRest) (operator : OperatorRest) (rests : AreRests setup w router far operator) where
    none_left : NothingIsNamed setup w router far operator → (x : Pending) → ¬ IsLeft setup w x
    none_left none x (OnItsWay left) = on_its_way x left
      where
        on_its_way : (x : Pending) → ¬ LeftOnItsWay setup w x
        on_its_way (Channel a b) there_is = none.channels a b there_is
        on_its_way Script there_is = there_is
        on_its_way (Graft k) there_is = there_is
        on_its_way (Bag p) there_is = there_is
        on_its_way (Stream p) there_is = there_is
        on_its_way (Dirty r) there_is = there_is
        on_its_way (DueIn r s) there_is = there_is
        on_its_way (DueOut p) there_is = there_is
    none_left none x (AtRouter r l left) = let named = router_names r (w.router r) (router r) (rests.routers r l) x left in none.routers r l named.0 named.1
    none_left none x (AtFarSide p l left) = let named = far_names p (w.far p) (far p) (rests.far_sides p l) x left in none.far_sides p l named.0 named.1
    none_left none x (ToOperator left) = let named = operator_names setup w.operator operator rests.of_operator x left in none.of_operator named.0 named.1

    none_named : Quiet setup w → NothingIsNamed setup w router far operator
    none_named q = record {
      routers = λ r l x names. nothing_left q x (AtRouter r l (router_has r (w.router r) (router r) (rests.routers r l) x names));
      far_sides = λ p l x names. nothing_left q x (AtFarSide p l (far_has p (w.far p) (far p) (rests.far_sides p l) x names));
      of_operator = λ x names. nothing_left q x (ToOperator (operator_has setup w.operator operator rests.of_operator x names));
      channels = λ a b on_its_way. on_its_way (no_item q (actor_at setup a) (actor_at setup b));
    }

    pub found : NothingIsNamed setup w router far operator ↔ Quiet setup w
    found = (λ none. quiet (none_left none), none_named)

  pub nothing_is_quiet : ((x : Pending) → ¬ IsLeft setup w x) ↔ Quiet setup w
  nothing_is_quiet = (quiet, nothing_left)
