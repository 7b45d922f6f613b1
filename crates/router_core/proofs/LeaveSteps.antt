-- Grafts begin at their source: each is refused, or the session leaves in it.
use Rattle.std.proofs.Common.{◌≡◌, ℕ, ◌+◌, ◌<◌, List, [], ◌∷◌, length, Option, Some, None, Bool, true, false, ◌==◌, inl, inr, refl, sym, ap, subst, ◌∙◌, set}
use Rattle.std.specs.Prelude.{if◌then◌else◌}
use Rattle.std.specs.FinMap as map
use Rattle.std.proofs.lemmas.List.{length-set}
use Rattle.ring_net.specs.declared.post.Post.{Post}
use Rattle.ring_net.proofs.PostLaws.{wrote_then}
use Rattle.bgp_types.specs.declared.message.SessionState.{SessionState}
use Rattle.bgp_types.specs.declared.message.SessionState.TheVariants.{OpenSent, OpenConfirm, Established, Closed}
use Rattle.graft_steps.specs.declared.item.Item.{Item}
use Rattle.graft_steps.specs.declared.item.Item.TheVariants as items
use Rattle.graft_steps.specs.declared.order.GraftIds.{GraftIds}
use Rattle.graft_steps.specs.declared.refusal.Refusal.{Refusal}
use Rattle.graft_steps.specs.declared.refusal.Outcome.TheVariants as outcomes
use Rattle.graft_steps.specs.declared.refusal.Refusal.TheVariants as refusals
use Rattle.graft_steps.specs.Refusals.{freeze_refusal, session_refusal}
use Rattle.graft_edge.specs.declared.ids.RouterId.{RouterId}
use Rattle.session_value.specs.Sessions.{state, hold_time}
use Rattle.session_value.specs.Sets.{Prefixes, has}
use Rattle.bgp_session.specs.Running.{RunningSession}
use Rattle.rib_stages.specs.Values.{rib_of, table_at}
use Rattle.graft_model.specs.GraftRows.{Freezes, Leaves}
use Rattle.graft_model.specs.Points.{at}
use Rattle.graft_model.specs.Setups.{peerings_in, routers_in}
use Rattle.graft_model.specs.Parts as model
use Rattle.graft_model.specs.Parts.{RouterPart, Moved}
use Rattle.graft_model.specs.RouterRows.{MeshTo, ReportOut}
use Rattle.graft_model.specs.Codes.{router_code}
use Rattle.graft_model.specs.declared.event.RouterEvent.TheVariants.{Refuse, Freeze, Leave}
use Rattle.graft_actors.specs.Actors.{Router, RouterIs, Operator, MeshItem}
use Rattle.graft_actors.specs.Emissions.{Tally}
use Rattle.graft_actors.specs.Items.{home_first, remote_first}
use Rattle.graft_actors.specs.Notes.{deed_of}
use Rattle.session_places.specs.Places.{with_place}
use Rattle.router_tables.proofs.Points.{one_or_other, at_here, at_else}
use Rattle.router_core.specs.Leaving.{BegunAs}
use Rattle.router_core.specs.Parts.{router_part, own_part, RouterInvariant, KeepsPlace}
use Rattle.router_tables.specs.Owned.{IsGraftOf}
use Rattle.router_core.specs.Places.{place_of, place_at, order_of}
use Rattle.router_core.specs.Rounds.{DidAsRouter, SameRouter, WritesEvent}
use Rattle.router_core.specs.Stages.{GraftGoes}
use Rattle.router_core.specs.Visits.{Visits, SameButLeaving, SameButPlaces, beginning_grafts}
use Rattle.router_core.specs.declared.fields.Fields.{Fields}
use Rattle.router_core.specs.declared.place.Errand.TheVariants.{Leaving, Owing, Asking}
use Rattle.router_core.specs.declared.place.Place.{Place}
use Rattle.router_core.specs.declared.place.Place.TheVariants.{Live, Shadow}
use Rattle.router_core.specs.declared.stages.grafts.Begun.TheVariants.{Nothing, Refused, Left}
use Rattle.router_core.proofs.Dids.{Sends, did_sent, has_code, sends_at, sends_is, sends_name}
use Rattle.router_core.proofs.PlaceSteps.{at_own, elsewhere, here, keeps_at, part_at, visits_same}
use Rattle.router_core.proofs.Kept.{keeps_on}
use Rattle.router_tables.proofs.DueSteps.{none_in}
use Rattle.router_core.proofs.PlaceLists.{listed, rooms}
use Rattle.router_core.proofs.VisitSteps.{set_here, set_other}

-- a graft of this router has it for its source
source_is : (f : Fields) (n : ℕ) (ids : GraftIds) → IsGraftOf f.known.setup f.number.0 n ids → (let r : RouterId = record { 0 = f.number.0 } in r) ≡ ids.source
source_is f n ids of = λ i. record { 0 = sym of.source i }

-- a session that isn't refused is established
unrefused : (source target : RouterId) (from : SessionState) (hold : ℕ) → freeze_refusal source target from hold ≡ None → from ≡ Established
unrefused source target from hold none = by_router (target.0 == source.0) from none
  where
    by_router : (b : Bool) (from : SessionState) → (if b then Some refusals.SameRouter else session_refusal from hold) ≡ None → from ≡ Established
    by_router true from e = absurd (let x : ⊥ = cc in x)
    by_router false OpenSent e = absurd (let x : ⊥ = cc in x)
    by_router false OpenConfirm e = absurd (let x : ⊥ = cc in x)
    by_router false Established e = refl
    by_router false Closed e = absurd (let x : ⊥ = cc in x)

module _ (f g : Fields) (p q : Post (Item RunningSession)) (n : ℕ) (s : RunningSession) (ids : GraftIds) (keeps : RouterInvariant f)
    (there : n < length f.places.places) (is : place_at f.places.places n ≡ Some (Live s (Some (Leaving ids)))) where
  place_is : KeepsPlace f.known.setup f.number.0 n ((rib_of f.rib).entries n) (table_at f.due_out n) (Some (Live s (Some (Leaving ids))))
  place_is = subst (KeepsPlace f.known.setup f.number.0 n ((rib_of f.rib).entries n) (table_at f.due_out n)) is (keeps.each n)

  graft_is : IsGraftOf f.known.setup f.number.0 n ids
  graft_is = place_is.2

  part_is : (router_part f).places n ≡ model.Live s.session (Some (model.Leaving (order_of ids)))
  part_is = ap place_of is

  cause_is : (answer : Option Refusal) → freeze_refusal ids.source ids.target (state s.session) (hold_time s.session) ≡ answer
      → freeze_refusal (record { 0 = f.number.0 }) (record { 0 = ids.target.0 }) (state s.session) (hold_time s.session) ≡ answer
  cause_is answer e = ap (λ (r : RouterId). freeze_refusal r ids.target (state s.session) (hold_time s.session)) (source_is f n ids graft_is) ∙ e

  -- ---- it is refused

  module _ (refusal : Refusal) (cause : freeze_refusal ids.source ids.target (state s.session) (hold_time s.session) ≡ Some refusal)
      (same : SameButPlaces f g) (items_are : g.places ≡ with_place f.places n (Some (Live s None)))
      (wrote : WritesEvent p (Refuse ids.graft)
      ((routers_in f.known.setup + peerings_in f.known.setup, items.Report ids.graft (outcomes.Refused refusal)) ∷ []) q) where
    sends_report : Sends f (routers_in f.known.setup + peerings_in f.known.setup) (items.Report ids.graft (outcomes.Refused refusal))
        (ReportOut (record { graft = ids.graft; outcome = outcomes.Refused refusal }))
    sends_report = record { name = Operator; known = tt; number = refl; thing = refl; may = tt }

    did_refuse : (t : ℕ → Tally) → DidAsRouter f p t (Refuse ids.graft ∷ []) g q t
    did_refuse t = did_sent f g p q t (Refuse ids.graft) (routers_in f.known.setup + peerings_in f.known.setup)
        (items.Report ids.graft (outcomes.Refused refusal)) (ReportOut (record { graft = ids.graft; outcome = outcomes.Refused refusal }))
        (record { setup = ap (λ (h : Fields). h.known.setup) same; number = ap (λ (h : Fields). h.number) same }) wrote sends_report
        (record {
          peering = n;
          target = ids.target.0;
          session = s.session;
          live = record { is = part_is };
          refusal = refusal;
          cause = cause_is (Some refusal) cause;
          takes = refl;
          sends = refl;
          effect = part_at f g n (Some (Live s None)) there same items_are;
        }) tt

    refused : Visits beginning_grafts n f p g q
    refused = record {
      events = Refuse ids.graft ∷ [];
      did = λ t. subst (λ (u : ℕ → Tally). DidAsRouter f p t (Refuse ids.graft ∷ []) g q u) (λ i k. sym (at_own t n (t n) refl k) i) (did_refuse t);
      at = (refl, tt);
      goes = subst (λ (x : Option Place). GraftGoes x (place_at g.places.places n)) (sym is) (inl (here f g n (Some (Live s None)) there same items_are));
      others = λ k not. (elsewhere f g n (Some (Live s None)) there same items_are k not, refl);
      same = subst (λ (h : Fields). h ≡ record f { places = h.places; due_out = h.due_out }) (sym same) refl;
      keeps = keeps_at f g n (Some (Live s None)) there same items_are keeps (place_is.0, place_is.1, tt, place_is.3);
    }

  -- ---- the session leaves

  -- frozen, between the two events
  abbrev mid : RouterPart
  mid = record (router_part f) { places = at (router_part f).places n (model.Frozen s.session (order_of ids)) }

  module _ (m : Post (Item RunningSession)) (no_cause : freeze_refusal ids.source ids.target (state s.session) (hold_time s.session) ≡ None)
      (same : SameButLeaving f g) (items_are : g.places ≡ with_place f.places n (Some (Shadow ids)))
      (due : table_at g.due_out ≡ at (table_at f.due_out) n map.empty) (sizes : length g.due_out ≡ length f.due_out)
      (first : WritesEvent p (Freeze ids.graft) [] m) (second : WritesEvent m (Leave ids.graft) ((ids.target.0, items.Moved ids.graft s) ∷ []) q) where
    same_router : SameRouter f g
    same_router = record { setup = ap (λ (h : Fields). h.known.setup) same; number = ap (λ (h : Fields). h.number) same }

    freezes : Freezes f.number.0 ids.graft (router_part f) None [] mid
    freezes = record {
      alone = (refl, refl);
      peering = n;
      target = ids.target.0;
      session = s.session;
      live = record { is = part_is };
      no_cause = cause_is None no_cause;
      effect = refl;
    }

    -- it leaves a shadow, and nothing is due
    effect : router_part g ≡ record mid { places = at mid.places n (model.Shadow ids.graft); due_out = at mid.due_out n map.empty }
    effect = ap router_part same ∙ (λ i. record (router_part f) { places = λ k. places_are k i; due_out = due i })
      where
        places_are : (k : ℕ) → place_of (place_at g.places.places k) ≡ at mid.places n (model.Shadow ids.graft) k
        places_are k = ap (λ (xs : List (Option Place)). place_of (place_at xs k)) (listed items_are) ∙ elim (one_or_other n k) [
          | inl e ↦
              ap (λ (j : ℕ). place_of (place_at (set f.places.places n (Some (Shadow ids))) j)) e
              ∙ ap place_of (set_here f.places.places n (Some (Shadow ids)) there)
              ∙ sym (at_here mid.places n (model.Shadow ids.graft) k e)
          | inr not ↦
              ap place_of (set_other f.places.places n (Some (Shadow ids)) there k not)
              ∙ sym (at_else (router_part f).places n (model.Frozen s.session (order_of ids)) k not)
              ∙ sym (at_else mid.places n (model.Shadow ids.graft) k not)
        ]

    leaves : Leaves ids.graft mid None (MeshTo ids.target.0 (Moved ids.graft n s.session) ∷ []) (router_part g)
    leaves = record {
      peering = n;
      target = ids.target.0;
      session = s.session;
      frozen = at_here (router_part f).places n (model.Frozen s.session (order_of ids)) n refl;
      takes = refl;
      sends = refl;
      effect = effect;
    }

    -- only an established session leaves
    established_is : state s.session ≡ Established
    established_is = unrefused ids.source ids.target (state s.session) (hold_time s.session) no_cause

    sends_moved : Sends f ids.target.0 (items.Moved ids.graft s) (MeshTo ids.target.0 (Moved ids.graft n s.session))
    sends_moved = record {
      name = Router ids.target.0;
      known = graft_is.target;
      number = refl;
      thing = ap (λ (k : ℕ). (Router ids.target.0, MeshItem (Moved ids.graft k s.session))) (sym place_is.0.peering);
      may = record {
        established = established_is;
        sends = place_is.0.sends ∙ ap (home_first f.known.setup) (sym place_is.0.peering);
        receives = place_is.0.receives ∙ ap (remote_first f.known.setup) (sym place_is.0.peering);
      };
    }

    did_leave : (t : ℕ → Tally) → DidAsRouter f p t (Freeze ids.graft ∷ Leave ids.graft ∷ []) g q t
    did_leave t = record {
      router = same_router;
      deeds = deed_of p (router_code (Freeze ids.graft)) None []
          ∷ deed_of m (router_code (Leave ids.graft)) None ((ids.target.0, items.Moved ids.graft s) ∷ []) ∷ [];
      wrote = wrote_then p m q _ _ (first None) (second None);
      none = (refl, (refl, tt));
      coded = (has_code p (Freeze ids.graft) None [], (has_code m (Leave ids.graft) None [], tt));
      replay = (
        record { setup = f.known.setup; name = Router f.number.0; part = RouterIs mid },
        record {
          setup = refl;
          name = refl;
          does = inl (record {
            welcome = tt;
            row = record {
              event = Freeze ids.graft;
              coded = has_code p (Freeze ids.graft) None [];
              took = None;
              gave = [];
              holds = freezes;
              is_taken = refl;
              is_sent = refl;
              there = tt;
            };
            fit = tt;
          });
        },
        (
          own_part g,
          record {
            setup = same_router.setup;
            name = ap (λ k. Router k.0) same_router.number;
            does = inl (record {
              welcome = tt;
              row = record {
                event = Leave ids.graft;
                coded = has_code m (Leave ids.graft) None [];
                took = None;
                gave = MeshTo ids.target.0 (Moved ids.graft n s.session) ∷ [];
                holds = leaves;
                is_taken = refl;
                is_sent = ap (λ x. x ∷ []) (sends_is f ids.target.0 (items.Moved ids.graft s) (MeshTo ids.target.0 (Moved ids.graft n s.session)) sends_moved);
                there = (sends_name f ids.target.0 (items.Moved ids.graft s) (MeshTo ids.target.0 (Moved ids.graft n s.session)) sends_moved, tt);
              };
              fit = (
                (
                  sends_moved.name,
                  sends_at f ids.target.0 (items.Moved ids.graft s) (MeshTo ids.target.0 (Moved ids.graft n s.session)) sends_moved,
                  sends_moved.may,
                ),
                tt,
              );
            });
          },
          refl,
        ),
      );
      round = (None, [], mid, freezes, tt, (None, MeshTo ids.target.0 (Moved ids.graft n s.session) ∷ [], router_part g, leaves, tt, (refl, refl)));
    }

    -- nothing is due on it
    keeps_left : RouterInvariant g
    keeps_left = keeps_on f g keeps
        (subst (λ (h : Fields). h ≡ record f { places = h.places; rib = h.rib; due_in = h.due_in; due_out = h.due_out; turns = h.turns }) (sym same) refl)
        (record {
          places = ap length (listed items_are) ∙ length-set f.places.places n (Some (Shadow ids));
          reserved = rooms items_are;
          due_in = ap (λ (h : Fields). length h.due_in) same;
          due_out = sizes;
          config = ap (λ (h : Fields). h.rib.config) same;
          tellings = λ q out. ap (λ (h : Fields). (rib_of h.rib).tellings q) same;
        })
        (λ k. subst (λ (h : Fields). KeepsPlace f.known.setup f.number.0 k ((rib_of h.rib).entries k) (table_at g.due_out k) (place_at g.places.places k))
        (sym same)
        (subst (λ (d : ℕ → Prefixes). KeepsPlace f.known.setup f.number.0 k ((rib_of f.rib).entries k) (d k) (place_at g.places.places k)) (sym due)
        (subst (λ (xs : List (Option Place)). KeepsPlace f.known.setup f.number.0 k ((rib_of f.rib).entries k)
        (at (table_at f.due_out) n map.empty k) (place_at xs k)) (sym (listed items_are)) (each k))))
      where
        each : (k : ℕ)
            → KeepsPlace f.known.setup f.number.0 k ((rib_of f.rib).entries k)
            (at (table_at f.due_out) n map.empty k) (place_at (set f.places.places n (Some (Shadow ids))) k)
        each k = elim (one_or_other n k) [
          | inl e ↦
              subst (λ (j : ℕ). KeepsPlace f.known.setup f.number.0 j ((rib_of f.rib).entries j)
              (at (table_at f.due_out) n map.empty j) (place_at (set f.places.places n (Some (Shadow ids))) j)) (sym e)
              (subst (λ (x : Option Place). KeepsPlace f.known.setup f.number.0 n ((rib_of f.rib).entries n) (at (table_at f.due_out) n map.empty n) x)
              (sym (set_here f.places.places n (Some (Shadow ids)) there))
              (graft_is, λ x. ap (λ (d : Prefixes). has d x) (at_here (table_at f.due_out) n map.empty n refl) ∙ none_in x))
          | inr not ↦
              subst (λ (x : Option Place). KeepsPlace f.known.setup f.number.0 k ((rib_of f.rib).entries k) (at (table_at f.due_out) n map.empty k) x)
              (sym (set_other f.places.places n (Some (Shadow ids)) there k not))
              (subst (λ (d : Prefixes). KeepsPlace f.known.setup f.number.0 k ((rib_of f.rib).entries k) d (place_at f.places.places k))
              (sym (at_else (table_at f.due_out) n map.empty k not)) (keeps.each k))
        ]

    left : Visits beginning_grafts n f p g q
    left = record {
      events = Freeze ids.graft ∷ Leave ids.graft ∷ [];
      did = λ t. subst (λ (u : ℕ → Tally). DidAsRouter f p t (Freeze ids.graft ∷ Leave ids.graft ∷ []) g q u)
          (λ i k. sym (at_own t n (t n) refl k) i) (did_leave t);
      at = (refl, (refl, tt));
      goes = subst (λ (x : Option Place). GraftGoes x (place_at g.places.places n)) (sym is)
          (inr (ap (λ (xs : List (Option Place)). place_at xs n) (listed items_are) ∙ set_here f.places.places n (Some (Shadow ids)) there));
      others = λ k not.
          (ap (λ (xs : List (Option Place)). place_at xs k) (listed items_are) ∙ set_other f.places.places n (Some (Shadow ids)) there k not, refl);
      same = same;
      keeps = keeps_left;
    }

-- ---- whichever it is

module _ (f g : Fields) (p q : Post (Item RunningSession)) (n : ℕ) (x : Option Place) (keeps : RouterInvariant f) (there : n < length f.places.places) where
  idle : (same : SameButPlaces f g) → g.places ≡ with_place f.places n x → (y : Option Place) → place_at f.places.places n ≡ y → x ≡ y
      → GraftGoes y y → Visits beginning_grafts n f p g p
  idle same items_are y is x_is goes = visits_same f g n x there same items_are beginning_grafts p keeps (ap place_of (x_is ∙ sym is))
      (subst (λ (z : Option Place). GraftGoes z x) (sym is) (subst (GraftGoes y) (sym x_is) goes)) (λ t. refl)
      (subst (λ (h : Fields). h ≡ record f { places = h.places; due_out = h.due_out }) (sym same) refl)
      (subst (KeepsPlace f.known.setup f.number.0 n ((rib_of f.rib).entries n) (table_at f.due_out n)) (is ∙ sym x_is) (keeps.each n))

  pub begins_nothing : (same : SameButPlaces f g) → g.places ≡ with_place f.places n x → (y : Option Place) → place_at f.places.places n ≡ y
      → BegunAs y Nothing x → Visits beginning_grafts n f p g p
  begins_nothing same items_are None is begun = idle same items_are None is begun refl
  begins_nothing same items_are (Some (Live s None)) is begun = idle same items_are (Some (Live s None)) is begun refl
  begins_nothing same items_are (Some (Live s (Some (Leaving ids)))) is begun = absurd begun
  begins_nothing same items_are (Some (Live s (Some (Owing landing)))) is begun = idle same items_are (Some (Live s (Some (Owing landing)))) is begun refl
  begins_nothing same items_are (Some (Live s (Some (Asking landing)))) is begun = idle same items_are (Some (Live s (Some (Asking landing)))) is begun refl
  begins_nothing same items_are (Some (Shadow away)) is begun = idle same items_are (Some (Shadow away)) is begun refl

  pub begins_refused : (same : SameButPlaces f g) → g.places ≡ with_place f.places n x → (named : GraftIds) (refusal : Refusal)
      → WritesEvent p (Refuse named.graft) ((routers_in f.known.setup + peerings_in f.known.setup, items.Report named.graft (outcomes.Refused refusal)) ∷ []) q
      → (y : Option Place) → place_at f.places.places n ≡ y → BegunAs y (Refused named refusal) x → Visits beginning_grafts n f p g q
  begins_refused same items_are named refusal wrote None is begun = absurd begun
  begins_refused same items_are named refusal wrote (Some (Live s None)) is begun = absurd begun
  begins_refused same items_are named refusal wrote (Some (Live s (Some (Leaving ids)))) is begun =
      refused f g p q n s ids keeps there is refusal begun.1 same (items_are ∙ ap (with_place f.places n) begun.2)
      (subst (λ (k : GraftIds). WritesEvent p (Refuse k.graft)
      ((routers_in f.known.setup + peerings_in f.known.setup, items.Report k.graft (outcomes.Refused refusal)) ∷ []) q) begun.0 wrote)
  begins_refused same items_are named refusal wrote (Some (Live s (Some (Owing landing)))) is begun = absurd begun
  begins_refused same items_are named refusal wrote (Some (Live s (Some (Asking landing)))) is begun = absurd begun
  begins_refused same items_are named refusal wrote (Some (Shadow away)) is begun = absurd begun

  pub begins_left : (m : Post (Item RunningSession)) (same : SameButLeaving f g) → g.places ≡ with_place f.places n x
      → table_at g.due_out ≡ at (table_at f.due_out) n map.empty → length g.due_out ≡ length f.due_out
      → (named : GraftIds) (capsule : RunningSession) → WritesEvent p (Freeze named.graft) [] m
      → WritesEvent m (Leave named.graft) ((named.target.0, items.Moved named.graft capsule) ∷ []) q
      → (y : Option Place) → place_at f.places.places n ≡ y → BegunAs y (Left named capsule) x → Visits beginning_grafts n f p g q
  begins_left m same items_are due sizes named capsule first second None is begun = absurd begun
  begins_left m same items_are due sizes named capsule first second (Some (Live s None)) is begun = absurd begun
  begins_left m same items_are due sizes named capsule first second (Some (Live s (Some (Leaving ids)))) is begun =
      left f g p q n s ids keeps there is m begun.1 same (items_are ∙ ap (with_place f.places n) begun.3) due sizes
      (subst (λ (k : GraftIds). WritesEvent p (Freeze k.graft) [] m) begun.0 first)
      (subst (λ (c : RunningSession). WritesEvent m (Leave ids.graft) ((ids.target.0, items.Moved ids.graft c) ∷ []) q) begun.2
      (subst (λ (k : GraftIds). WritesEvent m (Leave k.graft) ((k.target.0, items.Moved k.graft capsule) ∷ []) q) begun.0 second))
  begins_left m same items_are due sizes named capsule first second (Some (Live s (Some (Owing landing)))) is begun = absurd begun
  begins_left m same items_are due sizes named capsule first second (Some (Live s (Some (Asking landing)))) is begun = absurd begun
  begins_left m same items_are due sizes named capsule first second (Some (Shadow away)) is begun = absurd begun
