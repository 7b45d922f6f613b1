-- What a router takes: an event that takes an item, and what follows it; and the items that it drops.
use Rattle.std.proofs.Common.{◌≡◌, ℕ, ◌<◌, List, [], ◌∷◌, Option, Some, None, refl, sym, ap, subst, ◌∙◌, arith, inl, inr, map}
use Rattle.std.specs.List.{AllByRecursion}
use Rattle.ring_net.specs.Deeds.{Deed, Replay}
use Rattle.ring_net.specs.Posts.{actor_of, Wrote}
use Rattle.ring_net.specs.declared.post.Post.{Post}
use Rattle.ring_net.proofs.PostLaws.{wrote_then}
use Rattle.graft_steps.specs.declared.item.Item.{Item}
use Rattle.graft_steps.specs.declared.item.Item.TheVariants as items
use Rattle.router_core.specs.declared.place.Errand.{Errand}
use Rattle.bgp_session.specs.Running.{RunningSession, carried}
use Rattle.graft_model.specs.Setups.{Setup, routers_in}
use Rattle.graft_model.specs.RouterRows.{RouterTaken, RouterSent}
use Rattle.graft_model.specs.Codes.{router_code}
use Rattle.graft_model.specs.declared.event.RouterEvent.{RouterEvent}
use Rattle.graft_model.specs.Steps.{router_row}
use Rattle.graft_actors.specs.Actors.{ActorName, Router, FarSide, Operator, Thing, number_in, IsActor, actor_at}
use Rattle.graft_actors.specs.Makes.{numbered, taken_by_router, sent_by_router}
use Rattle.graft_actors.proofs.Numbers.{of_number}
use Rattle.graft_actors.specs.Acts.{acts, IsWelcome, MayComeFrom, SendsFit, things}
use Rattle.graft_actors.specs.Emissions.{Tally, zero_tally}
use Rattle.graft_actors.specs.Items.{thing_of}
use Rattle.graft_actors.specs.Notes.{deed_of, WroteOne, dropped}
use Rattle.router_core.specs.Parts.{router_part, own_part, RouterInvariant}
use Rattle.router_core.specs.Places.{RunsAt}
use Rattle.router_core.specs.Rounds.{CarefulRouter, router_tally, RouterRound, SameRouter, DidAsRouter, WritesEvent}
use Rattle.router_core.specs.Takes.{Stays, RouterTakesIt, IsNoRouterItem}
use Rattle.router_core.specs.Turned.{AreAt, IsRouterTake}
use Rattle.router_core.specs.declared.fields.Fields.{Fields}
use Rattle.router_core.proofs.Goes.{GoesThrough, goes_taking}
use Rattle.router_core.proofs.Dids.{has_code, same_router, router_then, round_at}
use Rattle.router_core.proofs.PlaceLists.{listed}
use Rattle.router_core.proofs.Kept.{live_is, stays_itself}

-- the first event of a take: its row, with what it takes and sends
pub record TakesFirstly (f g : Fields) (p q : Post (Item RunningSession)) (from : ℕ) (item : Item RunningSession) (event : RouterEvent) : Type 0 where
  pub router : SameRouter f g
  pub sent : List (ℕ × Item RunningSession)
  pub wrote : WritesEvent p event sent q
  pub welcome : IsWelcome carried (own_part f) from item
  pub name : ActorName
  pub number : from ≡ number_in f.known.setup name
  pub took : RouterTaken
  pub thing : taken_by_router took ≡ (name, thing_of carried f.known.setup item)
  pub gave : List RouterSent
  pub row : router_row f.known.setup f.number.0 event (router_part f) (Some took) gave (router_part g)
  pub sends : things carried f.known.setup sent ≡ map (λ s. numbered f.known.setup (sent_by_router s)) gave
  pub known : AllByRecursion (λ s. IsActor f.known.setup (sent_by_router s).0) gave
  pub fit : SendsFit carried (own_part f) sent
  pub careful : CarefulRouter f.known.setup f.number.0 (router_part f) event
  pub still : (t : ℕ → Tally) → router_tally (router_part f) event t ≡ t

module _ (f g h : Fields) (p q r : Post (Item RunningSession)) (from : ℕ) (item : Item RunningSession) (event : RouterEvent) (events : List RouterEvent)
    (first : TakesFirstly f g p q from item event) (did : (t : ℕ → Tally) → DidAsRouter g q t events h r t) where
  abbrev first_deed : Deed (Item RunningSession)
  first_deed = deed_of p (router_code event) (Some (from, item)) first.sent

  abbrev none_yet : ℕ → Tally
  none_yet n = zero_tally

  acts_first : acts carried (actor_of p) (own_part f) first_deed.entry (Some (from, item)) first.sent (own_part g)
  acts_first = record {
    setup = first.router.setup;
    name = ap (λ k. Router k.0) first.router.number;
    does = inl (record {
      welcome = first.welcome;
      row = record {
        event = event;
        coded = has_code p event (Some (from, item)) first.sent;
        took = Some first.took;
        gave = first.gave;
        holds = first.row;
        is_taken = λ i. Some (
          (first.number ∙ sym (ap (λ (x : ActorName × Thing). number_in f.known.setup x.0) first.thing)) i,
          sym (ap (λ (x : ActorName × Thing). x.1) first.thing) i,
        );
        is_sent = first.sends;
        there = first.known;
      };
      fit = first.fit;
    });
  }

  round_first : (t : ℕ → Tally) → RouterRound f.known.setup f.number.0 (router_part f) t (event ∷ events) (router_part h) t
  round_first t = (
    Some first.took,
    first.gave,
    router_part g,
    first.row,
    first.careful,
    subst (λ (u : ℕ → Tally). RouterRound f.known.setup f.number.0 (router_part g) u events (router_part h) t) (sym (first.still t))
        (round_at f g t t events (router_part g) (router_part h) first.router (did t).round),
  )

  -- the take whose first event it is
  pub takes_then : AreAt 0 (event ∷ events)
      → ((p : ℕ) (s u : RunningSession) (o q : Option Errand) → RunsAt f.places.places p s o → RunsAt h.places.places p u q → Stays s u)
      → h.turns ≡ f.turns → RouterInvariant h → RouterTakesIt from item f p h r
  takes_then at stays turns keeps =
      let d : DidAsRouter g q none_yet events h r none_yet = did none_yet in
      let goes : GoesThrough f.known.setup f.number.0 IsRouterTake (router_part f) (event ∷ events) (router_part h) =
      goes_taking f.known.setup f.number.0 (router_part f) (router_part h) none_yet none_yet (event ∷ events) (round_first none_yet) at in
      let one : Wrote p (first_deed ∷ []) q = first.wrote (Some (from, item)) in
      record {
        took = record {
          deeds = first_deed ∷ d.deeds;
          wrote = wrote_then p q r (first_deed ∷ []) d.deeds one d.wrote;
          first = (refl, d.none);
          replay = (own_part g, acts_first, subst (λ (n : ℕ). Replay (acts carried) n (own_part g) d.deeds (own_part h)) one.actor d.replay);
          took = record {
            router = router_then f g h first.router d.router;
            turns = turns;
            rows = λ w. record {
              events = event ∷ events;
              coded = (has_code p event (Some (from, item)) first.sent, d.coded);
              parts = goes.0;
              goes = goes.1;
              stays = stays;
            };
          };
        };
        keeps = keeps;
      }

-- ---- items that are dropped

pub drops : (f : Fields) (p q : Post (Item RunningSession)) (from : ℕ) (item : Item RunningSession) → RouterInvariant f → WroteOne p dropped [] q
    → (IsWelcome carried (own_part f) from item → ⊥) → RouterTakesIt from item f p f q
drops f p q from item keeps wrote not = record {
  took = record {
    deeds = deed_of p dropped (Some (from, item)) [] ∷ [];
    wrote = wrote (Some (from, item));
    first = (refl, tt);
    replay = (
      own_part f,
      record {
        setup = refl;
        name = refl;
        does =
            inr (record { from = from; item = item; takes = refl; unwelcome = not; kind = refl; a = refl; b = refl; c = refl; sends = refl; stays = refl });
      },
      refl,
    );
    took = record { router = same_router f; turns = refl; rows = λ w. absurd (not w) };
  };
  keeps = keeps;
}

-- an item that no router takes
pub other_unwelcome : (f : Fields) (from : ℕ) (item : Item RunningSession) → IsNoRouterItem item → IsWelcome carried (own_part f) from item → ⊥
other_unwelcome f from item other w = by_item item other (actor_at f.known.setup from) w.comes
  where
    by_item : (item : Item RunningSession) → IsNoRouterItem item → (o : Option ActorName) → MayComeFrom carried f.known.setup o (Router f.number.0) item → ⊥
    by_item (items.PointAt k) other None m = m
    by_item (items.PointAt k) other (Some (Router q)) m = m
    by_item (items.PointAt k) other (Some (FarSide q)) m = m
    by_item (items.PointAt k) other (Some Operator) m = m
    by_item (items.Report k outcome) other None m = m
    by_item (items.Report k outcome) other (Some (Router q)) m = m
    by_item (items.Report k outcome) other (Some (FarSide q)) m = m
    by_item (items.Report k outcome) other (Some Operator) m = m
    by_item (items.SayOrder step) other None m = m
    by_item (items.SayOrder step) other (Some (Router q)) m = m
    by_item (items.SayOrder step) other (Some (FarSide q)) m = m
    by_item (items.SayOrder step) other (Some Operator) m = m
    by_item (items.Seg g) other o m = other
    by_item (items.Told prefix route) other o m = other
    by_item (items.Moved k capsule) other o m = other
    by_item (items.Back k capsule refusal) other o m = other
    by_item (items.Asked k peering) other o m = other
    by_item (items.Answered k peering) other o m = other
    by_item (items.Done k peering) other o m = other
    by_item (items.GraftOrder k peering target) other o m = other

-- an actor of this number is a router
pub is_router : (setup : Setup) (n : ℕ) → (q : ℕ) × (actor_at setup n ≡ Some (Router q)) → n < routers_in setup
is_router setup n is = let at : (is.0 < routers_in setup) × (n ≡ is.0) = of_number setup n (Router is.0) is.1 in omega (arith, at.0, at.1)

-- ---- sessions that stay as they are

pub all_stay : (f g : Fields) → g.places ≡ f.places → (p : ℕ) (s u : RunningSession) (o q : Option Errand) → RunsAt f.places.places p s o
    → RunsAt g.places.places p u q → Stays s u
all_stay f g same p s u o q a b = stays_itself s u (live_is f.places.places p s u o q a (subst (λ xs. RunsAt xs p u q) (listed same) b))
