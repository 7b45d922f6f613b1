-- What a router promises of one take, beside its event.
use Rattle.std.specs.Prelude.{ℕ, ◌≡◌, ◌≤◌, List, Option}
use Rattle.ring_net.specs.Deeds.{Deed}
use Rattle.ring_net.specs.Posts.{TookItem}
use Rattle.ring_net.specs.declared.post.Post.{Post}
use Rattle.graft_steps.specs.declared.item.Item.{Item}
use Rattle.graft_steps.specs.declared.item.Item.TheVariants as items
use Rattle.router_core.specs.declared.place.Errand.{Errand}
use Rattle.bgp_session.specs.Running.{RunningSession, carried}
use Rattle.graft_model.specs.Parts.{RouterPart}
use Rattle.graft_model.specs.declared.event.RouterEvent.{RouterEvent}
use Rattle.graft_actors.specs.Acts.{acts, IsWelcome}
use Rattle.router_core.specs.Parts.{router_part, own_part, RouterInvariant}
use Rattle.router_core.specs.Places.{RunsAt}
use Rattle.router_core.specs.Rounds.{RouterGoes, SameRouter}
use Rattle.router_core.specs.Turned.{IsRouterTake}
use Rattle.router_core.specs.declared.fields.Fields.{Fields}
use Rattle.graft_actors.specs.Makes.{AreDeeds}
use Rattle.graft_model.specs.Codes.{router_code}

-- The session of a peering that stays live through a take emits nothing, and its retransmission turn stays the same.
pub record Stays (old new : RunningSession) : Type 0 where
  pub acked : old.session.end.acked ≤ new.session.end.acked
  pub emitted : new.session.end.emitted ≡ old.session.end.emitted
  pub at_turn : new.acked_at_turn ≡ old.acked_at_turn

-- The events of a take of an item that is welcome, all of which are made as items are taken, and the sessions that stay.
pub record TakesRows (old : Fields) (deeds : List (Deed (Item RunningSession))) (new : Fields) : Type 0 where
  pub events : List RouterEvent
  pub coded : AreDeeds router_code events deeds
  pub parts : List RouterPart
  pub goes : RouterGoes old.known.setup old.number.0 IsRouterTake (router_part old) events parts (router_part new)
  pub stays : (p : ℕ) (s u : RunningSession) (o q : Option Errand) → RunsAt old.places.places p s o → RunsAt new.places.places p u q → Stays s u

pub record TookAsRouter (old : Fields) (from : ℕ) (item : Item RunningSession) (deeds : List (Deed (Item RunningSession))) (new : Fields) : Type 0 where
  pub router : SameRouter old new
  pub turns : new.turns ≡ old.turns
  pub rows : IsWelcome carried (own_part old) from item → TakesRows old deeds new

-- a take, after which the router is sound
pub record RouterTakesIt (from : ℕ) (item : Item RunningSession) (old : Fields) (before : Post (Item RunningSession))
    (new : Fields) (after : Post (Item RunningSession)) : Type 0 where
  pub took : TookItem own_part (acts carried) TookAsRouter from item old before new after
  pub keeps : RouterInvariant new

-- an item that no router takes
abbrev pub IsNoRouterItem : {C : Type 0} → Item C → Type 0
IsNoRouterItem (items.PointAt k) = Unit {0}
IsNoRouterItem (items.Report k outcome) = Unit {0}
IsNoRouterItem (items.SayOrder step) = Unit {0}
IsNoRouterItem item = ⊥
