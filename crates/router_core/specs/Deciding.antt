-- Decisions: prefixes are decided, and where the best route changes it is due to be told.
use Rattle.std.specs.Prelude.{ℕ, ◌≡◌, ◌==◌, ◌&&◌, not, nat_lt, Bool, List, [], ◌∷◌, length}
use Rattle.std.specs.FinMap as map
use Rattle.bgp_types.specs.Prefixes.{PrefixValue}
use Rattle.ring_net.specs.declared.post.Post.{Post}
use Rattle.graft_steps.specs.declared.item.Item.{Item}
use Rattle.bgp_session.specs.Running.{RunningSession}
use Rattle.graft_model.specs.Setups.{routers_in}
use Rattle.graft_model.specs.declared.event.RouterEvent.{RouterEvent}
use Rattle.graft_model.specs.declared.event.RouterEvent.TheVariants.{Decide}
use Rattle.graft_model.specs.TableRows.{holds_established}
use Rattle.graft_actors.specs.Emissions.{Tally}
use Rattle.router_tables.specs.Dues.{AddsBelow}
use Rattle.router_core.specs.Parts.{RouterInvariant}
use Rattle.router_core.specs.Places.{place_of, place_at}
use Rattle.router_core.specs.Rounds.{DidAsRouter}
use Rattle.router_core.specs.Turned.{AreAt}
use Rattle.router_core.specs.declared.fields.Fields.{Fields}

-- the routers to which another best route is due: each other one
abbrev pub is_other_router : Fields → ℕ → Bool
is_other_router f q = nat_lt q (routers_in f.known.setup) && not (q == f.number.0)

-- the peerings on which it is due: those whose session is established
abbrev pub is_up_at : Fields → ℕ → Bool
is_up_at f p = holds_established (place_of (place_at f.places.places p))

-- A prefix is due to each other router and on each established session.
pub record DueToAll (prefix : PrefixValue) (old new : Fields) : Type 0 where
  pub due_in : AddsBelow (length old.due_in) (is_other_router old) prefix old.due_in new.due_in
  pub due_out : AddsBelow (length old.due_out) (is_up_at old) prefix old.due_out new.due_out
  pub same : new ≡ record old { due_in = new.due_in; due_out = new.due_out }

-- A prefix is decided, and no longer dirty.
pub record DecidesOne (prefix : PrefixValue) (old : Fields) (before : Post (Item RunningSession))
    (new : Fields) (after : Post (Item RunningSession)) : Type 0 where
  pub did : (t : ℕ → Tally) → DidAsRouter old before t (Decide prefix ∷ []) new after t
  pub dirty : new.rib.dirty ≡ map.remove old.rib.dirty prefix
  pub same : new ≡ record old { rib = new.rib; due_in = new.due_in; due_out = new.due_out }
  pub keeps : RouterInvariant new

-- Some prefixes are decided, and no longer dirty.
pub record DecidesSome (old : Fields) (before : Post (Item RunningSession)) (new : Fields) (after : Post (Item RunningSession)) : Type 0 where
  pub events : List RouterEvent
  pub did : (t : ℕ → Tally) → DidAsRouter old before t events new after t
  pub at : AreAt 3 events
  pub same : new ≡ record old { rib = new.rib; due_in = new.due_in; due_out = new.due_out }
  pub keeps : RouterInvariant new
