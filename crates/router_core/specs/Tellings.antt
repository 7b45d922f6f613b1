-- Other routers are told what is due to them.
use Rattle.std.specs.Prelude.{ℕ, ◌≡◌, ◌≢◌, ◌<◌, List, [], ◌∷◌}
use Rattle.std.specs.FinMap as map
use Rattle.bgp_types.specs.Prefixes.{PrefixValue}
use Rattle.ring_net.specs.declared.post.Post.{Post}
use Rattle.graft_steps.specs.declared.item.Item.{Item}
use Rattle.bgp_session.specs.Running.{RunningSession}
use Rattle.rib_stages.specs.Values.{table_at}
use Rattle.graft_model.specs.Points.{at}
use Rattle.graft_model.specs.declared.event.RouterEvent.{RouterEvent}
use Rattle.graft_model.specs.declared.event.RouterEvent.TheVariants.{Tell}
use Rattle.graft_actors.specs.Emissions.{Tally}
use Rattle.router_core.specs.Parts.{RouterInvariant}
use Rattle.router_core.specs.Rounds.{DidAsRouter}
use Rattle.router_core.specs.Turned.{AreAt}
use Rattle.router_core.specs.declared.fields.Fields.{Fields}

-- A router is told a prefix, which is no longer due to it.
pub record TellsOne (q : ℕ) (prefix : PrefixValue) (old : Fields) (before : Post (Item RunningSession))
    (new : Fields) (after : Post (Item RunningSession)) : Type 0 where
  pub did : (t : ℕ → Tally) → DidAsRouter old before t (Tell q prefix ∷ []) new after t
  pub due : table_at new.due_in ≡ at (table_at old.due_in) q (map.remove (table_at old.due_in q) prefix)
  pub same : new ≡ record old { due_in = new.due_in }
  pub keeps : RouterInvariant new

-- A router is told some of what is due to it.
pub record TellsSome (q : ℕ) (old : Fields) (before : Post (Item RunningSession)) (new : Fields) (after : Post (Item RunningSession)) : Type 0 where
  pub events : List RouterEvent
  pub did : (t : ℕ → Tally) → DidAsRouter old before t events new after t
  pub at : AreAt 4 events
  pub others : (k : ℕ) → k ≢ q → table_at new.due_in k ≡ table_at old.due_in k
  pub same : new ≡ record old { due_in = new.due_in }
  pub keeps : RouterInvariant new

-- A router is told all that is due to it, and nothing is left.
pub record TellsRouter (q : ℕ) (old : Fields) (before : Post (Item RunningSession)) (new : Fields) (after : Post (Item RunningSession)) : Type 0 where
  pub told : TellsSome q old before new after
  pub none : table_at new.due_in q ≡ map.empty

-- The first n routers are told all that is due to them.
pub record TellsFirst (n : ℕ) (old : Fields) (before : Post (Item RunningSession)) (new : Fields) (after : Post (Item RunningSession)) : Type 0 where
  pub events : List RouterEvent
  pub did : (t : ℕ → Tally) → DidAsRouter old before t events new after t
  pub at : AreAt 4 events
  pub told : (q : ℕ) → q < n → table_at new.due_in q ≡ map.empty
  pub same : new ≡ record old { due_in = new.due_in }
  pub keeps : RouterInvariant new
