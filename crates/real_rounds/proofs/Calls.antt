-- What is used of the contracts of single calls.
use Rattle.std.specs.Prelude.{ℕ, ◌≡◌, ◌⊎◌, List, [], ◌∷◌, length, Option}
use Rattle.ring_net.specs.Deeds.{Deed}
use Rattle.graft_steps.specs.declared.item.Item.{Item}
use Rattle.router_core.specs.declared.place.Errand.{Errand}
use Rattle.bgp_session.specs.Running.{RunningSession}
use Rattle.bgp_session.specs.Steps.{MayPass}
use Rattle.router_core.specs.Places.{RunsAt}
use Rattle.router_core.specs.Turned as router_turns
use Rattle.router_core.specs.Turned.{rounds_on}
use Rattle.router_core.specs.declared.fields as router_fields
use Rattle.far_side.specs.Takes as far_takes
use Rattle.far_side.specs.Turned as far_turns
use Rattle.far_side.specs.Passes.{SameLink}
use Rattle.far_side.specs.declared.fields as far_fields

-- a router's turn passes one round on each session that is live at its start, where one may pass, and else none
abbrev pub TurnsPassOne : Type 0
TurnsPassOne = (old new : router_fields.Fields.Fields) (deeds : List (Deed (Item RunningSession)))
    (turned : router_turns.RouterTurned old deeds new) (p : ℕ) (s : RunningSession) (o : Option Errand)
    → RunsAt old.places.places p s o
    → (MayPass s.session new.turns × (rounds_on p turned.work ≡ new.turns ∷ [])) ⊎ ((¬ MayPass s.session new.turns) × (rounds_on p turned.work ≡ []))

-- a far side's take is one event
abbrev pub FarTakesAreOne : Type 0
FarTakesAreOne = (old new : far_fields.Fields.Fields) (from : ℕ) (item : Item RunningSession) (deeds : List (Deed (Item RunningSession)))
    → far_takes.TookAsFar old from item deeds new → length deeds ≡ 1

-- its links lead where they led
abbrev pub FarTakesKeepLinks : Type 0
FarTakesKeepLinks = (old new : far_fields.Fields.Fields) (from : ℕ) (item : Item RunningSession) (deeds : List (Deed (Item RunningSession)))
    → far_takes.TookAsFar old from item deeds new → SameLink old.remoteward new.remoteward

abbrev pub FarTurnsKeepLinks : Type 0
FarTurnsKeepLinks = (old new : far_fields.Fields.Fields) (deeds : List (Deed (Item RunningSession))) → far_turns.FarTurned old deeds new
    → SameLink old.homeward new.homeward × SameLink old.remoteward new.remoteward

pub record CallsSay : Type 0 where
  pub turns : TurnsPassOne
  pub far_takes : FarTakesAreOne
  pub links_taking : FarTakesKeepLinks
  pub links_turning : FarTurnsKeepLinks

pub calls_say : CallsSay
calls_say = record {
  turns = λ old new deeds turned p s o runs. turned.passes p s o runs;
  far_takes = λ old new from item deeds took. took.one;
  links_taking = λ old new from item deeds took. took.link;
  links_turning = λ old new deeds turned. turned.links;
}
