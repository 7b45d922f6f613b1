-- What a ruling is to the world, before the item that it sends is sent.
use Rattle.std.specs.Prelude.{ℕ, ◌≡◌, ◌<◌, ◌+◌, List, [], ◌∷◌, Option, Some, None, map}
use Rattle.std.specs.List.{AllByRecursion}
use Rattle.std.specs.Option.{option_map, option_to_list}
use Rattle.graft_model.specs.Parts.{World}
use Rattle.graft_model.specs.Setups.{Setup, routers_in, peerings_in}
use Rattle.graft_model.specs.declared.event.ActorEvent.{ActorEvent}
use Rattle.graft_model.specs.declared.event.ActorEvent.TheVariants.{OfRouter, OfFar, OfOperator}
use Rattle.graft_model.specs.declared.event.OperatorEvent.TheVariants.{Go}
use Rattle.graft_model.specs.Steps.{Event, ByRouter, ByFar, ByOperator, Step}
use Rattle.graft_actors.specs.Actors.{ActorName, IsActor, number_in}
use Rattle.graft_actors.specs.Laws.{maker_of}
use Rattle.world_runs.specs.Labs.{actors_in}
use Rattle.clocked_audits.specs.Timed.{MovesItems}
use Rattle.audit_channels.specs.Channels.{IsSquare}
use Rattle.audit_ruling.specs.Senders.{far_sender, operator_sender, router_sender}
use Rattle.audit_ruling.specs.Rulings.{Parcel}
use Rattle.audit_ruling.specs.declared.ruling.Ruling.{Ruling}
use Rattle.audit_ruling.specs.declared.ruling.Ruling.TheVariants.{Refused, Silent, Sends}
use Rattle.run_auditor.specs.Sound.{AuditorInvariant}
use Rattle.run_auditor.specs.States.{StandsFor}
use Rattle.run_auditor.specs.Sent.{HasSent}
use Rattle.run_auditor.specs.declared.auditor.Auditor.{Auditor}

-- an event of the actor of this number
abbrev pub IsEventOf : Setup → ℕ → ActorEvent → Event → Type 0
IsEventOf setup actor (OfRouter event) own = (r : ℕ) × (own ≡ ByRouter r event) × (r < routers_in setup) × (actor ≡ r)
IsEventOf setup actor (OfFar event) own = (p : ℕ) × (own ≡ ByFar p event) × (p < peerings_in setup) × (actor ≡ routers_in setup + p)
IsEventOf setup actor (OfOperator event) own = (own ≡ ByOperator event) × (actor ≡ routers_in setup + peerings_in setup)

-- the actor whose item an event takes, if it takes one
abbrev pub sender_in : ActorEvent → Option ActorName
sender_in (OfRouter event) = router_sender event
sender_in (OfFar event) = far_sender event
sender_in (OfOperator event) = operator_sender event

abbrev pub own_event : Event → ActorEvent
own_event (ByRouter r event) = OfRouter event
own_event (ByFar p event) = OfFar event
own_event (ByOperator event) = OfOperator event

-- The event happened: with these items sent, which go to actors that exist, the auditor is sound and stands for a world to which the event leads.
pub record Happened (event : Event) (old : Auditor) (sent : List (ℕ × Parcel)) (new : Auditor) : Type 0 where
  pub setup : new.known.setup ≡ old.known.setup
  pub after : World
  pub step : (w : World) → StandsFor old w → Step old.known.setup event w after
  pub stands : (sent_to : Auditor) → HasSent (number_in old.known.setup (maker_of event)) new sent sent_to → StandsFor sent_to after
  pub sound : (sent_to : Auditor) → HasSent (number_in old.known.setup (maker_of event)) new sent sent_to → AuditorInvariant sent_to
  pub there : AllByRecursion (λ x. x.0 < actors_in old.known.setup) sent
  pub square : IsSquare (actors_in old.known.setup) new.inboxes.items
  -- the sender exists, and what moves is what is taken and what is sent; a Go sends nothing
  pub giver : (x : ActorName) → sender_in (own_event event) ≡ Some x → IsActor old.known.setup x
  pub moves : (w : World) → StandsFor old w → (to : Option ℕ) → map (λ x. x.0) sent ≡ option_to_list to
      → MovesItems old.known.setup w after (maker_of event) (option_map (number_in old.known.setup) (sender_in (own_event event))) to
  pub at_go : event ≡ ByOperator Go → sent ≡ []

-- The event leads to no world, and the auditor is sound and stands for the same one.
pub record IsRefused (event : Event) (old new : Auditor) : Type 0 where
  pub setup : new.known.setup ≡ old.known.setup
  pub none : (w after : World) → StandsFor old w → ¬ Step old.known.setup event w after
  pub stands : (w : World) → StandsFor old w → StandsFor new w
  pub sound : AuditorInvariant new

-- the ruling on an event
abbrev pub RulesOn : Event → Ruling → Auditor → Auditor → Type 0
RulesOn event Refused old new = IsRefused event old new
RulesOn event Silent old new = Happened event old [] new
RulesOn event (Sends to item) old new = Happened event old ((to, item) ∷ []) new

-- The answer for the actor of this number: the ruling on its event, or none if the event isn't one of such an actor.
abbrev pub AnswersActor : ℕ → ActorEvent → Option Ruling → Auditor → Auditor → Type 0
AnswersActor actor event (Some ruling) old new = (own : Event) × IsEventOf old.known.setup actor event own × RulesOn own ruling old new
AnswersActor actor event None old new = ((own : Event) → ¬ IsEventOf old.known.setup actor event own) × (new ≡ old)
