-- What a far side does in one call: the events that it makes of its part, and how the fields outside that part change.
use Rattle.std.specs.Prelude.{ℕ, zero, suc, ◌≡◌, true, List, [], ◌∷◌, Option}
use Rattle.std.specs.List.{AllByRecursion}
use Rattle.ring_net.specs.Deeds.{Deed, Replay, TakesNone}
use Rattle.ring_net.specs.Posts.{actor_of, Wrote}
use Rattle.ring_net.specs.declared.post.Post.{Post}
use Rattle.graft_steps.specs.declared.item.Item.{Item}
use Rattle.session_value.specs.Sessions.{SessionValue}
use Rattle.graft_model.specs.Setups.{Setup}
use Rattle.graft_model.specs.Parts.{FarPart}
use Rattle.graft_model.specs.FarRows.{FarTaken, FarSent}
use Rattle.graft_model.specs.Codes.{far_code}
use Rattle.graft_model.specs.declared.event.FarEvent.{FarEvent}
use Rattle.graft_model.specs.declared.event.FarEvent.TheVariants.{Send}
use Rattle.graft_model.specs.Steps.{far_row}
use Rattle.graft_actors.specs.Makes.{AreDeeds}
use Rattle.graft_actors.specs.Acts.{acts}
use Rattle.graft_actors.specs.Emissions.{IsOld, IsNewSlice, IsCareful, Tally, tallied}
use Rattle.far_side.specs.Parts.{far_part, own_part}
use Rattle.far_side.specs.declared.fields.Fields.{Fields}

-- ---- events of a part, one after another

abbrev pub CarefulFar : FarPart → FarEvent → Type 0
CarefulFar part (Send from len) = IsCareful part.end from len
CarefulFar part event = Unit {0}

abbrev pub far_tally : FarPart → FarEvent → Tally → Tally
far_tally part (Send from len) t = tallied part.end from len t
far_tally part event t = t

-- The events lead from one part to another, each by its row; each segment that is sent is an old slice, a new one or an owed acknowledgement; and the
-- tally counts them.
abbrev pub FarRound : Setup → ℕ → FarPart → Tally → List FarEvent → FarPart → Tally → Type 0
FarRound setup p before t [] after u = (after ≡ before) × (u ≡ t)
FarRound setup p before t (event ∷ events) after u =
    (taken : Option FarTaken) × (sent : List FarSent) × (mid : FarPart) × far_row setup p event before taken sent mid × CarefulFar before event
    × FarRound setup p mid (far_tally before event t) events after u

-- ---- what is sent at one stage of a turn

-- the first outstanding slice
abbrev pub FarRetransmits : FarPart → FarEvent → Type 0
FarRetransmits part (Send from len) = IsOld part.end from len
FarRetransmits part event = ⊥

-- a slice that was never sent
abbrev pub SendsNew : FarPart → FarEvent → Type 0
SendsNew part (Send from (suc n)) = IsNewSlice part.end from (suc n)
SendsNew part event = ⊥

-- an acknowledgement that is owed: a segment without bytes
abbrev pub SendsAnswer : FarPart → FarEvent → Type 0
SendsAnswer part (Send from zero) = part.end.owed ≡ true
SendsAnswer part event = ⊥

-- no segment
abbrev pub SendsNone : FarPart → FarEvent → Type 0
SendsNone part (Send from len) = ⊥
SendsNone part event = Unit {0}

-- The events lead from one part to another, each by its row, and each is what the stage allows.
abbrev pub FarGoes : Setup → ℕ → (FarPart → FarEvent → Type 0) → FarPart → List FarEvent → FarPart → Type 0
FarGoes setup p Allowed before [] after = after ≡ before
FarGoes setup p Allowed before (event ∷ events) after =
    (taken : Option FarTaken) × (sent : List FarSent) × (mid : FarPart)
    × far_row setup p event before taken sent mid × Allowed before event × FarGoes setup p Allowed mid events after

-- What a part of a call that takes no item does: the events that it made and wrote.
pub record DidAsFar {C : Type 0} (session : C → SessionValue) (old : Fields) (before : Post (Item C))
    (t : Tally) (events : List FarEvent) (new : Fields) (after : Post (Item C)) (u : Tally) : Type 0 where
  pub setup : new.known.setup ≡ old.known.setup
  pub peering : new.peering ≡ old.peering
  pub deeds : List (Deed (Item C))
  pub wrote : Wrote before deeds after
  pub none : AllByRecursion TakesNone deeds
  pub coded : AreDeeds far_code events deeds
  pub replay : Replay (acts session) (actor_of before) (own_part old) deeds (own_part new)
  pub round : FarRound old.known.setup old.peering.0 (far_part old) t events (far_part new) u
