-- What a router promises of one turn.
use Rattle.std.specs.Prelude.{ℕ, zero, ◌≡◌, ◌≤◌, ◌<◌, ◌+◌, ◌==◌, ◌⊎◌, List, [], ◌∷◌, ◌++◌, map, count_by, Option, Bool, false, if◌then◌else◌}
use Rattle.std.specs.List.{AllByRecursion, flat_map}
use Rattle.ring_net.specs.Deeds.{Deed, Climbs}
use Rattle.ring_net.specs.Posts.{Moved}
use Rattle.ring_net.specs.declared.post.Post.{Post}
use Rattle.graft_steps.specs.declared.item.Item.{Item}
use Rattle.router_core.specs.declared.place.Errand.{Errand}
use Rattle.bgp_session.specs.Running.{RunningSession, carried}
use Rattle.bgp_session.specs.Steps.{MayPass}
use Rattle.graft_model.specs.Parts.{RouterPart}
use Rattle.graft_model.specs.declared.event.RouterEvent.{RouterEvent}
use Rattle.graft_model.specs.declared.event.RouterEvent.TheVariants.{Put, Emit, Decide, Tell, Refuse, Freeze, Leave, Ask, Confirm, Tick}
use Rattle.graft_actors.specs.Acts.{acts}
use Rattle.router_core.specs.Parts.{router_part, own_part, RouterInvariant}
use Rattle.router_core.specs.Places.{RunsAt}
use Rattle.router_core.specs.Rested.{RestedRouter}
use Rattle.router_core.specs.Rounds.{RouterRetransmits, IsNewWork, RouterGoes, SameRouter}
use Rattle.router_core.specs.declared.fields.Fields.{Fields}
use Rattle.graft_actors.specs.Makes.{AreDeeds}
use Rattle.graft_model.specs.Codes.{router_code}

-- the rounds that pass on the session of a peering
abbrev pub round_on : ℕ → RouterEvent → List ℕ
round_on p (Tick q round) = if q == p then round ∷ [] else []
round_on p event = []

abbrev pub rounds_on : ℕ → List RouterEvent → List ℕ
rounds_on p events = flat_map (round_on p) events

-- how many segments are emitted on a peering, and how many of them have no bytes
abbrev pub is_emit_on : ℕ → RouterEvent → Bool
is_emit_on p (Emit q from len) = q == p
is_emit_on p event = false

abbrev pub is_answer_on : ℕ → RouterEvent → Bool
is_answer_on p (Emit q from zero) = q == p
is_answer_on p event = false

abbrev pub emits_on : ℕ → List RouterEvent → ℕ
emits_on p events = count_by (is_emit_on p) events

abbrev pub answers_on : ℕ → List RouterEvent → ℕ
answers_on p events = count_by (is_answer_on p) events

-- ---- stages

-- the stage of a turn, from 1, at which a router makes an event; one that it makes as it takes an item has none
abbrev pub stage_of : RouterEvent → ℕ
stage_of (Tick p round) = 1
stage_of (Refuse k) = 2
stage_of (Freeze k) = 2
stage_of (Leave k) = 2
stage_of (Decide prefix) = 3
stage_of (Tell q prefix) = 4
stage_of (Ask k q) = 5
stage_of (Confirm k) = 5
stage_of (Put p n) = 6
stage_of (Emit p from len) = 7
stage_of event = 0

-- the event is made as an item is taken
abbrev pub IsRouterTake : RouterPart → RouterEvent → Type 0
IsRouterTake part event = stage_of event ≡ 0

-- all events are of one stage
abbrev pub AreAt : ℕ → List RouterEvent → Type 0
AreAt stage events = AllByRecursion (λ event. stage_of event ≡ stage) events

-- The session of a peering that stays live through a turn: what is acknowledged stays the same, what was outstanding is sent again if nothing was
-- acknowledged since the last turn, and one round passes if one may.
pub record TurnsSession (round : ℕ) (p : ℕ) (resent work : List RouterEvent) (old new : RunningSession) : Type 0 where
  pub acked : new.session.end.acked ≡ old.session.end.acked
  pub at_turn : new.acked_at_turn ≡ old.session.end.acked
  pub again : old.acked_at_turn ≡ old.session.end.acked → old.session.end.acked < old.session.end.emitted → emits_on p resent ≡ 1
  pub ticked : (MayPass old.session round × (rounds_on p work ≡ round ∷ [])) ⊎ ((¬ MayPass old.session round) × (rounds_on p work ≡ []))

-- One turn: old segments are sent again, and then it works stage by stage. At its end the router is at rest. At most one segment of each session is
-- sent again, and at most one acknowledgement of each is sent.
pub record RouterTurned (old : Fields) (deeds : List (Deed (Item RunningSession))) (new : Fields) : Type 0 where
  pub router : SameRouter old new
  pub turns : new.turns ≡ old.turns + 1
  pub again : List RouterEvent
  pub work : List RouterEvent
  pub coded : AreDeeds router_code (again ++ work) deeds
  pub sent : RouterPart
  pub first : List RouterPart
  pub later : List RouterPart
  pub sends : RouterGoes old.known.setup old.number.0 RouterRetransmits (router_part old) again first sent
  pub works : RouterGoes old.known.setup old.number.0 (IsNewWork old.known.setup old.number.0) sent work later (router_part new)
  pub in_order : Climbs 1 (map stage_of work)
  pub rested : RestedRouter old.known.setup old.number.0 (router_part new)
  pub few : (p : ℕ) → (emits_on p again ≤ 1) × (answers_on p work ≤ 1)
  -- one round passes on each session that runs at the start, if one may, and none otherwise
  pub passes : (p : ℕ) (s : RunningSession) (o : Option Errand) → RunsAt old.places.places p s o
      → (MayPass s.session new.turns × (rounds_on p work ≡ new.turns ∷ [])) ⊎ ((¬ MayPass s.session new.turns) × (rounds_on p work ≡ []))
  pub sessions : (p : ℕ) (s u : RunningSession) (o q : Option Errand) → RunsAt old.places.places p s o → RunsAt new.places.places p u q
      → TurnsSession new.turns p again work s u

-- a turn, after which the router is sound
pub record RouterTurnsOnce (old : Fields) (before : Post (Item RunningSession)) (new : Fields) (after : Post (Item RunningSession)) : Type 0 where
  pub moved : Moved own_part (acts carried) RouterTurned old before new after
  pub keeps : RouterInvariant new
