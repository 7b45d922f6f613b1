-- The events of the operator: steps are ordered, outcomes of grafts are noted, and the next group begins.
use Rattle.std.specs.Prelude.{ℕ, ◌≡◌, ◌≢◌, ◌+◌, ◌<◌, List, [], ◌∷◌, Option, Some, None, true, false, slice_get}
use Rattle.graft_model.specs.Points.{at}
use Rattle.graft_model.specs.Setups.{Setup, ScriptStep, SayStep, EvacuateStep, ScriptGraft, group_of, groups_in, graft_at}
use Rattle.graft_model.specs.Parts.{OperatorPart, GraftOrder, Report}
pub use Rattle.graft_model.specs.Placements.{is_accepted, target_in, placement}
use Rattle.graft_model.specs.Evacuations.{with_gifts}

-- what the operator may take: the next report of a router
pub data OperatorTaken : Type 0 where
  ReportIn : (router : ℕ) → Report → OperatorTaken

-- what the operator may send: to a router, to a far side
pub data OperatorSent : Type 0 where
  OrderTo : (router : ℕ) → GraftOrder → OperatorSent
  SayTo : (peering step : ℕ) → OperatorSent

-- ---- ordering

-- A say is ordered, in a step of the current group, after the earlier says of the same remote in this group.
pub record OrdersSay (setup : Setup) (step number : ℕ) (before : OperatorPart)
    (taken : Option OperatorTaken) (sent : List OperatorSent) (after : OperatorPart) : Type 0 where
  pub alone : number ≡ 0
  pub group : group_of setup step ≡ before.group
  pub unissued : before.issued step ≡ false
  pub peering : ℕ
  pub bytes : List ℕ
  pub is : slice_get setup.steps step ≡ Some (SayStep peering bytes)
  pub earlier : (m : ℕ) (other : List ℕ) → m < step → group_of setup m ≡ before.group → slice_get setup.steps m ≡ Some (SayStep peering other)
      → before.issued m ≡ true
  pub takes : taken ≡ None
  pub sends : sent ≡ SayTo peering step ∷ []
  pub effect : after ≡ record before { issued = at before.issued step true }

-- the graft number in the event of a graft's order: its own if an evacuate step makes it, and 0 otherwise
abbrev pub number_by : Option ScriptStep → ℕ → ℕ
number_by (Some (EvacuateStep router)) k = k
number_by _ k = 0

-- A graft is ordered at the router where the session belongs by the log. Its step is in the current group, and the earlier grafts of the peering that
-- have a target have their outcomes.
pub record OrdersGraft (setup : Setup) (step number : ℕ) (before : OperatorPart)
    (taken : Option OperatorTaken) (sent : List OperatorSent) (after : OperatorPart) : Type 0 where
  pub graft : ScriptGraft
  pub known : graft_at setup graft.graft ≡ Some graft
  pub by_step : graft.step ≡ step
  pub named : number ≡ number_by (slice_get setup.steps step) graft.graft
  pub group : group_of setup step ≡ before.group
  pub target : ℕ
  pub is : target_in setup before graft ≡ Some target
  pub unordered : before.source graft.graft ≡ None
  pub unended : before.outcome graft.graft ≡ None
  pub earlier : (other : ScriptGraft) → graft_at setup other.graft ≡ Some other → other.peering ≡ graft.peering → other.graft < graft.graft
      → target_in setup before other ≢ None → before.outcome other.graft ≢ None
  pub takes : taken ≡ None
  pub sends : sent ≡ OrderTo (placement setup before graft.peering) (record { graft = graft.graft; peering = graft.peering; target = target }) ∷ []
  pub effect : after ≡ record before { source = at before.source graft.graft (Some (placement setup before graft.peering)) }

-- The outcome of a graft that was ordered and has none is noted.
pub record Notes (router : ℕ) (before : OperatorPart) (taken : Option OperatorTaken) (sent : List OperatorSent) (after : OperatorPart) : Type 0 where
  pub report : Report
  pub takes : taken ≡ Some (ReportIn router report)
  pub sends : sent ≡ []
  pub ordered : before.source report.graft ≢ None
  pub unended : before.outcome report.graft ≡ None
  pub effect : after ≡ record before { outcome = at before.outcome report.graft (Some report.outcome) }

-- The next group of the script becomes the current one, and its evacuate steps give out their grafts. The world must be quiet before.
pub record BeginsGroup (setup : Setup) (before : OperatorPart) (taken : Option OperatorTaken) (sent : List OperatorSent) (after : OperatorPart) : Type 0 where
  pub further : before.group + 1 < groups_in setup
  pub takes : taken ≡ None
  pub sends : sent ≡ []
  pub effect : after ≡ with_gifts setup (record before { group = before.group + 1 })
