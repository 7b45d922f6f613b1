-- A frozen session, until it lands or comes back.
use Rattle.std.specs.Prelude.{ℕ, ◌≡◌, ◌≢◌, None, ◌⊎◌}
use Rattle.session_value.specs.Sessions.{SessionValue}
use Rattle.graft_model.specs.Parts.{World}
use Rattle.graft_laws.specs.Phases.{Stage, Ordered, Stored, Halted, Moving, Landed, Asking, Confirmed, Returning, Declined, Cleared, Phase, Idle, Busy}

-- frozen or on its way, a session is the one that was found; once it is landed or refused, this says nothing
abbrev pub IsFound : Stage → SessionValue → SessionValue → Type 0
IsFound Ordered found session = ⊥
IsFound Stored found session = ⊥
IsFound Halted found session = session ≡ found
IsFound Moving found session = session ≡ found
IsFound (Returning refusal) found session = session ≡ found
IsFound (Landed n) found session = Unit {0}
IsFound (Asking n) found session = Unit {0}
IsFound Confirmed found session = Unit {0}
IsFound (Declined refusal) found session = Unit {0}
IsFound Cleared found session = Unit {0}

-- the graft k, from r to t, is under way past its freeze
abbrev pub IsAwayIn : Phase → ℕ → ℕ → ℕ → SessionValue → SessionValue → Type 0
IsAwayIn (Idle q) r k t found session = ⊥
IsAwayIn (Busy q j u stage) r k t found session = (q ≡ r) × (j ≡ k) × (u ≡ t) × IsFound stage found session

-- After its freeze a graft is under way, or it has its outcome.
abbrev pub IsAway : World → Phase → ℕ → ℕ → ℕ → SessionValue → SessionValue → Type 0
IsAway w phase r k t found session = (w.operator.outcome k ≢ None) ⊎ IsAwayIn phase r k t found session
