-- Where the link of a peering points, by the words of landings that are on their way to it.
use Rattle.std.specs.Prelude.{ℕ, ◌==◌, ◌≡◌, ◌≢◌, ◌<◌, ◌≤◌, Bool, true, false, List, [], ◌∷◌, None, ◌⊎◌, filter}
use Rattle.std.specs.List.{AllByRecursion}
use Rattle.session_value.specs.Sessions.{SessionValue}
use Rattle.graft_model.specs.Setups.{Setup}
use Rattle.graft_model.specs.Parts.{FarPart, Outward, Seg, PointAt, World}
use Rattle.graft_laws.specs.Phases.{Landed, Asking, Confirmed, Cleared, Phase, Idle, Busy}
use Rattle.graft_laws.specs.Log.{is_graft_on}

-- the router where the session began, or landed last
abbrev pub home_of : Phase → ℕ
home_of (Idle q) = q
home_of (Busy q k t (Landed n)) = t
home_of (Busy q k t (Asking n)) = t
home_of (Busy q k t Confirmed) = t
home_of (Busy q k t Cleared) = t
home_of (Busy q k t stage) = q

-- an item to a far side is of this graft or an earlier one; or only of an earlier one
abbrev pub IsUpTo : ℕ → Outward → Type 0
IsUpTo last (Seg segment) = Unit {0}
IsUpTo last (PointAt k) = k ≤ last

abbrev pub IsBelowLast : ℕ → Outward → Type 0
IsBelowLast last (Seg segment) = Unit {0}
IsBelowLast last (PointAt k) = k < last

abbrev pub is_word_of : ℕ → Outward → Bool
is_word_of last (Seg segment) = false
is_word_of last (PointAt k) = k == last

-- a graft of the peering that has its outcome, or 0
abbrev pub IsPast : Setup → World → ℕ → ℕ → Type 0
IsPast setup w p last = (last ≡ 0) ⊎ ((is_graft_on setup p last ≡ true) × (w.operator.outcome last ≢ None))

-- The last graft that landed: the one under way, if it has landed; otherwise an earlier one, or 0 if there is none.
abbrev pub HasLandedLast : Setup → World → ℕ → Phase → ℕ → Type 0
HasLandedLast setup w p (Busy q k t (Landed n)) last = last ≡ k
HasLandedLast setup w p (Busy q k t (Asking n)) last = last ≡ k
HasLandedLast setup w p (Busy q k t Confirmed) last = last ≡ k
HasLandedLast setup w p (Busy q k t Cleared) last = last ≡ k
HasLandedLast setup w p phase last = IsPast setup w p last

-- Word of the last landing is on its way from the router where the session is at home, and the link followed only earlier grafts; or it is no longer
-- on its way, and the link points there.
abbrev pub WordOf : ℕ → ℕ → FarPart → List Outward → Type 0
WordOf last home far items =
    ((filter (is_word_of last) items ≡ PointAt last ∷ []) × (far.followed < last))
    ⊎ ((filter (is_word_of last) items ≡ []) × (far.pointer ≡ home) × (far.followed ≡ last))

-- Every word of a landing is of the last graft that landed or of an earlier one, and from all routers but one it is of an earlier one.
pub record Words (w : World) (p home last : ℕ) : Type 0 where
  pub all : (r : ℕ) → AllByRecursion (IsUpTo last) (w.outward r p)
  pub elsewhere : (r : ℕ) → r ≢ home → AllByRecursion (IsBelowLast last) (w.outward r p)
  pub word : WordOf last home (w.far p) (w.outward home p)

-- the link of a peering follows its landings
pub record Points (setup : Setup) (w : World) (p : ℕ) (phase : Phase) (session : SessionValue) : Type 0 where
  pub last : ℕ
  pub landed : HasLandedLast setup w p phase last
  pub words : Words w p (home_of phase) last
