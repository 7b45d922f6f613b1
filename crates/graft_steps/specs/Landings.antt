-- A session that has landed: which routers are asked, before the source is told, whether they have heard what the target told.
use Rattle.std.specs.Prelude.{ℕ, ◌≡◌, ◌≢◌, ◌<◌, ◌≤◌, ◌⊎◌}
use Rattle.graft_steps.specs.declared.order.GraftIds.{GraftIds}

-- the graft, and the first router that wasn't asked, or the one that was asked last and hasn't answered
pub record Landing : Type 0 where
  pub ids : GraftIds
  pub next : ℕ

-- Of this many routers, all from this one on are the source or the target.
abbrev pub AreAllAsked : (source target routers start : ℕ) → Type 0
AreAllAsked source target routers start = (m : ℕ) → start ≤ m → m < routers → (m ≡ source) ⊎ (m ≡ target)

-- q is the first router from this one on that is neither source nor target.
pub record IsNextToAsk (source target routers start q : ℕ) : Type 0 where
  pub from : start ≤ q
  pub known : q < routers
  pub not_source : q ≢ source
  pub not_target : q ≢ target
  pub first : AreAllAsked source target q start
