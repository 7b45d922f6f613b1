-- When nothing is left to do.
use Rattle.std.specs.Prelude.{ℕ, ◌≡◌, ◌≢◌, List, [], length, Some, None, true, ◌⊎◌, slice_get}
use Rattle.std.specs.FinMap as map
use Rattle.bgp_types.specs.declared.message.SessionState.TheVariants.{Closed}
use Rattle.session_value.specs.Sessions.{SessionValue, state, unread}
use Rattle.session_value.specs.Fronts.{BeginsNothing}
use Rattle.tcp_seq.specs.Endpoint.{Endpoint, received}
use Rattle.graft_model.specs.Setups.{Setup, SayStep, ScriptGraft, group_of, graft_at}
use Rattle.graft_model.specs.Parts.{Place, Vacant, Live, World}
use Rattle.graft_model.specs.Placements.{target_in}

-- the session has read what it can read
abbrev pub HasRead : SessionValue → Type 0
HasRead session = (state session ≡ Closed) ⊎ BeginsNothing (unread session)

-- One endpoint has received the whole stream of the other, and the other knows.
pub record AllAcked (from to : Endpoint) : Type 0 where
  pub received : received to ≡ length from.stream
  pub acked : from.acked ≡ length from.stream

-- A vacant place, or a live session without an errand that has read what it can and, with its remote, has received and acknowledged everything.
abbrev pub IsIdle : Endpoint → Place → Type 0
IsIdle remote Vacant = Unit {0}
IsIdle remote (Live session None) = HasRead session × AllAcked session.end remote × AllAcked remote session.end
IsIdle remote place = ⊥

-- Nothing is left to do: all channels and links are empty, no prefix is dirty or due, every place is idle, and in the current group each say was
-- ordered and each graft that has a target has its outcome.
pub record Quiet (setup : Setup) (w : World) : Type 0 where
  pub mesh : (a b : ℕ) → w.mesh a b ≡ []
  pub outward : (r p : ℕ) → w.outward r p ≡ []
  pub inward : (p r : ℕ) → w.inward p r ≡ []
  pub orders : (r : ℕ) → w.orders r ≡ []
  pub reports : (r : ℕ) → w.reports r ≡ []
  pub says : (p : ℕ) → w.says p ≡ []
  pub homeward : (p : ℕ) → (w.far p).homeward ≡ []
  pub remoteward : (p : ℕ) → (w.far p).remoteward ≡ []
  pub decided : (r : ℕ) → (w.router r).dirty ≡ map.empty
  pub told_in : (r q : ℕ) → (w.router r).due_in q ≡ map.empty
  pub told_out : (r p : ℕ) → (w.router r).due_out p ≡ map.empty
  pub places : (r p : ℕ) → IsIdle (w.far p).end ((w.router r).places p)
  pub issued : (n p : ℕ) (bytes : List ℕ) → slice_get setup.steps n ≡ Some (SayStep p bytes) → group_of setup n ≡ w.operator.group → w.operator.issued n ≡ true
  pub ended : (g : ScriptGraft) → graft_at setup g.graft ≡ Some g → group_of setup g.step ≡ w.operator.group → target_in setup w.operator g ≢ None
      → w.operator.outcome g.graft ≢ None
