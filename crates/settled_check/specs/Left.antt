-- What is left to do for an actor, for each kind of part of the world.
use Rattle.std.specs.Prelude.{ℕ, ◌≡◌, ◌≢◌, ◌⊎◌, ◌++◌, List, [], length, Option, Some, None, true, false, slice_get}
use Rattle.bgp_types.specs.Prefixes.{PrefixValue}
use Rattle.bgp_types.specs.declared.message.SessionState.TheVariants.{Closed}
use Rattle.bgp_story.specs.Legal.{IsGot}
use Rattle.tcp_seq.specs.Endpoint.{Endpoint}
use Rattle.session_value.specs.Sessions.{SessionValue, state, unread}
use Rattle.session_value.specs.Sets.{Prefixes, has}
use Rattle.graft_steps.specs.declared.rest.Pending.{Pending}
use Rattle.graft_steps.specs.declared.rest.Pending.TheVariants.{Script, Graft, Bag, Stream, Dirty, DueIn, DueOut}
use Rattle.graft_model.specs.Setups.{Setup, SayStep, ScriptGraft, group_of, graft_at as script_graft}
use Rattle.graft_model.specs.Parts.{Errand, Asking, Place, Vacant, Live, Frozen, Shadow, graft_of, RouterPart, FarPart, OperatorPart}
use Rattle.graft_model.specs.Placements.{target_in}

-- ---- a router

-- some prefix is in the set
abbrev pub HasSome : Prefixes → Type 0
HasSome prefixes = (prefix : PrefixValue) × (has prefixes prefix ≡ true)

-- the graft at a place: the one of the live session's errand, the one for which the session is frozen, or the one in which it left
abbrev pub graft_in_place : Place → Option ℕ
graft_in_place Vacant = None
graft_in_place (Live session None) = None
graft_in_place (Live session (Some errand)) = Some (graft_of errand)
graft_in_place (Frozen session order) = Some order.graft
graft_in_place (Shadow graft) = Some graft

-- A session has no errand, unless the answer of a router is pending.
abbrev pub AwaitsAtMost : Option Errand → Type 0
AwaitsAtMost None = Unit {0}
AwaitsAtMost (Some (Asking word)) = Unit {0}
AwaitsAtMost (Some errand) = ⊥

-- not all bytes of an endpoint's stream are acknowledged
abbrev pub IsUnacked : Endpoint → Type 0
IsUnacked end = end.acked ≢ length end.stream

-- A session isn't closed, and its unread bytes begin with a whole message or a faulty header.
pub record HasUnread (session : SessionValue) : Type 0 where
  pub unclosed : state session ≢ Closed
  pub front : List ℕ
  pub rest : List ℕ
  pub is : unread session ≡ front ++ rest
  pub got : IsGot front

-- the session held at a place, live or frozen, has something unacknowledged or unread
abbrev pub HasStream : Place → Type 0
HasStream Vacant = ⊥
HasStream (Live session errand) = IsUnacked session.end ⊎ HasUnread session
HasStream (Frozen session order) = IsUnacked session.end ⊎ HasUnread session
HasStream (Shadow graft) = ⊥

-- a graft is at one of the places
abbrev pub HoldsGraft : RouterPart → ℕ → Type 0
HoldsGraft part k = (p : ℕ) × (graft_in_place (part.places p) ≡ Some k)

abbrev pub LeftAtRouter : ℕ → RouterPart → Pending → Type 0
LeftAtRouter r part (Graft k) = HoldsGraft part k
LeftAtRouter r part (Stream p) = HasStream (part.places p.0)
LeftAtRouter r part (Dirty s) = (s.0 ≡ r) × HasSome part.dirty
LeftAtRouter r part (DueIn s q) = (s.0 ≡ r) × HasSome (part.due_in q.0)
LeftAtRouter r part (DueOut p) = HasSome (part.due_out p.0)
LeftAtRouter r part other = ⊥

-- ---- a far side

abbrev pub LeftAtFar : ℕ → FarPart → Pending → Type 0
LeftAtFar p part (Bag q) = (q.0 ≡ p) × (part.homeward ++ part.remoteward ≢ [])
LeftAtFar p part (Stream q) = (q.0 ≡ p) × IsUnacked part.end
LeftAtFar p part other = ⊥

-- ---- the operator

-- A step of the current group has a remote say something, which wasn't ordered.
pub record IsUnsaid (setup : Setup) (part : OperatorPart) (n : ℕ) : Type 0 where
  pub peering : ℕ
  pub bytes : List ℕ
  pub is : slice_get setup.steps n ≡ Some (SayStep peering bytes)
  pub group : group_of setup n ≡ part.group
  pub unissued : part.issued n ≡ false

-- A graft of the current group has no outcome.
pub record IsUnended (setup : Setup) (part : OperatorPart) (graft : ScriptGraft) : Type 0 where
  pub known : script_graft setup graft.graft ≡ Some graft
  pub group : group_of setup graft.step ≡ part.group
  pub made : target_in setup part graft ≢ None
  pub unended : part.outcome graft.graft ≡ None

-- a graft of the current group wasn't ordered
abbrev pub IsUnordered : Setup → OperatorPart → ScriptGraft → Type 0
IsUnordered setup part graft = IsUnended setup part graft × (part.source graft.graft ≡ None)

-- something of the current group wasn't ordered
abbrev pub HasUnissued : Setup → OperatorPart → Type 0
HasUnissued setup part = ((n : ℕ) × IsUnsaid setup part n) ⊎ ((graft : ScriptGraft) × IsUnordered setup part graft)

-- A graft of the current group was ordered and has no outcome.
abbrev pub IsOpen : Setup → OperatorPart → ℕ → Type 0
IsOpen setup part k = (graft : ScriptGraft) × (graft.graft ≡ k) × IsUnended setup part graft × (part.source k ≢ None)

abbrev pub LeftToOperator : Setup → OperatorPart → Pending → Type 0
LeftToOperator setup part Script = HasUnissued setup part
LeftToOperator setup part (Graft k) = IsOpen setup part k
LeftToOperator setup part other = ⊥
