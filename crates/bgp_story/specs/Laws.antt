-- What holds of legal stories.
use Rattle.std.specs.Prelude.{◌≡◌, ℕ, ◌+◌, List, [], ◌∷◌, ◌++◌, Some, ◌⊎◌}
use Rattle.std.specs.List.{AllByRecursion}
use Rattle.bgp_types.specs.declared.message.Message.{Message}
use Rattle.bgp_types.specs.declared.message.Message.TheVariants.{OpenMsg, UpdateMsg, NoticeMsg, KeepaliveMsg}
use Rattle.bgp_types.specs.declared.message.Notice.{Notice}
use Rattle.bgp_types.specs.declared.message.SessionState.{SessionState}
use Rattle.bgp_types.specs.FirstFault.{first_fault}
use Rattle.bgp_story.specs.declared.line.Line.{Line}
use Rattle.bgp_story.specs.declared.line.Line.TheVariants.{Put, Got, Tick}
use Rattle.bgp_story.specs.Legal.{Peering, Allowed, IsGot, expected_next, silence, hold, hold_expired}

abbrev pub IsNoOpen : Message → Type 0
IsNoOpen (OpenMsg _) = ⊥
IsNoOpen (UpdateMsg _) = Unit {0}
IsNoOpen (NoticeMsg _) = Unit {0}
IsNoOpen KeepaliveMsg = Unit {0}

abbrev pub PutsNoOpen : Line → Type 0
PutsNoOpen (Put message) = IsNoOpen message
PutsNoOpen (Got _) = Unit {0}
PutsNoOpen (Tick _) = Unit {0}

-- the OPEN of the peering stands first, and no other OPEN is put
pub record OpensOnce (p : Peering) (lines : List Line) : Type 0 where
  pub rest : List Line
  pub first : lines ≡ Put (OpenMsg p.first) ∷ rest
  pub others : AllByRecursion PutsNoOpen rest

abbrev pub IsGotLine : Line → Type 0
IsGotLine (Put _) = Unit {0}
IsGotLine (Got bytes) = IsGot bytes
IsGotLine (Tick _) = Unit {0}

-- the last of these lines got a message whose fault is this
pub record EndsInFault (p : Peering) (lines : List Line) (n : Notice) : Type 0 where
  pub before : List Line
  pub state : SessionState
  pub bytes : List ℕ
  pub allowed : Allowed p before state
  pub last : lines ≡ before ++ Got bytes ∷ []
  pub fault : first_fault bytes (expected_next p before state) ≡ Some n

-- the last of these lines is the round in which the hold time expires
pub record EndsInSilence (p : Peering) (lines : List Line) (n : Notice) : Type 0 where
  pub before : List Line
  pub round : ℕ
  pub last : lines ≡ before ++ Tick round ∷ []
  pub over : silence before + 1 ≡ hold p before
  pub expired : n ≡ hold_expired

-- why a NOTIFICATION is put after these lines
abbrev pub HasCause : Peering → List Line → Notice → Type 0
HasCause p lines n = EndsInFault p lines n ⊎ EndsInSilence p lines n
