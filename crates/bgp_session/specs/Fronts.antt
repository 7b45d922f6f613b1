-- Whether a session has something to read.
use Rattle.std.specs.Prelude.{◌≡◌, ◌≢◌, ◌⊎◌, ℕ, List, ◌++◌}
use Rattle.bgp_types.specs.declared.message.SessionState.TheVariants.{Closed}
use Rattle.bgp_story.specs.Legal.{IsGot}
use Rattle.session_value.specs.Fronts.{BeginsNothing}
use Rattle.session_value.specs.Sessions.{SessionValue, state, unread}

-- bytes begin with a whole message or a faulty header
pub record BeginsSome (bytes : List ℕ) : Type 0 where
  pub front : List ℕ
  pub rest : List ℕ
  pub is : bytes ≡ front ++ rest
  pub got : IsGot front

-- The session isn't closed, and the unread bytes begin with a message or a faulty header.
pub record CanRead (session : SessionValue) : Type 0 where
  pub unclosed : state session ≢ Closed
  pub begins : BeginsSome (unread session)

-- The session is closed, or the unread bytes begin with neither.
abbrev pub CantRead : SessionValue → Type 0
CantRead session = (state session ≡ Closed) ⊎ BeginsNothing (unread session)
