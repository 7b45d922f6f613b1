-- Stories in which all that the remote said was got, and no round passed.
use Rattle.std.specs.Prelude.{ℕ, ◌≡◌, ◌⊎◌, List, ◌++◌}
use Rattle.std.specs.List.{AllByRecursion}
use Rattle.bgp_types.specs.declared.message.SessionState.{SessionState}
use Rattle.bgp_types.specs.declared.message.SessionState.TheVariants.{Closed}
use Rattle.bgp_story.specs.declared.line.Line.{Line}
use Rattle.bgp_story.specs.declared.line.Line.TheVariants.{Put, Got, Tick}
use Rattle.bgp_story.specs.Legal.{Peering, got_open}
use Rattle.bgp_story.specs.Readings.{IsLegal, got_bytes, heard}
use Rattle.session_value.specs.Fronts.{BeginsNothing}

-- no round passes by this line, so no hold time expires (RFC 4271, section 6.5)
abbrev pub IsNoTick : Line → Type 0
IsNoTick (Put _) = Unit {0}
IsNoTick (Got _) = Unit {0}
IsNoTick (Tick _) = ⊥

-- All of these bytes were got, message by message, up to the end of the session, or up to a rest that begins with no whole message.
pub record GotAllOf (said : List ℕ) (lines : List Line) (state : SessionState) : Type 0 where
  pub rest : List ℕ
  pub is : said ≡ got_bytes lines ++ rest
  pub end : (state ≡ Closed) ⊎ BeginsNothing rest

-- A legal story of a peering reads these bytes, and no round passes in it.
pub record StoryReads (p : Peering) (said : List ℕ) (lines : List Line) (state : SessionState) : Type 0 where
  pub legal : IsLegal p lines state
  pub timeless : AllByRecursion IsNoTick lines
  pub all : GotAllOf said lines state

-- Two stories of a peering end in one state, and have heard the same routes and got the same OPEN.
pub record AreAlike (p : Peering) (one other : List Line) (s t : SessionState) : Type 0 where
  pub state : t ≡ s
  pub heard : heard p other ≡ heard p one
  pub opened : got_open p other ≡ got_open p one
