-- What was got at the last line of a story.
use Rattle.std.proofs.Common.{◌≡◌, ℕ, zero, suc, List, [], ◌∷◌, Some, subst}
use Rattle.std.specs.Prelude.{slice_get}
use Rattle.std.specs.List.{AllByRecursion}
use Rattle.std.proofs.lemmas.Option.{same_Some}
use Rattle.bgp_story.specs.declared.line.Line.{Line}
use Rattle.bgp_story.specs.declared.line.Line.TheVariants.{Got}
use Rattle.bgp_story.specs.Laws.{IsGotLine}
use Rattle.bgp_story.specs.Legal.{IsGot}

-- the octets of a line that is there
pub got_at : (lines : List Line) (i : ℕ) (bytes : List ℕ) → AllByRecursion IsGotLine lines → slice_get lines i ≡ Some (Got bytes) → IsGot bytes
got_at [] i bytes all at = absurd cc
got_at (line ∷ lines) zero bytes all at = subst IsGotLine (same_Some line (Got bytes) at) all.0
got_at (line ∷ lines) (suc i) bytes all at = got_at lines i bytes all.1 at
