-- What a story got is read in whole frames.
use Rattle.std.proofs.Common.{ℕ, List, [], ◌∷◌, ◌++◌}
use Rattle.std.specs.List.{AllByRecursion}
use Rattle.bgp_story.specs.declared.line.Line.{Line}
use Rattle.bgp_story.specs.Laws.{IsGotLine}
use Rattle.bgp_story.specs.States.{BeginsStory}
use Rattle.bgp_story.proofs.Shapes.{got_in_frames_is}

front : {X : Type 0} (P : X → Type 0) (xs ys : List X) → AllByRecursion P (xs ++ ys) → AllByRecursion P xs
front P [] ys all = tt
front P (x ∷ xs) ys all = (all.0, front P xs ys all.1)

-- everything that the beginning of a legal story got is a whole message with a sound header, or a header with a fault
pub got_in_frames : (remote_as : ℕ) (lines : List Line) → BeginsStory remote_as lines → AllByRecursion IsGotLine lines
got_in_frames remote_as lines begun = front IsGotLine lines begun.rest (got_in_frames_is begun.peering (lines ++ begun.rest) begun.state begun.legal)
