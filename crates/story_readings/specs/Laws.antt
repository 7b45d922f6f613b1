-- Law of stories that read the same bytes.
use Rattle.std.specs.Prelude.{ℕ, List}
use Rattle.bgp_types.specs.declared.message.SessionState.{SessionState}
use Rattle.bgp_story.specs.declared.line.Line.{Line}
use Rattle.bgp_story.specs.Legal.{Peering}
use Rattle.story_readings.specs.Reads.{StoryReads, AreAlike}

-- Whatever was put in between, and however the bytes were cut into segments, two stories that read the same bytes are alike.
abbrev pub StoriesReadAlike : Type 0
StoriesReadAlike = (p : Peering) (said : List ℕ) (one other : List Line) (s t : SessionState)
    → StoryReads p said one s → StoryReads p said other t → AreAlike p one other s t
