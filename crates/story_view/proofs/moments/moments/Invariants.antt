use Rattle.std.proofs.Common.{◌≡◌, ◌++◌, take}
use Rattle.std.specs.List.{flat_map, enumerate_from}
use Rattle.story_view.specs.Story.{moments_in}
use Rattle.story_view.proofs.moments.moments.Given as goal

-- the moments so far are that of the OPEN, and those of the entries so far
abbrev pub invariant-loop-index : goal.invariant-loop-index
invariant-loop-index l = l.all ≡ l.initial.all ++ flat_map (moments_in l.peering l.rounds) (enumerate_from 0 (take l.index l.journal))
