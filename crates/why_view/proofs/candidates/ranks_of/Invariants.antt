use Rattle.std.proofs.Common.{◌≡◌, take}
use Rattle.why_view.specs.Winners.{ranks_of}
use Rattle.why_view.proofs.candidates.ranks_of.Given as goal

-- the ranks of the candidates so far
abbrev pub invariant-loop-candidate : goal.invariant-loop-candidate
invariant-loop-candidate l = l.ranks ≡ ranks_of (take l.candidate-index l.candidates)
