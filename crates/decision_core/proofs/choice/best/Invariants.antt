use Rattle.std.proofs.Common.{◌≡◌, take}
use Rattle.std.specs.List.{filter}
use Rattle.decision_core.specs.Choice.{ranks_by_index}
use Rattle.decision_core.specs.Search.{best_by, is_nearer, is_left}
use Rattle.decision_core.proofs.choice.best.Given as goal

-- the nearest of those so far that the rules up to MED leave
abbrev pub invariant-loop-index : goal.invariant-loop-index
invariant-loop-index l = l.nearest ≡ best_by (λ c d. is_nearer c.1 d.1) (filter (λ c. is_left l.leader l.list c.1) (take l.index (ranks_by_index l.list)))
