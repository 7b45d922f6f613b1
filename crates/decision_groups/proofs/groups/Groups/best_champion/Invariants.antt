use Rattle.std.proofs.Common.{◌≡◌, take}
use Rattle.std.specs.List.{filter_map}
use Rattle.std.specs.Map.{values_of}
use Rattle.decision_core.specs.Search.{best_by}
use Rattle.decision_groups.specs.Groups.{champion_of, comes_first}
use Rattle.decision_groups.proofs.groups.Groups.best_champion.Given as goal

-- the best champion of the groups so far
abbrev pub invariant-loop-group : goal.invariant-loop-group
invariant-loop-group l = l.best ≡ best_by comes_first (filter_map champion_of (values_of (take l.group-index l.self)))
