use Rattle.std.proofs.Common.{◌≡◌, map, take}
use Rattle.std.specs.List.{flat_map, enumerate_from}
use Rattle.serde_json.specs.View.{view}
use Rattle.view_json.specs.Why.{unless_best}
use Rattle.view_json.proofs.why.lost_values.Given as goal

-- the values so far are those of the candidates so far
abbrev pub invariant-loop-index : goal.invariant-loop-index
invariant-loop-index l = map view l.list.items ≡ flat_map (unless_best l.input l.ranks l.best) (enumerate_from 0 (take l.index l.candidates))
