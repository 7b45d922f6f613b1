use Rattle.std.proofs.Common.{◌≡◌, map, take}
use Rattle.serde_json.specs.View.{view}
use Rattle.report_json.specs.Run.{best_json}
use Rattle.report_json.proofs.routers.bests_value.Given as goal

-- the values so far are those of the routes so far
abbrev pub invariant-loop-entry : goal.invariant-loop-entry
invariant-loop-entry l = map view l.list.items ≡ map (best_json l.input) (take l.entry-index l.best)
