use Rattle.std.proofs.Common.{◌≡◌, ◌++◌, map, take}
use Rattle.std.specs.List.{flat_map}
use Rattle.serde_json.specs.View.{view}
use Rattle.view_json.specs.Events.{happening_json}
use Rattle.view_json.proofs.tables.push_round.Given as goal

-- the values so far are those of what happened so far
abbrev pub invariant-loop-happening : goal.invariant-loop-happening
invariant-loop-happening l = map view l.list.items ≡ map view l.initial.list.items ++ flat_map (happening_json l.lab) (take l.happening-index l.here)
