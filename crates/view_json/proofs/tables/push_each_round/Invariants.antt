use Rattle.std.proofs.Common.{◌≡◌, ◌++◌, map, take}
use Rattle.std.specs.List.{flat_map}
use Rattle.serde_json.specs.View.{view}
use Rattle.view_json.specs.Events.{happening_json}
use Rattle.view_json.proofs.tables.push_each_round.Given as goal

-- the values so far are those of the rounds so far
abbrev pub invariant-loop-here : goal.invariant-loop-here
invariant-loop-here l = map view l.list.items
    ≡ map view l.initial.list.items ++ flat_map (flat_map (happening_json l.lab)) (take l.here-index l.rounds)
