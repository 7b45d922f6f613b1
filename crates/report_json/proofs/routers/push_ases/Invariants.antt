use Rattle.std.proofs.Common.{◌≡◌, ◌++◌, map, take}
use Rattle.serde_json.specs.View.{view}
use Rattle.report_json.specs.Run.{ases_json}
use Rattle.report_json.proofs.routers.push_ases.Given as goal

-- the values so far are those of the ASes so far
abbrev pub invariant-loop-as_number : goal.invariant-loop-as_number
invariant-loop-as_number l = map view l.list.items ≡ map view l.initial.list.items ++ ases_json (take l.as_number-index l.ases)
