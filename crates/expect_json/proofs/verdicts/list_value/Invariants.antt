use Rattle.std.proofs.Common.{◌≡◌, map, take}
use Rattle.serde_json.specs.View.{view}
use Rattle.expect_json.specs.Verdicts.{verdict_json}
use Rattle.expect_json.proofs.verdicts.list_value.Given as goal

-- the values so far are the verdicts so far
abbrev pub invariant-loop-found : goal.invariant-loop-found
invariant-loop-found l = map view l.list.items ≡ map verdict_json (take l.found-index l.all)
