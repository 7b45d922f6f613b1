use Rattle.std.proofs.Common.{◌≡◌, map, take}
use Rattle.serde_json.specs.View.{view}
use Rattle.report_json.specs.Values.{count}
use Rattle.message_json.proofs.messages.codes_value.Given as goal

-- the values so far are those of the capabilities so far
abbrev pub invariant-loop-cap : goal.invariant-loop-cap
invariant-loop-cap l = map view l.list.items ≡ map (λ c. count c.code) (take l.cap-index l.caps)
