use Rattle.std.proofs.Common.{◌≡◌, map, take}
use Rattle.std.specs.List.{flat_map}
use Rattle.serde_json.specs.View.{view}
use Rattle.view_json.specs.Why.{excluded_of}
use Rattle.view_json.proofs.why.excluded_values.Given as goal

-- the values so far are those of the sessions so far
abbrev pub invariant-loop-session : goal.invariant-loop-session
invariant-loop-session l = map view l.list.items ≡ flat_map (excluded_of l.input l.prefix) (take l.session-index l.sessions)
