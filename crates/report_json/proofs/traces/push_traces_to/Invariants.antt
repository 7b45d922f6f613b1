use Rattle.std.proofs.Common.{map, take}
use Rattle.std.specs.List.{enumerate_from}
use Rattle.serde_json.specs.View.{view}
use Rattle.report_json.specs.Traces.{TracesFrom, Appends}
use Rattle.report_json.proofs.traces.push_traces_to.Given as goal

-- the values so far are those of the routers so far
abbrev pub invariant-loop-index : goal.invariant-loop-index
invariant-loop-index l =
    Appends (TracesFrom l.input l.forwarder l.address (enumerate_from 0 (take l.index l.routers))) (map view l.initial.list.items) (map view l.list.items)
