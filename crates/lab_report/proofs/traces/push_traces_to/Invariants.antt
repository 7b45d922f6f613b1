use Rattle.std.proofs.Common.{take, string_bytes}
use Rattle.std.specs.List.{enumerate_from}
use Rattle.lab_report.specs.Traces.{TracesFrom, Appends}
use Rattle.lab_report.proofs.traces.push_traces_to.Given as goal

-- the lines so far are those of the routers so far
abbrev pub invariant-loop-index : goal.invariant-loop-index
invariant-loop-index l =
    Appends (TracesFrom l.input l.forwarder l.address (enumerate_from 0 (take l.index l.routers))) (string_bytes l.initial.text) (string_bytes l.text)
