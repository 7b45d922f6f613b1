use Rattle.std.proofs.Common.{take, string_bytes}
use Rattle.lab_report.specs.Traces.{Traces, Appends}
use Rattle.lab_report.proofs.traces.push_traces_in.Given as goal

-- the lines so far are those of the addresses so far
abbrev pub invariant-loop-address : goal.invariant-loop-address
invariant-loop-address l = Appends (Traces l.input l.forwarder (take l.address-index l.addresses)) (string_bytes l.initial.text) (string_bytes l.text)
