use Rattle.std.proofs.Common.{map, take}
use Rattle.serde_json.specs.View.{view}
use Rattle.report_json.specs.Traces.{Traces}
use Rattle.report_json.proofs.traces.traces_in.Given as goal

-- the values so far are those of the addresses so far
abbrev pub invariant-loop-address : goal.invariant-loop-address
invariant-loop-address l = Traces l.input l.forwarder (take l.address-index l.addresses) (map view l.list.items)
