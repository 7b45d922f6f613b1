use Rattle.std.proofs.Common.{ℕ, List, map, ap, subst, take_all}
use Rattle.serde_json.specs.View.{view}
use Rattle.serde_json.proofs.Views.{view-Array}
use Rattle.report_json.specs.Traces.{Traces}
use Rattle.report_json.proofs.Walked.{traced_more}
use Rattle.report_json.proofs.traces.traces_in.Goals as goal

pub loop-address-init : goal.loop-address-init
loop-address-init c = ap (map view) c.new-list.ensures.items

-- the values so far, and behind them those of one address more
pub loop-address-preserved : goal.loop-address-preserved
loop-address-preserved c =
    traced_more c.args.input.now c.args.forwarder.now c.args.addresses.now c.loop-address.address-index c.loop-address-test.true _ _
    c.loop-address.invariant c.in_ok-push_traces_to.ensures

-- those of all addresses
pub returns : goal.returns
returns c =
    let all = take_all c.loop-address.address-index c.args.addresses.now c.loop-address-test.false in
    let is = subst (λ (each : List ℕ). Traces c.args.input.now c.args.forwarder.now each (map view c.loop-address.list.items)) all c.loop-address.invariant in
    (map view c.loop-address.list.items, is, view-Array c.loop-address.list)
