use Rattle.std.proofs.Common.{refl, string_bytes}
use Rattle.lab_report.proofs.Walked.{none_traced, traced_more}
use Rattle.lab_report.proofs.traces.push_traces_in.Goals as goal

pub loop-address-init : goal.loop-address-init
loop-address-init c = none_traced c.args.input.now c.args.forwarder.now _ (string_bytes c.args.text.now) refl

-- the lines so far, and behind them those of one address more
pub loop-address-preserved : goal.loop-address-preserved
loop-address-preserved c =
    traced_more c.args.input.now c.args.forwarder.now c.args.addresses.now c.loop-address.address-index c.loop-address-test.true _ _ _
    c.loop-address.invariant c.in_ok-push_traces_to.ensures
