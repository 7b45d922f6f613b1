use Rattle.std.proofs.Common.{ℕ, ◌≡◌, List, ◌<◌, ◌∙◌, length, length-take, min, ap, map, arith}
use Rattle.serde_json.specs.View.{view}
use Rattle.report_json.specs.Traces.{trace_json}
use Rattle.report_json.proofs.Walked.{none_walked, walked_more}
use Rattle.report_json.proofs.traces.push_traces_to.Goals as goal

-- the number of a router fits an octet
pub overflow_cast-index : goal.overflow_cast-index
overflow_cast-index c =
    let numbered : length c.numbered-routers.result.now ≡ min 256 (length c.as_slice.result.now) =
    ap length c.numbered-routers.ensures ∙ length-take 256 c.as_slice.result.now in
    omega (arith, numbered, c.loop-index-test.true)

pub loop-index-init : goal.loop-index-init
loop-index-init c = none_walked c.args.input.now c.args.forwarder.now c.args.address (map view c.args.list.now.items)

-- the values so far, and behind them that of one router more
pub loop-index-preserved : goal.loop-index-preserved
loop-index-preserved c =
    let below : c.loop-index.index < length c.numbered-routers.result.now = omega (arith, c.loop-index-test.true) in
    let named = ap (λ (name : List ℕ). trace_json c.args.input.now c.args.address name c.walk-walk.result) c.as_str-name.ensures in
    walked_more c.args.input.now c.args.forwarder.now c.args.address c.numbered-routers.result.now
    c.loop-index.index c.index-routers-index.result c.walk-walk.result
    below c.index-routers-index.is c.walk-walk.ensures.ends _ _ _ _ c.loop-index.invariant c.in_ok-push_value.ensures
    (c.in_ok-trace_value.ensures ∙ named)
