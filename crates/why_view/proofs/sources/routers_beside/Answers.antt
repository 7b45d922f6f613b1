use Rattle.std.proofs.Common.{◌≡◌, ◌<◌, ◌∙◌, [], length, length-take, min, ap, arith}
use Rattle.why_view.specs.Sources.{router_at}
use Rattle.why_view.proofs.Numbered.{numbered_more}
use Rattle.why_view.proofs.sources.routers_beside.Goals as goal

-- the number of a router fits an octet
pub overflow_cast-index : goal.overflow_cast-index
overflow_cast-index c =
    let numbered : length c.numbered-others.result.now ≡ min 256 (length c.as_slice.result.now) =
    ap length c.numbered-others.ensures ∙ length-take 256 c.as_slice.result.now in
    omega (arith, numbered, c.loop-index-test.true)

-- what the routers so far give, and behind it that of one router more
pub loop-index-preserved : goal.loop-index-preserved
loop-index-preserved c =
    let below : c.loop-index.index < length c.numbered-others.result.now = omega (arith, c.loop-index-test.true) in
    numbered_more (router_at c.args.lab.now c.args.number.0 c.args.prefix) c.numbered-others.result.now
    c.loop-index.index c.index-others-index.result [] c.loop-index.routers c.push_router.new.routers
    below c.index-others-index.is c.loop-index.invariant c.in_ok-push_router.ensures
