use Rattle.std.proofs.Common.{◌≡◌, ◌<◌, ◌∙◌, [], length, length-take, min, ap, arith}
use Rattle.why_view.specs.Sources.{session_at}
use Rattle.why_view.proofs.Numbered.{numbered_more}
use Rattle.why_view.proofs.sources.sessions_at.Goals as goal

-- the number of a peering fits an octet
pub overflow_cast-index : goal.overflow_cast-index
overflow_cast-index c =
    let numbered : length c.numbered-peerings.result.now ≡ min 256 (length c.as_slice.result.now) =
    ap length c.numbered-peerings.ensures ∙ length-take 256 c.as_slice.result.now in
    omega (arith, numbered, c.loop-index-test.true)

-- what the sessions so far bring in, and behind it that of one peering more
pub loop-index-preserved : goal.loop-index-preserved
loop-index-preserved c =
    let below : c.loop-index.index < length c.numbered-peerings.result.now = omega (arith, c.loop-index-test.true) in
    numbered_more (session_at c.args.lab.now (c.args.number.0, c.args.router.now) c.args.prefix) c.numbered-peerings.result.now
    c.loop-index.index c.index-peerings-index.result [] c.loop-index.sessions c.push_session.new.sessions
    below c.index-peerings-index.is c.loop-index.invariant c.in_ok-push_session.ensures
