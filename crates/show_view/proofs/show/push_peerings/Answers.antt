use Rattle.std.proofs.Common.{◌≡◌, ◌<◌, ◌∙◌, length, length-take, min, ap, string_bytes, arith}
use Rattle.why_view.proofs.Numbered.{numbered_more}
use Rattle.show_view.specs.Show.{peering_lines}
use Rattle.show_view.proofs.show.push_peerings.Goals as goal

-- the number of a peering fits an octet
pub overflow_cast-index : goal.overflow_cast-index
overflow_cast-index c =
    let numbered : length c.numbered-peerings.result.now ≡ min 256 (length c.as_slice.result.now) =
    ap length c.numbered-peerings.ensures ∙ length-take 256 c.as_slice.result.now in
    omega (arith, numbered, c.loop-index-test.true)

-- the lines so far, and behind them those of one peering more
pub loop-index-preserved : goal.loop-index-preserved
loop-index-preserved c =
    let below : c.loop-index.index < length c.numbered-peerings.result.now = omega (arith, c.loop-index-test.true) in
    numbered_more (peering_lines c.args.lab.now) c.numbered-peerings.result.now c.loop-index.index c.index-peerings-index.result
    (string_bytes c.args.text.now) (string_bytes c.loop-index.text) (string_bytes c.push_peering.new.text) below c.index-peerings-index.is
    c.loop-index.invariant c.in_ok-push_peering.ensures
