use Rattle.std.proofs.Common.{◌≡◌, ◌<◌, length, length-take, min, ap, ◌∙◌, arith}
use Rattle.report_json.proofs.Tokens.{numbered_gathered}
use Rattle.show_json.specs.Show.{peering_json}
use Rattle.show_json.proofs.show.write_peerings.Goals as goal

-- the number of a peering fits an octet
pub overflow_cast-index : goal.overflow_cast-index
overflow_cast-index c =
    let numbered : length c.numbered-peerings.result.now ≡ min 256 (length c.as_slice.result.now) =
    ap length c.numbered-peerings.ensures ∙ length-take 256 c.as_slice.result.now in
    omega (arith, numbered, c.loop-index-test.true)

pub loop-index-preserved : goal.loop-index-preserved
loop-index-preserved c =
    let below : c.loop-index.index < length c.numbered-peerings.result.now = omega (arith, c.loop-index-test.true) in
    numbered_gathered c.numbered-peerings.result.now c.loop-index.index c.index-peerings-index.result below c.index-peerings-index.is
    (peering_json c.args.lab.now) _ _ _ c.loop-index.invariant c.in_ok-write_peering.ensures
