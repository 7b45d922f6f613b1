use Rattle.std.proofs.Common.{◌++◌, ap, sym, ◌∙◌, append_assoc, string_bytes, take, length, ◌<◌, arith}
use Rattle.std.specs.List.{flat_map, enumerate_from}
use Rattle.lab_input.proofs.Numbered.{flat_map_numbered}
use Rattle.lab_report.specs.Report.{peering_line}
use Rattle.lab_report.proofs.texts.push_peerings.Goals as goal

-- the lines so far, and behind them those of one peering more
pub loop-index-preserved : goal.loop-index-preserved
loop-index-preserved c =
    let below : c.loop-index.index < length c.as_slice-peerings.result.now = omega (arith, c.loop-index-test.true) in
    let lines = flat_map (peering_line c.args.input.now c.args.sessions.now c.args.placement.now)
    (enumerate_from 0 (take c.loop-index.index c.as_slice-peerings.result.now)) in
    let piece = peering_line c.args.input.now c.args.sessions.now c.args.placement.now (c.loop-index.index, c.index-peerings-index.result) in
    let more = flat_map_numbered (peering_line c.args.input.now c.args.sessions.now c.args.placement.now)
    c.as_slice-peerings.result.now c.loop-index.index c.index-peerings-index.result below c.index-peerings-index.is in
    c.in_ok-push_peering.ensures ∙ ap (λ t. t ++ piece) c.loop-index.invariant ∙ append_assoc (string_bytes c.args.text.now) lines piece
    ∙ ap (λ l. string_bytes c.args.text.now ++ l) (sym more)
