use Rattle.std.proofs.Common.{◌++◌, ap, sym, ◌∙◌, append_assoc, string_bytes, take, length, ◌<◌, arith}
use Rattle.std.specs.List.{flat_map, enumerate_from}
use Rattle.lab_input.proofs.Numbered.{flat_map_numbered}
use Rattle.lab_report.specs.Report.{router_lines}
use Rattle.lab_report.proofs.texts.push_routers.Goals as goal

-- the lines so far, and behind them those of one router more
pub loop-index-preserved : goal.loop-index-preserved
loop-index-preserved c =
    let below : c.loop-index.index < length c.as_slice-routers.result.now = omega (arith, c.loop-index-test.true) in
    let lines = flat_map (router_lines c.args.input.now c.args.tables.now) (enumerate_from 0 (take c.loop-index.index c.as_slice-routers.result.now)) in
    let piece = router_lines c.args.input.now c.args.tables.now (c.loop-index.index, c.index-routers-index.result) in
    let more = flat_map_numbered (router_lines c.args.input.now c.args.tables.now) c.as_slice-routers.result.now
    c.loop-index.index c.index-routers-index.result below c.index-routers-index.is in
    c.in_ok-push_router.ensures ∙ ap (λ t. t ++ piece) c.loop-index.invariant ∙ append_assoc (string_bytes c.args.text.now) lines piece
    ∙ ap (λ l. string_bytes c.args.text.now ++ l) (sym more)
