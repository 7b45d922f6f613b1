use Rattle.std.proofs.Common.{◌++◌, ap, sym, ◌∙◌, append_assoc, string_bytes, take, length, ◌<◌, arith}
use Rattle.std.specs.List.{flat_map, enumerate_from}
use Rattle.lab_input.proofs.Numbered.{flat_map_numbered}
use Rattle.lab_report.specs.Summary.{short_router_line}
use Rattle.lab_report.proofs.short.push_short_routers.Goals as goal

-- the lines so far, and behind them that of one router more
pub loop-index-preserved : goal.loop-index-preserved
loop-index-preserved c =
    let below : c.loop-index.index < length c.args.routers.now = omega (arith, c.loop-index-test.true) in
    let lines = flat_map (short_router_line c.args.tables.now) (enumerate_from 0 (take c.loop-index.index c.args.routers.now)) in
    let piece = short_router_line c.args.tables.now (c.loop-index.index, c.index-routers-index.result) in
    let more = flat_map_numbered (short_router_line c.args.tables.now) c.args.routers.now
    c.loop-index.index c.index-routers-index.result below c.index-routers-index.is in
    c.in_ok-push_short_router.ensures ∙ ap (λ t. t ++ piece) c.loop-index.invariant ∙ append_assoc (string_bytes c.args.text.now) lines piece
    ∙ ap (λ l. string_bytes c.args.text.now ++ l) (sym more)
