use Rattle.std.proofs.Common.{ℕ, List, ◌++◌, map, ap, ◌∙◌, arith}
use Rattle.std.specs.List.{flat_map, enumerate_from}
use Rattle.serde_json.specs.Data.{Data}
use Rattle.serde_json.specs.View.{view}
use Rattle.timeline_view.specs.declared.event.Happening.{Happening}
use Rattle.why_view.proofs.Numbered.{numbered_more}
use Rattle.view_json.specs.Timeline.{router_counts}
use Rattle.view_json.proofs.tables.push_each_table.Goals as goal

-- the values so far, and behind them those of one round more
pub loop-round-preserved : goal.loop-round-preserved
loop-round-preserved c =
    let form : ℕ × List Happening → List Data = λ m. flat_map (router_counts m.0 m.1) (enumerate_from 0 c.args.routers.now) in
    let same = ap (λ (here : List Happening). map view c.loop-round.list.items ++ form (c.loop-round.round, here)) c.as_slice.ensures in
    numbered_more form c.args.rounds.now c.loop-round.round c.index-rounds-round.result _ _ _ (omega (arith, c.loop-round-test.true))
    c.index-rounds-round.is c.loop-round.invariant (c.in_ok-push_routers.ensures ∙ same)
