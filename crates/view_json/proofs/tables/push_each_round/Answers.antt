use Rattle.std.proofs.Common.{List, ◌++◌, map, ap, ◌∙◌}
use Rattle.std.specs.List.{flat_map}
use Rattle.serde_json.specs.Data.{Data}
use Rattle.serde_json.specs.View.{view}
use Rattle.timeline_view.specs.declared.event.Happening.{Happening}
use Rattle.why_view.proofs.Further.{flat_mapped_more}
use Rattle.view_json.specs.Events.{happening_json}
use Rattle.view_json.proofs.tables.push_each_round.Goals as goal

-- the values so far, and behind them those of one round more
pub loop-here-preserved : goal.loop-here-preserved
loop-here-preserved c =
    let form : List Happening → List Data = flat_map (happening_json c.args.lab.now) in
    let same = ap (λ (here : List Happening). map view c.loop-here.list.items ++ form here) c.as_slice.ensures in
    flat_mapped_more form c.args.rounds.now c.loop-here.here-index c.here-item.result (map view c.args.list.now.items)
    (map view c.loop-here.list.items) (map view c.push_round.new.list.items) c.loop-here-test.true c.here-item.is
    c.loop-here.invariant (c.in_ok-push_round.ensures ∙ same)
