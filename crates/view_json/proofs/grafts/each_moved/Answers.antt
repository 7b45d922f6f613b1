use Rattle.std.proofs.Common.{[], ◌∷◌, List, ◌++◌, map, take, sym, ap, ◌∙◌, take_all}
use Rattle.std.proofs.lemmas.List.{map-append}
use Rattle.serde_json.proofs.Views.{view-Array}
use Rattle.serde_json.specs.Data.{Data}
use Rattle.serde_json.specs.View.{view}
use Rattle.graft_steps.specs.declared.log.GraftEntry.{GraftEntry}
use Rattle.report_json.specs.Values.{list_of}
use Rattle.why_view.proofs.Further.{one_more}
use Rattle.view_json.specs.Timeline.{moved_json}
use Rattle.view_json.proofs.grafts.each_moved.Goals as goal

-- the values so far, and behind them that of one graft more
pub loop-graft-preserved : goal.loop-graft-preserved
loop-graft-preserved c =
    let form : GraftEntry → Data = moved_json c.args.lab.now c.args.all.now in
    let log = c.args.log.now in
    let i = c.loop-graft.graft-index in
    let graft = c.graft-item.result in
    c.in_ok-push_value.ensures ∙ ap (λ (d : Data). map view c.loop-graft.list.items ++ d ∷ []) c.in_ok-moved_value.ensures
    ∙ ap (λ (ds : List Data). ds ++ form graft ∷ []) c.loop-graft.invariant
    ∙ sym (ap (map form) (one_more log i graft c.loop-graft-test.true c.graft-item.is) ∙ map-append form (take i log) (graft ∷ []))

pub returns : goal.returns
returns c =
    let form : GraftEntry → Data = moved_json c.args.lab.now c.args.all.now in
    view-Array c.loop-graft.list
    ∙ ap list_of (c.loop-graft.invariant ∙ ap (map form) (take_all c.loop-graft.graft-index c.args.log.now c.loop-graft-test.false))
