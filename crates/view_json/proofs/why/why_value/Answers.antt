use Rattle.std.proofs.Common.{◌≡◌, ℕ, List, ap, ◌∙◌}
use Rattle.std.specs.Prelude.{Option, option_and_then, slice_get}
use Rattle.std.specs.List.{flat_map, enumerate_from}
use Rattle.std.proofs.lemmas.Result.{IfOk-weaker}
use Rattle.serde_json.specs.Data.{Data}
use Rattle.serde_json.specs.View.{view}
use Rattle.bgp_types.specs.declared.rank.Rank.{Rank}
use Rattle.decision_core.specs.Choice.{choice, ranks_by_index}
use Rattle.report_json.specs.Values.{list_of}
use Rattle.why_view.specs.Winners.{best_index, ranks_of, winner}
use Rattle.view_json.specs.Why.{best_json, others_json, unless_best, why_object}
use Rattle.view_json.proofs.why.why_value.Goals as goal

pub returns : goal.returns
returns c =
    let input = c.args.input.now in
    let found = c.args.candidates.now in
    let ranked : c.as_slice-list.result.now ≡ ranks_of found = c.as_slice-list.ensures ∙ c.in_ok-ranks.ensures in
    let index : c.best-index.result ≡ best_index found = c.best-index.ensures.choice ∙ ap (λ (rs : List Rank). choice (ranks_by_index rs)) ranked in
    let others : List Rank → Option ℕ → Data = λ rs i. list_of (flat_map (unless_best input rs i) (enumerate_from 0 found)) in
    let first : view c.in_ok-first.first ≡ best_json input (winner found) = c.in_ok-first.ensures
    ∙ ap (best_json input) (c.winner-chosen.ensures ∙ ap (option_and_then (λ i. slice_get found i)) index) in
    let lost : view c.in_ok-lost.lost ≡ others_json input found = c.in_ok-lost.ensures
    ∙ ap (λ rs. others rs c.best-index.result) ranked ∙ ap (others (ranks_of found)) index in
    IfOk-weaker c.why_object.result _ _
    (λ v is. is ∙ ap (λ (b : Data). why_object c.args.prefix c.args.router.now b (view c.in_ok-lost.lost) (view c.in_ok-excluded.excluded)) first
    ∙ ap (λ (l : Data). why_object c.args.prefix c.args.router.now (best_json input (winner found)) l (view c.in_ok-excluded.excluded)) lost
    ∙ ap (why_object c.args.prefix c.args.router.now (best_json input (winner found)) (others_json input found)) c.in_ok-excluded.ensures)
    c.why_object.ensures
