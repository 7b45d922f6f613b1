use Rattle.std.proofs.Common.{ℕ, ◌≡◌, List, ◌++◌, map, subst, sym, ap, ◌∙◌}
use Rattle.std.specs.Prelude.{OnOk}
use Rattle.std.specs.List.{flat_map, enumerate_from}
use Rattle.serde_json.specs.Data.{Data}
use Rattle.serde_json.specs.View.{view}
use Rattle.timeline_view.specs.declared.event.Happening.{Happening}
use Rattle.timeline_view.proofs.ByRound.{texts_of_rounds}
use Rattle.view_json.specs.Events.{happening_json}
use Rattle.view_json.proofs.Rounds.{without_numbers}
use Rattle.view_json.proofs.tables.push_rounds.Goals as goal

-- the values of the lists are those of the rounds
pub returns : goal.returns
returns c =
    let lab = c.args.lab.now in
    let form : ℕ → List Happening → List Data = λ round here. flat_map (happening_json lab) here in
    let values =
    ap (λ (rounds : List (List Happening)). flat_map (flat_map (happening_json lab)) rounds) c.as_slice.ensures.value
    ∙ sym (without_numbers (flat_map (happening_json lab)) 0 c.in_ok-rounds.rounds.items)
    ∙ texts_of_rounds form lab.marks c.args.all.now _ c.len.result c.len.ensures c.in_ok-rounds.ensures in
    subst (λ (ds : List Data). OnOk c.push_each_round.result (map view c.push_each_round.new.list.items ≡ map view c.args.list.now.items ++ ds)) values
    c.push_each_round.ensures
