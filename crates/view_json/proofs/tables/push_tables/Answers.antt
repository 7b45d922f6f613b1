use Rattle.std.proofs.Common.{ℕ, ◌≡◌, List, ◌++◌, map, subst, ap, ◌∙◌}
use Rattle.std.specs.Prelude.{OnOk}
use Rattle.std.specs.List.{flat_map, enumerate_from}
use Rattle.serde_json.specs.Data.{Data}
use Rattle.serde_json.specs.View.{view}
use Rattle.lab_tables.specs.declared.input.RouterInput.{RouterInput}
use Rattle.timeline_view.specs.declared.event.Happening.{Happening}
use Rattle.timeline_view.proofs.ByRound.{texts_of_rounds}
use Rattle.view_json.specs.Timeline.{router_counts}
use Rattle.view_json.proofs.tables.push_tables.Goals as goal

-- the values of the lists are those of the rounds
pub returns : goal.returns
returns c =
    let lab = c.args.lab.now in
    let form : List RouterInput → ℕ → List Happening → List Data = λ rs round here. flat_map (router_counts round here) (enumerate_from 0 rs) in
    let all : List RouterInput → List (List Happening) → List Data =
    λ rs rounds. flat_map (λ (m : ℕ × List Happening). form rs m.0 m.1) (enumerate_from 0 rounds) in
    let values =
    ap (λ (rs : List RouterInput). all rs c.as_slice.result.now) c.as_slice-routers.ensures
    ∙ ap (λ (rounds : List (List Happening)). all lab.input.routers rounds) c.as_slice.ensures.value
    ∙ texts_of_rounds (form lab.input.routers) lab.marks c.args.all.now _ c.len.result c.len.ensures c.in_ok-rounds.ensures in
    subst (λ (ds : List Data). OnOk c.push_each_table.result (map view c.push_each_table.new.list.items ≡ map view c.args.list.now.items ++ ds)) values
    c.push_each_table.ensures
