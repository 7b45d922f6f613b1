use Rattle.std.proofs.Common.{ℕ, ◌≡◌, List, ◌++◌, string_bytes, subst, ap, ◌∙◌}
use Rattle.std.specs.Prelude.{OnOk}
use Rattle.std.specs.List.{flat_map, enumerate_from}
use Rattle.timeline_view.specs.declared.event.Happening.{Happening}
use Rattle.timeline_view.specs.Rounds.{lines_of_round}
use Rattle.timeline_view.proofs.ByRound.{texts_of_rounds}
use Rattle.timeline_view.proofs.rounds.push_rounds.Goals as goal

-- the texts of the lists are those of the rounds
pub returns : goal.returns
returns c =
    let lines : ℕ → List Happening → List ℕ = lines_of_round c.args.lab.now in
    let texts =
    ap (λ (rounds : List (List Happening)). flat_map (λ (m : ℕ × List Happening). lines m.0 m.1) (enumerate_from 0 rounds)) c.as_slice.ensures.value
    ∙ texts_of_rounds lines c.args.lab.now.marks c.args.all.now _ c.len.result c.len.ensures c.in_ok-rounds.ensures in
    subst (λ (text : List ℕ). OnOk c.push_each_round.result (string_bytes c.push_each_round.new.text ≡ string_bytes c.args.text.now ++ text)) texts
    c.push_each_round.ensures
