use Rattle.std.proofs.Common.{◌≡◌, ◌++◌, List, ℕ, string_bytes, OnOk, subst, sym, ap, ◌∙◌}
use Rattle.std.proofs.lemmas.Result.{on_ok_weaker}
use Rattle.std.specs.Prelude.{codes}
use Rattle.timeline_view.specs.declared.event.Event.{Event}
use Rattle.timeline_view.specs.Lines.{did, lines_of}
use Rattle.timeline_view.proofs.lines.push_lines.Goals as goal

pub returns-in-Repeat : goal.returns-in-Repeat
returns-in-Repeat c =
    let start = string_bytes c.args.text.now in
    let told = c.push_did-in-Repeat in
    subst (λ (event : Event). OnOk told.result (string_bytes told.new.text ≡ start ++ lines_of c.args.lab.now c.args.round c.args.name.now event))
    (sym c.in-Repeat.is)
    (on_ok_weaker told.result (λ is.
    is ∙ ap (λ (words : List ℕ). start ++ did c.args.round c.args.name.now (codes "link repeated " ++ words)) c.way_words-in-Repeat.ensures) told.ensures)
