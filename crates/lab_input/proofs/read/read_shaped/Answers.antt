use Rattle.std.proofs.Common.{◌≡◌, ◌∙◌, sym, ap}
use Rattle.std.specs.Prelude.{Option, Some, None, Ok}
use Rattle.std.specs.Option.{option_or}
use Rattle.toml.specs.View.{table_view}
use Rattle.lab_tables.specs.declared.input.LabInput.{LabInput}
use Rattle.lab_tables.specs.Documents.{lab_of}
use Rattle.lab_input.specs.declared.bad.BadInput.{BadInput}
use Rattle.lab_input.specs.Names.{named}
use Rattle.lab_input.specs.Counts.{count_fault}
use Rattle.lab_input.specs.Labs.{input_unless}
use Rattle.lab_input.proofs.read.read_shaped.Goals as goal

pub returns-in-Some : goal.returns-in-Some
returns-in-Some c =
    let doc = table_view c.args.doc.now in
    let later : LabInput → Option BadInput = λ lab. option_or (named doc) (option_or (count_fault lab) None) in
    let found : Some c.in-Some.bad ≡ later (lab_of doc) = sym c.in-Some.is ∙ c.in_ok-found.ensures ∙ ap later c.in_ok-lab.ensures in
    ap (λ o. input_unless o (lab_of doc)) (sym found)

pub returns-in-None : goal.returns-in-None
returns-in-None c =
    let doc = table_view c.args.doc.now in
    let later : LabInput → Option BadInput = λ lab. option_or (named doc) (option_or (count_fault lab) None) in
    let none : None ≡ later (lab_of doc) = sym c.in-None.is ∙ c.in_ok-found.ensures ∙ ap later c.in_ok-lab.ensures in
    ap (λ o. input_unless o (lab_of doc)) (sym none) ∙ ap Ok (sym c.in_ok-lab.ensures)
