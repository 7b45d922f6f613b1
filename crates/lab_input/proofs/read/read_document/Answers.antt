use Rattle.std.proofs.Common.{◌≡◌, ◌∙◌, sym, ap, subst}
use Rattle.std.specs.Prelude.{Option, Some, None, option_map}
use Rattle.std.specs.Option.{option_or}
use Rattle.toml.specs.View.{table_view}
use Rattle.lab_tables.specs.Documents.{shaped, lab_of}
use Rattle.lab_input.specs.declared.bad.BadInput.{BadInput}
use Rattle.lab_input.specs.Names.{named}
use Rattle.lab_input.specs.Counts.{count_fault}
use Rattle.lab_input.specs.Labs.{bad_of, input_unless, ReaderAnswers}
use Rattle.lab_input.proofs.read.read_document.Goals as goal

pub returns-in-Some : goal.returns-in-Some
returns-in-Some c =
    let doc = table_view c.args.doc.now in
    let later : Option BadInput = option_or (named doc) (option_or (count_fault (lab_of doc)) None) in
    let found : Some c.in-Some.bad ≡ option_map bad_of (shaped doc) = sym c.in-Some.is ∙ c.in_ok-shape.ensures in
    ap (λ o. input_unless (option_or o later) (lab_of doc)) (sym found)

pub returns-in-None : goal.returns-in-None
returns-in-None c =
    let doc = table_view c.args.doc.now in
    let later : Option BadInput = option_or (named doc) (option_or (count_fault (lab_of doc)) None) in
    let none : None ≡ option_map bad_of (shaped doc) = sym c.in-None.is ∙ c.in_ok-shape.ensures in
    subst (λ o. ReaderAnswers (input_unless (option_or o later) (lab_of doc)) c.read_shaped.result) none c.read_shaped.ensures
