use Rattle.std.proofs.Common.{◌≡◌, ◌∙◌, sym, ap, subst, arith}
use Rattle.std.specs.Prelude.{Some, None, Err}
use Rattle.std.proofs.lemmas.Bool.{false≢true}
use Rattle.toml.specs.Parse.{parse_document}
use Rattle.toml.specs.View.{table_view}
use Rattle.lab_input.specs.Bytes.{document_of}
use Rattle.lab_input.specs.Labs.{input_in, ReaderAnswers}
use Rattle.lab_input.proofs.Bytes.{document_of-text, document_of-no_text, input_of-long, input_of-short}
use Rattle.lab_input.proofs.read.read_lab.Goals as goal

pub returns-then-bytes-gt-MOST_BYTES : goal.returns-then-bytes-gt-MOST_BYTES
returns-then-bytes-gt-MOST_BYTES c = input_of-long c.args.bytes.now (omega arith) ∙ ap Err (sym c.in_ok-too_long.ensures)

pub returns-in-Err : goal.returns-in-Err
returns-in-Err c = input_of-short c.args.bytes.now (omega arith) ∙ ap input_in (document_of-no_text c.args.bytes.now c.in-Err.ensures.cases.0)

pub returns-in-Ok-table_from_str : goal.returns-in-Ok-table_from_str
returns-in-Ok-table_from_str c =
    let bytes = c.args.bytes.now in
    let document = table_view c.in-Ok-table_from_str.doc in
    let same = c.in-Ok.ensures.cases.0 in
    let read : parse_document bytes ≡ Some document = ap parse_document (sym same) ∙ c.in-Ok-table_from_str.ensures.ok in
    let is : document_of bytes ≡ Some document = document_of-text bytes c.in-Ok.ensures.cases.1 ∙ read in
    subst (λ answer. ReaderAnswers answer c.read_document.result) (sym (input_of-short bytes (omega arith) ∙ ap input_in is)) c.read_document.ensures

pub returns-else-is_memory : goal.returns-else-is_memory
returns-else-is_memory c =
    let bytes = c.args.bytes.now in
    let same = c.in-Ok.ensures.cases.0 in
    let read : parse_document bytes ≡ None =
    ap parse_document (sym same) ∙ c.in-Err-table_from_str.ensures.refused (λ memory. absurd (false≢true (c.if-is_memory.ensures.1 memory))) in
    input_of-short bytes (omega arith) ∙ ap input_in (document_of-text bytes c.in-Ok.ensures.cases.1 ∙ read)
