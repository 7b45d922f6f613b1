use Rattle.std.proofs.Common.{◌≡◌, sym, subst, arith}
use Rattle.std.specs.Prelude.{None}
use Rattle.std.proofs.lemmas.Bool.{false≢true}
use Rattle.std.proofs.lemmas.Result.{IfOk-weaker}
use Rattle.toml.specs.Parse.{parse_document}
use Rattle.toml.specs.View.{table_view}
use Rattle.lab_hints.specs.Hints.{hint_line, place_words, document_words, IsReadHint}
use Rattle.lab_hints.proofs.Hinted.{place_in_text}
use Rattle.lab_hints.proofs.hints.text_hint.Goals as goal

pub returns-in-Ok : goal.returns-in-Ok
returns-in-Ok c =
    let text = c.args.text.now in
    let bad = c.args.bad.now in
    IfOk-weaker c.document_hint.result (λ hint. hint ≡ hint_line (document_words (table_view c.in-Ok.doc) bad)) (IsReadHint (parse_document text) text bad)
    (λ hint is. subst (λ d. IsReadHint d text bad hint) (sym c.in-Ok.ensures.ok) is) c.document_hint.ensures

-- the place lies in the text
pub place_hint-requires : goal.place_hint-requires
place_hint-requires c = omega (arith, c.in-Some.ensures.range.0, c.in-Err.ensures.span.0, c.in-Err.ensures.span.1, c.as_bytes.ensures.len)

-- an error that has a place isn't one of memory, so that the text is no document
pub returns-in-Some : goal.returns-in-Some
returns-in-Some c =
    let text = c.args.text.now in
    let bad = c.args.bad.now in
    let refused : parse_document text ≡ None = c.in-Err.ensures.refused (λ memory. absurd (false≢true (sym (c.in-Some.ensures.none.1 memory)))) in
    IfOk-weaker c.place_hint.result (λ hint. hint ≡ hint_line (place_words c.as_bytes.result.now c.in-Some.span.start c.message.result.now))
    (IsReadHint (parse_document text) text bad)
    (λ hint is. subst (λ d. IsReadHint d text bad hint) (sym refused) (place_in_text text hint c.message.result.now c.in-Some.span.start c.utf8.text
    (omega (arith, c.in-Some.ensures.range.0, c.in-Err.ensures.span.0, c.in-Err.ensures.span.1))
    (subst (λ b. hint ≡ hint_line (place_words b c.in-Some.span.start c.message.result.now)) c.as_bytes.ensures.value is)))
    c.place_hint.ensures
