use Rattle.std.proofs.Common.{◌≡◌, ◌≤◌, ◌∙◌, length, sym, subst, codes, arith}
use Rattle.std.proofs.lemmas.Result.{IfOk-weaker}
use Rattle.std.proofs.lemmas.Str.{utf8_valid_len_le}
use Rattle.std.specs.Str.Lossy.{utf8_valid_len}
use Rattle.toml.specs.Parse.{parse_document}
use Rattle.lab_hints.specs.Hints.{hint_line, long_words, place_words, IsReadHint, IsHint}
use Rattle.lab_hints.proofs.Hinted.{hint_long, hint_read, hint_broken}
use Rattle.lab_hints.proofs.hints.hint_text.Goals as goal

pub returns-then-bytes-gt-MOST_BYTES : goal.returns-then-bytes-gt-MOST_BYTES
returns-then-bytes-gt-MOST_BYTES c =
    let bytes = c.args.bytes.now in
    let bad = c.args.bad.now in
    IfOk-weaker c.long_hint.result (λ text. text ≡ hint_line long_words) (IsHint bytes bad) (λ text is. hint_long bytes bad text (omega arith) is)
    c.long_hint.ensures

pub returns-in-Ok : goal.returns-in-Ok
returns-in-Ok c =
    let bytes = c.args.bytes.now in
    let bad = c.args.bad.now in
    let read = c.in-Ok.text.now in
    let same : read ≡ bytes = c.in-Ok.ensures.cases.0 in
    IfOk-weaker c.text_hint.result (IsReadHint (parse_document read) read bad) (IsHint bytes bad)
    (λ text is. hint_read bytes bad text (omega arith) c.in-Ok.ensures.cases.1 (subst (λ b. IsReadHint (parse_document b) b bad text) same is))
    c.text_hint.ensures

pub place_hint-requires : goal.place_hint-requires
place_hint-requires c =
    let bytes = c.args.bytes.now in
    subst (λ n. n ≤ length bytes) (sym (c.valid_up_to.ensures ∙ c.in-Err.ensures.valid_len)) (utf8_valid_len_le bytes)

pub returns-in-Err : goal.returns-in-Err
returns-in-Err c =
    let bytes = c.args.bytes.now in
    let bad = c.args.bad.now in
    let at = c.valid_up_to.result in
    let message = codes "invalid UTF-8" in
    let first : at ≡ utf8_valid_len bytes = c.valid_up_to.ensures ∙ c.in-Err.ensures.valid_len in
    let within : at ≤ length bytes = subst (λ n. n ≤ length bytes) (sym first) (utf8_valid_len_le bytes) in
    IfOk-weaker c.place_hint.result (λ text. text ≡ hint_line (place_words bytes at message)) (IsHint bytes bad)
    (λ text is. hint_broken bytes bad text (omega arith) c.in-Err.ensures.cases.0
    (record { at = at; within = within; broken = λ e. first; message = message; is = is }))
    c.place_hint.ensures
