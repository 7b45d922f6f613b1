use Rattle.std.proofs.Common.{◌++◌, codes, string_bytes}
use Rattle.std.proofs.lemmas.Result.{IfOk-equal}
use Rattle.lab_hints.proofs.Lists.{joined, behind}
use Rattle.lab_hints.proofs.stray.push_question.Goals as goal

pub returns : goal.returns
returns c =
    let start = string_bytes c.args.text.now in
    IfOk-equal c.push_words.result _ _ _ c.push_words.ensures
    (joined start _ (codes "; did you mean " ++ c.args.name.now) _
    (behind start _ _ (codes "; did you mean ") c.args.name.now c.in_ok-push_str.ensures.bytes c.in_ok-push_str-2.ensures.bytes))
