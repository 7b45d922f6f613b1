use Rattle.std.proofs.Common.{codes, string_bytes}
use Rattle.std.proofs.lemmas.Result.{IfOk-equal}
use Rattle.lab_hints.proofs.Lists.{joined}
use Rattle.lab_hints.proofs.stray.push_no_key.Goals as goal

pub returns : goal.returns
returns c =
    IfOk-equal c.push_words.result _ _ _ c.push_words.ensures
    (joined (string_bytes c.args.text.now) _ (codes "; no key is called ") _ c.in_ok-push_str.ensures.bytes)
