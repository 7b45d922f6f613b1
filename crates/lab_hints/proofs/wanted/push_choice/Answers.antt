use Rattle.std.proofs.Common.{codes, string_bytes}
use Rattle.std.proofs.lemmas.Result.{IfOk-equal}
use Rattle.lab_hints.proofs.Lists.{joined}
use Rattle.lab_hints.proofs.wanted.push_choice.Goals as goal

pub returns : goal.returns
returns c =
    IfOk-equal c.push_listed.result _ _ _ c.push_listed.ensures
    (joined (string_bytes c.args.text.now) _ (codes "a string, one of") _ c.in_ok-push_str.ensures.bytes)
