use Rattle.std.proofs.Common.{codes, string_bytes}
use Rattle.std.proofs.lemmas.Result.{IfOk-equal}
use Rattle.lab_hints.proofs.Lists.{joined}
use Rattle.lab_hints.proofs.later.push_no_name.Goals as goal

pub returns : goal.returns
returns c =
    IfOk-equal c.push_name_form.result _ _ _ c.push_name_form.ensures
    (joined (string_bytes c.args.text.now) _ (codes "a name is ") _ c.in_ok-push_str.ensures.bytes)
