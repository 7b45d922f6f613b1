use Rattle.std.proofs.Common.{codes, string_bytes}
use Rattle.std.proofs.lemmas.Result.{IfOk-equal}
use Rattle.lab_hints.proofs.Lists.{joined}
use Rattle.lab_hints.proofs.wanted.push_values.Goals as goal

pub returns : goal.returns
returns c =
    IfOk-equal c.push_kind.result _ _ _ c.push_kind.ensures (joined (string_bytes c.args.text.now) _ (codes "values, each ") _ c.in_ok-push_str.ensures.bytes)
