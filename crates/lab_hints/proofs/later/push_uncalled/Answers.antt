use Rattle.std.proofs.Common.{◌++◌, codes, string_bytes}
use Rattle.std.proofs.lemmas.Result.{IfOk-equal}
use Rattle.lab_hints.proofs.Lists.{joined, behind}
use Rattle.lab_hints.proofs.later.push_uncalled.Goals as goal

pub returns : goal.returns
returns c =
    let start = string_bytes c.args.text.now in
    let words = codes "no router, peering or policy is called " in
    IfOk-equal c.push_meant.result _ _ _ c.push_meant.ensures
    (joined start _ (words ++ c.args.name.now) _
    (behind start _ _ words c.args.name.now c.in_ok-push_str.ensures.bytes c.in_ok-push_str-2.ensures.bytes))
