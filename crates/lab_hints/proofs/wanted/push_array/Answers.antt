use Rattle.std.proofs.Common.{◌≡◌, ◌++◌, codes, string_bytes, append_assoc}
use Rattle.std.proofs.lemmas.Result.{IfOk-equal}
use Rattle.lab_hints.specs.Wanted.{range_words}
use Rattle.lab_hints.proofs.Lists.{joined}
use Rattle.lab_hints.proofs.wanted.push_array.Goals as goal

pub returns : goal.returns
returns c =
    let start = string_bytes c.args.text.now in
    let front = codes "an array of " ++ range_words c.args.low c.args.high ++ codes " " in
    let begun : string_bytes c.write.new.self ≡ start ++ front = simp append_assoc c.in_ok-write.ensures.bytes in
    IfOk-equal c.push_members.result _ _ _ c.push_members.ensures (joined start _ front _ begun)
