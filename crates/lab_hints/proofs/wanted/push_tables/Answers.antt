use Rattle.std.proofs.Common.{◌∙◌, ◌++◌, ap, codes, string_bytes}
use Rattle.lab_hints.specs.Wanted.{heading_front}
use Rattle.lab_hints.proofs.Lists.{behind}
use Rattle.lab_hints.proofs.wanted.push_tables.Goals as goal

pub returns : goal.returns
returns c =
    let start = string_bytes c.args.text.now in
    let front = codes "tables, each under [[" in
    let array = heading_front c.args.at in
    behind start _ _ (front ++ array ++ c.args.key.now) (codes "]]")
    (behind start _ _ (front ++ array) c.args.key.now
    (behind start _ _ front array c.in_ok-push_str.ensures.bytes
    (c.in_ok-push_str-2.ensures.bytes ∙ ap (λ t. string_bytes c.push_str.new.self ++ t) c.heading_front.ensures))
    c.in_ok-push_str-3.ensures.bytes) c.in_ok-push_str-4.ensures.bytes
