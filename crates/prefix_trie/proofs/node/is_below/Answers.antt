use Rattle.std.proofs.Common.{sym, ◌∙◌, ◌<◌, ◌≤◌, ◌/◌, ◌-◌, ◌^◌, arith}
use Rattle.std.proofs.lemmas.Bool.Decides.{nat_tests}
use Rattle.std.proofs.lemmas.Bool.{ltb-true}
use Rattle.prefix_trie.proofs.Halves.{covers_by_half}
use Rattle.prefix_trie.proofs.node.is_below.Goals as goal
use Rattle.prefix_trie.proofs.node.is_below.Goals.{then-len, else-len}

pub returns-then-address : goal.returns-then-address
returns-then-address c = elim c.if-len.branch [
  | then-len w ↦
      let longer : c.args.at.len < c.args.prefix.len = omega arith in
      let fits = c.len-2.ensures.sound.len in
      let from : c.args.at.address ≤ c.args.prefix.address = grind (arith, nat_tests) in
      let h = covers_by_half c.args.at c.args.prefix c.len.ensures.sound longer (omega arith) from in (
        (λ t. let less : (c.args.prefix.address - c.args.at.address) / 2 < 2 ^ 31 / 2 ^ c.args.at.len = grind (arith, nat_tests) in (h.0 less, longer)),
        (λ k. let less = h.1 k.0 in grind (arith, nat_tests)),
      )
  | else-len w ↦ let less = ltb-true c.len.result c.len-2.result (sym w.value-is ∙ c.if-address.true) in let ge = w.if-len.false in absurd (omega arith)
]
