use Rattle.std.proofs.Common.{◌^◌, ◌<◌, sym, subst, arith}
use Rattle.std.specs.Int.Bits.{bit_xor}
use Rattle.std.specs.Int.Count.{count_leading_zeros}
use Rattle.bgp_types.specs.Prefixes.{PrefixValue}
use Rattle.prefix_trie.specs.Halves.{IsFork}
use Rattle.prefix_trie.proofs.Halves.{forks, fork_at}
use Rattle.prefix_trie.proofs.node.fork_of.Goals as goal

pub returns : goal.returns
returns c =
    let low_fits : c.args.low < 2 ^ 32 = omega arith in
    let high_fits : c.args.high < 2 ^ 32 = omega arith in
    let f = forks c.args.low c.args.high c.requires high_fits in
    subst (λ (p : PrefixValue). IsFork c.args.low c.args.high p) (sym c.in-Some.ensures.value)
    (fork_at c.args.low c.args.high f.0 (count_leading_zeros 32 (bit_xor c.args.low c.args.high)) low_fits f.1 f.2)
