use Rattle.std.proofs.Common.{rules, ◌<◌, List, Option, None, sym, ap, ◌∙◌, arith}
use Rattle.std.specs.Option.{option_copied, option_or}
use Rattle.bgp_types.specs.Prefixes.{PrefixValue}
use Rattle.bgp_types.specs.Tables.{first_above}
use Rattle.prefix_trie.proofs.Nexts.{keys, first_below}
use Rattle.prefix_trie.specs.Arena.{value_at, entries_at, IsTrieAt}
use Rattle.prefix_trie.proofs.Levels.{left, none_at, one_less, zero_less}
use Rattle.prefix_trie.proofs.Indices.{at_index, first_own}
use Rattle.prefix_trie.proofs.node.+first.Goals as goal

pub first-requires : goal.first-requires
first-requires g t c =
    let f = at_index c.args.nodes.now c.args.values.now c.args.index c.in-Some.node.now (sym c.node_at.ensures ∙ ap option_copied c.in-Some.is) c.requires in
    let trie : IsTrieAt c.args.nodes.now c.in-Some.node.now.zero = f.at.zero_below in
    let falls = zero_less c.args.nodes.now c.args.index c.in-Some.node.now (sym c.node_at.ensures ∙ ap option_copied c.in-Some.is) c.requires in
    let less : left c.args.nodes.now c.in-Some.node.now.zero < t = omega (arith, falls, c.decreases) in
    search rules

pub returns-then-has_value : goal.returns-then-has_value
returns-then-has_value g t c =
    let n = c.in-Some.node.now in
    let es = entries_at c.args.nodes.now c.args.values.now in
    let f = at_index c.args.nodes.now c.args.values.now c.args.index n (sym c.node_at.ensures ∙ ap option_copied c.in-Some.is) c.requires in
    sym (ap (λ (es : List (PrefixValue × g.row.V.Denot)). first_above None (keys es)) f.is
    ∙ first_own n.prefix (value_at c.args.values.now c.args.index) (es n.zero) (es n.one) (sym c.has_value.ensures ∙ c.if-has_value.true))

pub returns-in-None : goal.returns-in-None
returns-in-None g t c = sym (ap (λ (es : List (PrefixValue × g.row.V.Denot)). first_above None (keys es))
    (none_at c.args.nodes.now c.args.values.now c.args.index (sym c.node_at.ensures ∙ ap option_copied c.in-None.is)))

pub first-requires-in-None-first : goal.first-requires-in-None-first
first-requires-in-None-first g t c =
    let f = at_index c.args.nodes.now c.args.values.now c.args.index c.in-Some.node.now (sym c.node_at.ensures ∙ ap option_copied c.in-Some.is) c.requires in
    let trie : IsTrieAt c.args.nodes.now c.in-Some.node.now.one = f.at.one_below in
    let falls = one_less c.args.nodes.now c.args.index c.in-Some.node.now (sym c.node_at.ensures ∙ ap option_copied c.in-Some.is) c.requires in
    let less : left c.args.nodes.now c.in-Some.node.now.one < t = omega (arith, falls, c.decreases) in
    search rules

pub returns-in-Some-first : goal.returns-in-Some-first
returns-in-Some-first g t c =
    let n = c.in-Some.node.now in
    let es = entries_at c.args.nodes.now c.args.values.now in
    let f = at_index c.args.nodes.now c.args.values.now c.args.index n (sym c.node_at.ensures ∙ ap option_copied c.in-Some.is) c.requires in
    sym (ap (λ (es : List (PrefixValue × g.row.V.Denot)). first_above None (keys es)) f.is
    ∙ (first_below n.prefix (value_at c.args.values.now c.args.index) (es n.zero) (es n.one) (sym c.has_value.ensures ∙ c.if-has_value.false)
    ∙ ap (λ (o : Option PrefixValue). option_or o (first_above None (keys (es n.one)))) (sym c.first.ensures ∙ c.in-Some-first.is)))

pub returns-in-None-first : goal.returns-in-None-first
returns-in-None-first g t c =
    let n = c.in-Some.node.now in
    let es = entries_at c.args.nodes.now c.args.values.now in
    let f = at_index c.args.nodes.now c.args.values.now c.args.index n (sym c.node_at.ensures ∙ ap option_copied c.in-Some.is) c.requires in
    c.first-in-None-first.ensures
    ∙ sym (ap (λ (es : List (PrefixValue × g.row.V.Denot)). first_above None (keys es)) f.is
    ∙ (first_below n.prefix (value_at c.args.values.now c.args.index) (es n.zero) (es n.one) (sym c.has_value.ensures ∙ c.if-has_value.false)
    ∙ ap (λ (o : Option PrefixValue). option_or o (first_above None (keys (es n.one)))) (sym c.first.ensures ∙ c.in-None-first.is)))
