use Rattle.std.proofs.Common.{rules, ◌<◌, List, Option, Some, None, sym, ap, ◌∙◌, arith}
use Rattle.std.specs.Option.{option_copied, option_or}
use Rattle.std.specs.Ordering.{nat_cmp}
use Rattle.bgp_types.specs.Prefixes.{PrefixValue}
use Rattle.bgp_types.specs.Tables.{prefix_cmp, first_above}
use Rattle.prefix_trie.specs.Halves.{middle}
use Rattle.prefix_trie.proofs.Nodes.{lt_same, less_from_test, is_before, is_past}
use Rattle.prefix_trie.proofs.Nexts.{keys, next_before, next_early, next_late}
use Rattle.prefix_trie.specs.Arena.{value_at, entries_at, IsTrieAt}
use Rattle.prefix_trie.proofs.Levels.{left, none_at, one_less, zero_less}
use Rattle.prefix_trie.proofs.Indices.{at_index}
use Rattle.prefix_trie.proofs.node.+next.Goals as goal

pub returns-in-None : goal.returns-in-None
returns-in-None g t c = sym (ap (λ (es : List (PrefixValue × g.row.V.Denot)). first_above (Some c.args.prefix) (keys es))
    (none_at c.args.nodes.now c.args.values.now c.args.index (sym c.node_at.ensures ∙ ap option_copied c.in-None.is)))

pub returns-then-lt : goal.returns-then-lt
returns-then-lt g t c =
    let n = c.in-Some.node.now in
    let p = c.args.prefix in
    let es = entries_at c.args.nodes.now c.args.values.now in
    let v = value_at c.args.values.now c.args.index in
    let f = at_index c.args.nodes.now c.args.values.now c.args.index n (sym c.node_at.ensures ∙ ap option_copied c.in-Some.is) c.requires in
    let whole = ap (λ (es : List (PrefixValue × g.row.V.Denot)). first_above (Some p) (keys es)) f.is in
    c.first.ensures
    ∙ (ap (λ (es : List (PrefixValue × g.row.V.Denot)). first_above None (keys es)) f.is
    ∙ sym (whole ∙ next_before n.prefix v (es n.zero) (es n.one) f.node p (less_from_test (prefix_cmp p n.prefix)
    (sym (lt_same (nat_cmp p.address n.prefix.address) (nat_cmp p.len n.prefix.len)) ∙ (sym c.lt.ensures ∙ c.if-lt.true)))))

pub next-requires : goal.next-requires
next-requires g t c =
    let f = at_index c.args.nodes.now c.args.values.now c.args.index c.in-Some.node.now (sym c.node_at.ensures ∙ ap option_copied c.in-Some.is) c.requires in
    let trie : IsTrieAt c.args.nodes.now c.in-Some.node.now.zero = f.at.zero_below in
    let falls = zero_less c.args.nodes.now c.args.index c.in-Some.node.now (sym c.node_at.ensures ∙ ap option_copied c.in-Some.is) c.requires in
    let less : left c.args.nodes.now c.in-Some.node.now.zero < t = omega (arith, falls, c.decreases) in
    search rules

pub returns-in-Some-next : goal.returns-in-Some-next
returns-in-Some-next g t c =
    let n = c.in-Some.node.now in
    let p = c.args.prefix in
    let es = entries_at c.args.nodes.now c.args.values.now in
    let v = value_at c.args.values.now c.args.index in
    let f = at_index c.args.nodes.now c.args.values.now c.args.index n (sym c.node_at.ensures ∙ ap option_copied c.in-Some.is) c.requires in
    let whole = ap (λ (es : List (PrefixValue × g.row.V.Denot)). first_above (Some p) (keys es)) f.is in
    sym (whole
    ∙ (next_early n.prefix v (es n.zero) (es n.one) f.node p
    (sym (lt_same (nat_cmp p.address n.prefix.address) (nat_cmp p.len n.prefix.len)) ∙ (sym c.lt.ensures ∙ c.if-lt.false))
    (is_before c.is_early.result c.address.result p.address (middle n.prefix) c.address.ensures.value c.is_early.ensures c.if-is_early.true)
    ∙ ap (λ (o : Option PrefixValue). option_or o (first_above None (keys (es n.one)))) (sym c.next.ensures ∙ c.in-Some-next.is)))

pub first-requires-then-is_early : goal.first-requires-then-is_early
first-requires-then-is_early g t c =
    let f = at_index c.args.nodes.now c.args.values.now c.args.index c.in-Some.node.now (sym c.node_at.ensures ∙ ap option_copied c.in-Some.is) c.requires in
    f.at.one_below

pub returns-then-is_early : goal.returns-then-is_early
returns-then-is_early g t c =
    let n = c.in-Some.node.now in
    let p = c.args.prefix in
    let es = entries_at c.args.nodes.now c.args.values.now in
    let v = value_at c.args.values.now c.args.index in
    let f = at_index c.args.nodes.now c.args.values.now c.args.index n (sym c.node_at.ensures ∙ ap option_copied c.in-Some.is) c.requires in
    let whole = ap (λ (es : List (PrefixValue × g.row.V.Denot)). first_above (Some p) (keys es)) f.is in
    c.first-then-is_early.ensures
    ∙ sym (whole
    ∙ (next_early n.prefix v (es n.zero) (es n.one) f.node p
    (sym (lt_same (nat_cmp p.address n.prefix.address) (nat_cmp p.len n.prefix.len)) ∙ (sym c.lt.ensures ∙ c.if-lt.false))
    (is_before c.is_early.result c.address.result p.address (middle n.prefix) c.address.ensures.value c.is_early.ensures c.if-is_early.true)
    ∙ ap (λ (o : Option PrefixValue). option_or o (first_above None (keys (es n.one)))) (sym c.next.ensures ∙ c.in_default.is)))

pub next-requires-in-Some : goal.next-requires-in-Some
next-requires-in-Some g t c =
    let f = at_index c.args.nodes.now c.args.values.now c.args.index c.in-Some.node.now (sym c.node_at.ensures ∙ ap option_copied c.in-Some.is) c.requires in
    let trie : IsTrieAt c.args.nodes.now c.in-Some.node.now.one = f.at.one_below in
    let falls = one_less c.args.nodes.now c.args.index c.in-Some.node.now (sym c.node_at.ensures ∙ ap option_copied c.in-Some.is) c.requires in
    let less : left c.args.nodes.now c.in-Some.node.now.one < t = omega (arith, falls, c.decreases) in
    search rules

pub returns-else-is_early : goal.returns-else-is_early
returns-else-is_early g t c =
    let n = c.in-Some.node.now in
    let p = c.args.prefix in
    let es = entries_at c.args.nodes.now c.args.values.now in
    let v = value_at c.args.values.now c.args.index in
    let f = at_index c.args.nodes.now c.args.values.now c.args.index n (sym c.node_at.ensures ∙ ap option_copied c.in-Some.is) c.requires in
    let whole = ap (λ (es : List (PrefixValue × g.row.V.Denot)). first_above (Some p) (keys es)) f.is in
    c.next-in-Some.ensures ∙ sym (whole ∙ next_late n.prefix v (es n.zero) (es n.one) f.node p
    (sym (lt_same (nat_cmp p.address n.prefix.address) (nat_cmp p.len n.prefix.len)) ∙ (sym c.lt.ensures ∙ c.if-lt.false))
    (is_past c.is_early.result c.address.result p.address (middle n.prefix) c.address.ensures.value c.is_early.ensures c.if-is_early.false))
