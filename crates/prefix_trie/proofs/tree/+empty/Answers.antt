use Rattle.std.proofs.Common.{rules, ◌≡◌, ◌<◌, ℕ, set, ◌++◌, length, is_ok, None, sym, ap, ◌∙◌, arith}
use Rattle.std.specs.Option.{option_copied}
use Rattle.std.specs.List.{Contains}
use Rattle.std.proofs.lemmas.List.Elements.{Contains-append_right}
use Rattle.prefix_trie.specs.Arena.{value_at, indices_at, AreApart, IsTrieAt}
use Rattle.prefix_trie.proofs.Apart.{right_apart}
use Rattle.prefix_trie.proofs.Levels.{at_node, left, one_less, zero_less}
use Rattle.std.proofs.lemmas.Option.{slice_get_within}
use Rattle.prefix_trie.proofs.Emptied.{zero_apart, index_bare, one_apart, node_among}
use Rattle.prefix_trie.proofs.tree.+empty.Goals as goal

pub returns-in_default-clause-apart : goal.returns-in_default-clause-apart
returns-in_default-clause-apart g t c = right_apart (indices_at c.args.nodes.now c.args.index) c.args.free.now.items c.requires.apart

pub returns-in_default-clause-among : goal.returns-in_default-clause-among
returns-in_default-clause-among g t c = λ q inside. Contains-append_right (indices_at c.args.nodes.now c.args.index) c.args.free.now.items q inside

pub offset_bounds-values-index : goal.offset_bounds-values-index
offset_bounds-values-index g t c =
    let inside = slice_get_within c.args.nodes.now c.args.index c.in-Some.node.now (sym c.node_at.ensures ∙ ap option_copied c.in-Some.is) in
    let valued = c.requires.valued in
    let within : c.args.index < length c.args.values.now = omega (arith, inside, valued) in
    search rules

pub bounds-values-index : goal.bounds-values-index
bounds-values-index g t c =
    let inside = slice_get_within c.args.nodes.now c.args.index c.in-Some.node.now (sym c.node_at.ensures ∙ ap option_copied c.in-Some.is) in
    let valued = c.requires.valued in
    omega (arith, inside, valued)

pub empty-requires : goal.empty-requires
empty-requires g t c κs within =
    let a = c.args in
    let n = c.in-Some.node.now in
    let there = sym c.node_at.ensures ∙ ap option_copied c.in-Some.is in
    let at = at_node a.nodes.now a.index n there c.requires.trie in
    let trie : IsTrieAt a.nodes.now n.zero = at.zero_below in
    let apart : AreApart (indices_at a.nodes.now n.zero ++ c.push.new.self.items) =
    zero_apart a.nodes.now a.index n at a.free.now.items c.requires.apart (is_ok c.push.result) c.push.new.self.items c.push.ensures.items in
    let bare : (q : ℕ) → Contains c.push.new.self.items q → value_at (set a.values.now a.index None) q ≡ None = index_bare a.nodes.now a.index
    n at a.free.now.items c.requires.apart (is_ok c.push.result) c.push.new.self.items c.push.ensures.items a.values.now c.requires.bare in
    let falls = zero_less a.nodes.now a.index n there c.requires.trie in
    let less : left a.nodes.now n.zero < t = omega (arith, falls, c.decreases) in
    let valued = c.requires.valued in
    search rules

pub empty-requires-2 : goal.empty-requires-2
empty-requires-2 g t c κs within =
    let a = c.args in
    let n = c.in-Some.node.now in
    let there = sym c.node_at.ensures ∙ ap option_copied c.in-Some.is in
    let at = at_node a.nodes.now a.index n there c.requires.trie in
    let trie : IsTrieAt a.nodes.now n.one = at.one_below in
    let apart : AreApart (indices_at a.nodes.now n.one ++ c.empty.new.free.items) = one_apart a.nodes.now a.index n at a.free.now.items c.requires.apart
    (is_ok c.push.result) c.push.new.self.items c.push.ensures.items c.empty.new.free.items c.empty.ensures.apart c.empty.ensures.among in
    let bare = c.empty.ensures.bare in
    let falls = one_less a.nodes.now a.index n there c.requires.trie in
    let less : left a.nodes.now n.one < t = omega (arith, falls, c.decreases) in
    let valued = c.empty.ensures.valued in
    search rules

pub returns-clause-among : goal.returns-clause-among
returns-clause-among g t c =
    let a = c.args in
    let n = c.in-Some.node.now in
    let there = sym c.node_at.ensures ∙ ap option_copied c.in-Some.is in
    let at = at_node a.nodes.now a.index n there c.requires.trie in
    node_among a.nodes.now a.index n at a.free.now.items c.requires.apart (is_ok c.push.result) c.push.new.self.items c.push.ensures.items
    c.empty.new.free.items c.empty.ensures.apart c.empty.ensures.among c.empty-2.new.free.items c.empty-2.ensures.among
