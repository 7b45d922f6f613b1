use Rattle.std.proofs.Common.{◌≡◌, ◌++◌, ◌∷◌, [], length, None, refl, ℕ, rules, ap, ◌∙◌, arith, ◌<◌}
use Rattle.std.proofs.lemmas.Grind.{common_steps}
use Rattle.prefix_trie.specs.Arena.{nowhere}
use Rattle.prefix_trie.proofs.Grown.{same_trie, grown_node, node_trie}
use Rattle.prefix_trie.proofs.tree.add_index.Goals as goal

pub returns-in_err-reserve-clause-trie : goal.returns-in_err-reserve-clause-trie
returns-in_err-reserve-clause-trie g c = same_trie c.args.tree.now _ c.requires refl c.reserve.ensures.items refl refl

pub returns-in_err-reserve-2-clause-trie : goal.returns-in_err-reserve-2-clause-trie
returns-in_err-reserve-2-clause-trie g c = same_trie c.args.tree.now _ c.requires refl c.reserve.ensures.items c.reserve-2.ensures.items refl

pub returns-in_err-push-clause-trie : goal.returns-in_err-push-clause-trie
returns-in_err-push-clause-trie g c = same_trie c.args.tree.now _ c.requires refl c.reserve.ensures.items c.reserve-2.ensures.items c.in_err-push.ensures.items

pub returns-clause-trie : goal.returns-clause-trie
returns-clause-trie g c =
    let counted : c.len-index.result ≡ length c.args.tree.now.nodes.items = search rules in
    let nodes : c.push-2.new.self.items ≡ c.args.tree.now.nodes.items ++ record { prefix = c.in-Some.prefix; zero = nowhere; one = nowhere } ∷ [] =
    grind (arith, common_steps) in
    let values : c.push-else-is_err.new.self.items ≡ c.args.tree.now.values.items ++ None ∷ [] = grind (arith, common_steps) in
    let free : c.push.new.self.items ≡ c.args.tree.now.free.items ++ length c.args.tree.now.nodes.items ∷ [] =
    c.in_ok-push.ensures.items ∙ ap (λ (n : ℕ). c.args.tree.now.free.items ++ n ∷ []) counted in
    let room : length c.args.tree.now.nodes.items < nowhere = grind (arith, common_steps) in
    node_trie c.args.tree.now _ c.requires (record { prefix = c.in-Some.prefix; zero = nowhere; one = nowhere }) refl nodes values free room

pub returns-clause-grown : goal.returns-clause-grown
returns-clause-grown g c =
    let counted : c.len-index.result ≡ length c.args.tree.now.nodes.items = search rules in
    let nodes : c.push-2.new.self.items ≡ c.args.tree.now.nodes.items ++ record { prefix = c.in-Some.prefix; zero = nowhere; one = nowhere } ∷ [] =
    grind (arith, common_steps) in
    let values : c.push-else-is_err.new.self.items ≡ c.args.tree.now.values.items ++ None ∷ [] = grind (arith, common_steps) in
    let free : c.push.new.self.items ≡ c.args.tree.now.free.items ++ length c.args.tree.now.nodes.items ∷ [] =
    c.in_ok-push.ensures.items ∙ ap (λ (n : ℕ). c.args.tree.now.free.items ++ n ∷ []) counted in
    let room : length c.args.tree.now.nodes.items < nowhere = grind (arith, common_steps) in
    grown_node c.args.tree.now _ c.requires (record { prefix = c.in-Some.prefix; zero = nowhere; one = nowhere }) refl nodes values free room
