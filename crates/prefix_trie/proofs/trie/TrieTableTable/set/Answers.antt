use Rattle.std.proofs.Common.{◌≡◌, true, false, Option, None, length, sym, ap, ◌∙◌, subst, arith}
use Rattle.std.specs.FinMap as map
use Rattle.bgp_types.specs.Tables.{prefix_cmp}
use Rattle.bgp_types.proofs.TableLaws.{table_get, table_put}
use Rattle.prefix_trie.specs.Trees.{entries}
use Rattle.prefix_trie.specs.Table.{TableValue}
use Rattle.prefix_trie.proofs.Counts.{rising_trie, countable, put_len}
use Rattle.std.specs.Prelude.{IsSome, is_some}
use Rattle.prefix_trie.proofs.trie.TrieTableTable.set.Goals as goal
use Rattle.prefix_trie.proofs.trie.TrieTableTable.set.Goals.{then-is_none, else-is_none}

pub returns-in_err-before-clause-present : goal.returns-in_err-before-clause-present
returns-in_err-before-clause-present g c there =
    let es = entries c.self.inside.tree in
    let rise = rising_trie c.self.inside.tree c.self.invariant.trie in
    let none : map.get c.args.self.now.contents c.args.prefix ≡ None =
    sym (sym (table_get es rise c.args.prefix) ∙ ap (λ (t : TableValue g.row.V.Denot). map.get t.contents c.args.prefix) c.self.view_is)
    ∙ c.in_err-before.ensures.put.new in
    let gone : false ≡ true = subst (λ (o : Option g.row.V.Denot). IsSome o) none there in
    absurd cc

pub overflow_add-self : goal.overflow_add-self
overflow_add-self g c =
    let few = countable c.self.inside.tree c.self.invariant.trie in
    let len = c.self.invariant.len in
    omega arith

pub invariant_of-self-then-is_none : goal.invariant_of-self-then-is_none
invariant_of-self-then-is_none g c =
    let es = entries c.self.inside.tree in
    let rise = rising_trie c.self.inside.tree c.self.invariant.trie in
    let put = c.in_ok-before.ensures.put in
    let len = c.self.invariant.len in
    let more = ap length put.entries ∙ put_len c.args.prefix c.args.value es rise false (ap is_some (sym put.before) ∙ c.if-is_none.ensures) in
    record { trie = c.in_ok-before.ensures.trie; len = omega arith }

pub invariant_of-self-else-is_none : goal.invariant_of-self-else-is_none
invariant_of-self-else-is_none g c =
    let es = entries c.self.inside.tree in
    let rise = rising_trie c.self.inside.tree c.self.invariant.trie in
    let put = c.in_ok-before.ensures.put in
    record {
      trie = c.in_ok-before.ensures.trie;
      len = c.self.invariant.len
          ∙ sym (ap length put.entries ∙ put_len c.args.prefix c.args.value es rise true (ap is_some (sym put.before) ∙ c.if-is_none.ensures));
    }

pub returns-clause-before : goal.returns-clause-before
returns-clause-before g c =
    let es = entries c.self.inside.tree in
    let rise = rising_trie c.self.inside.tree c.self.invariant.trie in
    c.in_ok-before.ensures.put.before
    ∙ (sym (table_get es rise c.args.prefix) ∙ ap (λ (t : TableValue g.row.V.Denot). map.get t.contents c.args.prefix) c.self.view_is)

pub returns-clause-ok : goal.returns-clause-ok
returns-clause-ok g c =
    let es = entries c.self.inside.tree in
    let rise = rising_trie c.self.inside.tree c.self.invariant.trie in
    let inserted = ap (map.from_sorted {R = prefix_cmp}) c.in_ok-before.ensures.put.entries
    ∙ (table_put es rise c.args.prefix c.args.value ∙ ap (λ (t : TableValue g.row.V.Denot). map.insert t.contents c.args.prefix c.args.value) c.self.view_is) in
    elim c.if-is_none.branch [
      | then-is_none w ↦ ap (λ (t : TableValue g.row.V.Denot). t.contents) w.self-is ∙ inserted
      | else-is_none w ↦ ap (λ (t : TableValue g.row.V.Denot). t.contents) w.self-is ∙ inserted
    ]
