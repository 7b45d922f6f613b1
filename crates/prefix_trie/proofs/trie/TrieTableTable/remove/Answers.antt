use Rattle.std.proofs.Common.{◌≡◌, None, length, sym, ap, ◌∙◌, arith}
use Rattle.std.specs.FinMap as map
use Rattle.bgp_types.specs.Tables.{prefix_cmp}
use Rattle.bgp_types.proofs.TableLaws.{table_get, table_without}
use Rattle.prefix_trie.specs.Trees.{entries}
use Rattle.prefix_trie.specs.Table.{TableValue}
use Rattle.prefix_trie.proofs.Counts.{rising_trie, one_less, none_less}
use Rattle.prefix_trie.proofs.trie.TrieTableTable.remove.Goals as goal

pub overflow_sub-self : goal.overflow_sub-self
overflow_sub-self g c =
    let es = entries c.self.inside.tree in
    let rise = rising_trie c.self.inside.tree c.self.invariant.trie in
    let fewer = one_less c.args.prefix c.in_ok-taken.taken es rise (sym c.in_ok-taken.ensures.taken) in
    let len = c.self.invariant.len in
    omega arith

pub invariant_of-self : goal.invariant_of-self
invariant_of-self g c =
    let es = entries c.self.inside.tree in
    let rise = rising_trie c.self.inside.tree c.self.invariant.trie in
    record {
      trie = c.take.ensures.trie;
      len = c.self.invariant.len ∙ sym (ap length c.take.ensures.entries ∙ none_less c.args.prefix es rise (sym c.in_err-taken.ensures.taken));
    }

pub invariant_of-self-2 : goal.invariant_of-self-2
invariant_of-self-2 g c =
    let es = entries c.self.inside.tree in
    let rise = rising_trie c.self.inside.tree c.self.invariant.trie in
    let fewer = one_less c.args.prefix c.in_ok-taken.taken es rise (sym c.in_ok-taken.ensures.taken) in
    let len = c.self.invariant.len in
    let new = ap length c.take.ensures.entries in
    record { trie = c.take.ensures.trie; len = omega arith }

pub returns-clause-before : goal.returns-clause-before
returns-clause-before g c =
    let es = entries c.self.inside.tree in
    let rise = rising_trie c.self.inside.tree c.self.invariant.trie in
    c.in_ok-taken.ensures.taken
    ∙ (sym (table_get es rise c.args.prefix) ∙ ap (λ (t : TableValue g.row.V.Denot). map.get t.contents c.args.prefix) c.self.view_is)

pub returns-clause-removed : goal.returns-clause-removed
returns-clause-removed g c =
    let es = entries c.self.inside.tree in
    let rise = rising_trie c.self.inside.tree c.self.invariant.trie in
    ap (map.from_sorted {R = prefix_cmp}) c.take.ensures.entries
    ∙ (table_without es rise c.args.prefix ∙ ap (λ (t : TableValue g.row.V.Denot). map.remove t.contents c.args.prefix) c.self.view_is)

pub returns-in_err-taken-clause-before : goal.returns-in_err-taken-clause-before
returns-in_err-taken-clause-before g c =
    let es = entries c.self.inside.tree in
    let rise = rising_trie c.self.inside.tree c.self.invariant.trie in
    let none : None ≡ map.get c.args.self.now.contents c.args.prefix = c.in_err-taken.ensures.taken
    ∙ (sym (table_get es rise c.args.prefix) ∙ ap (λ (t : TableValue g.row.V.Denot). map.get t.contents c.args.prefix) c.self.view_is) in
    cc

pub returns-in_err-taken-clause-removed : goal.returns-in_err-taken-clause-removed
returns-in_err-taken-clause-removed g c =
    let es = entries c.self.inside.tree in
    let rise = rising_trie c.self.inside.tree c.self.invariant.trie in
    ap (map.from_sorted {R = prefix_cmp}) c.take.ensures.entries
    ∙ (table_without es rise c.args.prefix ∙ ap (λ (t : TableValue g.row.V.Denot). map.remove t.contents c.args.prefix) c.self.view_is)
