use Rattle.std.proofs.Common.{sym, ap, ◌∙◌}
use Rattle.std.specs.Fn.{FnOnceReturnsAtMut}
use Rattle.prefix_trie.specs.Trees.{entries}
use Rattle.prefix_trie.specs.Table.{TableValue}
use Rattle.prefix_trie.proofs.Changes.{change_len, table_changed, table_absent}
use Rattle.prefix_trie.proofs.Counts.{rising_trie}
use Rattle.prefix_trie.proofs.trie.TrieTable.change.Goals as goal

pub invariant_of-self : goal.invariant_of-self
invariant_of-self g c = record {
  trie = c.change.ensures.trie;
  len = c.self.invariant.len
      ∙ sym (change_len (FnOnceReturnsAtMut g.F.FnOnce c.args.edit) c.args.prefix (entries c.self.inside.tree)
      (entries c.change.new.tree) (rising_trie c.self.inside.tree c.self.invariant.trie) c.change.result c.change.ensures.changed);
}

pub returns-clause-changed : goal.returns-clause-changed
returns-clause-changed g c = table_changed (FnOnceReturnsAtMut g.F.FnOnce c.args.edit) c.args.prefix (entries c.self.inside.tree)
    (entries c.change.new.tree) (rising_trie c.self.inside.tree c.self.invariant.trie) c.args.self.now.contents
    (ap (λ (t : TableValue g.row.V.Denot). t.contents) c.self.view_is) c.change.result c.change.ensures.changed

pub returns-clause-none : goal.returns-clause-none
returns-clause-none g c = table_absent (FnOnceReturnsAtMut g.F.FnOnce c.args.edit) c.args.prefix (entries c.self.inside.tree)
    (entries c.change.new.tree) (rising_trie c.self.inside.tree c.self.invariant.trie) c.args.self.now.contents
    (ap (λ (t : TableValue g.row.V.Denot). t.contents) c.self.view_is) c.change.result c.change.ensures.changed
