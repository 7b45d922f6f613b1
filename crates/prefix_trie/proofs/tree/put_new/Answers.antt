use Rattle.std.proofs.Common.{◌≡◌, ◌≤◌, length, refl, sym, ap, ◌∙◌, arith}
use Rattle.std.specs.FinMap.{put}
use Rattle.bgp_types.specs.Tables.{prefix_cmp}
use Rattle.prefix_trie.proofs.Found.{none_found}
use Rattle.prefix_trie.proofs.Grown.{grown_entries, grown_none}
use Rattle.prefix_trie.proofs.Kept.{spot_grown}
use Rattle.prefix_trie.proofs.tree.put_new.Goals as goal

pub returns-then-is_err-clause-put : goal.returns-then-is_err-clause-put
returns-then-is_err-clause-put g c =
    let t = c.args.tree.now in
    let r = c.reserve.ensures in
    let few : length t.free.items ≤ 1 = grind arith in
    let same : length c.reserve.new.tree.free.items ≡ length t.free.items = grind arith in
    record {
      entries = grown_entries t c.reserve.new.tree c.requires.trie r.grown r.trie.few;
      returned = refl;
      new = none_found t.nodes.items t.values.items c.args.prefix t.root c.requires.trie.trie c.requires.absent;
      few = few;
      few_left = omega (arith, few, same);
    }

pub put_free-requires-clause-spot : goal.put_free-requires-clause-spot
put_free-requires-clause-spot g c = let s = c.args.spot in spot_grown c.args.tree.now c.reserve.new.tree
    c.args.prefix s.above s.at c.requires.trie c.reserve.ensures.grown c.reserve.ensures.trie.few c.requires.spot

pub put_free-requires-clause-absent : goal.put_free-requires-clause-absent
put_free-requires-clause-absent g c =
    grown_none c.args.tree.now c.reserve.new.tree c.requires.trie c.reserve.ensures.grown c.reserve.ensures.trie.few c.args.prefix c.requires.absent

pub returns-clause-put : goal.returns-clause-put
returns-clause-put g c =
    let t = c.args.tree.now in
    let r = c.reserve.ensures in
    let f = c.put_free.ensures in
    let kept : length t.free.items ≤ length c.reserve.new.tree.free.items = grind arith in
    let used = f.used in
    record {
      entries = f.put ∙ ap (put prefix_cmp c.args.prefix c.args.value) (grown_entries t c.reserve.new.tree c.requires.trie r.grown r.trie.few);
      before = sym (none_found t.nodes.items t.values.items c.args.prefix t.root c.requires.trie.trie c.requires.absent);
      used = omega (arith, kept, used);
    }
