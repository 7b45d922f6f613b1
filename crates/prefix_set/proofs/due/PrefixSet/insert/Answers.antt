use Rattle.std.proofs.Common.{sym, ap, ◌∙◌}
use Rattle.std.specs.FinMap as map
use Rattle.prefix_set.specs.Slots.{PrefixSet}
use Rattle.prefix_set.proofs.Sets.{inserted_again, one_value, if_it_is_ok, if_it_failed}
use Rattle.prefix_set.proofs.due.PrefixSet.insert.Goals as goal
use Rattle.prefix_set.proofs.due.PrefixSet.insert.Goals.{then-is_ok-via-then-is_ok, then-is_ok-via-else-is_ok+then-contains}

pub returns-then-is_ok-clause-ok : goal.returns-then-is_ok-clause-ok
returns-then-is_ok-clause-ok c =
    elim c.then-is_ok.branch [
      | then-is_ok-via-then-is_ok w ↦ if_it_is_ok c.add.result (sym w.if-is_ok.ensures.value) c.add.ensures.ok
      | then-is_ok-via-else-is_ok+then-contains w ↦ (
          let same = if_it_failed c.add.result (sym w.if-is_ok.ensures.value) c.add.ensures.err in
          let there = ap (λ (set : PrefixSet). map.get set c.args.prefix) (sym same)
          ∙ one_value (map.get c.add.new.self c.args.prefix) (sym w.if-contains.ensures) in
          same ∙ sym (inserted_again c.args.self.now c.args.prefix tt there))
    ]
