use Rattle.std.proofs.Common.{◌≡◌, [], Some, rules, ap, ◌∙◌}
use Rattle.decision_groups.specs.Order.{IsInOrder, without_source}
use Rattle.rib_stages.specs.Ranks.{ranks_at}
use Rattle.rib_stages.proofs.RankSets.{ranks_there, ranks_put, ranks_emptied, call_drops}
use Rattle.rib_stages.proofs.ranks.drop_rank.Goals as goal

pub returns-then-is_empty : goal.returns-then-is_empty
returns-then-is_empty c =
    let sets = c.args.groups.now.contents in
    let ch = c.in-Some.ensures.changed in
    let step = ch.step in
    let left : ch.new ≡ without_source ch.old c.args.from = search rules in
    let ordered : IsInOrder ch.old = search rules in
    let empty : ch.new ≡ [] = search rules in
    call_drops sets c.remove.new.self.contents c.args.prefix c.args.from ch.old ch.new (ranks_there sets c.args.prefix (Some ch.old) ch.there)
    (ap ranks_at c.remove.ensures.removed ∙ ranks_emptied sets c.change.new.self.contents c.args.prefix ch.new ch.contents empty) ordered left

pub returns-else-is_empty : goal.returns-else-is_empty
returns-else-is_empty c =
    let sets = c.args.groups.now.contents in
    let ch = c.in-Some.ensures.changed in
    let step = ch.step in
    let left : ch.new ≡ without_source ch.old c.args.from = search rules in
    let ordered : IsInOrder ch.old = search rules in
    call_drops sets c.change.new.self.contents c.args.prefix c.args.from ch.old ch.new (ranks_there sets c.args.prefix (Some ch.old) ch.there)
    (ap ranks_at ch.contents ∙ ranks_put sets c.args.prefix ch.new) ordered left
