use Rattle.std.proofs.Common.{◌≡◌, Some, None, rules, ap, ◌∙◌}
use Rattle.std.specs.Prelude.{OnOk, OnErr, Ok}
use Rattle.decision_groups.specs.Order.{with_rank}
use Rattle.rib_stages.specs.Ranks.{RankSets, ranks_at, ranks_with}
use Rattle.rib_stages.proofs.RankSets.{ranks_there, ranks_put, call_sets, call_keeps}
use Rattle.rib_stages.proofs.ranks.set_rank.Goals as goal

pub returns-in-Some-clause-ok : goal.returns-in-Some-clause-ok
returns-in-Some-clause-ok c =
    let ch = c.in-Some.ensures.changed in
    let step = ch.step in
    let is : OnOk c.in-Some.outcome (ch.new ≡ with_rank ch.old c.args.from c.args.rank) = search rules in
    call_sets c.args.groups.now.contents c.change.new.self.contents c.args.prefix c.args.from ch.old ch.new
    (ranks_there c.args.groups.now.contents c.args.prefix (Some ch.old) ch.there)
    (ap ranks_at ch.contents ∙ ranks_put c.args.groups.now.contents c.args.prefix ch.new) c.in-Some.outcome c.args.rank is

pub returns-in-Some-clause-err : goal.returns-in-Some-clause-err
returns-in-Some-clause-err c =
    let ch = c.in-Some.ensures.changed in
    let step = ch.step in
    let is : OnErr c.in-Some.outcome (ch.new ≡ ch.old) = search rules in
    call_keeps c.args.groups.now.contents c.change.new.self.contents c.args.prefix c.args.from ch.old ch.new
    (ranks_there c.args.groups.now.contents c.args.prefix (Some ch.old) ch.there)
    (ap ranks_at ch.contents ∙ ranks_put c.args.groups.now.contents c.args.prefix ch.new) c.in-Some.outcome is

pub returns-in-Ok-clause-ok : goal.returns-in-Ok-clause-ok
returns-in-Ok-clause-ok c =
    let sets = c.args.groups.now.contents in
    let xs = c.set.new.self in
    call_sets sets c.set-3.new.self.contents c.args.prefix c.args.from c.new-set.result xs
    (c.new-set.ensures ∙ ranks_there sets c.args.prefix None c.in_default.ensures.none)
    (ap ranks_at c.in-Ok.ensures.ok ∙ (ranks_put c.change.new.self.contents c.args.prefix xs
    ∙ ap (λ (s : RankSets). ranks_with (ranks_at s) c.args.prefix xs) c.in_default.ensures.same))
    {A = Unit {0}} {E = Unit {0}} (Ok tt) c.args.rank c.in_ok-set.ensures.ok
