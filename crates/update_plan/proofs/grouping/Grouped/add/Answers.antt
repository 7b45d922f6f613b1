use Rattle.std.proofs.Common.{sym, ◌∙◌}
use Rattle.update_plan.proofs.Joining.{among, joins_ok, keeps_joins, begins_ok, keeps_begins}
use Rattle.update_plan.proofs.grouping.Grouped.add.Goals as goal

pub join-requires : goal.join-requires
join-requires c =
    among c.args.self.now c.args.attrs c.in_ok-code.code c.requires c.in_ok-code.ensures c.in-Some.number (sym c.find.ensures ∙ c.in-Some.is)

pub returns-in-Some-clause-keeps : goal.returns-in-Some-clause-keeps
returns-in-Some-clause-keeps c =
    keeps_joins c.args.self.now c.args.attrs c.in_ok-code.code c.requires c.in_ok-code.ensures c.in-Some.number (sym c.find.ensures ∙ c.in-Some.is)
    c.join.new.self c.args.prefix c.join.result c.join.ensures.batches c.join.ensures.indices

pub returns-in-Some-clause-adds : goal.returns-in-Some-clause-adds
returns-in-Some-clause-adds c =
    joins_ok c.args.self.now c.args.attrs c.in_ok-code.code c.requires c.in_ok-code.ensures c.in-Some.number (sym c.find.ensures ∙ c.in-Some.is)
    c.join.new.self c.args.prefix c.join.result c.join.ensures.batches

pub returns-in-None-clause-keeps : goal.returns-in-None-clause-keeps
returns-in-None-clause-keeps c =
    keeps_begins c.args.self.now c.args.attrs c.in_ok-code.code c.requires c.in_ok-code.ensures c.begin.new.self c.args.prefix
    (sym c.find.ensures ∙ c.in-None.is) c.begin.result c.begin.ensures.batches c.begin.ensures.indices

pub returns-in-None-clause-adds : goal.returns-in-None-clause-adds
returns-in-None-clause-adds c =
    begins_ok c.args.self.now c.args.attrs c.in_ok-code.code c.requires c.in_ok-code.ensures c.begin.new.self c.args.prefix
    (sym c.find.ensures ∙ c.in-None.is) c.begin.result c.begin.ensures.batches
