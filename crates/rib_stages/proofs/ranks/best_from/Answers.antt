use Rattle.std.proofs.Common.{sym, ap, ◌∙◌}
use Rattle.std.specs.Option.{option_copied}
use Rattle.rib_stages.proofs.RankSets.{none_chosen_there, none_in_order}
use Rattle.rib_stages.proofs.ranks.best_from.Goals as goal

pub returns-in-None-clause-choice : goal.returns-in-None-clause-choice
returns-in-None-clause-choice c = none_chosen_there c.args.groups.now.contents c.args.prefix (sym c.get.ensures ∙ ap option_copied c.in-None.is)

pub returns-in-None-clause-in_order : goal.returns-in-None-clause-in_order
returns-in-None-clause-in_order c = none_in_order c.args.groups.now.contents c.args.prefix (sym c.get.ensures ∙ ap option_copied c.in-None.is)
