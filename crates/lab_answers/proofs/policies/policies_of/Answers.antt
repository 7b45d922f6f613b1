use Rattle.std.proofs.Common.{◌∙◌, ap, sym}
use Rattle.std.specs.List.{filter_map}
use Rattle.lab_answers.specs.Policies.{rules_of}
use Rattle.lab_answers.proofs.PolicyLists.{none_filtered}
use Rattle.lab_answers.proofs.policies.policies_of.Goals as goal

pub returns-in-None : goal.returns-in-None
returns-in-None c = c.new.ensures ∙ none_filtered c.args.routers.now ∙ ap (λ name. filter_map (rules_of name) c.args.routers.now) (sym c.in-None.is)
