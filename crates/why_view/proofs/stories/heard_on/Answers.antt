use Rattle.std.proofs.Common.{ap, ◌∙◌}
use Rattle.std.specs.FinMap as map
use Rattle.std.proofs.lemmas.Result.{IfOk-weaker}
use Rattle.bgp_story.specs.Readings.{Routes}
use Rattle.why_view.proofs.stories.heard_on.Goals as goal

pub returns : goal.returns
returns c = λ input got. IfOk-weaker c.copy_of.result _ _
    (λ attrs is. is ∙ c.get.ensures ∙ ap (λ (r : Routes). map.get r c.args.prefix) (c.in_ok-routes.ensures input got)) c.copy_of.ensures
