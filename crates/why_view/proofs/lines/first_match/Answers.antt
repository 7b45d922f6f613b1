use Rattle.std.proofs.Common.{ap, ◌∙◌}
use Rattle.bgp_types.specs.declared.attrs.Attrs.{Attrs}
use Rattle.why_view.specs.Why.{first_match}
use Rattle.why_view.proofs.lines.first_match.Goals as goal

pub returns : goal.returns
returns c = c.matching.ensures ∙ ap (λ (a : Attrs). first_match c.args.policy.now c.args.prefix a) c.in_ok-copy.ensures
