use Rattle.std.proofs.Common.{[], ◌∷◌, ◌++◌, ap, ◌∙◌}
use Rattle.json.specs.Print.{print}
use Rattle.report_json.proofs.Tokens.{printed}
use Rattle.report_json.proofs.text.JsonText.into_line.Goals as goal

-- nothing stood before, and these tokens are printed as the value
pub returns : goal.returns
returns c value is =
    let text = c.into_inner-text.ensures.items ∙ ap (λ before. before ++ print c.self.inside.out.tokens) c.self.invariant in
    c.from_vec.ensures ∙ (c.in_ok-push.ensures.items ∙ ap (λ bytes. bytes ++ 10 ∷ []) (text ∙ ap print (c.self.view_is ∙ is) ∙ printed value))
