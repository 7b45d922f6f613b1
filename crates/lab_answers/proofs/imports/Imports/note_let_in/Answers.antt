use Rattle.std.proofs.Common.{◌≡◌, ◌<◌, ◌∙◌, ap, arith, length, List, []}
use Rattle.std.specs.Prelude.{option_map, Option, slice_index_or}
use Rattle.std.specs.List.{cons_option}
use Rattle.bgp_types.specs.declared.attrs.Route.{Route}
use Rattle.route_policy.specs.Policies.{policy}
use Rattle.route_policy.specs.declared.rule.Rule.{Rule}
use Rattle.even_inputs.specs.Evenness.{med_of}
use Rattle.lab_answers.specs.Imports.{let_in_by}
use Rattle.lab_answers.proofs.Adding.{filter_step, adds_same}
use Rattle.lab_answers.proofs.imports.Imports.note_let_in.Goals as goal

pub loop-policy-preserved : goal.loop-policy-preserved
loop-policy-preserved c =
    let ps : List (List Rule) = c.args.self.now.policies in
    let same : c.deref-policy-items.result.now ≡ ps = c.deref-policy-items.ensures in
    let count : length c.deref-policy-items.result.now ≡ length ps = ap length same in
    let below : c.loop-policy.policy-index < length ps = omega (arith, c.loop-policy-test.true, count) in
    let is : c.policy-item.result ≡ slice_index_or ps c.loop-policy.policy-index c.policy-item.result
    = c.policy-item.is ∙ ap (λ (xs : List (List Rule)). slice_index_or xs c.loop-policy.policy-index c.policy-item.result) same in
    let answer : c.in_ok-answer.answer ≡ policy c.policy-item.result c.args.prefix c.args.self.now.remote_as c.args.route.now
    = c.in_ok-answer.ensures ∙ ap (λ (r : Route). policy c.policy-item.result c.args.prefix c.args.self.now.remote_as r) c.in_ok-copy.ensures in
    filter_step (let_in_by c.args.self.now c.args.prefix c.args.route.now) ps
    c.loop-policy.policy-index c.policy-item.result _ _ _ below is c.loop-policy.invariant
    (adds_same _ _ _ _ (ap (λ (o : Option Route). cons_option (option_map (med_of c.args.self.now.home_as c.args.prefix) o) []) answer) c.in_ok-note_if.ensures)
