use Rattle.std.proofs.Common.{rules, ℕ, ap, ◌∙◌, ◌≡◌, ◌+◌}
use Rattle.link_bag.specs.Planned.{fate_in}
use Rattle.far_side.specs.Links.{put_now, LinkValue}
use Rattle.far_side.specs.declared.link.InLink.{InLink}
use Rattle.far_side.proofs.LinkSteps.{put_then}
use Rattle.far_side.proofs.link.Link.put.Goals as goal

pub returns : goal.returns
returns c =
    let number : c.in-Some.number ≡ c.self.inside.put + 1 = search rules in
    put_then c.self.inside c.args.self.now c.put.new.self c.push.new.self.items c.in-Some.number c.args.segment
    (record { fate = c.fate-fate.result; turns = 0; pointed = c.args.pointed }) _ c.self.view_is (search rules) c.in_ok-push.ensures.items number
    (ap (λ f. let x : InLink = record { fate = f; turns = 0; pointed = c.args.pointed } in x) c.fate-fate.ensures
    ∙ ap (λ (n : ℕ). put_now (fate_in c.args.plan.now c.self.inside.peering c.self.inside.way n) c.args.pointed.0) number
    ∙ ap (λ (v : LinkValue). put_now (fate_in c.args.plan.now (record { 0 = v.peering }) v.way (v.put + 1)) c.args.pointed.0) c.self.view_is)
