use Rattle.std.proofs.Common.{refl, ap, arith, ◌<◌, length}
use Rattle.far_side.proofs.LinkSteps.{on_at, seen_at, removed_then, keeps_removed}
use Rattle.far_side.proofs.link.Link.remove.Goals as goal

pub invariant_of-self : goal.invariant_of-self
invariant_of-self c =
    let l = c.self.inside in
    let below : c.args.index < length l.bag = omega (arith, c.requires, ap (λ v. length v.plans) c.self.view_is, c.self.invariant.planned) in
    keeps_removed l (record l { bag = c.remove-2.new.self; plans = c.remove.new.self }) c.args.index
    c.self.invariant below c.remove-2.ensures.others c.remove.ensures.items refl refl refl refl

pub returns-clause-segment : goal.returns-clause-segment
returns-clause-segment c = rw (← c.self.view_is) (seen_at c.self.inside c.args.index c.remove-2.result c.remove-2.ensures.segment)

pub returns-clause-own : goal.returns-clause-own
returns-clause-own c = rw (← c.self.view_is) (on_at c.self.inside c.args.index c.remove-2.result c.self.invariant c.remove-2.ensures.segment)

pub returns-clause-others : goal.returns-clause-others
returns-clause-others c = removed_then c.self.inside c.args.self.now c.remove-2.new.self
    c.remove.new.self.items c.args.index c.self.view_is c.remove-2.ensures.others c.remove.ensures.items
