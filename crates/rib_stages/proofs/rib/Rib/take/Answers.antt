use Rattle.std.proofs.Common.{None, refl}
use Rattle.bgp_types.specs.declared.rank.From.TheVariants.{Peering, Router}
use Rattle.rib_stages.proofs.Whole.{enters, whole_entered}
use Rattle.rib_stages.proofs.rib.Rib.take.Goals as goal

pub invariant_of-self-in-Peering : goal.invariant_of-self-in-Peering
invariant_of-self-in-Peering c =
    whole_entered c.self.inside c.self.invariant c.args.prefix c.remove.new.self c.self.inside.routers c.drop_rank.new.self c.args.from
    (Peering c.in-Peering.p) c.in-Peering.is c.requires (λ f. None) None refl c.args.from c.in-Peering.is c.in_ok-drop_rank.ensures.ok
    c.remove.ensures.removed refl c.remove.ensures.octet

pub invariant_of-self-in-Router : goal.invariant_of-self-in-Router
invariant_of-self-in-Router c =
    whole_entered c.self.inside c.self.invariant c.args.prefix c.self.inside.peerings c.remove-in-Router.new.self c.drop_rank.new.self c.args.from
    (Router c.in-Router.q) c.in-Router.is c.requires (λ f. None) None refl c.args.from c.in-Router.is c.in_ok-drop_rank.ensures.ok
    refl c.remove-in-Router.ensures.removed c.remove-in-Router.ensures.octet

pub returns-in-Peering-clause-ok : goal.returns-in-Peering-clause-ok
returns-in-Peering-clause-ok c =
    enters c.self.inside c.self.invariant c.args.prefix c.remove.new.self c.self.inside.routers c.drop_rank.new.self c.args.from
    (Peering c.in-Peering.p) c.in-Peering.is c.requires (λ f. None) None refl c.args.from c.in-Peering.is c.in_ok-drop_rank.ensures.ok
    c.remove.ensures.removed refl c.args.self.now c.self.view_is

pub returns-in-Router-clause-ok : goal.returns-in-Router-clause-ok
returns-in-Router-clause-ok c =
    enters c.self.inside c.self.invariant c.args.prefix c.self.inside.peerings c.remove-in-Router.new.self c.drop_rank.new.self c.args.from
    (Router c.in-Router.q) c.in-Router.is c.requires (λ f. None) None refl c.args.from c.in-Router.is c.in_ok-drop_rank.ensures.ok
    refl c.remove-in-Router.ensures.removed c.args.self.now c.self.view_is
