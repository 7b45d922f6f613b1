use Rattle.std.proofs.Common.{Some, refl, ap}
use Rattle.bgp_types.specs.declared.rank.From.TheVariants.{Peering, Router}
use Rattle.rib_stages.specs.Steps.{taken}
use Rattle.rib_stages.proofs.Whole.{enters, whole_entered, whole_marked}
use Rattle.rib_stages.proofs.rib.Rib.put.Goals as goal

pub invariant_of-self-in_err-put-in-Peering : goal.invariant_of-self-in_err-put-in-Peering
invariant_of-self-in_err-put-in-Peering c = let e = c.in_err-put-in-Peering.ensures in
    whole_marked c.self.inside c.self.invariant c.args.prefix c.put.new.self c.self.inside.routers c.put.new.choices e.marked e.same refl

pub invariant_of-self-in_err-put-in-Router : goal.invariant_of-self-in_err-put-in-Router
invariant_of-self-in_err-put-in-Router c = let e = c.in_err-put-in-Router.ensures in whole_marked c.self.inside c.self.invariant
    c.args.prefix c.self.inside.peerings c.put-in-Router.new.self c.put-in-Router.new.choices e.marked refl e.same

pub invariant_of-self : goal.invariant_of-self
invariant_of-self c =
    let e = c.in_ok-put-in-Peering.ensures in
    whole_entered c.self.inside c.self.invariant c.args.prefix c.put.new.self c.self.inside.routers c.put.new.choices c.args.from
    (Peering c.in-Peering.p) c.in-Peering.is c.requires
    (λ f. Some (taken f c.args.entry)) (Some c.session_rank-rank.result)
    (ap Some c.session_rank-rank.ensures) (Peering c.in-Peering.p) refl e.rank e.table refl e.octet

pub invariant_of-self-in-Continue-branch-2 : goal.invariant_of-self-in-Continue-branch-2
invariant_of-self-in-Continue-branch-2 c =
    let e = c.in_ok-put-in-Router.ensures in
    whole_entered c.self.inside c.self.invariant c.args.prefix c.self.inside.peerings c.put-in-Router.new.self
    c.put-in-Router.new.choices c.args.from (Router c.in-Router.q) c.in-Router.is c.requires
    (λ f. Some (taken f c.args.entry)) (Some c.telling_rank-rank.result)
    (ap Some c.telling_rank-rank.ensures) (Router c.in-Router.q) refl e.rank refl e.table e.octet

pub returns-in_ok-put-in-Peering-clause-ok : goal.returns-in_ok-put-in-Peering-clause-ok
returns-in_ok-put-in-Peering-clause-ok c =
    let e = c.in_ok-put-in-Peering.ensures in
    enters c.self.inside c.self.invariant c.args.prefix c.put.new.self c.self.inside.routers c.put.new.choices c.args.from
    (Peering c.in-Peering.p) c.in-Peering.is c.requires
    (λ f. Some (taken f c.args.entry)) (Some c.session_rank-rank.result) (ap Some c.session_rank-rank.ensures)
    (Peering c.in-Peering.p) refl e.rank e.table refl c.args.self.now c.self.view_is

pub returns-in_ok-put-in-Router-clause-ok : goal.returns-in_ok-put-in-Router-clause-ok
returns-in_ok-put-in-Router-clause-ok c =
    let e = c.in_ok-put-in-Router.ensures in
    enters c.self.inside c.self.invariant c.args.prefix c.self.inside.peerings c.put-in-Router.new.self c.put-in-Router.new.choices c.args.from
    (Router c.in-Router.q) c.in-Router.is c.requires
    (λ f. Some (taken f c.args.entry)) (Some c.telling_rank-rank.result) (ap Some c.telling_rank-rank.ensures)
    (Router c.in-Router.q) refl e.rank refl e.table c.args.self.now c.self.view_is
