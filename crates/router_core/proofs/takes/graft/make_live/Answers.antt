use Rattle.std.proofs.Common.{refl, sym, subst}
use Rattle.session_value.specs.Sets.{Prefixes}
use Rattle.router_tables.specs.Dues.{IsDueAgain}
use Rattle.router_core.proofs.FollowSteps.{one_set, set_is}
use Rattle.router_core.proofs.takes.graft.make_live.Goals as goal

pub returns : goal.returns
returns c = record {
  same = refl;
  held = c.put-2.ensures;
  sets = one_set c.args.router.now.due_out c.args.place c.put.new.self c.in_ok-due.due c.put.ensures.length c.put.ensures.put;
  due = subst (λ (d : Prefixes). IsDueAgain c.args.session.session.adj_rib_out c.args.router.now.rib.best d)
      (sym (set_is c.args.router.now.due_out c.args.place c.put.new.self c.in_ok-due.due c.put.ensures.put)) c.in_ok-due.ensures;
}
