use Rattle.std.proofs.Common.{Some, refl, sym, ap, subst}
use Rattle.session_value.specs.Sets.{Prefixes}
use Rattle.session_places.specs.Places.{with_place}
use Rattle.router_tables.specs.Dues.{IsDueAgain}
use Rattle.router_core.specs.declared.place.Place.{Place}
use Rattle.router_core.proofs.FollowSteps.{one_set, set_is}
use Rattle.router_core.proofs.takes.graft.live_again.Goals as goal

pub returns-in-Some : goal.returns-in-Some
returns-in-Some c = record {
  same = refl;
  held = ap (λ (x : Place). with_place c.args.router.now.places c.args.place (Some x)) c.set_live.ensures;
  sets = one_set c.args.router.now.due_out c.args.place c.put.new.self c.in_ok-all.all c.put.ensures.length c.put.ensures.put;
  due = subst (λ (d : Prefixes). IsDueAgain c.args.session.session.adj_rib_out c.args.router.now.rib.best d)
      (sym (set_is c.args.router.now.due_out c.args.place c.put.new.self c.in_ok-all.all c.put.ensures.put)) c.in_ok-all.ensures;
}
