use Rattle.std.proofs.Common.{rules, ◌≡◌, is_some, refl, sym, subst}
use Rattle.rib_stages.specs.Values.{table_at}
use Rattle.settled_check.specs.Firsts.{IsLowestOf}
use Rattle.settled_check.specs.Left.{HasSome, HasStream}
use Rattle.router_core.specs.Parts.{router_part}
use Rattle.router_core.specs.Places.{place_of, place_at}
use Rattle.router_core.proofs.RestSteps.{has_some, lowest_in}
use Rattle.router_core.proofs.outstanding.outstanding.Goals as goal

pub returns : goal.returns
returns c =
    let same : c.is_some.result ≡ is_some c.next_dirty.result = search rules in
    record {
      number = refl;
      dirty = has_some c.args.router.now.rib.dirty c.next_dirty.result c.is_some.result c.next_dirty.ensures.next same;
      due_in = subst (IsLowestOf (λ q. HasSome (table_at c.args.router.now.due_in q))) (sym c.router_of.ensures) c.first_due.ensures;
      due_out = subst (IsLowestOf (λ p. HasSome (table_at c.args.router.now.due_out p))) (sym c.peering_of.ensures) c.first_due-2.ensures;
      graft = lowest_in (router_part c.args.router.now) c.lowest_graft.result c.lowest_graft.ensures;
      stream = subst (IsLowestOf (λ p. HasStream (place_of (place_at c.args.router.now.places.places p)))) (sym c.peering_of-2.ensures) c.first_stream.ensures;
    }
