use Rattle.std.proofs.Common.{◌≡◌, ◌≤◌, length, sym, ap, subst, ◌∙◌, arith, add-one}
use Rattle.ring_net.proofs.TakesEach.{same_edges_self, same_edges_then}
use Rattle.graft_model.specs.Setups.{peerings_in}
use Rattle.router_core.specs.Putting.{PutsFirst}
use Rattle.router_core.specs.declared.fields.Fields.{Fields}
use Rattle.router_core.proofs.PutPlaces.{puts_all, puts_first, puts_next}
use Rattle.router_core.proofs.stages.put.put_all.Goals as goal

pub loop-n-init : goal.loop-n-init
loop-n-init c = record { edges = same_edges_self c.args.post.now; first = puts_first c.args.router.now c.args.post.now c.requires.keeps }

pub loop-n-preserved : goal.loop-n-preserved
loop-n-preserved c = record {
  edges = same_edges_then c.args.post.now c.loop-n.post c.put_at.new.post c.loop-n.invariant.edges c.put_at.ensures.edges;
  first = subst (λ k. PutsFirst k c.args.router.now c.args.post.now c.put_at.new.router c.put_at.new.post) (sym (add-one c.loop-n.n))
      (puts_next c.loop-n.n c.args.router.now c.loop-n.router c.put_at.new.router c.args.post.now
      c.loop-n.post c.put_at.new.post c.loop-n.invariant.first c.in_ok-put_at.ensures.puts);
}

pub returns-clause-done : goal.returns-clause-done
returns-clause-done c =
    let f = c.args.router.now in
    let g = c.loop-n.router in
    let first = c.loop-n.invariant.first in
    let last : length f.places.places ≤ c.loop-n.n = omega (arith, c.loop-n-test.false, c.len-n-end.ensures) in
    let setup : g.known.setup ≡ f.known.setup = ap (λ (h : Fields). h.known.setup) first.same in
    let places : length g.places.places ≤ c.loop-n.n =
    subst (λ m. m ≤ c.loop-n.n) (sym (first.keeps.places ∙ (ap peerings_in setup ∙ sym c.requires.keeps.places))) last in
    let due : length g.due_out ≤ c.loop-n.n =
    subst (λ m. m ≤ c.loop-n.n) (sym (first.keeps.due_out ∙ (ap peerings_in setup ∙ sym c.requires.keeps.places))) last in
    puts_all c.loop-n.n f g c.args.post.now c.loop-n.post first last places due
