use Rattle.std.proofs.Common.{arith, subst, sym}
use Rattle.std.proofs.lemmas.Grind.{common_steps}
use Rattle.ring_net.specs.Fresh.{IsBlank, AllBlank}
use Rattle.ring_net.proofs.FreshCells.{blank_push, actors_push}
use Rattle.ring_net.proofs.build.begin_cells.Goals as goal

pub loop-actor-preserved : goal.loop-actor-preserved
loop-actor-preserved g c = record {
  actors = actors_push c.loop-actor.cells.items c.push.new.self.items c.in_ok-cell.cell c.loop-actor.yielded
      c.in-Some.actor c.in_ok-push.ensures.items c.in_ok-cell.ensures.actor c.loop-actor.invariant.actors;
  count = grind (arith, common_steps, c.in_ok-push.ensures.items, c.loop-actor.invariant.count);
  blank = subst (λ xs. AllBlank xs) (sym c.in_ok-push.ensures.items) (blank_push c.loop-actor.cells.items c.in_ok-cell.cell
      c.loop-actor.invariant.blank (subst (λ n. IsBlank n c.in_ok-cell.cell) (sym c.loop-actor.invariant.count) c.in_ok-cell.ensures.blank));
}
