use Rattle.std.proofs.Common.{refl, sym, ◌∙◌}
use Rattle.ring_net.proofs.FreshCells.{fresh_blank, fresh_more}
use Rattle.ring_net.proofs.build.connect_all.Goals as goal

pub loop-from-init : goal.loop-from-init
loop-from-init g c = record { fresh = fresh_blank c.args.cells.now c.requires.fresh; actors = refl }

pub loop-from-preserved : goal.loop-from-preserved
loop-from-preserved g c = record {
  fresh = fresh_more c.loop-from.cells c.connect.new.cells c.args.edges.now c.loop-from.from-index c.from.result c.from-in-loop-from.result
      c.loop-from-test.true c.from.ensures c.from-in-loop-from.ensures (λ e. c.requires.edges.apart c.loop-from.from-index c.loop-from-test.true
      (sym c.from.ensures ∙ e ∙ c.from-in-loop-from.ensures)) c.in_ok-connect.ensures c.loop-from.invariant.fresh;
  actors = c.in_ok-connect.ensures.actors ∙ c.loop-from.invariant.actors;
}
