use Rattle.std.proofs.Common.{◌≡◌, true, arith, subst, sym}
use Rattle.ring_net.specs.Phases.{is_edge}
use Rattle.ring_net.proofs.Linked.{edge_at, edge_from, edge_to}
use Rattle.ring_net.proofs.Drains.{Draining, draining_none, draining_more}
use Rattle.ring_net.proofs.finish.drain_all.Goals as goal
use Rattle.ring_net.proofs.finish.drain_all.Goals.{After-from-in-loop-from}

edge : (g : _) (c : After-from-in-loop-from g) → is_edge c.args.edges.now c.from.result c.from-in-loop-from.result ≡ true
edge g c = edge_at c.args.edges.now c.loop-from.from-index c.from.result
    c.from-in-loop-from.result c.loop-from-test.true c.from.ensures c.from-in-loop-from.ensures

pub loop-from-init : goal.loop-from-init
loop-from-init g c = subst (λ left. Draining c.args.edges.now 0 c.args.cells.now c.args.cells.now left)
    (sym c.new-left.ensures) (draining_none c.args.edges.now c.args.cells.now)

pub drain-requires-clause-from : goal.drain-requires-clause-from
drain-requires-clause-from g c = omega
    (arith, c.loop-from.auto.cells, edge_from c.args.cells.now c.args.edges.now c.from.result c.from-in-loop-from.result c.requires.net.linked (edge g c))

pub drain-requires-clause-to : goal.drain-requires-clause-to
drain-requires-clause-to g c = omega
    (arith, c.loop-from.auto.cells, edge_to c.args.cells.now c.args.edges.now c.from.result c.from-in-loop-from.result c.requires.net.linked (edge g c))

pub loop-from-preserved : goal.loop-from-preserved
loop-from-preserved g c = draining_more c.args.edges.now c.loop-from.from-index c.from.result c.from-in-loop-from.result c.args.cells.now c.loop-from.cells
    c.drain.new.cells c.loop-from.left c.push.new.self c.in_ok-items.items c.requires.once c.loop-from-test.true c.from.ensures c.from-in-loop-from.ensures
    c.loop-from.invariant c.in_ok-items.ensures.items c.drain.ensures.rest (rw (← c.from.ensures, ← c.from-in-loop-from.ensures) at c.in_ok-push.ensures.ok)
