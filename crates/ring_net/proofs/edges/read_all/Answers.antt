use Rattle.std.proofs.Common.{◌≡◌, true, ap, ◌∙◌, take}
use Rattle.std.proofs.lemmas.List.{take_all}
use Rattle.ring_net.specs.Nets.{Linked}
use Rattle.ring_net.specs.Phases.{is_edge}
use Rattle.ring_net.proofs.EdgeReads.{looked_self}
use Rattle.ring_net.proofs.Linked.{edge_at, edge_from, edge_to, edge_apart, linked_kept, kept_looked, reading_next, level_all}
use Rattle.ring_net.proofs.edges.read_all.Goals as goal
use Rattle.ring_net.proofs.edges.read_all.Goals.{After-from-in-loop-from}

linked : (g : _) (c : After-from-in-loop-from g) → Linked c.loop-from.cells c.args.edges.now
linked g c = linked_kept c.args.cells.now c.loop-from.cells c.args.edges.now
    (kept_looked c.args.cells.now c.loop-from.cells c.loop-from.invariant.looked) c.requires

edge : (g : _) (c : After-from-in-loop-from g) → is_edge c.args.edges.now c.from.result c.from-in-loop-from.result ≡ true
edge g c = edge_at c.args.edges.now c.loop-from.from-index c.from.result
    c.from-in-loop-from.result c.loop-from-test.true c.from.ensures c.from-in-loop-from.ensures

pub loop-from-init : goal.loop-from-init
loop-from-init g c = record { looked = looked_self c.args.cells.now; level = λ a b h. absurd cc }

pub read_edge-requires-clause-apart : goal.read_edge-requires-clause-apart
read_edge-requires-clause-apart g c = edge_apart c.loop-from.cells c.args.edges.now c.from.result c.from-in-loop-from.result (linked g c) (edge g c)

pub read_edge-requires-clause-from : goal.read_edge-requires-clause-from
read_edge-requires-clause-from g c = edge_from c.loop-from.cells c.args.edges.now c.from.result c.from-in-loop-from.result (linked g c) (edge g c)

pub read_edge-requires-clause-to : goal.read_edge-requires-clause-to
read_edge-requires-clause-to g c = edge_to c.loop-from.cells c.args.edges.now c.from.result c.from-in-loop-from.result (linked g c) (edge g c)

pub read_edge-requires-clause-paired : goal.read_edge-requires-clause-paired
read_edge-requires-clause-paired g c = λ p q out into. ((linked g c).joined c.from.result c.from-in-loop-from.result p q out into).pair

pub loop-from-preserved : goal.loop-from-preserved
loop-from-preserved g c = reading_next c.args.edges.now c.loop-from.from-index c.from.result c.from-in-loop-from.result c.args.cells.now
    c.loop-from.cells c.read_edge.new.cells c.loop-from-test.true c.from.ensures c.from-in-loop-from.ensures c.loop-from.invariant c.read_edge.ensures

pub returns-clause-level : goal.returns-clause-level
returns-clause-level g c =
    let whole : take c.loop-from.from-index c.args.edges.now ≡ c.args.edges.now = take_all c.loop-from.from-index c.args.edges.now c.loop-from-test.false in
    level_all c.loop-from.cells c.args.edges.now (linked_kept c.args.cells.now c.loop-from.cells c.args.edges.now
    (kept_looked c.args.cells.now c.loop-from.cells c.loop-from.invariant.looked) c.requires)
    (λ a b e. c.loop-from.invariant.level a b (ap (λ xs. is_edge xs a b) whole ∙ e))
