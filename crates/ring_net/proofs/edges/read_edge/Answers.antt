use Rattle.std.proofs.Common.{arith}
use Rattle.ring_net.proofs.EdgeReads.{split_front, split_head, reads_up, reads_down, paired_at}
use Rattle.ring_net.proofs.edges.read_edge.Goals as goal

pub read_cells-requires : goal.read_cells-requires
read_cells-requires g c =
    let split = c.split_at_mut-front.ensures in
    paired_at c.args.cells.now c.args.a c.args.b _ _ (split_front _ _ _ c.args.a c.index-front-a.result split.value (omega arith))
    (split_head _ _ _ c.args.b c.index-back-0.result split.value split.front_len c.requires.to) c.requires.paired

pub read_cells-requires-else-a-b : goal.read_cells-requires-else-a-b
read_cells-requires-else-a-b g c =
    let split = c.split_at_mut-front-else-a-b.ensures in
    paired_at c.args.cells.now c.args.a c.args.b _ _ (split_head _ _ _ c.args.a c.index-back-0-else-a-b.result split.value split.front_len c.requires.from)
    (split_front _ _ _ c.args.b c.index-front-b.result split.value (omega arith)) c.requires.paired

pub returns-then-a-b : goal.returns-then-a-b
returns-then-a-b g c =
    let split = c.split_at_mut-front.ensures in
    let read = c.read_cells.ensures in
    reads_up _ _ _ c.args.a c.args.b c.index-front-a.result c.index-back-0.result _ _ split.value split.front_len
    (omega arith) c.requires.to read.ends read.from read.to

pub returns-else-a-b : goal.returns-else-a-b
returns-else-a-b g c =
    let split = c.split_at_mut-front-else-a-b.ensures in
    let read = c.read_cells-else-a-b.ensures in
    reads_down _ _ _ c.args.a c.args.b c.index-back-0-else-a-b.result c.index-front-b.result _ _ split.value split.front_len
    (omega arith) c.requires.from read.ends read.from read.to
