use Rattle.tcp_end.proofs.Holes.{first_hole_is, hole_if, covered_if}
use Rattle.tcp_end.proofs.ahead.has_hole.Goals as goal

pub returns-clause-hole : goal.returns-clause-hole
returns-clause-hole c = hole_if c.args.pieces.now c.args.from c.args.to c.end_of_run.result c.requires.some
    (first_hole_is c.args.pieces.now c.args.from c.end_of_run.result c.requires.runs c.end_of_run.ensures)

pub returns-clause-covered : goal.returns-clause-covered
returns-clause-covered c = covered_if c.args.pieces.now c.args.from c.args.to c.end_of_run.result c.requires.some
    (first_hole_is c.args.pieces.now c.args.from c.end_of_run.result c.requires.runs c.end_of_run.ensures)
