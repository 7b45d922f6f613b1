use Rattle.ring_net.proofs.ClockLaws.{keeps_level, keeps_then, keeps_pause_at, pauses_at}
use Rattle.ring_net.proofs.clocks.pause_at.Goals as goal

pub returns-clause-kept : goal.returns-clause-kept
returns-clause-kept g c = keeps_then c.args.cells.now _ c.level_clocks-2.new.cells
    (keeps_pause_at c.args.cells.now c.level_clocks.new.cells c.args.k c.index-cells-k.result
    c.pause.new.cell c.requires c.level_clocks.ensures c.pause.ensures.cell)
    (keeps_level _ c.level_clocks-2.new.cells c.level_clocks-2.ensures)

pub returns-clause-pauses : goal.returns-clause-pauses
returns-clause-pauses g c = pauses_at g.A.Actor.part g.A.Actor.makes g.A.Actor.paused c.args.cells.now
    c.level_clocks.new.cells c.level_clocks-2.new.cells c.args.k c.index-cells-k.result c.pause.new.cell c.in_ok-answer.answer
    c.requires c.level_clocks.ensures c.pause.ensures.cell c.in_ok-answer.ensures.pauses c.level_clocks-2.ensures
