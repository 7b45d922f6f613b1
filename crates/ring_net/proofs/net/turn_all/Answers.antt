use Rattle.std.proofs.Common.{◌∙◌, ap}
use Rattle.ring_net.specs.Cells.{CellTurned}
use Rattle.ring_net.specs.Deals.{swapped}
use Rattle.ring_net.proofs.Swaps.{back_below, turned_back}
use Rattle.ring_net.proofs.net.turn_all.Goals as goal

pub swap_all-requires-2 : goal.swap_all-requires-2
swap_all-requires-2 g c = back_below c.args.deal.swaps.items c.as_slice-2.result.now c.args.cells.now c.swap_all.new.cells c.turn_chunks.new.cells
    c.requires.1 (c.swap_all.ensures ∙ ap (λ ss. swapped c.args.cells.now ss) c.as_slice.ensures.value) c.turn_chunks.auto.cells
    (c.as_slice-2.ensures.value ∙ c.reverse.ensures.items)

pub returns : goal.returns
returns g c = turned_back (CellTurned g.A.Actor.part g.A.Actor.makes g.A.Actor.took g.A.Actor.turned) c.args.deal.swaps.items c.as_slice-2.result.now
    c.args.cells.now c.swap_all.new.cells c.turn_chunks.new.cells c.swap_all-2.new.cells c.requires.1
    (c.swap_all.ensures ∙ ap (λ ss. swapped c.args.cells.now ss) c.as_slice.ensures.value) c.turn_chunks.auto.cells
    c.turn_chunks.ensures (c.as_slice-2.ensures.value ∙ c.reverse.ensures.items) c.swap_all-2.ensures
