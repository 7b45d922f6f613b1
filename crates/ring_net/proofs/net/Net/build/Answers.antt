use Rattle.std.proofs.Common.{◌∙◌, ◌++◌, ◌∷◌, [], ap, map, length}
use Rattle.ring_net.specs.declared.cell.Cell.{Cell}
use Rattle.ring_net.specs.Posts.{entries_in}
use Rattle.ring_net.proofs.News.{new_fresh, marked_lengths}
use Rattle.ring_net.proofs.net.Net.build.Goals as goal

pub returns-clause-new : goal.returns-clause-new
returns-clause-new g c = new_fresh c.in_ok-cells.cells.items c.args.edges.now c.in_ok-from_slice.field-0.items
    c.args.actors c.in_ok-from_slice.ensures.items c.in_ok-cells.ensures.fresh c.in_ok-cells.ensures.actors

pub returns-clause-marks : goal.returns-clause-marks
returns-clause-marks g c = marked_lengths c.in_ok-cells.cells.items c.in_ok-from_slice.field-0.items _ _ c.in_ok-lengths.field-0
    (c.in_ok-lengths.ensures ∙ ap (λ cells. map (λ (z : Cell _ _). length (entries_in z.post)) cells) c.as_slice.ensures.value)
    (c.in_ok-push.ensures.ok ∙ ap (λ ms. ms ++ c.in_ok-lengths.field-0 ∷ []) c.new-marks.ensures)
