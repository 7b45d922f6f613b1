use Rattle.std.proofs.Common.{◌∙◌, ◌-◌, ◌^◌, ap, length, min}
use Rattle.std.specs.Prelude.{sum_by}
use Rattle.ring_net.specs.declared.cell.Cell.{Cell}
use Rattle.ring_net.specs.Posts.{entries_in}
use Rattle.ring_net.proofs.News.{counts_all}
use Rattle.ring_net.proofs.net.Net.events.Goals as goal

pub returns : goal.returns
returns g c = counts_all c.args.self.now.cells.items c.args.self.now.edges.items c.entry_count.result
    (c.entry_count.ensures ∙ ap (λ cells. min (sum_by (λ (z : Cell _ _). length (entries_in z.post)) cells) (2 ^ 64 - 1)) c.as_slice.ensures.value)
