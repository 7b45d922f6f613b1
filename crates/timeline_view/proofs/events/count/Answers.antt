use Rattle.std.proofs.Common.{sym, ◌∙◌, arith}
use Rattle.timeline_view.proofs.Counted.{counted}
use Rattle.timeline_view.proofs.events.count.Goals as goal

pub returns-in_ok-next : goal.returns-in_ok-next
returns-in_ok-next c =
    counted c.args.lab.now c.args.before.now c.args.entry.now c.args.counts.now.items _ c.requires (omega (arith, c.if-place-len.true, c.len.ensures))
    (sym c.adds_to.ensures ∙ c.if-adds_to.true) c.in_ok-next.ensures
