use Rattle.std.proofs.Common.{[], ◌∷◌, ◌++◌, set, sym, subst, ◌∙◌}
use Rattle.show_view.specs.declared.links.Segments.{Segments}
use Rattle.show_view.specs.Links.{AreCounted}
use Rattle.show_view.proofs.Counting.{counted_there, counted_elsewhere, there_at, elsewhere_at}
use Rattle.show_view.proofs.links.pass.Goals as goal

pub returns-in-Some : goal.returns-in-Some
returns-in-Some c = λ journal are.
    let at = there_at c.args.routers c.args.entry.now.actor c.in-Some.peering (sym c.peering_at.ensures ∙ c.in-Some.is) in
    subst (λ (s : Segments). AreCounted c.args.routers (journal ++ c.args.entry.now ∷ []) (set c.args.all.now c.in-Some.peering s))
    (sym c.with_event.ensures) (counted_there c.args.routers journal c.args.entry.now c.args.all.now c.in-Some.peering _ at.0 at.1 are)

pub returns-in_default : goal.returns-in_default
returns-in_default c = λ journal are.
    counted_elsewhere c.args.routers journal c.args.entry.now c.args.all.now
    (elsewhere_at c.args.routers c.args.entry.now.actor (sym c.peering_at.ensures ∙ c.in_default.is)) are
