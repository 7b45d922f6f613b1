use Rattle.std.proofs.Common.{ℕ, Option, ap, drop, sym, ◌∙◌}
use Rattle.item_channels.specs.Channels.{items_between}
use Rattle.audit_clocks.specs.Stamps.{without_next}
use Rattle.audit_clocks.proofs.Changes.{changed_at}
use Rattle.audit_clocks.proofs.stamps.take_next.Goals as goal

pub returns-in-Some-clause-rest : goal.returns-in-Some-clause-rest
returns-in-Some-clause-rest c =
    let before = items_between c.args.stamps.now in
    λ a b. (λ i. c.receive.ensures.rest i a b) ∙ changed_at before (drop 1) c.in-Some.from c.args.to a b
    ∙ ap (λ (from : Option ℕ). without_next before from c.args.to a b) (sym c.in-Some.is)
