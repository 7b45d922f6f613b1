use Rattle.std.proofs.Common.{ℕ, List, [], ◌∷◌, ◌++◌, Option, ap, sym, ◌∙◌}
use Rattle.std.proofs.lemmas.Result.{on_ok_weaker}
use Rattle.item_channels.specs.Channels.{items_between}
use Rattle.audit_clocks.specs.Stamps.{with_stamp}
use Rattle.audit_clocks.proofs.Changes.{changed_at}
use Rattle.audit_clocks.proofs.stamps.put.Goals as goal

pub returns-in-Some-clause-more : goal.returns-in-Some-clause-more
returns-in-Some-clause-more c =
    let before = items_between c.args.stamps.now in
    on_ok_weaker c.send.result (λ sent a b. (λ i. sent i a b)
    ∙ changed_at before (λ (xs : List ℕ). xs ++ c.args.stamp ∷ []) c.args.from c.in-Some.to a b
    ∙ ap (λ (to : Option ℕ). with_stamp before c.args.from to c.args.stamp a b) (sym c.in-Some.is)) c.send.ensures.sent
