use Rattle.std.proofs.Common.{◌≤◌, ◌∙◌, refl, sym, arith, length}
use Rattle.item_channels.proofs.Empties.{at_index, everywhere, up_to}
use Rattle.item_channels.proofs.inboxes.are_empty.Goals as goal

pub returns-then-not-is_empty : goal.returns-then-not-is_empty
returns-then-not-is_empty g c = (
  λ no. absurd cc,
  λ none. sym c.if-not-is_empty.true ∙ c.is_empty.ensures.1
      (λ n. sym (at_index c.args.inboxes.now c.loop-to.to c.index-inboxes-to.result c.loop-to-test.true c.index-inboxes-to.is n) ∙ none n c.loop-to.to),
)

pub loop-to-preserved : goal.loop-to-preserved
loop-to-preserved g c = up_to c.args.inboxes.now c.loop-to.to c.loop-to.invariant
    (λ a. at_index c.args.inboxes.now c.loop-to.to c.index-inboxes-to.result c.loop-to-test.true c.index-inboxes-to.is a
    ∙ c.is_empty.ensures.0 c.if-not-is_empty.false a)

pub returns : goal.returns
returns g c =
    let all : length c.args.inboxes.now ≤ c.loop-to.to = omega (arith, c.loop-to-test.false) in
    (λ yes. everywhere c.args.inboxes.now c.loop-to.to all c.loop-to.invariant, λ none. refl)
