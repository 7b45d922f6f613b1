use Rattle.std.proofs.Common.{List, take, sym, ap, ◌∙◌, subst, arith}
use Rattle.prefix_set.specs.Slots.{Slot, united}
use Rattle.prefix_set.proofs.Slots.{AllOut, united_out}
use Rattle.prefix_set.proofs.run.Run.skip.Goals as goal

pub returns-then-self-len : goal.returns-then-self-len
returns-then-self-len c beside =
    let es = c.self.inside.slots.items in
    let out = subst (λ (xs : List Slot). AllOut (take c.passed-self-inside.result xs)) c.deref.ensures.value c.passed-self-inside.ensures.out in
    ap (λ (xs : List Slot). united xs beside) c.clear.ensures.items
    ∙ (sym (united_out es c.passed-self-inside.result beside (omega (arith, c.if-self-len.true, c.len.ensures)) out)
    ∙ ap (λ (xs : List Slot). united xs beside) c.self.view_is)
