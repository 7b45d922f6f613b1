use Rattle.std.proofs.Common.{◌≡◌, ◌∙◌, [], false, length, List, Option, Some, None, true, ap, is_some, not, refl, sym}
use Rattle.std.proofs.lemmas.Bool.{eq-eqb, eqb-true, not-false}
use Rattle.std.proofs.lemmas.List.{nil_from_length}
use Rattle.operator_state.specs.Slots.{first_open}
use Rattle.operator_state.specs.declared.groups.Task.{Task}
use Rattle.audit_operator.proofs.Groups.{no_graft_open, no_task_left, nothing_left}
use Rattle.audit_operator.proofs.operator.AuditedOperator.is_at_rest.Goals as goal

none_is : {A : Type 0} (o : Option A) → is_some o ≡ false → o ≡ None
none_is None e = refl
none_is (Some x) e = absurd cc

pub returns-then-is_empty : goal.returns-then-is_empty
returns-then-is_empty c =
    let o = c.args.self.now in
    let no_task : o.tasks.items ≡ [] = nil_from_length o.tasks.items
    (sym o.tasks.ok.0 ∙ eqb-true _ _ (sym c.is_empty.ensures ∙ c.if-is_empty.true)) in
    let first : c.first_open.result ≡ first_open o.slots.items = c.first_open.ensures ∙ ap first_open c.as_slice.ensures.value in (
      λ t. nothing_left o c.requires no_task (sym first ∙ none_is c.first_open.result (c.is_none.ensures ∙ ap not t)),
      λ nothing. not-false c.is_none.result (sym c.is_none.ensures ∙ ap is_some (first ∙ no_graft_open o c.requires nothing)),
    )

pub returns-else-is_empty : goal.returns-else-is_empty
returns-else-is_empty c =
    let o = c.args.self.now in (
      λ t. absurd cc,
      λ nothing. absurd (
          let e : true ≡ false = sym (c.is_empty.ensures ∙ eq-eqb _ _ (o.tasks.ok.0
          ∙ ap (λ (xs : List Task). length xs) (no_task_left o c.requires nothing))) ∙ c.if-is_empty.false in cc),
    )
