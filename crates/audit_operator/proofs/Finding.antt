-- The task at an index that was found.
use Rattle.std.proofs.Common.{◌≡◌, ℕ, ◌<◌, length, Option, Some, sym, ◌∙◌, subst}
use Rattle.std.specs.Prelude.{IfSome, slice_get}
use Rattle.std.proofs.lemmas.Option.{same_Some, slice_get_within}
use Rattle.operator_state.specs.declared.groups.Task.{Task}
use Rattle.audit_operator.specs.Tasks.{IsNamed}
use Rattle.audit_operator.specs.declared.operator.AuditedOperator.{AuditedOperator}

module _ (o : AuditedOperator) where
  -- an index that was found is within the list, and its task is named
  module _ (step number : ℕ) (answer : Option ℕ) (index : ℕ) (is : answer ≡ Some index)
      (some : IfSome answer (λ i. (task : Task) × IsNamed o step number i task)) where
    named : (task : Task) × IsNamed o step number index task
    named = subst (λ (a : Option ℕ). IfSome a (λ i. (task : Task) × IsNamed o step number i task)) is some

    pub found_there : index < length o.tasks.items
    found_there = slice_get_within o.tasks.items index named.0 named.1.there

    pub found : (task : Task) → slice_get o.tasks.items index ≡ Some task → IsNamed o step number index task
    found task there = subst (IsNamed o step number index) (same_Some named.0 task (sym named.1.there ∙ there)) named.1
