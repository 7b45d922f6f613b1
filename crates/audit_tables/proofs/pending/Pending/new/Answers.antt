use Rattle.std.proofs.Common.{◌≡◌, [], ◌∷◌, ◌++◌, List, length, refl, sym, ap, ◌∙◌, subst, append_assoc, append-nil, arith}
use Rattle.std.specs.Vec.Iter.{into_iter_items}
use Rattle.std.proofs.lemmas.List.{nil_from_length}
use Rattle.update_plan.specs.declared.batch.Batch.{Batch}
use Rattle.audit_tables.specs.Groups.{IsPending}
use Rattle.audit_tables.proofs.Grouping.{AreOfBatches, of_next, of_none, whole_groups}
use Rattle.audit_tables.proofs.pending.Pending.new.Goals as goal

pub loop-batch-init : goal.loop-batch-init
loop-batch-init c =
    let gives = c.into_iter-batch-iterator.ensures.into_iter_gives in
    let all = ap (λ (l : List Batch). length l) gives.0 in (
      refl,
      of_none c.new-groups.result.contents c.new-groups.ensures.contents,
      omega (arith, gives.1, all, c.into_vec-batch-items.result.ok.0),
    )

pub loop-batch-preserved : goal.loop-batch-preserved
loop-batch-preserved c =
    let at = c.loop-batch in
    let x = c.in-Some.batch in
    let steps : into_iter_items at.batch-iterator ≡ x ∷ into_iter_items c.next.new.self = c.in-Some.ensures.steps.0 in (
      append_assoc at.yielded (x ∷ []) _ ∙ rw (← steps) at.invariant.0,
      of_next at.yielded x at.groups.contents at.invariant.1 c.group_of.result c.group_of.ensures.attrs c.group_of.ensures.prefixes
          c.add_group.new.groups.contents c.in_ok-add_group.ensures,
      let was = at.invariant.2 in
          let gone = c.in-Some.ensures.steps.1 in
          let short = ap length steps in
          omega arith,
    )

pub returns : goal.returns
returns c =
    let at = c.loop-batch in
    let none = c.in-None.ensures.steps in
    let empty : into_iter_items at.batch-iterator ≡ [] = nil_from_length _ (sym at.invariant.2 ∙ none.0) in
    let all : at.yielded ≡ c.args.batches = sym (append-nil at.yielded) ∙ rw empty at at.invariant.0
    ∙ c.into_iter-batch-iterator.ensures.into_iter_gives.0 ∙ c.into_vec-batch-items.ensures in
    λ telling whole. whole_groups (IsPending telling) telling.to_tell c.args.batches at.groups.contents whole
    (subst (λ (l : List Batch). AreOfBatches l at.groups.contents) all at.invariant.1)
