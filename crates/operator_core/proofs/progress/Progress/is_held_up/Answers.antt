use Rattle.std.proofs.Common.{not, refl, ap, sym, ◌∙◌}
use Rattle.std.specs.List.{list_any}
use Rattle.operator_state.specs.Slots.{first_open}
use Rattle.operator_core.specs.Progresses.{progress_state}
use Rattle.operator_state.proofs.Tasks.{any_unissued, none_unissued}
use Rattle.operator_state.proofs.Steps.{as_many_steps}
use Rattle.operator_state.proofs.Holds.{held_by_tasks, held_by_graft, held_at_end, only_the_end, last_settle}
use Rattle.std.proofs.lemmas.Bool.{eq-eqb, eqb-true}
use Rattle.operator_core.proofs.progress.Progress.is_held_up.Goals as goal

pub returns-then-has_unissued : goal.returns-then-has_unissued
returns-then-has_unissued c = (
  λ t. held_by_tasks (progress_state c.args.self.now) c.requires.keeps
      (any_unissued c.args.self.now.tasks.items
      (sym (ap (λ tasks. list_any (λ task. not task.issued) tasks) c.as_slice.ensures.value) ∙ sym c.has_unissued.ensures ∙ c.if-has_unissued.true)),
  λ held. refl,
)

pub returns-then-is_some : goal.returns-then-is_some
returns-then-is_some c = (
  λ t. held_by_graft (progress_state c.args.self.now) c.requires.keeps c.first_open.result
      (c.first_open.ensures ∙ ap first_open c.as_slice-2.ensures.value) (sym c.is_some.ensures ∙ c.if-is_some.true),
  λ held. refl,
)

pub returns : goal.returns
returns c = (
  λ t. held_at_end (progress_state c.args.self.now) c.requires.keeps
      (eqb-true _ _ t ∙ c.len.ensures ∙ as_many_steps c.args.self.now.known.setup c.args.self.now.script c.requires.known.script),
  λ held. eq-eqb _ _ (only_the_end (progress_state c.args.self.now) c.requires.keeps
      (none_unissued c.args.self.now.tasks.items
      (sym (ap (λ tasks. list_any (λ task. not task.issued) tasks) c.as_slice.ensures.value) ∙ sym c.has_unissued.ensures ∙ c.if-has_unissued.false))
      c.first_open.result (c.first_open.ensures ∙ ap first_open c.as_slice-2.ensures.value) (sym c.is_some.ensures ∙ c.if-is_some.false)
      (last_settle c.args.self.now.known.setup c.args.self.now.script c.requires.known.script c.requires.known.ended).0
      (last_settle c.args.self.now.known.setup c.args.self.now.script c.requires.known.script c.requires.known.ended).1 held
      ∙ sym (c.len.ensures ∙ as_many_steps c.args.self.now.known.setup c.args.self.now.script c.requires.known.script)),
)
