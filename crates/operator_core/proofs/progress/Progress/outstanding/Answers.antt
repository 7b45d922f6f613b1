use Rattle.std.proofs.Common.{not, ap, sym, subst, ◌∙◌}
use Rattle.std.specs.List.{list_any}
use Rattle.settled_check.specs.Firsts.{IsLowestOf}
use Rattle.settled_check.specs.Left.{IsOpen}
use Rattle.operator_state.specs.Slots.{first_open}
use Rattle.operator_state.specs.States.{part_of_state}
use Rattle.operator_core.specs.Progresses.{progress_state}
use Rattle.operator_state.proofs.Rests.{some_unissued, unissued_there, lowest_open, some_or_none}
use Rattle.operator_core.proofs.progress.Progress.outstanding.Goals as goal

pub returns : goal.returns
returns c = record {
  unissued = some_or_none c.args.self.now.tasks.items c.has_unissued.result _
      (c.has_unissued.ensures ∙ ap (λ tasks. list_any (λ task. not task.issued) tasks) c.as_slice.ensures.value)
      (some_unissued (progress_state c.args.self.now) c.requires.keeps) (unissued_there (progress_state c.args.self.now) c.requires.keeps);
  graft = subst (IsLowestOf (IsOpen c.args.self.now.known.setup (part_of_state (progress_state c.args.self.now))))
      (sym (c.first_open.ensures ∙ ap first_open c.as_slice-2.ensures.value)) (lowest_open (progress_state c.args.self.now) c.requires.keeps);
}
