use Rattle.std.proofs.Common.{◌≡◌, List, ap, subst, ◌∙◌}
use Rattle.std.specs.Prelude.{IfOk}
use Rattle.std.specs.List.{flat_map}
use Rattle.graft_steps.specs.declared.log.GraftEntry.{GraftEntry}
use Rattle.operator_state.specs.Slots.{entries_in_slot}
use Rattle.operator_core.specs.Progresses.{progress_state}
use Rattle.operator_state.proofs.GraftLog.{log_is}
use Rattle.operator_core.proofs.progress.Progress.log.Goals as goal

pub returns : goal.returns
returns c = subst (λ (xs : List GraftEntry). IfOk c.logged.result (λ log. log ≡ xs))
    (ap (flat_map entries_in_slot) c.as_slice.ensures.value ∙ log_is (progress_state c.args.self.now) c.requires.keeps) c.logged.ensures
