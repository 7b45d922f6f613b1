use Rattle.std.proofs.Common.{◌∙◌}
use Rattle.lab_words.specs.declared.job.Job.TheVariants.{Check}
use Rattle.lab_top.proofs.Parts.{bad_check, stopped_ends, checked_ends}
use Rattle.lab_top.proofs.jobs.check_job.Goals as goal

pub returns-in-Err : goal.returns-in-Err
returns-in-Err g c =
    let bad = bad_check c.args.form _ _ in
    stopped_ends (Check c.args.form) _ _ c.in-Err.stop c.end_stopped.result tt bad c.in-Err.ensures c.end_stopped.ensures

pub returns : goal.returns
returns g c = checked_ends c.args.form _ _ c.in-Ok.input c.deref.result.now _ _ c.in-Ok.ensures
    (c.deref.ensures ∙ c.in_ok-text.ensures) c.end_with.ensures.lab c.end_with.ensures.writes
