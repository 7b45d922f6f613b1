use Rattle.std.proofs.Common.{refl, ◌∙◌}
use Rattle.lab_words.specs.declared.job.Job.TheVariants.{Make}
use Rattle.lab_top.proofs.Parts.{plain_did}
use Rattle.lab_top.proofs.jobs.make_job.Goals as goal

pub returns : goal.returns
returns g c left faults = plain_did (Make c.args.seed) _ _ c.deref.result.now _ _ _ refl
    (c.deref.ensures ∙ c.in_ok-text.ensures) c.end_with.ensures.lab c.end_with.ensures.writes
