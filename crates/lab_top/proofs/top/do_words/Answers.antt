use Rattle.std.proofs.Common.{ap, ◌∙◌}
use Rattle.std.specs.Prelude.{Err}
use Rattle.lab_top.proofs.Asking.{unread_job}
use Rattle.lab_top.proofs.Parts.{did_ends, refused_ends}
use Rattle.lab_top.proofs.top.do_words.Goals as goal

pub returns-in-Ok-clause-unread : goal.returns-in-Ok-clause-unread
returns-in-Ok-clause-unread g c ask = c.do_job.ensures.unread (unread_job c.args.words.now c.in-Ok.job c.in-Ok.ensures.asked ask)

pub returns-in-Ok-clause-ended : goal.returns-in-Ok-clause-ended
returns-in-Ok-clause-ended g c = did_ends c.args.words.now c.in-Ok.job _ _ c.do_job.result c.in-Ok.ensures.asked c.do_job.ensures.did

pub returns-in_ok-text-in-Err-Usage-clause-ended : goal.returns-in_ok-text-in-Err-Usage-clause-ended
returns-in_ok-text-in-Err-Usage-clause-ended g c =
    refused_ends c.args.words.now _ _ c.deref.result.now _ _ (c.in-Err-Usage.ensures.refused (ap Err c.in-Err-Usage.field-0-is))
    (c.deref.ensures ∙ c.in_ok-text-in-Err-Usage.ensures) c.end_with.ensures.writes c.end_with.ensures.lab
