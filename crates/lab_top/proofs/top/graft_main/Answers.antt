use Rattle.lab_top.proofs.Facts.{statuses, usage_told, refused_words, made_told, line_told, checked_told, audited_told, imported_told}
use Rattle.lab_top.proofs.Facts.{denied, bad_input, bad_unwritten}
use Rattle.lab_top.proofs.Facts.{read_failed, write_failed, nothing_written, failed, run_ended, no_run, ran, input_taken, drilled, headline}
use Rattle.lab_top.proofs.Facts.{reported, summed, journaled, captured, tested, viewed}
use Rattle.lab_top.proofs.top.graft_main.Goals as goal

pub returns-clause-statuses : goal.returns-clause-statuses
returns-clause-statuses g c = statuses _ _ _ _ _ c.finish_of.ensures.ended

pub returns-clause-usage : goal.returns-clause-usage
returns-clause-usage g c = usage_told _ _ _ _ _ c.finish_of.ensures.ended

pub returns-clause-refused : goal.returns-clause-refused
returns-clause-refused g c = refused_words _ _ _ _ _ c.finish_of.ensures.ended

pub returns-clause-made : goal.returns-clause-made
returns-clause-made g c = made_told _ _ _ _ _ c.finish_of.ensures.ended

pub returns-clause-told : goal.returns-clause-told
returns-clause-told g c = line_told _ _ _ _ _ c.finish_of.ensures.ended

pub returns-clause-checked : goal.returns-clause-checked
returns-clause-checked g c = checked_told _ _ _ _ _ c.finish_of.ensures.ended

pub returns-clause-audited : goal.returns-clause-audited
returns-clause-audited g c = audited_told _ _ _ _ _ c.finish_of.ensures.ended

pub returns-clause-denied : goal.returns-clause-denied
returns-clause-denied g c = denied _ _ _ _ _ c.finish_of.ensures.ended

pub returns-clause-imported : goal.returns-clause-imported
returns-clause-imported g c = imported_told _ _ _ _ _ c.finish_of.ensures.ended

pub returns-clause-bad_input : goal.returns-clause-bad_input
returns-clause-bad_input g c = bad_input _ _ _ _ _ c.finish_of.ensures.ended

pub returns-clause-bad_input_unwritten : goal.returns-clause-bad_input_unwritten
returns-clause-bad_input_unwritten g c = bad_unwritten _ _ _ _ _ c.finish_of.ensures.ended

pub returns-clause-read_failed : goal.returns-clause-read_failed
returns-clause-read_failed g c = read_failed _ _ _ _ _ c.finish_of.ensures.ended

pub returns-clause-write_failed : goal.returns-clause-write_failed
returns-clause-write_failed g c = write_failed _ _ _ _ _ c.finish_of.ensures.ended

pub returns-clause-nothing_written : goal.returns-clause-nothing_written
returns-clause-nothing_written g c = nothing_written _ _ _ _ _ c.finish_of.ensures.ended

pub returns-clause-failed : goal.returns-clause-failed
returns-clause-failed g c = failed _ _ _ _ _ c.finish_of.ensures.ended

pub returns-clause-ended : goal.returns-clause-ended
returns-clause-ended g c = run_ended _ _ _ _ _ c.finish_of.ensures.ended

pub returns-clause-no_run : goal.returns-clause-no_run
returns-clause-no_run g c = no_run _ _ _ _ _ c.finish_of.ensures.ended

pub returns-clause-ran : goal.returns-clause-ran
returns-clause-ran g c = ran _ _ _ _ _ c.finish_of.ensures.ended

pub returns-clause-input : goal.returns-clause-input
returns-clause-input g c = input_taken _ _ _ _ _ c.finish_of.ensures.ended

pub returns-clause-headline : goal.returns-clause-headline
returns-clause-headline g c = headline _ _ _ _ _ c.finish_of.ensures.ended

pub returns-clause-reported : goal.returns-clause-reported
returns-clause-reported g c = reported _ _ _ _ _ c.finish_of.ensures.ended

pub returns-clause-drilled : goal.returns-clause-drilled
returns-clause-drilled g c = drilled _ _ _ _ _ c.finish_of.ensures.ended

pub returns-clause-summed : goal.returns-clause-summed
returns-clause-summed g c = summed _ _ _ _ _ c.finish_of.ensures.ended

pub returns-clause-journaled : goal.returns-clause-journaled
returns-clause-journaled g c = journaled _ _ _ _ _ c.finish_of.ensures.ended

pub returns-clause-captured : goal.returns-clause-captured
returns-clause-captured g c = captured _ _ _ _ _ c.finish_of.ensures.ended

pub returns-clause-tested : goal.returns-clause-tested
returns-clause-tested g c = tested _ _ _ _ _ c.finish_of.ensures.ended

pub returns-clause-viewed : goal.returns-clause-viewed
returns-clause-viewed g c = viewed _ _ _ _ _ c.finish_of.ensures.ended
