use Rattle.rounds_worked.proofs.Marks.{round_though_quiet, round_past_budget, settled_though_busy, settled_before_least}
use Rattle.rounds_worked.proofs.Marks.{made_is_wrong, unsettled_in_budget, journal_not_full, stream_not_full}
use Rattle.rounds_worked.proofs.laws.marks_name_what_their_worlds_are.Goals as goal

pub returns : goal.returns
returns c = record {
  round_though_quiet = round_though_quiet;
  round_past_budget = round_past_budget;
  settled_though_busy = settled_though_busy;
  settled_before_least = settled_before_least;
  made = made_is_wrong;
  unsettled_in_budget = unsettled_in_budget;
  journal_not_full = journal_not_full;
  stream_not_full = stream_not_full;
}
