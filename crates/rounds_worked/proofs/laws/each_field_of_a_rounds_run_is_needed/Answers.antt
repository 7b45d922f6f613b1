use Rattle.rounds_worked.proofs.Whole.{goes_of, of_goes, two_gos_go, not_by_clock, entry_of_none, events_unnoted, not_its_world}
use Rattle.rounds_worked.proofs.laws.each_field_of_a_rounds_run_is_needed.Goals as goal

pub returns : goal.returns
returns c = record {
  all = goes_of;
  none_lost = of_goes;
  holds = two_gos_go;
  by_clock = not_by_clock;
  of_none = entry_of_none;
  entries_of = events_unnoted;
  run = not_its_world;
}
