use Rattle.rounds_worked.proofs.Routers.{router_of, of_router, another_event, emitted_among_takes, short_again, short_slices}
use Rattle.rounds_worked.proofs.Routers.{taken_behind_work, left_undecided, not_sent_again, round_never_passes}
use Rattle.rounds_worked.proofs.laws.fields_of_a_routers_round_are_needed.Goals as goal

pub returns : goal.returns
returns c = record {
  all = router_of;
  none_lost = of_router;
  is = another_event;
  takes = emitted_among_takes;
  sends = short_again;
  works = short_slices;
  in_order = taken_behind_work;
  rested = left_undecided;
  goes_on = not_sent_again;
  ticks = round_never_passes;
}
