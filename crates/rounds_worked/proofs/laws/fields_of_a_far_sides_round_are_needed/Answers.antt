use Rattle.rounds_worked.proofs.Fars.{far_of, of_far, another_event, sent_among_takes, delivers_nothing, short_again}
use Rattle.rounds_worked.proofs.Fars.{beat_without_words, short_slices, answer_unowed, keepalive_unsaid, left_unsent}
use Rattle.rounds_worked.proofs.Fars.{not_sent_again, lost_by_no_fault, loss_unplanned, points_elsewhere, never_put, never_taken}
use Rattle.rounds_worked.proofs.laws.fields_of_a_far_sides_round_are_needed.Goals as goal

pub returns : goal.returns
returns c = record {
  all = far_of;
  none_lost = of_far;
  is = another_event;
  takes = sent_among_takes;
  delivers = delivers_nothing;
  resends = short_again;
  says = beat_without_words;
  sends = short_slices;
  replies = answer_unowed;
  due = keepalive_unsaid;
  rested = left_unsent;
  goes_on = not_sent_again;
  are_taken = lost_by_no_fault;
  are_sent = loss_unplanned;
  pointed = points_elsewhere;
  home = never_put;
  remote = never_taken;
}
