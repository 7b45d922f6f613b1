use Rattle.graft_worked.proofs.Weaker.{word_goes, goes_outward, goes_inward, order_goes, report_goes, say_goes, goes_homeward}
use Rattle.graft_worked.proofs.Weaker.{goes_remoteward, dirty, due_in, due_out, errand_left, update_unread, update_missing}
use Rattle.graft_worked.proofs.Weaker.{put_missing, remote_unanswered, session_unanswered, say_unordered, outcome_unknown}
use Rattle.graft_worked.proofs.laws.each_field_of_quiet_can_be_false.Goals as goal

pub returns : goal.returns
returns c = record {
  mesh = word_goes;
  outward = goes_outward;
  inward = goes_inward;
  orders = order_goes;
  reports = report_goes;
  says = say_goes;
  homeward = goes_homeward;
  remoteward = goes_remoteward;
  decided = dirty;
  told_in = due_in;
  told_out = due_out;
  errand = errand_left;
  all_read = update_unread;
  home_received = update_missing;
  remote_received = put_missing;
  remote_acked = remote_unanswered;
  home_acked = session_unanswered;
  issued = say_unordered;
  ended = outcome_unknown;
}
