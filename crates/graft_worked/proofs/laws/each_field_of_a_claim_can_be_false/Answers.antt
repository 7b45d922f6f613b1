use Rattle.graft_worked.proofs.Weaker.{unsaid, empty_line, another_address, second_open, one_octet_more, never_said, unheard, told_without}
use Rattle.graft_worked.proofs.Weaker.{word_owed, not_to_tell, keepalive_missing, keepalive_said, shadow_left, best_missing}
use Rattle.graft_worked.proofs.laws.each_field_of_a_claim_can_be_false.Goals as goal

pub returns : goal.returns
returns c = record {
  own = another_address;
  legal = second_open;
  received = one_octet_more;
  got = never_said;
  adj_rib_in = unheard;
  adj_rib_out = told_without;
  placed = word_owed;
  all_told = not_to_tell;
  all_received = keepalive_missing;
  all_got = keepalive_said;
  all_said = unsaid;
  all_whole = empty_line;
  elsewhere = shadow_left;
  best = best_missing;
}
