use Rattle.graft_worked.proofs.Alone.{all_said_alone, all_whole_alone, transparent_of, solves_of, of_transparent, one_alone, linked_alone}
use Rattle.graft_worked.proofs.Alone.{tellings_alone, own_alone, legal_alone, received_alone, got_alone, heard_alone, told_alone}
use Rattle.graft_worked.proofs.Alone.{placed_alone, all_told_alone, all_received_alone, all_got_alone, elsewhere_alone, best_alone}
use Rattle.graft_worked.proofs.laws.fields_are_false_alone.Goals as goal

pub returns : goal.returns
returns c = record {
  transparent = transparent_of;
  solves = solves_of;
  none_lost = of_transparent;
  one = one_alone;
  own = own_alone;
  legal = legal_alone;
  received = received_alone;
  got = got_alone;
  adj_rib_in = heard_alone;
  adj_rib_out = told_alone;
  placed = placed_alone;
  all_told = all_told_alone;
  all_received = all_received_alone;
  all_got = all_got_alone;
  all_said = all_said_alone;
  all_whole = all_whole_alone;
  linked = linked_alone;
  elsewhere = elsewhere_alone;
  best = best_alone;
  tellings = tellings_alone;
}
