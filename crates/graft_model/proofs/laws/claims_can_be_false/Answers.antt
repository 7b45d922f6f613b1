use Rattle.graft_model.proofs.SmallWorlds.{lost, opens_twice, never_put, never_heard, linked_elsewhere, nothing_received, shadow_left, route_kept, word_goes}
use Rattle.graft_model.proofs.laws.claims_can_be_false.Goals as goal

pub returns : goal.returns
returns c = record {
  one = lost;
  legal = opens_twice;
  received = never_put;
  adj_rib_in = never_heard;
  linked = linked_elsewhere;
  all_received = nothing_received;
  elsewhere = shadow_left;
  tellings = route_kept;
  mesh = word_goes;
}
