use Rattle.graft_worked.proofs.Unchanged.{of_unchanged, unchanged_of, another_lands, landed_alone, lands_elsewhere}
use Rattle.graft_worked.proofs.Unchanged.{target_alone, another_returns, returned_alone, returns_elsewhere, source_alone}
use Rattle.graft_worked.proofs.frozen_sessions.each_field_of_unchanged_can_be_false.Goals as goal

pub returns : goal.returns
returns c = record {
  none_lost = of_unchanged;
  refused = unchanged_of;
  landed = another_lands;
  landed_alone = landed_alone;
  target = lands_elsewhere;
  target_alone = target_alone;
  returned = another_returns;
  returned_alone = returned_alone;
  source = returns_elsewhere;
  source_alone = source_alone;
}
