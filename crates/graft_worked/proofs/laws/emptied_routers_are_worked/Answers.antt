use Rattle.std.proofs.Common.{refl, inr}
use Rattle.graft_worked.proofs.Emptied.{emptying_is_sound, orders_second, unmade, stays}
use Rattle.graft_worked.proofs.laws.emptied_routers_are_worked.Goals as goal

pub returns : goal.returns
returns c = record {
  setup = emptying_is_sound;
  first = refl;
  second = refl;
  third = refl;
  elsewhere = refl;
  one_place = refl;
  full = (refl, refl, refl);
  ordered = inr orders_second;
  unmade = unmade;
  stays = stays;
}
