use Rattle.std.proofs.Common.{◌≡◌, take}
use Rattle.std.specs.FinMap as map
use Rattle.rib_stages.specs.Values.{set_of}
use Rattle.rib_stages.specs.Ranks.{HasOwnRanks}
use Rattle.rib_stages.proofs.rib.own_choices.Given as goal

abbrev pub invariant-loop-network : goal.invariant-loop-network
invariant-loop-network l = record {
  ranks : HasOwnRanks l.rank (take l.network-index l.list) l.choices.groups.contents;
  loc : l.choices.loc ≡ record { best = map.empty; dirty = set_of (take l.network-index l.list) };
}
