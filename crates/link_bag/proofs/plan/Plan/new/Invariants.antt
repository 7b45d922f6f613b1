use Rattle.std.proofs.Common.{◌≡◌, ℕ, ◌≤◌, length, drop}
use Rattle.std.specs.Prelude.{find, option_map}
use Rattle.std.specs.HashMap.{get}
use Rattle.graft_edge.specs.declared.ids.PeeringId.{PeeringId}
use Rattle.tcp_seq.specs.declared.segment.Way.{Way}
use Rattle.link_bag.specs.contracts.plan.SegmentIdPartialEq.TheImpl as id_eq
use Rattle.link_bag.specs.Fates.{fate_by}
use Rattle.link_bag.specs.Planned.{is_fault_for}
use Rattle.link_bag.proofs.plan.Plan.new.Given as goal

-- the map has the fates of the faults from the index on
abbrev pub invariant-loop-left : goal.invariant-loop-left
invariant-loop-left l = record {
  within : l.left ≤ length l.faults;
  fates : (peering : PeeringId) (way : Way) (segment : ℕ)
      → get (id_eq.ghosts).eq l.fates (record { peering = peering; way = way; segment = segment })
      ≡ option_map fate_by (find (is_fault_for peering way segment) (drop l.left l.faults));
}

abbrev pub decreases-loop-left : goal.decreases-loop-left
decreases-loop-left l = l.left
