-- The plan as a function of peering, side and number.
use Rattle.std.specs.Prelude.{ℕ, Bool, true, false, ◌&&◌, ◌==◌, List, find, option_map, unwrap_or}
use Rattle.std.specs.HashMap.{get}
use Rattle.graft_edge.specs.declared.ids.PeeringId.{PeeringId}
use Rattle.tcp_seq.specs.declared.segment.Way.{Way}
use Rattle.tcp_seq.specs.declared.segment.Way.TheVariants.{Home, Remote}
use Rattle.link_bag.specs.declared.plan.Fault.{Fault}
use Rattle.link_bag.specs.declared.plan.Plan.{Plan}
use Rattle.link_bag.specs.declared.plan.Fate.{Fate}
use Rattle.link_bag.specs.declared.plan.Fate.TheVariants.{Pass}
use Rattle.link_bag.specs.contracts.plan.SegmentIdPartialEq.TheImpl as id_eq
use Rattle.link_bag.specs.Fates.{fate_by}

abbrev pub is_same_way : Way → Way → Bool
is_same_way Home Home = true
is_same_way Remote Remote = true
is_same_way _ _ = false

-- whether a fault is for this segment
abbrev pub is_fault_for : PeeringId → Way → ℕ → Fault → Bool
is_fault_for peering way segment fault = (fault.peering.0 == peering.0) && (is_same_way fault.way way && (fault.segment == segment))

-- the fate of a segment by a list of faults: that of the first fault for it; without one it passes
abbrev pub fate_of : List Fault → PeeringId → Way → ℕ → Fate
fate_of faults peering way segment = unwrap_or (option_map fate_by (find (is_fault_for peering way segment) faults)) Pass

-- the fate of a segment by a plan
abbrev pub fate_in : Plan → PeeringId → Way → ℕ → Fate
fate_in plan peering way segment =
    unwrap_or (get (id_eq.ghosts).eq plan.fates (record { peering = peering; way = way; segment = segment })) Pass
