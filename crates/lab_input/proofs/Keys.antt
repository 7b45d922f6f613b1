-- The keys of sets, and what of the tables is of one key.
use Rattle.std.proofs.Common.{◌≡◌, ℕ, Bool, List, refl}
use Rattle.std.specs.Prelude.{◌==◌, ◌&&◌}
use Rattle.toml.specs.Data.{Members}
use Rattle.tcp_seq.specs.declared.segment.Way.{Way}
use Rattle.tcp_seq.specs.declared.segment.Way.TheVariants.{Home, Remote}
use Rattle.graft_edge.specs.declared.ids.PeeringId.{PeeringId}
use Rattle.link_bag.specs.declared.plan.Fault.{Fault}
use Rattle.link_bag.specs.Planned.{is_fault_for, is_same_way}
use Rattle.lab_tables.specs.Peerings.{cost_of, fault_of}
use Rattle.lab_input.specs.declared.named.Ends.{Ends}
use Rattle.lab_input.specs.declared.faults.SegmentKey.{SegmentKey}
use Rattle.lab_input.specs.contracts.faults.SegmentKeyPartialEq.TheImpl as key_eq

-- ---- costs

abbrev pub ends_key : List (List ℕ) → Members → Ends
ends_key routers t = record { from = (cost_of routers t).from; to = (cost_of routers t).to }

-- a cost of these ends
abbrev pub has_ends : List (List ℕ) → Ends → Members → Bool
has_ends routers ends t = ((cost_of routers t).from.0 == ends.from.0) && ((cost_of routers t).to.0 == ends.to.0)

-- ---- faults

abbrev pub segment_key : Fault → SegmentKey
segment_key f = record { peering = f.peering; way = f.way; segment = f.segment }

-- a fault of this segment
abbrev pub has_segment : List (List ℕ) → SegmentKey → Members → Bool
has_segment peerings key t = is_fault_for key.peering key.way key.segment (fault_of peerings t)

same_by_way : (p : PeeringId) (v : Way) (m : ℕ) (q : PeeringId) (w : Way) (n : ℕ)
    → (key_eq.ghosts).eq (record { peering = p; way = v; segment = m }) (record { peering = q; way = w; segment = n })
    ≡ ((p.0 == q.0) && (is_same_way v w && (m == n)))
same_by_way p Home m q Home n = refl
same_by_way p Home m q Remote n = refl
same_by_way p Remote m q Home n = refl
same_by_way p Remote m q Remote n = refl

pub same_key : (f : Fault) (key : SegmentKey) → (key_eq.ghosts).eq (segment_key f) key ≡ is_fault_for key.peering key.way key.segment f
same_key f key = same_by_way f.peering f.way f.segment key.peering key.way key.segment
