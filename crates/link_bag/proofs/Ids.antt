-- The equality of the plan's keys.
use Rattle.std.proofs.Common.{◌≡◌, ℕ, suc, ◌-◌, ◌<◌, ◌≤◌, Bool, true, false, List, ◌∷◌, length, drop, refl, ap, ◌∙◌, arith, get_or}
use Rattle.std.specs.Prelude.{find, option_map, Option, Some, if◌then◌else◌, ◌==◌, ◌&&◌}
use Rattle.std.proofs.Math.Seq.{drop-cons}
use Rattle.graft_edge.specs.declared.ids.PeeringId.{PeeringId}
use Rattle.tcp_seq.specs.declared.segment.Way.{Way}
use Rattle.tcp_seq.specs.declared.segment.Way.TheVariants.{Home, Remote}
use Rattle.link_bag.specs.contracts.plan.SegmentIdPartialEq.TheImpl as id_eq
use Rattle.link_bag.specs.declared.plan.SegmentId.{SegmentId}
use Rattle.link_bag.specs.declared.plan.Fault.{Fault}
use Rattle.link_bag.specs.declared.plan.Fate.{Fate}
use Rattle.link_bag.specs.Fates.{fate_by}
use Rattle.link_bag.specs.Planned.{is_fault_for, is_same_way}

abbrev pub id_of : PeeringId → Way → ℕ → SegmentId
id_of peering way segment = record { peering = peering; way = way; segment = segment }

-- a fault of the segment with these three
pub eq_by_way : (p : PeeringId) (v : Way) (m : ℕ) (q : PeeringId) (w : Way) (n : ℕ)
    → (id_eq.ghosts).eq (id_of p v m) (id_of q w n) ≡ (p.0 == q.0) && (is_same_way v w && (m == n))
eq_by_way p Home m q Home n = refl
eq_by_way p Home m q Remote n = refl
eq_by_way p Remote m q Home n = refl
eq_by_way p Remote m q Remote n = refl

-- a look-up where a fault was put in front of those that the map had
found : (fault : Fault) (faults : List Fault) (test : Fault → Bool) (new old : Option Fate) (same : Bool) → same ≡ test fault
    → new ≡ (if same then Some (fate_by fault) else old) → old ≡ option_map fate_by (find test faults)
    → new ≡ option_map fate_by (find test (fault ∷ faults))
found fault faults test new old same e is before =
    rw (is, e, before) (elim (test fault) as (λ b. (if b then Some (fate_by fault) else option_map fate_by (find test faults))
    ≡ option_map fate_by (if b then Some fault else find test faults)) [ true ↦ refl | false ↦ refl ])

pub found_next : (faults : List Fault) (left : ℕ) (d : Fault) (p : PeeringId) (w : Way) (n : ℕ) (v : Fate) (new old : Option Fate) → 0 < left
    → left ≤ length faults → v ≡ fate_by (get_or faults (left - 1) d)
    → new ≡ (if (id_eq.ghosts).eq (id_of (get_or faults (left - 1) d).peering (get_or faults (left - 1) d).way (get_or faults (left - 1) d).segment)
    (id_of p w n) then Some v else old)
    → old ≡ option_map fate_by (find (is_fault_for p w n) (drop left faults))
    → new ≡ option_map fate_by (find (is_fault_for p w n) (drop (left - 1) faults))
found_next faults left d p w n v new old some within is h before =
    let x = get_or faults (left - 1) d in
    let next : suc (left - 1) ≡ left = omega arith in
    let cut : drop (left - 1) faults ≡ x ∷ drop left faults = drop-cons faults (left - 1) d (omega arith) ∙ ap (λ m. x ∷ drop m faults) next in
    rw cut (found x (drop left faults) (is_fault_for p w n) new old _ (eq_by_way x.peering x.way x.segment p w n)
    (h ∙ ap (λ (u : Fate). if (id_eq.ghosts).eq (id_of x.peering x.way x.segment) (id_of p w n) then Some u else old) is) before)
