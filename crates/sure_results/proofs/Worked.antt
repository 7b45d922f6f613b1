-- The worked laboratory is sure.
use Rattle.std.proofs.Common.{◌≡◌, ◌≢◌, ◌≤◌, ◌<◌, ℕ, zero, suc, true, false, List, [], ◌∷◌, Option, Some, None, refl, sym, ◌∙◌, subst, arith}
use Rattle.std.specs.Prelude.{slice_get, find, ◌==◌}
use Rattle.std.proofs.lemmas.Bool.Decides.{nat_tests}
use Rattle.std.proofs.lemmas.Option.{same_Some}
use Rattle.bgp_types.specs.declared.message.SessionState.TheVariants.{Established}
use Rattle.bgp_types.specs.Faults.{origin_in, path_in, next_hop_in, med_in, atomic_in, aggregator_in, other_in, own_fault, attrs_fault}
use Rattle.bgp_types.specs.FirstFault.{body_of, message_of}
use Rattle.bgp_types.specs.Found.{found_in, attrs_in}
use Rattle.bgp_types.specs.Header.{header_fault, frame_at}
use Rattle.bgp_types.specs.Many.{many, many_within}
use Rattle.bgp_types.specs.Merge.{merged_path}
use Rattle.bgp_types.specs.OpenBody.{cap_at, caps_of, params_of, open_of}
use Rattle.bgp_types.specs.PathOctets.{part_at}
use Rattle.bgp_types.specs.Prefixes.{prefix_at, prefixes_of}
use Rattle.bgp_types.specs.UpdateBody.{fields_of, all_known, update_of}
use Rattle.bgp_types.specs.WireAttrs.{attr_at}
use Rattle.graft_model.specs.Setups.{PeeringSetup, ScriptGraft, EvacuateStep, graft_at, group_of, room_of, routers_in, peerings_in}
use Rattle.even_inputs.specs.Readings.{reading_of}
use Rattle.even_inputs.specs.Solutions.{reading_in}
use Rattle.even_inputs.specs.Timers.{has_no_timer}
use Rattle.sure_results.specs.Results.{IsSure, StaysUp}
use Rattle.sure_results.specs.Worked.{moving_laboratory, exporting, graft}

no_timer : has_no_timer (moving_laboratory None) ≡ true
unfolding message_of header_fault frame_at body_of open_of update_of fields_of prefixes_of prefix_at many many_within attrs_in attrs_fault own_fault
    origin_in path_in next_hop_in med_in atomic_in aggregator_in other_in found_in all_known part_at attr_at cap_at caps_of params_of merged_path
no_timer = refl

opened : (reading_of (exporting None) (exporting None).opening).state ≡ Established
unfolding message_of header_fault frame_at body_of open_of update_of fields_of prefixes_of prefix_at many many_within attrs_in attrs_fault own_fault
    origin_in path_in next_hop_in med_in atomic_in aggregator_in other_in found_in all_known part_at attr_at cap_at caps_of params_of merged_path
opened = refl

kept : (reading_in (moving_laboratory None) (0, exporting None)).state ≡ Established
unfolding message_of header_fault frame_at body_of open_of update_of fields_of prefixes_of prefix_at many many_within attrs_in attrs_fault own_fault
    origin_in path_in next_hop_in med_in atomic_in aggregator_in other_in found_in all_known part_at attr_at cap_at caps_of params_of merged_path
kept = refl

-- every router has room for one session
room : (r : ℕ) → r < routers_in (moving_laboratory None) → peerings_in (moving_laboratory None) ≤ room_of (moving_laboratory None) r
room zero l = omega arith
room (suc zero) l = omega arith
room (suc (suc r)) l = omega (arith, l)

-- no graft has another number
unfound : (k n : ℕ) (g : ScriptGraft) (gs : List ScriptGraft) → g.graft ≡ n → n < k → find (λ (x : ScriptGraft). x.graft == k) gs ≡ None
    → find (λ (x : ScriptGraft). x.graft == k) (g ∷ gs) ≡ None
unfound k n g gs is l rest = let e : (g.graft == k) ≡ false = grind (arith, nat_tests) in rw e rest

no_more : (k : ℕ) → 3 < k → graft_at (moving_laboratory None) k ≡ None
no_more k l = unfound k 1 (graft 1 2) (graft 2 3 ∷ graft 3 4 ∷ []) refl (omega (arith, l))
    (unfound k 2 (graft 2 3) (graft 3 4 ∷ []) refl (omega (arith, l)) (unfound k 3 (graft 3 4) [] refl l refl))

never : (g : ScriptGraft) → ◌≡◌ {A = Option ScriptGraft} None (Some g) → ⊥
never g e = absurd cc

-- the grafts are three, of the second group
later : (k : ℕ) (g : ScriptGraft) → graft_at (moving_laboratory None) k ≡ Some g → 0 < group_of (moving_laboratory None) g.step
later zero g e = absurd cc
later (suc zero) g e = subst (λ (x : ScriptGraft). 0 < group_of (moving_laboratory None) x.step) (same_Some _ g e) (omega arith)
later (suc (suc zero)) g e = subst (λ (x : ScriptGraft). 0 < group_of (moving_laboratory None) x.step) (same_Some _ g e) (omega arith)
later (suc (suc (suc zero))) g e = subst (λ (x : ScriptGraft). 0 < group_of (moving_laboratory None) x.step) (same_Some _ g e) (omega arith)
later (suc (suc (suc (suc k)))) g e = absurd (never g (sym (no_more (suc (suc (suc (suc k)))) (omega arith)) ∙ e))

peered : (k : ℕ) (g : ScriptGraft) → graft_at (moving_laboratory None) k ≡ Some g → g.peering ≡ 0
peered zero g e = absurd cc
peered (suc zero) g e = subst (λ (x : ScriptGraft). x.peering ≡ 0) (same_Some _ g e) refl
peered (suc (suc zero)) g e = subst (λ (x : ScriptGraft). x.peering ≡ 0) (same_Some _ g e) refl
peered (suc (suc (suc zero))) g e = subst (λ (x : ScriptGraft). x.peering ≡ 0) (same_Some _ g e) refl
peered (suc (suc (suc (suc k)))) g e = absurd (never g (sym (no_more (suc (suc (suc (suc k)))) (omega arith)) ∙ e))

moves : (n r : ℕ) → slice_get (moving_laboratory None).steps n ≢ Some (EvacuateStep r)
moves zero r = λ e. absurd cc
moves (suc zero) r = λ e. absurd cc
moves (suc (suc zero)) r = λ e. absurd cc
moves (suc (suc (suc zero))) r = λ e. absurd cc
moves (suc (suc (suc (suc zero)))) r = λ e. absurd cc
moves (suc (suc (suc (suc (suc zero))))) r = λ e. absurd cc
moves (suc (suc (suc (suc (suc (suc n)))))) r = λ e. absurd cc

up : (p : ℕ) (peering : PeeringSetup) → p ≡ 0 → slice_get (moving_laboratory None).peerings p ≡ Some peering → StaysUp (moving_laboratory None) p peering
up zero peering zeroth e = subst (λ (x : PeeringSetup). StaysUp (moving_laboratory None) 0 x) (same_Some _ peering e) (record { opened = opened; kept = kept })
up (suc p) peering zeroth e = absurd cc

pub laboratory_is_sure : IsSure (moving_laboratory None)
laboratory_is_sure = record {
  timer = no_timer;
  room = room;
  later = λ g e. later g.graft g e;
  moves = moves;
  up = λ g peering e is. up g.peering peering (peered g.graft g e) is;
}
