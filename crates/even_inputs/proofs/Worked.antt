-- The MEDs of worked laboratories, computed.
use Rattle.std.proofs.Common.{◌≡◌, ℕ, true, false, List, [], ◌∷◌, ◌++◌, refl, ap}
use Rattle.bgp_types.specs.Faults.{origin_in, path_in, next_hop_in, med_in, atomic_in, aggregator_in, other_in, own_fault, attrs_fault}
use Rattle.bgp_types.specs.FirstFault.{body_of, message_of}
use Rattle.bgp_types.specs.Found.{found_in, attrs_in}
use Rattle.bgp_types.specs.Header.{header_fault, frame_at}
use Rattle.bgp_types.specs.Many.{many, many_within}
use Rattle.bgp_types.specs.Merge.{merged_path}
use Rattle.bgp_types.specs.OpenBody.{cap_at, caps_of, params_of, open_of}
use Rattle.bgp_types.specs.PathOctets.{part_at}
use Rattle.bgp_types.specs.Prefixes.{prefix_at, prefixes_of}
use Rattle.bgp_types.specs.UpdateBody.{fields_of, all_known, update_of}
use Rattle.bgp_types.specs.WireAttrs.{attr_at}
use Rattle.bgp_story.specs.WorkedSessions.{update_bytes}
use Rattle.even_inputs.specs.Evenness.{Med, meds_in, are_even, is_even}
use Rattle.even_inputs.specs.Worked.{even_laboratory, with_med, from_another, of_eleven, sets_med}

-- 10.0.0.0/8 from this neighbour AS with this MED
abbrev of : (neighbour med : ℕ) → Med
of neighbour med = record { prefix = record { address = 0x0A000000; len = 8 }; neighbour = neighbour; med = med }

-- 11.0.0.0/8 from AS 65001 with MED 1
abbrev eleven : Med
eleven = record { prefix = record { address = 0x0B000000; len = 8 }; neighbour = 65001; med = 1 }

-- a route as it is announced, and as both routers let it in
abbrev thrice : (announced let_in : Med) → List Med
thrice announced let_in = announced ∷ let_in ∷ let_in ∷ []

uneven_meds : meds_in (even_laboratory (with_med 0) (with_med 1) []) ≡ thrice (of 65001 0) (of 65001 0) ++ thrice (of 65001 1) (of 65001 1)
unfolding message_of header_fault frame_at body_of open_of update_of fields_of prefixes_of prefix_at many many_within attrs_in attrs_fault own_fault
    origin_in path_in next_hop_in med_in atomic_in aggregator_in other_in found_in all_known part_at attr_at cap_at caps_of params_of merged_path
uneven_meds = refl

absent_meds : meds_in (even_laboratory update_bytes (with_med 0) []) ≡ thrice (of 65001 0) (of 65001 0) ++ thrice (of 65001 0) (of 65001 0)
unfolding message_of header_fault frame_at body_of open_of update_of fields_of prefixes_of prefix_at many many_within attrs_in attrs_fault own_fault
    origin_in path_in next_hop_in med_in atomic_in aggregator_in other_in found_in all_known part_at attr_at cap_at caps_of params_of merged_path
absent_meds = refl

another_meds : meds_in (even_laboratory (with_med 0) (from_another 1) []) ≡ thrice (of 65001 0) (of 65001 0) ++ thrice (of 65002 1) (of 65002 1)
unfolding message_of header_fault frame_at body_of open_of update_of fields_of prefixes_of prefix_at many many_within attrs_in attrs_fault own_fault
    origin_in path_in next_hop_in med_in atomic_in aggregator_in other_in found_in all_known part_at attr_at cap_at caps_of params_of merged_path
another_meds = refl

prefixes_meds : meds_in (even_laboratory (with_med 0) (of_eleven 1) []) ≡ thrice (of 65001 0) (of 65001 0) ++ thrice eleven eleven
unfolding message_of header_fault frame_at body_of open_of update_of fields_of prefixes_of prefix_at many many_within attrs_in attrs_fault own_fault
    origin_in path_in next_hop_in med_in atomic_in aggregator_in other_in found_in all_known part_at attr_at cap_at caps_of params_of merged_path
prefixes_meds = refl

set_meds : meds_in (even_laboratory (with_med 0) (with_med 0) (sets_med ∷ [])) ≡ thrice (of 65001 0) (of 65001 5) ++ thrice (of 65001 0) (of 65001 5)
unfolding message_of header_fault frame_at body_of open_of update_of fields_of prefixes_of prefix_at many many_within attrs_in attrs_fault own_fault
    origin_in path_in next_hop_in med_in atomic_in aggregator_in other_in found_in all_known part_at attr_at cap_at caps_of params_of merged_path
set_meds = refl

same_meds : meds_in (even_laboratory (with_med 5) (with_med 5) (sets_med ∷ [])) ≡ thrice (of 65001 5) (of 65001 5) ++ thrice (of 65001 5) (of 65001 5)
unfolding message_of header_fault frame_at body_of open_of update_of fields_of prefixes_of prefix_at many many_within attrs_in attrs_fault own_fault
    origin_in path_in next_hop_in med_in atomic_in aggregator_in other_in found_in all_known part_at attr_at cap_at caps_of params_of merged_path
same_meds = refl

pub uneven : is_even (even_laboratory (with_med 0) (with_med 1) []) ≡ false
uneven = ap are_even uneven_meds

pub absent : is_even (even_laboratory update_bytes (with_med 0) []) ≡ true
absent = ap are_even absent_meds

pub another : is_even (even_laboratory (with_med 0) (from_another 1) []) ≡ true
another = ap are_even another_meds

pub prefixes : is_even (even_laboratory (with_med 0) (of_eleven 1) []) ≡ true
prefixes = ap are_even prefixes_meds

pub set : is_even (even_laboratory (with_med 0) (with_med 0) (sets_med ∷ [])) ≡ false
set = ap are_even set_meds

pub same : is_even (even_laboratory (with_med 5) (with_med 5) (sets_med ∷ [])) ≡ true
same = ap are_even same_meds
