-- Why a router of the worked run has its best route, computed.
use Rattle.std.proofs.Common.{◌≡◌, ℕ, List, [], ◌∷◌, ◌++◌, false, Option, Some, None, refl, ap, ◌∙◌}
use Rattle.std.specs.Prelude.{codes}
use Rattle.std.specs.FinMap as map
use Rattle.std.specs.List.{flat_map}
use Rattle.bgp_types.specs.declared.attrs.Attrs.{Attrs}
use Rattle.std.specs.Fmt.{digits}
use Rattle.bgp_types.specs.Faults.{origin_in, path_in, next_hop_in, med_in, atomic_in, aggregator_in, other_in, own_fault, attrs_fault}
use Rattle.bgp_types.specs.FirstFault.{body_of, message_of}
use Rattle.bgp_types.specs.Found.{found_in, attrs_in}
use Rattle.bgp_types.specs.Header.{header_fault, frame_at}
use Rattle.bgp_types.specs.Many.{many, many_within}
use Rattle.bgp_types.specs.Merge.{merged_path}
use Rattle.bgp_types.specs.OpenBody.{cap_at, caps_of, params_of, open_of}
use Rattle.bgp_types.specs.PathOctets.{part_at}
use Rattle.bgp_types.specs.Prefixes.{prefix_at, prefixes_of}
use Rattle.bgp_types.specs.UpdateBody.{fields_of, all_known, update_of}
use Rattle.bgp_types.specs.WireAttrs.{attr_at}
use Rattle.bgp_types.proofs.TableLaws.{prefix_total}
use Rattle.bgp_story.specs.declared.line.Line.{Line}
use Rattle.bgp_story.specs.Readings.{heard}
use Rattle.bgp_story.specs.WorkedSessions.{worked_peering, heard_lines, heard_attrs, ten}
use Rattle.bgp_story.proofs.WorkedStories.{heard_routes}
use Rattle.decision_core.specs.Choice.{choice, keep, left_of}
use Rattle.route_policy.specs.Candidates.{SessionRoute, candidates}
use Rattle.why_view.specs.Sources.{session_route, sessions_at, routers_beside}
use Rattle.why_view.specs.Why.{candidate_lines, excluded_lines, why_text}
use Rattle.why_view.specs.Worked.{router_a, peering_of, worked_input, looped_lines, looped_attrs, worked_lab, worked_text}

-- ---- what was heard

ten_heard : map.get (heard (worked_peering 0) (heard_lines 0)) ten ≡ Some heard_attrs
ten_heard = ap (λ routes. map.get routes ten) (heard_routes 0) ∙ map.get-insert prefix_total map.empty ten heard_attrs ten

looped_routes : heard (worked_peering 0) looped_lines ≡ map.insert map.empty ten looped_attrs
unfolding message_of header_fault frame_at body_of open_of update_of fields_of prefixes_of prefix_at many many_within attrs_in attrs_fault own_fault
    origin_in path_in next_hop_in med_in atomic_in aggregator_in other_in found_in all_known part_at attr_at cap_at caps_of params_of merged_path
looped_routes = refl

looped_heard : map.get (heard (worked_peering 0) looped_lines) ten ≡ Some looped_attrs
looped_heard = ap (λ routes. map.get routes ten) looped_routes ∙ map.get-insert prefix_total map.empty ten looped_attrs ten

-- ---- the text, of what was heard on the three sessions

abbrev session_of : ℕ → List ℕ → (address : ℕ) → Option (List ℕ) → List Line → Option Attrs → SessionRoute
session_of p name address policy lines heard =
    record (session_route worked_input router_a ten (p, peering_of name address policy) lines) { heard = heard }

abbrev sessions_of : (c1 c2 c3 : Option Attrs) → List SessionRoute
sessions_of c1 c2 c3 = session_of 0 (codes "c1") 0xC0000201 None (heard_lines 0) c1
    ∷ session_of 1 (codes "c2") 0xC0000205 (Some (codes "in")) (heard_lines 0) c2
    ∷ session_of 2 (codes "c3") 0xC0000209 None looped_lines c3 ∷ []

sessions_are : sessions_at worked_lab (0, router_a) ten
    ≡ sessions_of (map.get (heard (worked_peering 0) (heard_lines 0)) ten) (map.get (heard (worked_peering 0) (heard_lines 0)) ten)
    (map.get (heard (worked_peering 0) looped_lines) ten)
sessions_are = refl

abbrev text_by : List SessionRoute → List ℕ
text_by sessions = candidate_lines worked_input (candidates 65000 ten false sessions (routers_beside worked_lab 0 ten))
    ++ flat_map (excluded_lines worked_input ten) sessions

text_is : text_by (sessions_of (Some heard_attrs) (Some heard_attrs) (Some looped_attrs)) ≡ worked_text
unfolding digits message_of header_fault frame_at body_of open_of many many_within cap_at caps_of params_of choice keep left_of
text_is = refl

pub why_is : why_text worked_lab 0 ten ≡ worked_text
why_is =
    ap text_by (sessions_are ∙ ap (λ c. sessions_of c c (map.get (heard (worked_peering 0) looped_lines) ten)) ten_heard
    ∙ ap (sessions_of (Some heard_attrs) (Some heard_attrs)) looped_heard)
    ∙ text_is
