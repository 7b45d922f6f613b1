-- The stories of hostile remotes, computed.
use Rattle.std.proofs.Common.{◌≢◌, [], ◌∷◌, ◌++◌, List, refl, inl, inr, lit<}
use Rattle.bgp_types.specs.declared.message.Message.TheVariants.{OpenMsg, NoticeMsg, KeepaliveMsg}
use Rattle.bgp_types.specs.declared.message.SessionState.TheVariants.{OpenSent, OpenConfirm, Established, Closed}
use Rattle.bgp_types.specs.Faults.{origin_in, path_in, next_hop_in, med_in, atomic_in, aggregator_in, other_in, own_fault, attrs_fault}
use Rattle.bgp_types.specs.FirstFault.{body_of, message_of}
use Rattle.bgp_types.specs.Found.{found_in, attrs_in}
use Rattle.bgp_types.specs.Header.{header_fault, frame_at}
use Rattle.bgp_types.specs.Many.{many, many_within}
use Rattle.bgp_types.specs.Merge.{merged_path}
use Rattle.bgp_types.specs.OpenBody.{cap_at, caps_of, params_of, open_of}
use Rattle.bgp_types.specs.PathOctets.{part_at}
use Rattle.bgp_types.specs.Prefixes.{prefixes_of, prefix_at}
use Rattle.bgp_types.specs.Spelling.{spell, framed}
use Rattle.bgp_types.specs.UpdateBody.{fields_of, all_known, update_of}
use Rattle.bgp_types.specs.WireAttrs.{attr_at}
use Rattle.bgp_story.specs.declared.line.Line.{Line}
use Rattle.bgp_story.specs.declared.line.Line.TheVariants.{Put, Got}
use Rattle.bgp_story.specs.Legal.{IsPeering, got}
use Rattle.bgp_story.specs.Readings.{IsLegal}
use Rattle.bgp_story.specs.WorkedSessions.{worked_peering, home, open_bytes, keepalive_bytes, update_bytes, cease_bytes, sent_lines, joined_lines}
use Rattle.bgp_story.proofs.WorkedStories.{peering_is, sent, joined}
use Rattle.story_tests.specs.Hostile.{HearsRemote, no_routes, one_route, home_opening, opening_and, established_and, refused, cut_update}
use Rattle.story_tests.specs.Hostile.{endless_update, flipped_update, flipped_marker, too_long_header, strange_type, capable_open, capable_lines}

is_peering : IsPeering (worked_peering 0)
is_peering = peering_is 0 (lit< tt) refl

unsent : OpenSent ≢ Closed
unsent = λ e. cc

unconfirmed : OpenConfirm ≢ Closed
unconfirmed = λ e. cc

unestablished : Established ≢ Closed
unestablished = λ e. cc

pub hears_cut : HearsRemote (opening_and cut_update) (established_and []) Established home_opening no_routes
unfolding message_of header_fault frame_at body_of open_of update_of fields_of prefixes_of prefix_at many many_within attrs_in attrs_fault own_fault
    origin_in path_in next_hop_in med_in atomic_in aggregator_in other_in found_in all_known part_at attr_at cap_at caps_of params_of merged_path spell
hears_cut = record {
  legal = joined 0 is_peering;
  rest = cut_update;
  read = refl;
  ended = inr (refl, inr refl);
  put_is = refl;
  routes_are = refl;
}

pub hears_endless : HearsRemote (opening_and endless_update) (established_and []) Established home_opening no_routes
unfolding message_of header_fault frame_at body_of open_of update_of fields_of prefixes_of prefix_at many many_within attrs_in attrs_fault own_fault
    origin_in path_in next_hop_in med_in atomic_in aggregator_in other_in found_in all_known part_at attr_at cap_at caps_of params_of merged_path spell
hears_endless = record {
  legal = joined 0 is_peering;
  rest = endless_update;
  read = refl;
  ended = inr (refl, inr refl);
  put_is = refl;
  routes_are = refl;
}

pub hears_flipped : HearsRemote (opening_and (flipped_update ++ update_bytes))
    (established_and (refused flipped_update 3 10 [])) Closed (home_opening ++ framed 3 (3 ∷ 10 ∷ [])) no_routes
unfolding message_of header_fault frame_at body_of open_of update_of fields_of prefixes_of prefix_at many many_within attrs_in attrs_fault own_fault
    origin_in path_in next_hop_in med_in atomic_in aggregator_in other_in found_in all_known part_at attr_at cap_at caps_of params_of merged_path spell
hears_flipped = record {
  legal = got (joined_lines 0) Established flipped_update (Put (NoticeMsg (record { code = 3; subcode = 10; info = [] })) ∷ []) Closed
      (established_and (refused flipped_update 3 10 [])) (joined 0 is_peering) unestablished (inl refl) refl refl;
  rest = update_bytes;
  read = refl;
  ended = inl refl;
  put_is = refl;
  routes_are = refl;
}

pub hears_marker : HearsRemote (opening_and (flipped_marker ++ update_bytes))
    (established_and (refused flipped_marker 1 1 [])) Closed (home_opening ++ framed 3 (1 ∷ 1 ∷ [])) no_routes
unfolding message_of header_fault frame_at body_of open_of update_of fields_of prefixes_of prefix_at many many_within attrs_in attrs_fault own_fault
    origin_in path_in next_hop_in med_in atomic_in aggregator_in other_in found_in all_known part_at attr_at cap_at caps_of params_of merged_path spell
hears_marker = record {
  legal = got (joined_lines 0) Established flipped_marker (Put (NoticeMsg (record { code = 1; subcode = 1; info = [] })) ∷ []) Closed
      (established_and (refused flipped_marker 1 1 [])) (joined 0 is_peering) unestablished (inr (refl, refl)) refl refl;
  rest = update_bytes;
  read = refl;
  ended = inl refl;
  put_is = refl;
  routes_are = refl;
}

pub hears_length : HearsRemote (opening_and (too_long_header ++ update_bytes))
    (established_and (refused too_long_header 1 2 (0x10 ∷ 0x01 ∷ []))) Closed (home_opening ++ framed 3 (1 ∷ 2 ∷ 0x10 ∷ 0x01 ∷ [])) no_routes
unfolding message_of header_fault frame_at body_of open_of update_of fields_of prefixes_of prefix_at many many_within attrs_in attrs_fault own_fault
    origin_in path_in next_hop_in med_in atomic_in aggregator_in other_in found_in all_known part_at attr_at cap_at caps_of params_of merged_path spell
hears_length = record {
  legal = got (joined_lines 0) Established too_long_header (Put (NoticeMsg (record { code = 1; subcode = 2; info = (0x10 ∷ 0x01 ∷ []) })) ∷ []) Closed
      (established_and (refused too_long_header 1 2 (0x10 ∷ 0x01 ∷ []))) (joined 0 is_peering) unestablished (inr (refl, refl)) refl refl;
  rest = update_bytes;
  read = refl;
  ended = inl refl;
  put_is = refl;
  routes_are = refl;
}

pub hears_kind : HearsRemote (opening_and (strange_type ++ update_bytes))
    (established_and (refused strange_type 1 3 (5 ∷ []))) Closed (home_opening ++ framed 3 (1 ∷ 3 ∷ 5 ∷ [])) no_routes
unfolding message_of header_fault frame_at body_of open_of update_of fields_of prefixes_of prefix_at many many_within attrs_in attrs_fault own_fault
    origin_in path_in next_hop_in med_in atomic_in aggregator_in other_in found_in all_known part_at attr_at cap_at caps_of params_of merged_path spell
hears_kind = record {
  legal = got (joined_lines 0) Established strange_type (Put (NoticeMsg (record { code = 1; subcode = 3; info = (5 ∷ []) })) ∷ []) Closed
      (established_and (refused strange_type 1 3 (5 ∷ []))) (joined 0 is_peering) unestablished (inr (refl, refl)) refl refl;
  rest = update_bytes;
  read = refl;
  ended = inl refl;
  put_is = refl;
  routes_are = refl;
}

pub hears_open : HearsRemote (opening_and (open_bytes ++ update_bytes))
    (established_and (refused open_bytes 5 0 [])) Closed (home_opening ++ framed 3 (5 ∷ 0 ∷ [])) no_routes
unfolding message_of header_fault frame_at body_of open_of update_of fields_of prefixes_of prefix_at many many_within attrs_in attrs_fault own_fault
    origin_in path_in next_hop_in med_in atomic_in aggregator_in other_in found_in all_known part_at attr_at cap_at caps_of params_of merged_path spell
hears_open = record {
  legal = got (joined_lines 0) Established open_bytes (Put (NoticeMsg (record { code = 5; subcode = 0; info = [] })) ∷ []) Closed
      (established_and (refused open_bytes 5 0 [])) (joined 0 is_peering) unestablished (inl refl) refl refl;
  rest = update_bytes;
  read = refl;
  ended = inl refl;
  put_is = refl;
  routes_are = refl;
}

pub hears_cease : HearsRemote (opening_and (cease_bytes ++ update_bytes)) (established_and (Got cease_bytes ∷ [])) Closed home_opening no_routes
unfolding message_of header_fault frame_at body_of open_of update_of fields_of prefixes_of prefix_at many many_within attrs_in attrs_fault own_fault
    origin_in path_in next_hop_in med_in atomic_in aggregator_in other_in found_in all_known part_at attr_at cap_at caps_of params_of merged_path spell
hears_cease = record {
  legal = got (joined_lines 0) Established cease_bytes [] Closed
      (established_and (Got cease_bytes ∷ [])) (joined 0 is_peering) unestablished (inl refl) refl refl;
  rest = update_bytes;
  read = refl;
  ended = inl refl;
  put_is = refl;
  routes_are = refl;
}

-- ---- an OPEN with every kind of capability

abbrev opened_lines : List Line
opened_lines = Put (OpenMsg (home 0)) ∷ Got capable_open ∷ Put KeepaliveMsg ∷ []

abbrev established_lines : List Line
established_lines = Put (OpenMsg (home 0)) ∷ Got capable_open ∷ Put KeepaliveMsg ∷ Got keepalive_bytes ∷ []

abbrev heard_lines : List Line
heard_lines = Put (OpenMsg (home 0)) ∷ Got capable_open ∷ Put KeepaliveMsg ∷ Got keepalive_bytes ∷ Got update_bytes ∷ []

is_opened : IsLegal (worked_peering 0) opened_lines OpenConfirm
unfolding message_of header_fault frame_at body_of open_of update_of fields_of prefixes_of prefix_at many many_within attrs_in attrs_fault own_fault
    origin_in path_in next_hop_in med_in atomic_in aggregator_in other_in found_in all_known part_at attr_at cap_at caps_of params_of merged_path spell
is_opened = got (sent_lines 0) OpenSent capable_open (Put KeepaliveMsg ∷ []) OpenConfirm opened_lines (sent 0 is_peering) unsent (inl refl) refl refl

is_established : IsLegal (worked_peering 0) established_lines Established
unfolding message_of header_fault frame_at body_of open_of update_of fields_of prefixes_of prefix_at many many_within attrs_in attrs_fault own_fault
    origin_in path_in next_hop_in med_in atomic_in aggregator_in other_in found_in all_known part_at attr_at cap_at caps_of params_of merged_path spell
is_established = got opened_lines OpenConfirm keepalive_bytes [] Established established_lines is_opened unconfirmed (inl refl) refl refl

has_heard : IsLegal (worked_peering 0) heard_lines Established
unfolding message_of header_fault frame_at body_of open_of update_of fields_of prefixes_of prefix_at many many_within attrs_in attrs_fault own_fault
    origin_in path_in next_hop_in med_in atomic_in aggregator_in other_in found_in all_known part_at attr_at cap_at caps_of params_of merged_path spell
has_heard = got established_lines Established update_bytes [] Established heard_lines is_established unestablished (inl refl) refl refl

pub hears_capable : HearsRemote (capable_open ++ (keepalive_bytes ++ (update_bytes ++ keepalive_bytes))) capable_lines Established home_opening one_route
unfolding message_of header_fault frame_at body_of open_of update_of fields_of prefixes_of prefix_at many many_within attrs_in attrs_fault own_fault
    origin_in path_in next_hop_in med_in atomic_in aggregator_in other_in found_in all_known part_at attr_at cap_at caps_of params_of merged_path spell
hears_capable = record {
  legal = got heard_lines Established keepalive_bytes [] Established capable_lines has_heard unestablished (inl refl) refl refl;
  rest = [];
  read = refl;
  ended = inr (refl, inl (lit< tt));
  put_is = refl;
  routes_are = refl;
}
