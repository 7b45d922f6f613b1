-- What some frames read as, computed.
use Rattle.std.proofs.Common.{◌≡◌, List, [], ◌∷◌, Result, Ok, Some, None, true, false, refl}
use Rattle.bgp_types.specs.declared.attrs.Attrs.{Attrs}
use Rattle.bgp_types.specs.declared.attrs.Origin.TheVariants as origins
use Rattle.bgp_types.specs.declared.message.Message.{Message}
use Rattle.bgp_types.specs.declared.message.Message.TheVariants as messages
use Rattle.bgp_types.specs.declared.path.PathPart.TheVariants as parts
use Rattle.bgp_types.specs.declared.message.Notice.{Notice}
use Rattle.bgp_types.specs.Faults.{origin_in, path_in, next_hop_in, med_in, atomic_in, aggregator_in, other_in, own_fault, attrs_fault}
use Rattle.bgp_types.specs.FirstFault.{body_of, message_of}
use Rattle.bgp_types.specs.Found.{found_in, attrs_in}
use Rattle.bgp_types.specs.Header.{header_fault}
use Rattle.bgp_types.specs.Many.{many, many_within}
use Rattle.bgp_types.specs.Merge.{merged_path}
use Rattle.bgp_types.specs.OpenBody.{cap_at, caps_of, params_of, open_of}
use Rattle.bgp_types.specs.PathOctets.{part_at}
use Rattle.bgp_types.specs.Prefixes.{PrefixValue, prefix_at, prefixes_of}
use Rattle.bgp_types.specs.Spelling.{framed}
use Rattle.bgp_types.specs.UpdateBody.{fields_of, all_known, update_of}
use Rattle.bgp_types.specs.WireAttrs.{attr_at}
use Rattle.bgp_types.proofs.FaultRows.{opening, established, wide_session}

abbrev pub reads : Message → Result Message Notice
reads m = Ok m

-- ORIGIN IGP, path 65001 and next hop 192.0.2.1
abbrev pub plain_attrs : Attrs
plain_attrs = record {
  origin = origins.Igp;
  path = parts.Sequence (65001 ∷ []) ∷ [];
  next_hop = 0xC0000201;
  med = None;
  atomic = false;
  aggregator = None;
  unknown = [];
}

-- these prefixes are announced with these attributes
abbrev pub announcement : List PrefixValue → Message
announcement nlri = messages.UpdateMsg (record { withdrawn = []; attrs = Some plain_attrs; nlri = nlri })

-- an announcement
pub announced_one : message_of established (framed 2 (0x00 ∷ 0x00 ∷ 0x00 ∷ 0x12 ∷ 0x40 ∷ 0x01 ∷ 0x01 ∷ 0x00 ∷ 0x40 ∷ 0x02 ∷ 0x04 ∷ 0x02 ∷ 0x01
    ∷ 0xFD ∷ 0xE9 ∷ 0x40 ∷ 0x03 ∷ 0x04 ∷ 0xC0 ∷ 0x00 ∷ 0x02 ∷ 0x01 ∷ 0x08 ∷ 0x0A ∷ [])) ≡ reads (announcement (record { address = 0x0A000000; len = 8 } ∷ []))
unfolding message_of header_fault body_of open_of update_of fields_of prefixes_of prefix_at many many_within attrs_in attrs_fault own_fault
    origin_in path_in next_hop_in med_in atomic_in aggregator_in other_in found_in all_known part_at attr_at cap_at caps_of params_of merged_path
announced_one = refl

-- extended length on a short value
pub announced_extended : message_of established (framed 2 (0x00 ∷ 0x00 ∷ 0x00 ∷ 0x13 ∷ 0x50 ∷ 0x01 ∷ 0x00 ∷ 0x01 ∷ 0x00 ∷ 0x40 ∷ 0x02 ∷ 0x04
    ∷ 0x02 ∷ 0x01 ∷ 0xFD ∷ 0xE9 ∷ 0x40 ∷ 0x03 ∷ 0x04 ∷ 0xC0 ∷ 0x00 ∷ 0x02 ∷ 0x01 ∷ 0x08 ∷ 0x0A ∷ [])) ≡ reads
    (announcement (record { address = 0x0A000000; len = 8 } ∷ []))
unfolding message_of header_fault body_of open_of update_of fields_of prefixes_of prefix_at many many_within attrs_in attrs_fault own_fault
    origin_in path_in next_hop_in med_in atomic_in aggregator_in other_in found_in all_known part_at attr_at cap_at caps_of params_of merged_path
announced_extended = refl

-- bits past the length
pub announced_dirty : message_of established (framed 2 (0x00 ∷ 0x00 ∷ 0x00 ∷ 0x12 ∷ 0x40 ∷ 0x01 ∷ 0x01 ∷ 0x00 ∷ 0x40 ∷ 0x02 ∷ 0x04 ∷ 0x02 ∷ 0x01
    ∷ 0xFD ∷ 0xE9 ∷ 0x40 ∷ 0x03 ∷ 0x04 ∷ 0xC0 ∷ 0x00 ∷ 0x02 ∷ 0x01 ∷ 0x07 ∷ 0x0B ∷ 0x00 ∷ [])) ≡ reads (messages.UpdateMsg (record {
      withdrawn = [];
      attrs = Some plain_attrs;
      nlri = record { address = 0x0A000000; len = 7 } ∷ record { address = 0; len = 0 } ∷ [];
    }))
unfolding message_of header_fault body_of open_of update_of fields_of prefixes_of prefix_at many many_within attrs_in attrs_fault own_fault
    origin_in path_in next_hop_in med_in atomic_in aggregator_in other_in found_in all_known part_at attr_at cap_at caps_of params_of merged_path
announced_dirty = refl

-- a prefix in both fields is announced, another is withdrawn, and each counts once
pub announced_and_withdrawn : message_of established
    (framed 2 (0x00 ∷ 0x08 ∷ 0x08 ∷ 0x0A ∷ 0x08 ∷ 0x14 ∷ 0x08 ∷ 0x0A ∷ 0x08 ∷ 0x14 ∷ 0x00 ∷ 0x12 ∷ 0x40 ∷ 0x01 ∷ 0x01 ∷ 0x00 ∷ 0x40 ∷ 0x02 ∷ 0x04 ∷ 0x02
    ∷ 0x01 ∷ 0xFD ∷ 0xE9 ∷ 0x40 ∷ 0x03 ∷ 0x04 ∷ 0xC0 ∷ 0x00 ∷ 0x02 ∷ 0x01 ∷ 0x08 ∷ 0x0A ∷ 0x08 ∷ 0x0A ∷ [])) ≡ reads (messages.UpdateMsg (record {
      withdrawn = record { address = 0x14000000; len = 8 } ∷ [];
      attrs = Some plain_attrs;
      nlri = record { address = 0x0A000000; len = 8 } ∷ [];
    }))
unfolding message_of header_fault body_of open_of update_of fields_of prefixes_of prefix_at many many_within attrs_in attrs_fault own_fault
    origin_in path_in next_hop_in med_in atomic_in aggregator_in other_in found_in all_known part_at attr_at cap_at caps_of params_of merged_path
announced_and_withdrawn = refl

-- AS4_PATH for the whole path
pub announced_narrow : message_of established
    (framed 2 (0x00 ∷ 0x00 ∷ 0x00 ∷ 0x21 ∷ 0x40 ∷ 0x01 ∷ 0x01 ∷ 0x00 ∷ 0x40 ∷ 0x02 ∷ 0x06 ∷ 0x02 ∷ 0x02 ∷ 0xFD ∷ 0xE9 ∷ 0x5B ∷ 0xA0 ∷ 0x40 ∷ 0x03
    ∷ 0x04 ∷ 0xC0 ∷ 0x00 ∷ 0x02 ∷ 0x01 ∷ 0xC0 ∷ 0x11 ∷ 0x0A ∷ 0x02 ∷ 0x02 ∷ 0x00 ∷ 0x00 ∷ 0xFD ∷ 0xE9 ∷ 0x00 ∷ 0x01 ∷ 0x11 ∷ 0x70 ∷ 0x08 ∷ 0x0A ∷ []))
    ≡ reads (messages.UpdateMsg (record {
      withdrawn = [];
      attrs = Some (record {
        origin = origins.Igp;
        path = parts.Sequence (65001 ∷ 70000 ∷ []) ∷ [];
        next_hop = 0xC0000201;
        med = None;
        atomic = false;
        aggregator = None;
        unknown = [];
      });
      nlri = record { address = 0x0A000000; len = 8 } ∷ [];
    }))
unfolding message_of header_fault body_of open_of update_of fields_of prefixes_of prefix_at many many_within attrs_in attrs_fault own_fault
    origin_in path_in next_hop_in med_in atomic_in aggregator_in other_in found_in all_known part_at attr_at cap_at caps_of params_of merged_path
announced_narrow = refl

-- a wide path
pub announced_wide : message_of wide_session (framed 2 (0x00 ∷ 0x00 ∷ 0x00 ∷ 0x18 ∷ 0x40 ∷ 0x01 ∷ 0x01 ∷ 0x00 ∷ 0x40 ∷ 0x02 ∷ 0x0A ∷ 0x02
    ∷ 0x02 ∷ 0x00 ∷ 0x00 ∷ 0xFD ∷ 0xE9 ∷ 0x00 ∷ 0x01 ∷ 0x11 ∷ 0x70 ∷ 0x40 ∷ 0x03 ∷ 0x04 ∷ 0xC0 ∷ 0x00 ∷ 0x02 ∷ 0x01 ∷ 0x08 ∷ 0x0A ∷ []))
    ≡ reads (messages.UpdateMsg (record {
      withdrawn = [];
      attrs = Some (record {
        origin = origins.Igp;
        path = parts.Sequence (65001 ∷ 70000 ∷ []) ∷ [];
        next_hop = 0xC0000201;
        med = None;
        atomic = false;
        aggregator = None;
        unknown = [];
      });
      nlri = record { address = 0x0A000000; len = 8 } ∷ [];
    }))
unfolding message_of header_fault body_of open_of update_of fields_of prefixes_of prefix_at many many_within attrs_in attrs_fault own_fault
    origin_in path_in next_hop_in med_in atomic_in aggregator_in other_in found_in all_known part_at attr_at cap_at caps_of params_of merged_path
announced_wide = refl

-- the front of AS_PATH before AS4_PATH
pub merged_front : message_of established (framed 2 (0x00 ∷ 0x00 ∷ 0x00 ∷ 0x23 ∷ 0x40 ∷ 0x01 ∷ 0x01 ∷ 0x00 ∷ 0x40 ∷ 0x02 ∷ 0x08 ∷ 0x02 ∷ 0x03
    ∷ 0xFD ∷ 0xE9 ∷ 0x5B ∷ 0xA0 ∷ 0xFD ∷ 0xE7 ∷ 0x40 ∷ 0x03 ∷ 0x04 ∷ 0xC0 ∷ 0x00 ∷ 0x02 ∷ 0x01 ∷ 0xC0 ∷ 0x11 ∷ 0x0A ∷ 0x02 ∷ 0x02 ∷ 0x00 ∷ 0x01
    ∷ 0x11 ∷ 0x70 ∷ 0x00 ∷ 0x00 ∷ 0xFD ∷ 0xE7 ∷ 0x08 ∷ 0x0A ∷ [])) ≡ reads (messages.UpdateMsg (record {
      withdrawn = [];
      attrs = Some (record {
        origin = origins.Igp;
        path = parts.Sequence (65001 ∷ 70000 ∷ 64999 ∷ []) ∷ [];
        next_hop = 0xC0000201;
        med = None;
        atomic = false;
        aggregator = None;
        unknown = [];
      });
      nlri = record { address = 0x0A000000; len = 8 } ∷ [];
    }))
unfolding message_of header_fault body_of open_of update_of fields_of prefixes_of prefix_at many many_within attrs_in attrs_fault own_fault
    origin_in path_in next_hop_in med_in atomic_in aggregator_in other_in found_in all_known part_at attr_at cap_at caps_of params_of merged_path
merged_front = refl

-- a longer AS4_PATH is ignored
pub merged_longer : message_of established
    (framed 2 (0x00 ∷ 0x00 ∷ 0x00 ∷ 0x1F ∷ 0x40 ∷ 0x01 ∷ 0x01 ∷ 0x00 ∷ 0x40 ∷ 0x02 ∷ 0x04 ∷ 0x02 ∷ 0x01 ∷ 0xFD ∷ 0xE9 ∷ 0x40 ∷ 0x03 ∷ 0x04
    ∷ 0xC0 ∷ 0x00 ∷ 0x02 ∷ 0x01 ∷ 0xC0 ∷ 0x11 ∷ 0x0A ∷ 0x02 ∷ 0x02 ∷ 0x00 ∷ 0x01 ∷ 0x11 ∷ 0x70 ∷ 0x00 ∷ 0x00 ∷ 0xFD ∷ 0xE7 ∷ 0x08 ∷ 0x0A ∷ []))
    ≡ reads (announcement (record { address = 0x0A000000; len = 8 } ∷ []))
unfolding message_of header_fault body_of open_of update_of fields_of prefixes_of prefix_at many many_within attrs_in attrs_fault own_fault
    origin_in path_in next_hop_in med_in atomic_in aggregator_in other_in found_in all_known part_at attr_at cap_at caps_of params_of merged_path
merged_longer = refl

-- a set counts as one AS
pub merged_set : message_of established
    (framed 2 (0x00 ∷ 0x00 ∷ 0x00 ∷ 0x21 ∷ 0x40 ∷ 0x01 ∷ 0x01 ∷ 0x00 ∷ 0x40 ∷ 0x02 ∷ 0x0A ∷ 0x02 ∷ 0x01 ∷ 0xFD ∷ 0xE9 ∷ 0x01 ∷ 0x02 ∷ 0x00 ∷ 0x01
    ∷ 0x00 ∷ 0x02 ∷ 0x40 ∷ 0x03 ∷ 0x04 ∷ 0xC0 ∷ 0x00 ∷ 0x02 ∷ 0x01 ∷ 0xC0 ∷ 0x11 ∷ 0x06 ∷ 0x02 ∷ 0x01 ∷ 0x00 ∷ 0x01 ∷ 0x11 ∷ 0x70 ∷ 0x08 ∷ 0x0A ∷ []))
    ≡ reads (messages.UpdateMsg (record {
      withdrawn = [];
      attrs = Some (record {
        origin = origins.Igp;
        path = parts.Sequence (65001 ∷ 70000 ∷ []) ∷ [];
        next_hop = 0xC0000201;
        med = None;
        atomic = false;
        aggregator = None;
        unknown = [];
      });
      nlri = record { address = 0x0A000000; len = 8 } ∷ [];
    }))
unfolding message_of header_fault body_of open_of update_of fields_of prefixes_of prefix_at many many_within attrs_in attrs_fault own_fault
    origin_in path_in next_hop_in med_in atomic_in aggregator_in other_in found_in all_known part_at attr_at cap_at caps_of params_of merged_path
merged_set = refl

-- another AS in AGGREGATOR: both AS4 attributes are ignored
pub stale : message_of established (framed 2 (0x00 ∷ 0x00 ∷ 0x00 ∷ 0x2F ∷ 0x40 ∷ 0x01 ∷ 0x01 ∷ 0x00 ∷ 0x40 ∷ 0x02 ∷ 0x04 ∷ 0x02 ∷ 0x01 ∷ 0xFD
    ∷ 0xE9 ∷ 0x40 ∷ 0x03 ∷ 0x04 ∷ 0xC0 ∷ 0x00 ∷ 0x02 ∷ 0x01 ∷ 0xC0 ∷ 0x07 ∷ 0x06 ∷ 0xFD ∷ 0xEA ∷ 0xC0 ∷ 0x00 ∷ 0x02 ∷ 0x01 ∷ 0xC0 ∷ 0x11 ∷ 0x06
    ∷ 0x02 ∷ 0x01 ∷ 0x00 ∷ 0x01 ∷ 0x11 ∷ 0x70 ∷ 0xC0 ∷ 0x12 ∷ 0x08 ∷ 0x00 ∷ 0x01 ∷ 0x11 ∷ 0x70 ∷ 0xC0 ∷ 0x00 ∷ 0x02 ∷ 0x02 ∷ 0x08 ∷ 0x0A ∷ []))
    ≡ reads (messages.UpdateMsg (record {
      withdrawn = [];
      attrs = Some (record {
        origin = origins.Igp;
        path = parts.Sequence (65001 ∷ []) ∷ [];
        next_hop = 0xC0000201;
        med = None;
        atomic = false;
        aggregator = Some (record { as_number = 65002; address = 0xC0000201; partial = false });
        unknown = [];
      });
      nlri = record { address = 0x0A000000; len = 8 } ∷ [];
    }))
unfolding message_of header_fault body_of open_of update_of fields_of prefixes_of prefix_at many many_within attrs_in attrs_fault own_fault
    origin_in path_in next_hop_in med_in atomic_in aggregator_in other_in found_in all_known part_at attr_at cap_at caps_of params_of merged_path
stale = refl

-- AS4_AGGREGATOR for 23456, with the Partial of AGGREGATOR
pub aggregators : message_of established (framed 2 (0x00 ∷ 0x00 ∷ 0x00 ∷ 0x26 ∷ 0x40 ∷ 0x01 ∷ 0x01 ∷ 0x00 ∷ 0x40 ∷ 0x02 ∷ 0x04 ∷ 0x02 ∷ 0x01
    ∷ 0xFD ∷ 0xE9 ∷ 0x40 ∷ 0x03 ∷ 0x04 ∷ 0xC0 ∷ 0x00 ∷ 0x02 ∷ 0x01 ∷ 0xE0 ∷ 0x07 ∷ 0x06 ∷ 0x5B ∷ 0xA0 ∷ 0xC0 ∷ 0x00 ∷ 0x02 ∷ 0x02 ∷ 0xC0 ∷ 0x12
    ∷ 0x08 ∷ 0x00 ∷ 0x01 ∷ 0x11 ∷ 0x70 ∷ 0xC0 ∷ 0x00 ∷ 0x02 ∷ 0x01 ∷ 0x08 ∷ 0x0A ∷ [])) ≡ reads (messages.UpdateMsg (record {
      withdrawn = [];
      attrs = Some (record {
        origin = origins.Igp;
        path = parts.Sequence (65001 ∷ []) ∷ [];
        next_hop = 0xC0000201;
        med = None;
        atomic = false;
        aggregator = Some (record { as_number = 70000; address = 0xC0000201; partial = true });
        unknown = [];
      });
      nlri = record { address = 0x0A000000; len = 8 } ∷ [];
    }))
unfolding message_of header_fault body_of open_of update_of fields_of prefixes_of prefix_at many many_within attrs_in attrs_fault own_fault
    origin_in path_in next_hop_in med_in atomic_in aggregator_in other_in found_in all_known part_at attr_at cap_at caps_of params_of merged_path
aggregators = refl

-- an AS4_AGGREGATOR of another length is not there
pub aggregator_length : message_of established (framed 2 (0x00 ∷ 0x00 ∷ 0x00 ∷ 0x2B ∷ 0x40 ∷ 0x01 ∷ 0x01 ∷ 0x00 ∷ 0x40 ∷ 0x02 ∷ 0x04 ∷ 0x02
    ∷ 0x01 ∷ 0xFD ∷ 0xE9 ∷ 0x40 ∷ 0x03 ∷ 0x04 ∷ 0xC0 ∷ 0x00 ∷ 0x02 ∷ 0x01 ∷ 0xC0 ∷ 0x07 ∷ 0x06 ∷ 0xFD ∷ 0xEA ∷ 0xC0 ∷ 0x00 ∷ 0x02 ∷ 0x01
    ∷ 0xC0 ∷ 0x11 ∷ 0x06 ∷ 0x02 ∷ 0x01 ∷ 0x00 ∷ 0x01 ∷ 0x11 ∷ 0x70 ∷ 0xC0 ∷ 0x12 ∷ 0x04 ∷ 0x00 ∷ 0x01 ∷ 0x11 ∷ 0x70 ∷ 0x08 ∷ 0x0A ∷ []))
    ≡ reads (messages.UpdateMsg (record {
      withdrawn = [];
      attrs = Some (record {
        origin = origins.Igp;
        path = parts.Sequence (70000 ∷ []) ∷ [];
        next_hop = 0xC0000201;
        med = None;
        atomic = false;
        aggregator = Some (record { as_number = 65002; address = 0xC0000201; partial = false });
        unknown = [];
      });
      nlri = record { address = 0x0A000000; len = 8 } ∷ [];
    }))
unfolding message_of header_fault body_of open_of update_of fields_of prefixes_of prefix_at many many_within attrs_in attrs_fault own_fault
    origin_in path_in next_hop_in med_in atomic_in aggregator_in other_in found_in all_known part_at attr_at cap_at caps_of params_of merged_path
aggregator_length = refl

-- AS4_PATH that is not transitive is dropped
pub as4_not_transitive : message_of established (framed 2 (0x00 ∷ 0x00 ∷ 0x00 ∷ 0x1B ∷ 0x40 ∷ 0x01 ∷ 0x01 ∷ 0x00 ∷ 0x40 ∷ 0x02 ∷ 0x04 ∷ 0x02 ∷ 0x01
    ∷ 0xFD ∷ 0xE9 ∷ 0x40 ∷ 0x03 ∷ 0x04 ∷ 0xC0 ∷ 0x00 ∷ 0x02 ∷ 0x01 ∷ 0x80 ∷ 0x11 ∷ 0x06 ∷ 0x02 ∷ 0x01 ∷ 0x00 ∷ 0x01 ∷ 0x11 ∷ 0x70 ∷ 0x08 ∷ 0x0A ∷ []))
    ≡ reads (announcement (record { address = 0x0A000000; len = 8 } ∷ []))
unfolding message_of header_fault body_of open_of update_of fields_of prefixes_of prefix_at many many_within attrs_in attrs_fault own_fault
    origin_in path_in next_hop_in med_in atomic_in aggregator_in other_in found_in all_known part_at attr_at cap_at caps_of params_of merged_path
as4_not_transitive = refl

-- AS4 attributes are dropped in a wide UPDATE
pub as4_in_wide : message_of wide_session (framed 2 (0x00 ∷ 0x00 ∷ 0x00 ∷ 0x28 ∷ 0x40 ∷ 0x01 ∷ 0x01 ∷ 0x00 ∷ 0x40 ∷ 0x02 ∷ 0x06 ∷ 0x02 ∷ 0x01
    ∷ 0x00 ∷ 0x00 ∷ 0xFD ∷ 0xE9 ∷ 0x40 ∷ 0x03 ∷ 0x04 ∷ 0xC0 ∷ 0x00 ∷ 0x02 ∷ 0x01 ∷ 0xC0 ∷ 0x11 ∷ 0x06 ∷ 0x02 ∷ 0x01 ∷ 0x00 ∷ 0x01 ∷ 0x11 ∷ 0x70
    ∷ 0xC0 ∷ 0x12 ∷ 0x08 ∷ 0x00 ∷ 0x01 ∷ 0x11 ∷ 0x70 ∷ 0xC0 ∷ 0x00 ∷ 0x02 ∷ 0x02 ∷ 0x08 ∷ 0x0A ∷ [])) ≡ reads
    (announcement (record { address = 0x0A000000; len = 8 } ∷ []))
unfolding message_of header_fault body_of open_of update_of fields_of prefixes_of prefix_at many many_within attrs_in attrs_fault own_fault
    origin_in path_in next_hop_in med_in atomic_in aggregator_in other_in found_in all_known part_at attr_at cap_at caps_of params_of merged_path
as4_in_wide = refl

-- unknown attributes in rising type, with their Partial; one that is not transitive is dropped
pub others : message_of established (framed 2 (0x00 ∷ 0x00 ∷ 0x00 ∷ 0x32 ∷ 0xC0 ∷ 0x63 ∷ 0x01 ∷ 0xAA ∷ 0x80 ∷ 0x64 ∷ 0x01 ∷ 0xBB ∷ 0x40 ∷ 0x01 ∷ 0x01
    ∷ 0x00 ∷ 0x40 ∷ 0x02 ∷ 0x04 ∷ 0x02 ∷ 0x01 ∷ 0xFD ∷ 0xE9 ∷ 0x40 ∷ 0x03 ∷ 0x04 ∷ 0xC0 ∷ 0x00 ∷ 0x02 ∷ 0x01 ∷ 0x80 ∷ 0x04 ∷ 0x04 ∷ 0x00 ∷ 0x00 ∷ 0x00
    ∷ 0x32 ∷ 0x40 ∷ 0x06 ∷ 0x00 ∷ 0xE0 ∷ 0x08 ∷ 0x04 ∷ 0xFD ∷ 0xE9 ∷ 0x00 ∷ 0x64 ∷ 0x40 ∷ 0x05 ∷ 0x04 ∷ 0x00 ∷ 0x00 ∷ 0x00 ∷ 0x64 ∷ 0x08 ∷ 0x0A ∷ []))
    ≡ reads (messages.UpdateMsg (record {
      withdrawn = [];
      attrs = Some (record {
        origin = origins.Igp;
        path = parts.Sequence (65001 ∷ []) ∷ [];
        next_hop = 0xC0000201;
        med = Some 50;
        atomic = true;
        aggregator = None;
        unknown = record { kind = 8; partial = true; bytes = 0xFD ∷ 0xE9 ∷ 0x00 ∷ 0x64 ∷ [] } ∷ record { kind = 99; partial = false; bytes = 0xAA ∷ [] } ∷ [];
      });
      nlri = record { address = 0x0A000000; len = 8 } ∷ [];
    }))
unfolding message_of header_fault body_of open_of update_of fields_of prefixes_of prefix_at many many_within attrs_in attrs_fault own_fault
    origin_in path_in next_hop_in med_in atomic_in aggregator_in other_in found_in all_known part_at attr_at cap_at caps_of params_of merged_path
others = refl

-- an OPEN with five capabilities
pub opened : message_of opening (framed 1 (0x04 ∷ 0xFD ∷ 0xE9 ∷ 0x00 ∷ 0x00 ∷ 0xC0 ∷ 0x00 ∷ 0x02 ∷ 0x01 ∷ 0x1E ∷ 0x02 ∷ 0x06 ∷ 0x01 ∷ 0x04 ∷ 0x00
    ∷ 0x01 ∷ 0x00 ∷ 0x01 ∷ 0x02 ∷ 0x02 ∷ 0x02 ∷ 0x00 ∷ 0x02 ∷ 0x02 ∷ 0x46 ∷ 0x00 ∷ 0x02 ∷ 0x04 ∷ 0x40 ∷ 0x02 ∷ 0x00 ∷ 0x78 ∷ 0x02 ∷ 0x06 ∷ 0x41
    ∷ 0x04 ∷ 0x00 ∷ 0x00 ∷ 0xFD ∷ 0xE9 ∷ [])) ≡ reads (messages.OpenMsg (record {
      as_number = 65001;
      hold = 0;
      identifier = 0xC0000201;
      caps = record { code = 1; bytes = 0 ∷ 1 ∷ 0 ∷ 1 ∷ [] } ∷ record { code = 2; bytes = [] } ∷ record { code = 70; bytes = [] }
          ∷ record { code = 64; bytes = 0 ∷ 0x78 ∷ [] } ∷ record { code = 65; bytes = 0 ∷ 0 ∷ 0xFD ∷ 0xE9 ∷ [] } ∷ [];
    }))
unfolding message_of header_fault body_of open_of update_of fields_of prefixes_of prefix_at many many_within attrs_in attrs_fault own_fault
    origin_in path_in next_hop_in med_in atomic_in aggregator_in other_in found_in all_known part_at attr_at cap_at caps_of params_of merged_path
opened = refl

-- two capabilities in one parameter
pub opened_together : message_of opening (framed 1
    (0x04 ∷ 0xFD ∷ 0xE9 ∷ 0x00 ∷ 0xB4 ∷ 0xC0 ∷ 0x00 ∷ 0x02 ∷ 0x01 ∷ 0x06 ∷ 0x02 ∷ 0x04 ∷ 0x02 ∷ 0x00 ∷ 0x46 ∷ 0x00 ∷ [])) ≡ reads (messages.OpenMsg
    (record { as_number = 65001; hold = 180; identifier = 0xC0000201; caps = record { code = 2; bytes = [] } ∷ record { code = 70; bytes = [] } ∷ [] }))
unfolding message_of header_fault body_of open_of update_of fields_of prefixes_of prefix_at many many_within attrs_in attrs_fault own_fault
    origin_in path_in next_hop_in med_in atomic_in aggregator_in other_in found_in all_known part_at attr_at cap_at caps_of params_of merged_path
opened_together = refl

-- a NOTIFICATION
pub noticed : message_of opening (framed 3 (0x06 ∷ 0x02 ∷ 0xAA ∷ 0xBB ∷ []))
    ≡ reads (messages.NoticeMsg (record { code = 6; subcode = 2; info = 0xAA ∷ 0xBB ∷ [] }))
unfolding message_of header_fault body_of open_of update_of fields_of prefixes_of prefix_at many many_within attrs_in attrs_fault own_fault
    origin_in path_in next_hop_in med_in atomic_in aggregator_in other_in found_in all_known part_at attr_at cap_at caps_of params_of merged_path
noticed = refl
