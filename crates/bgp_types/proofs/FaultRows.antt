-- Frames with one fault each, and their first fault, computed.
use Rattle.std.proofs.Common.{◌≡◌, ℕ, List, [], ◌∷◌, ◌++◌, map, take, drop, Option, Some, None, true, false, refl}
use Rattle.bgp_types.specs.declared.fault.Expected.{Expected}
use Rattle.bgp_types.specs.declared.message.Notice.{Notice}
use Rattle.bgp_types.specs.declared.message.SessionState.TheVariants as states
use Rattle.bgp_types.specs.Faults.{origin_in, path_in, next_hop_in, med_in, atomic_in, aggregator_in, other_in, own_fault, attrs_fault}
use Rattle.bgp_types.specs.FirstFault.{body_of, message_of, first_fault}
use Rattle.bgp_types.specs.Found.{found_in, attrs_in}
use Rattle.bgp_types.specs.Header.{header_fault}
use Rattle.bgp_types.specs.Many.{many, many_within}
use Rattle.bgp_types.specs.Merge.{merged_path}
use Rattle.bgp_types.specs.OpenBody.{cap_at, caps_of, params_of, open_of}
use Rattle.bgp_types.specs.PathOctets.{part_at}
use Rattle.bgp_types.specs.Prefixes.{prefix_at, prefixes_of}
use Rattle.bgp_types.specs.Spelling.{marker, framed}
use Rattle.bgp_types.specs.UpdateBody.{fields_of, all_known, update_of}
use Rattle.bgp_types.specs.WireAttrs.{attr_at}

pub record Row : Type 0 where
  pub frame : List ℕ
  pub fault : Option Notice

abbrev pub opening : Expected
opening = record { state = states.OpenSent; remote_as = 65001; offered = false; wide = false }

-- the remote's AS is 70000, and four-octet AS numbers are offered
abbrev pub offering : Expected
offering = record { state = states.OpenSent; remote_as = 70000; offered = true; wide = false }

abbrev pub confirm : Expected
confirm = record { state = states.OpenConfirm; remote_as = 65001; offered = false; wide = false }

abbrev pub established : Expected
established = record { state = states.Established; remote_as = 65001; offered = false; wide = false }

abbrev pub wide_session : Expected
wide_session = record { state = states.Established; remote_as = 65001; offered = true; wide = true }

abbrev pub closed : Expected
closed = record { state = states.Closed; remote_as = 65001; offered = false; wide = false }

abbrev pub headers : List Row
headers =
    -- marker: first octet
    record { frame = 0xFE ∷ drop 1 (marker ++ 0x00 ∷ 0x13 ∷ 0x04 ∷ []); fault = Some (record { code = 1; subcode = 1; info = [] }) }
    ∷  -- marker: last octet
    record { frame = take 15 marker ++ 0x7F ∷ 0x00 ∷ 0x13 ∷ 0x04 ∷ []; fault = Some (record { code = 1; subcode = 1; info = [] }) }
    ∷  -- the marker before the length
    record { frame = 0 ∷ drop 1 (marker ++ 0x00 ∷ 0x12 ∷ 0x09 ∷ []); fault = Some (record { code = 1; subcode = 1; info = [] }) }
    ∷  -- length 18
    record { frame = (marker ++ 0x00 ∷ 0x12 ∷ 0x04 ∷ []); fault = Some (record { code = 1; subcode = 2; info = 0x00 ∷ 0x12 ∷ [] }) }
    ∷  -- length 0
    record { frame = (marker ++ 0x00 ∷ 0x00 ∷ 0x04 ∷ []); fault = Some (record { code = 1; subcode = 2; info = 0x00 ∷ 0x00 ∷ [] }) }
    ∷  -- length 4097
    record { frame = (marker ++ 0x10 ∷ 0x01 ∷ 0x02 ∷ []); fault = Some (record { code = 1; subcode = 2; info = 0x10 ∷ 0x01 ∷ [] }) }
    ∷  -- length 65535
    record { frame = (marker ++ 0xFF ∷ 0xFF ∷ 0x02 ∷ []); fault = Some (record { code = 1; subcode = 2; info = 0xFF ∷ 0xFF ∷ [] }) }
    ∷  -- the length before the type
    record { frame = (marker ++ 0x00 ∷ 0x12 ∷ 0x09 ∷ []); fault = Some (record { code = 1; subcode = 2; info = 0x00 ∷ 0x12 ∷ [] }) }
    ∷  -- type 0
    record { frame = (marker ++ 0x00 ∷ 0x13 ∷ 0x00 ∷ []); fault = Some (record { code = 1; subcode = 3; info = 0x00 ∷ [] }) }
    ∷  -- type 5
    record { frame = (marker ++ 0x00 ∷ 0x13 ∷ 0x05 ∷ []); fault = Some (record { code = 1; subcode = 3; info = 0x05 ∷ [] }) }
    ∷  -- type 255
    record { frame = (marker ++ 0x00 ∷ 0x20 ∷ 0xFF ∷ []); fault = Some (record { code = 1; subcode = 3; info = 0xFF ∷ [] }) }
    ∷  -- OPEN of 28
    record { frame = (marker ++ 0x00 ∷ 0x1C ∷ 0x01 ∷ []); fault = Some (record { code = 1; subcode = 2; info = 0x00 ∷ 0x1C ∷ [] }) }
    ∷  -- UPDATE of 22
    record { frame = (marker ++ 0x00 ∷ 0x16 ∷ 0x02 ∷ []); fault = Some (record { code = 1; subcode = 2; info = 0x00 ∷ 0x16 ∷ [] }) }
    ∷  -- NOTIFICATION of 20
    record { frame = (marker ++ 0x00 ∷ 0x14 ∷ 0x03 ∷ []); fault = Some (record { code = 1; subcode = 2; info = 0x00 ∷ 0x14 ∷ [] }) }
    ∷  -- KEEPALIVE of 20
    record { frame = (marker ++ 0x00 ∷ 0x14 ∷ 0x04 ∷ 0x00 ∷ []); fault = Some (record { code = 1; subcode = 2; info = 0x00 ∷ 0x14 ∷ [] }) }
    ∷  -- KEEPALIVE
    record { frame = (marker ++ 0x00 ∷ 0x13 ∷ 0x04 ∷ []); fault = None }
    ∷ []

pub headers_hold : map (λ (row : Row). first_fault row.frame established) headers ≡ map (λ (row : Row). row.fault) headers
unfolding message_of header_fault body_of open_of update_of fields_of prefixes_of prefix_at many many_within attrs_in attrs_fault own_fault
    origin_in path_in next_hop_in med_in atomic_in aggregator_in other_in found_in all_known part_at attr_at cap_at caps_of params_of merged_path
headers_hold = refl

abbrev pub closed_states : List Row
closed_states =
    -- OPEN in Closed
    record {
      frame = framed 1 (0x04 ∷ 0xFD ∷ 0xE9 ∷ 0x00 ∷ 0xB4 ∷ 0xC0 ∷ 0x00 ∷ 0x02 ∷ 0x01 ∷ 0x00 ∷ []);
      fault = Some (record { code = 5; subcode = 0; info = [] });
    }
    ∷  -- UPDATE in Closed
    record { frame = framed 2 (0x00 ∷ 0x00 ∷ 0x00 ∷ 0x00 ∷ []); fault = Some (record { code = 5; subcode = 0; info = [] }) }
    ∷  -- KEEPALIVE in Closed
    record { frame = framed 4 ([]); fault = Some (record { code = 5; subcode = 0; info = [] }) }
    ∷  -- NOTIFICATION in Closed
    record { frame = framed 3 (0x06 ∷ 0x02 ∷ []); fault = None }
    ∷ []

pub closed_states_hold : map (λ (row : Row). first_fault row.frame closed) closed_states ≡ map (λ (row : Row). row.fault) closed_states
unfolding message_of header_fault body_of open_of update_of fields_of prefixes_of prefix_at many many_within attrs_in attrs_fault own_fault
    origin_in path_in next_hop_in med_in atomic_in aggregator_in other_in found_in all_known part_at attr_at cap_at caps_of params_of merged_path
closed_states_hold = refl

abbrev pub open_confirm_states : List Row
open_confirm_states =
    -- OPEN in OpenConfirm
    record {
      frame = framed 1 (0x04 ∷ 0xFD ∷ 0xE9 ∷ 0x00 ∷ 0xB4 ∷ 0xC0 ∷ 0x00 ∷ 0x02 ∷ 0x01 ∷ 0x00 ∷ []);
      fault = Some (record { code = 5; subcode = 0; info = [] });
    }
    ∷  -- UPDATE in OpenConfirm
    record { frame = framed 2 (0x00 ∷ 0x00 ∷ 0x00 ∷ 0x00 ∷ []); fault = Some (record { code = 5; subcode = 0; info = [] }) }
    ∷  -- KEEPALIVE in OpenConfirm
    record { frame = framed 4 ([]); fault = None }
    ∷  -- NOTIFICATION in OpenConfirm
    record { frame = framed 3 (0x06 ∷ 0x02 ∷ []); fault = None }
    ∷ []

pub open_confirm_states_hold : map (λ (row : Row). first_fault row.frame confirm) open_confirm_states ≡ map (λ (row : Row). row.fault) open_confirm_states
unfolding message_of header_fault body_of open_of update_of fields_of prefixes_of prefix_at many many_within attrs_in attrs_fault own_fault
    origin_in path_in next_hop_in med_in atomic_in aggregator_in other_in found_in all_known part_at attr_at cap_at caps_of params_of merged_path
open_confirm_states_hold = refl

abbrev pub opens : List Row
opens =
    -- KEEPALIVE in OpenSent
    record { frame = framed 4 ([]); fault = Some (record { code = 5; subcode = 0; info = [] }) }
    ∷  -- UPDATE in OpenSent
    record { frame = framed 2 (0x00 ∷ 0x00 ∷ 0x00 ∷ 0x00 ∷ []); fault = Some (record { code = 5; subcode = 0; info = [] }) }
    ∷  -- NOTIFICATION in OpenSent
    record { frame = framed 3 (0x06 ∷ 0x02 ∷ 0xAA ∷ []); fault = None }
    ∷  -- the state before the body
    record { frame = framed 2 (0x00 ∷ 0xFF ∷ 0x00 ∷ 0x00 ∷ []); fault = Some (record { code = 5; subcode = 0; info = [] }) }
    ∷  -- version 3
    record {
      frame = framed 1 (0x03 ∷ 0xFD ∷ 0xE9 ∷ 0x00 ∷ 0xB4 ∷ 0xC0 ∷ 0x00 ∷ 0x02 ∷ 0x01 ∷ 0x00 ∷ []);
      fault = Some (record { code = 2; subcode = 1; info = 0x00 ∷ 0x04 ∷ [] });
    }
    ∷  -- version 5
    record {
      frame = framed 1 (0x05 ∷ 0xFD ∷ 0xE9 ∷ 0x00 ∷ 0xB4 ∷ 0xC0 ∷ 0x00 ∷ 0x02 ∷ 0x01 ∷ 0x00 ∷ []);
      fault = Some (record { code = 2; subcode = 1; info = 0x00 ∷ 0x04 ∷ [] });
    }
    ∷  -- version before AS
    record {
      frame = framed 1 (0x00 ∷ 0xFD ∷ 0xEA ∷ 0x00 ∷ 0xB4 ∷ 0xC0 ∷ 0x00 ∷ 0x02 ∷ 0x01 ∷ 0x00 ∷ []);
      fault = Some (record { code = 2; subcode = 1; info = 0x00 ∷ 0x04 ∷ [] });
    }
    ∷  -- another AS
    record {
      frame = framed 1 (0x04 ∷ 0xFD ∷ 0xEA ∷ 0x00 ∷ 0xB4 ∷ 0xC0 ∷ 0x00 ∷ 0x02 ∷ 0x01 ∷ 0x00 ∷ []);
      fault = Some (record { code = 2; subcode = 2; info = [] });
    }
    ∷  -- AS before hold time
    record {
      frame = framed 1 (0x04 ∷ 0x00 ∷ 0x01 ∷ 0x00 ∷ 0x01 ∷ 0xC0 ∷ 0x00 ∷ 0x02 ∷ 0x01 ∷ 0x00 ∷ []);
      fault = Some (record { code = 2; subcode = 2; info = [] });
    }
    ∷  -- AS 23456 of a short AS
    record {
      frame = framed 1 (0x04 ∷ 0x5B ∷ 0xA0 ∷ 0x00 ∷ 0xB4 ∷ 0xC0 ∷ 0x00 ∷ 0x02 ∷ 0x01 ∷ 0x00 ∷ []);
      fault = Some (record { code = 2; subcode = 2; info = [] });
    }
    ∷  -- hold time 1
    record {
      frame = framed 1 (0x04 ∷ 0xFD ∷ 0xE9 ∷ 0x00 ∷ 0x01 ∷ 0xC0 ∷ 0x00 ∷ 0x02 ∷ 0x01 ∷ 0x00 ∷ []);
      fault = Some (record { code = 2; subcode = 6; info = [] });
    }
    ∷  -- hold time 2
    record {
      frame = framed 1 (0x04 ∷ 0xFD ∷ 0xE9 ∷ 0x00 ∷ 0x02 ∷ 0xC0 ∷ 0x00 ∷ 0x02 ∷ 0x01 ∷ 0x00 ∷ []);
      fault = Some (record { code = 2; subcode = 6; info = [] });
    }
    ∷  -- hold time before identifier
    record {
      frame = framed 1 (0x04 ∷ 0xFD ∷ 0xE9 ∷ 0x00 ∷ 0x02 ∷ 0x00 ∷ 0x00 ∷ 0x00 ∷ 0x00 ∷ 0x00 ∷ []);
      fault = Some (record { code = 2; subcode = 6; info = [] });
    }
    ∷  -- hold time 0
    record { frame = framed 1 (0x04 ∷ 0xFD ∷ 0xE9 ∷ 0x00 ∷ 0x00 ∷ 0xC0 ∷ 0x00 ∷ 0x02 ∷ 0x01 ∷ 0x00 ∷ []); fault = None }
    ∷  -- hold time 3
    record { frame = framed 1 (0x04 ∷ 0xFD ∷ 0xE9 ∷ 0x00 ∷ 0x03 ∷ 0xC0 ∷ 0x00 ∷ 0x02 ∷ 0x01 ∷ 0x00 ∷ []); fault = None }
    ∷  -- identifier 0.0.0.0
    record {
      frame = framed 1 (0x04 ∷ 0xFD ∷ 0xE9 ∷ 0x00 ∷ 0xB4 ∷ 0x00 ∷ 0x00 ∷ 0x00 ∷ 0x00 ∷ 0x00 ∷ []);
      fault = Some (record { code = 2; subcode = 3; info = [] });
    }
    ∷  -- identifier 224.0.0.0
    record {
      frame = framed 1 (0x04 ∷ 0xFD ∷ 0xE9 ∷ 0x00 ∷ 0xB4 ∷ 0xE0 ∷ 0x00 ∷ 0x00 ∷ 0x00 ∷ 0x00 ∷ []);
      fault = Some (record { code = 2; subcode = 3; info = [] });
    }
    ∷  -- identifier 255.255.255.255
    record {
      frame = framed 1 (0x04 ∷ 0xFD ∷ 0xE9 ∷ 0x00 ∷ 0xB4 ∷ 0xFF ∷ 0xFF ∷ 0xFF ∷ 0xFF ∷ 0x00 ∷ []);
      fault = Some (record { code = 2; subcode = 3; info = [] });
    }
    ∷  -- identifier 223.255.255.255
    record { frame = framed 1 (0x04 ∷ 0xFD ∷ 0xE9 ∷ 0x00 ∷ 0xB4 ∷ 0xDF ∷ 0xFF ∷ 0xFF ∷ 0xFF ∷ 0x00 ∷ []); fault = None }
    ∷  -- identifier before parameters
    record {
      frame = framed 1 (0x04 ∷ 0xFD ∷ 0xE9 ∷ 0x00 ∷ 0xB4 ∷ 0xE0 ∷ 0x00 ∷ 0x00 ∷ 0x00 ∷ 0x01 ∷ []);
      fault = Some (record { code = 2; subcode = 3; info = [] });
    }
    ∷  -- parameters shorter than told
    record {
      frame = framed 1 (0x04 ∷ 0xFD ∷ 0xE9 ∷ 0x00 ∷ 0xB4 ∷ 0xC0 ∷ 0x00 ∷ 0x02 ∷ 0x01 ∷ 0x03 ∷ 0x02 ∷ 0x00 ∷ []);
      fault = Some (record { code = 2; subcode = 0; info = [] });
    }
    ∷  -- parameters longer than told
    record {
      frame = framed 1 (0x04 ∷ 0xFD ∷ 0xE9 ∷ 0x00 ∷ 0xB4 ∷ 0xC0 ∷ 0x00 ∷ 0x02 ∷ 0x01 ∷ 0x01 ∷ 0x02 ∷ 0x00 ∷ []);
      fault = Some (record { code = 2; subcode = 0; info = [] });
    }
    ∷  -- a parameter past the end
    record {
      frame = framed 1 (0x04 ∷ 0xFD ∷ 0xE9 ∷ 0x00 ∷ 0xB4 ∷ 0xC0 ∷ 0x00 ∷ 0x02 ∷ 0x01 ∷ 0x04 ∷ 0x02 ∷ 0x03 ∷ 0x01 ∷ 0x01 ∷ []);
      fault = Some (record { code = 2; subcode = 0; info = [] });
    }
    ∷  -- half a parameter
    record {
      frame = framed 1 (0x04 ∷ 0xFD ∷ 0xE9 ∷ 0x00 ∷ 0xB4 ∷ 0xC0 ∷ 0x00 ∷ 0x02 ∷ 0x01 ∷ 0x01 ∷ 0x02 ∷ []);
      fault = Some (record { code = 2; subcode = 0; info = [] });
    }
    ∷  -- all parameters before any type
    record {
      frame = framed 1 (0x04 ∷ 0xFD ∷ 0xE9 ∷ 0x00 ∷ 0xB4 ∷ 0xC0 ∷ 0x00 ∷ 0x02 ∷ 0x01 ∷ 0x03 ∷ 0x01 ∷ 0x00 ∷ 0x02 ∷ []);
      fault = Some (record { code = 2; subcode = 0; info = [] });
    }
    ∷  -- a parameter of type 1
    record {
      frame = framed 1 (0x04 ∷ 0xFD ∷ 0xE9 ∷ 0x00 ∷ 0xB4 ∷ 0xC0 ∷ 0x00 ∷ 0x02 ∷ 0x01 ∷ 0x02 ∷ 0x01 ∷ 0x00 ∷ []);
      fault = Some (record { code = 2; subcode = 4; info = [] });
    }
    ∷  -- the second of type 1
    record {
      frame = framed 1 (0x04 ∷ 0xFD ∷ 0xE9 ∷ 0x00 ∷ 0xB4 ∷ 0xC0 ∷ 0x00 ∷ 0x02 ∷ 0x01 ∷ 0x06 ∷ 0x02 ∷ 0x02 ∷ 0x02 ∷ 0x00 ∷ 0x01 ∷ 0x00 ∷ []);
      fault = Some (record { code = 2; subcode = 4; info = [] });
    }
    ∷  -- a capability past its parameter
    record {
      frame = framed 1 (0x04 ∷ 0xFD ∷ 0xE9 ∷ 0x00 ∷ 0xB4 ∷ 0xC0 ∷ 0x00 ∷ 0x02 ∷ 0x01 ∷ 0x04 ∷ 0x02 ∷ 0x02 ∷ 0x41 ∷ 0x04 ∷ []);
      fault = Some (record { code = 2; subcode = 0; info = [] });
    }
    ∷  -- half a capability
    record {
      frame = framed 1 (0x04 ∷ 0xFD ∷ 0xE9 ∷ 0x00 ∷ 0xB4 ∷ 0xC0 ∷ 0x00 ∷ 0x02 ∷ 0x01 ∷ 0x03 ∷ 0x02 ∷ 0x01 ∷ 0x41 ∷ []);
      fault = Some (record { code = 2; subcode = 0; info = [] });
    }
    ∷  -- from left to right
    record {
      frame = framed 1 (0x04 ∷ 0xFD ∷ 0xE9 ∷ 0x00 ∷ 0xB4 ∷ 0xC0 ∷ 0x00 ∷ 0x02 ∷ 0x01 ∷ 0x06 ∷ 0x02 ∷ 0x02 ∷ 0x41 ∷ 0x04 ∷ 0x01 ∷ 0x00 ∷ []);
      fault = Some (record { code = 2; subcode = 0; info = [] });
    }
    ∷  -- from left to right, the other way
    record {
      frame = framed 1 (0x04 ∷ 0xFD ∷ 0xE9 ∷ 0x00 ∷ 0xB4 ∷ 0xC0 ∷ 0x00 ∷ 0x02 ∷ 0x01 ∷ 0x06 ∷ 0x01 ∷ 0x00 ∷ 0x02 ∷ 0x02 ∷ 0x41 ∷ 0x04 ∷ []);
      fault = Some (record { code = 2; subcode = 4; info = [] });
    }
    ∷  -- five capabilities
    record {
      frame = framed 1 (0x04 ∷ 0xFD ∷ 0xE9 ∷ 0x00 ∷ 0x00 ∷ 0xC0 ∷ 0x00 ∷ 0x02 ∷ 0x01 ∷ 0x1E ∷ 0x02 ∷ 0x06 ∷ 0x01
          ∷ 0x04 ∷ 0x00 ∷ 0x01 ∷ 0x00 ∷ 0x01 ∷ 0x02 ∷ 0x02 ∷ 0x02 ∷ 0x00 ∷ 0x02 ∷ 0x02 ∷ 0x46 ∷ 0x00 ∷ 0x02
          ∷ 0x04 ∷ 0x40 ∷ 0x02 ∷ 0x00 ∷ 0x78 ∷ 0x02 ∷ 0x06 ∷ 0x41 ∷ 0x04 ∷ 0x00 ∷ 0x00 ∷ 0xFD ∷ 0xE9 ∷ []);
      fault = None;
    }
    ∷  -- no parameters
    record { frame = framed 1 (0x04 ∷ 0xFD ∷ 0xE9 ∷ 0x00 ∷ 0xB4 ∷ 0xC0 ∷ 0x00 ∷ 0x02 ∷ 0x01 ∷ 0x00 ∷ []); fault = None }
    ∷  -- an empty parameter
    record { frame = framed 1 (0x04 ∷ 0xFD ∷ 0xE9 ∷ 0x00 ∷ 0xB4 ∷ 0xC0 ∷ 0x00 ∷ 0x02 ∷ 0x01 ∷ 0x02 ∷ 0x02 ∷ 0x00 ∷ []); fault = None }
    ∷ []

pub opens_hold : map (λ (row : Row). first_fault row.frame opening) opens ≡ map (λ (row : Row). row.fault) opens
unfolding message_of header_fault body_of open_of update_of fields_of prefixes_of prefix_at many many_within attrs_in attrs_fault own_fault
    origin_in path_in next_hop_in med_in atomic_in aggregator_in other_in found_in all_known part_at attr_at cap_at caps_of params_of merged_path
opens_hold = refl

abbrev pub offered_opens : List Row
offered_opens =
    -- AS 23456 and the AS in capability 65
    record {
      frame = framed 1 (0x04 ∷ 0x5B ∷ 0xA0 ∷ 0x00 ∷ 0xB4 ∷ 0xC0 ∷ 0x00 ∷ 0x02 ∷ 0x01 ∷ 0x08 ∷ 0x02 ∷ 0x06 ∷ 0x41 ∷ 0x04 ∷ 0x00 ∷ 0x01 ∷ 0x11 ∷ 0x70 ∷ []);
      fault = None;
    }
    ∷  -- any field with capability 65
    record {
      frame = framed 1 (0x04 ∷ 0x00 ∷ 0x07 ∷ 0x00 ∷ 0xB4 ∷ 0xC0 ∷ 0x00 ∷ 0x02 ∷ 0x01 ∷ 0x08 ∷ 0x02 ∷ 0x06 ∷ 0x41 ∷ 0x04 ∷ 0x00 ∷ 0x01 ∷ 0x11 ∷ 0x70 ∷ []);
      fault = None;
    }
    ∷  -- another AS in capability 65
    record {
      frame = framed 1 (0x04 ∷ 0x5B ∷ 0xA0 ∷ 0x00 ∷ 0xB4 ∷ 0xC0 ∷ 0x00 ∷ 0x02 ∷ 0x01 ∷ 0x08 ∷ 0x02 ∷ 0x06 ∷ 0x41 ∷ 0x04 ∷ 0x00 ∷ 0x00 ∷ 0xFD ∷ 0xE9 ∷ []);
      fault = Some (record { code = 2; subcode = 2; info = [] });
    }
    ∷  -- the first capability 65
    record {
      frame = framed 1 (0x04 ∷ 0x5B ∷ 0xA0 ∷ 0x00 ∷ 0xB4 ∷ 0xC0 ∷ 0x00 ∷ 0x02 ∷ 0x01 ∷ 0x0E ∷ 0x02 ∷ 0x0C
          ∷ 0x41 ∷ 0x04 ∷ 0x00 ∷ 0x01 ∷ 0x11 ∷ 0x71 ∷ 0x41 ∷ 0x04 ∷ 0x00 ∷ 0x01 ∷ 0x11 ∷ 0x70 ∷ []);
      fault = Some (record { code = 2; subcode = 2; info = [] });
    }
    ∷  -- no capability 65, field 23456
    record { frame = framed 1 (0x04 ∷ 0x5B ∷ 0xA0 ∷ 0x00 ∷ 0xB4 ∷ 0xC0 ∷ 0x00 ∷ 0x02 ∷ 0x01 ∷ 0x00 ∷ []); fault = None }
    ∷  -- no capability 65, another field
    record {
      frame = framed 1 (0x04 ∷ 0xFD ∷ 0xE9 ∷ 0x00 ∷ 0xB4 ∷ 0xC0 ∷ 0x00 ∷ 0x02 ∷ 0x01 ∷ 0x00 ∷ []);
      fault = Some (record { code = 2; subcode = 2; info = [] });
    }
    ∷  -- capability 65 of two octets is absent
    record {
      frame = framed 1 (0x04 ∷ 0xFD ∷ 0xE9 ∷ 0x00 ∷ 0xB4 ∷ 0xC0 ∷ 0x00 ∷ 0x02 ∷ 0x01 ∷ 0x06 ∷ 0x02 ∷ 0x04 ∷ 0x41 ∷ 0x02 ∷ 0x11 ∷ 0x70 ∷ []);
      fault = Some (record { code = 2; subcode = 2; info = [] });
    }
    ∷  -- hold time before AS
    record {
      frame = framed 1 (0x04 ∷ 0xFD ∷ 0xE9 ∷ 0x00 ∷ 0x01 ∷ 0xC0 ∷ 0x00 ∷ 0x02 ∷ 0x01 ∷ 0x00 ∷ []);
      fault = Some (record { code = 2; subcode = 6; info = [] });
    }
    ∷  -- parameters before AS
    record {
      frame = framed 1 (0x04 ∷ 0xFD ∷ 0xE9 ∷ 0x00 ∷ 0xB4 ∷ 0xC0 ∷ 0x00 ∷ 0x02 ∷ 0x01 ∷ 0x02 ∷ 0x01 ∷ 0x00 ∷ []);
      fault = Some (record { code = 2; subcode = 4; info = [] });
    }
    ∷ []

pub offered_opens_hold : map (λ (row : Row). first_fault row.frame offering) offered_opens ≡ map (λ (row : Row). row.fault) offered_opens
unfolding message_of header_fault body_of open_of update_of fields_of prefixes_of prefix_at many many_within attrs_in attrs_fault own_fault
    origin_in path_in next_hop_in med_in atomic_in aggregator_in other_in found_in all_known part_at attr_at cap_at caps_of params_of merged_path
offered_opens_hold = refl

abbrev pub updates : List Row
updates =
    -- OPEN in Established
    record {
      frame = framed 1 (0x04 ∷ 0xFD ∷ 0xE9 ∷ 0x00 ∷ 0xB4 ∷ 0xC0 ∷ 0x00 ∷ 0x02 ∷ 0x01 ∷ 0x00 ∷ []);
      fault = Some (record { code = 5; subcode = 0; info = [] });
    }
    ∷  -- withdrawn length past the end
    record { frame = framed 2 (0x00 ∷ 0x03 ∷ 0x00 ∷ 0x00 ∷ []); fault = Some (record { code = 3; subcode = 1; info = [] }) }
    ∷  -- no attributes length
    record { frame = framed 2 (0x00 ∷ 0x02 ∷ 0x08 ∷ 0x0A ∷ []); fault = Some (record { code = 3; subcode = 1; info = [] }) }
    ∷  -- half an attributes length
    record { frame = framed 2 (0x00 ∷ 0x01 ∷ 0x00 ∷ 0x00 ∷ []); fault = Some (record { code = 3; subcode = 1; info = [] }) }
    ∷  -- attributes length past the end
    record { frame = framed 2 (0x00 ∷ 0x00 ∷ 0x00 ∷ 0x01 ∷ []); fault = Some (record { code = 3; subcode = 1; info = [] }) }
    ∷  -- fields before prefixes
    record { frame = framed 2 (0x00 ∷ 0x02 ∷ 0xFF ∷ 0x00 ∷ 0x00 ∷ 0x09 ∷ []); fault = Some (record { code = 3; subcode = 1; info = [] }) }
    ∷  -- withdrawn length 33
    record {
      frame = framed 2 (0x00 ∷ 0x06 ∷ 0x21 ∷ 0x00 ∷ 0x00 ∷ 0x00 ∷ 0x00 ∷ 0x00 ∷ 0x00 ∷ 0x00 ∷ []);
      fault = Some (record { code = 3; subcode = 10; info = [] });
    }
    ∷  -- withdrawn prefix past its field
    record { frame = framed 2 (0x00 ∷ 0x02 ∷ 0x0A ∷ 0x0A ∷ 0x00 ∷ 0x00 ∷ []); fault = Some (record { code = 3; subcode = 10; info = [] }) }
    ∷  -- withdrawn before attributes
    record { frame = framed 2 (0x00 ∷ 0x01 ∷ 0x21 ∷ 0x00 ∷ 0x04 ∷ 0x40 ∷ 0x01 ∷ 0x01 ∷ 0x03 ∷ []); fault = Some (record { code = 3; subcode = 10; info = [] }) }
    ∷  -- half an attribute
    record { frame = framed 2 (0x00 ∷ 0x00 ∷ 0x00 ∷ 0x01 ∷ 0x40 ∷ []); fault = Some (record { code = 3; subcode = 1; info = [] }) }
    ∷  -- an attribute without length
    record { frame = framed 2 (0x00 ∷ 0x00 ∷ 0x00 ∷ 0x02 ∷ 0x40 ∷ 0x01 ∷ []); fault = Some (record { code = 3; subcode = 1; info = [] }) }
    ∷  -- half an extended length
    record { frame = framed 2 (0x00 ∷ 0x00 ∷ 0x00 ∷ 0x03 ∷ 0x50 ∷ 0x01 ∷ 0x00 ∷ []); fault = Some (record { code = 3; subcode = 1; info = [] }) }
    ∷  -- a value past the end
    record { frame = framed 2 (0x00 ∷ 0x00 ∷ 0x00 ∷ 0x04 ∷ 0x40 ∷ 0x01 ∷ 0x02 ∷ 0x00 ∷ []); fault = Some (record { code = 3; subcode = 1; info = [] }) }
    ∷  -- a fault before half an attribute
    record {
      frame = framed 2 (0x00 ∷ 0x00 ∷ 0x00 ∷ 0x05 ∷ 0x40 ∷ 0x01 ∷ 0x01 ∷ 0x03 ∷ 0x40 ∷ []);
      fault = Some (record { code = 3; subcode = 6; info = 0x40 ∷ 0x01 ∷ 0x01 ∷ 0x03 ∷ [] });
    }
    ∷  -- ORIGIN twice
    record {
      frame = framed 2 (0x00 ∷ 0x00 ∷ 0x00 ∷ 0x08 ∷ 0x40 ∷ 0x01 ∷ 0x01 ∷ 0x00 ∷ 0x40 ∷ 0x01 ∷ 0x01 ∷ 0x00 ∷ []);
      fault = Some (record { code = 3; subcode = 1; info = [] });
    }
    ∷  -- LOCAL_PREF twice
    record {
      frame = framed 2 (0x00 ∷ 0x00 ∷ 0x00 ∷ 0x06 ∷ 0x40 ∷ 0x05 ∷ 0x00 ∷ 0x40 ∷ 0x05 ∷ 0x00 ∷ []);
      fault = Some (record { code = 3; subcode = 1; info = [] });
    }
    ∷  -- an unknown type twice
    record {
      frame = framed 2 (0x00 ∷ 0x00 ∷ 0x00 ∷ 0x06 ∷ 0xC0 ∷ 0x63 ∷ 0x00 ∷ 0xC0 ∷ 0x63 ∷ 0x00 ∷ []);
      fault = Some (record { code = 3; subcode = 1; info = [] });
    }
    ∷  -- AS4_PATH twice
    record {
      frame = framed 2 (0x00 ∷ 0x00 ∷ 0x00 ∷ 0x06 ∷ 0xC0 ∷ 0x11 ∷ 0x00 ∷ 0xC0 ∷ 0x11 ∷ 0x00 ∷ []);
      fault = Some (record { code = 3; subcode = 1; info = [] });
    }
    ∷  -- twice before its flags
    record {
      frame = framed 2 (0x00 ∷ 0x00 ∷ 0x00 ∷ 0x08 ∷ 0x40 ∷ 0x01 ∷ 0x01 ∷ 0x00 ∷ 0xC0 ∷ 0x01 ∷ 0x01 ∷ 0x00 ∷ []);
      fault = Some (record { code = 3; subcode = 1; info = [] });
    }
    ∷  -- LOCAL_PREF is skipped
    record { frame = framed 2 (0x00 ∷ 0x00 ∷ 0x00 ∷ 0x06 ∷ 0xC0 ∷ 0x05 ∷ 0x03 ∷ 0x01 ∷ 0x02 ∷ 0x03 ∷ []); fault = None }
    ∷  -- ORIGIN optional
    record {
      frame = framed 2 (0x00 ∷ 0x00 ∷ 0x00 ∷ 0x04 ∷ 0xC0 ∷ 0x01 ∷ 0x01 ∷ 0x00 ∷ []);
      fault = Some (record { code = 3; subcode = 4; info = 0xC0 ∷ 0x01 ∷ 0x01 ∷ 0x00 ∷ [] });
    }
    ∷  -- ORIGIN not transitive
    record {
      frame = framed 2 (0x00 ∷ 0x00 ∷ 0x00 ∷ 0x04 ∷ 0x00 ∷ 0x01 ∷ 0x01 ∷ 0x00 ∷ []);
      fault = Some (record { code = 3; subcode = 4; info = 0x00 ∷ 0x01 ∷ 0x01 ∷ 0x00 ∷ [] });
    }
    ∷  -- AS_PATH optional
    record {
      frame = framed 2 (0x00 ∷ 0x00 ∷ 0x00 ∷ 0x03 ∷ 0xC0 ∷ 0x02 ∷ 0x00 ∷ []);
      fault = Some (record { code = 3; subcode = 4; info = 0xC0 ∷ 0x02 ∷ 0x00 ∷ [] });
    }
    ∷  -- NEXT_HOP not transitive
    record {
      frame = framed 2 (0x00 ∷ 0x00 ∷ 0x00 ∷ 0x07 ∷ 0x00 ∷ 0x03 ∷ 0x04 ∷ 0xC0 ∷ 0x00 ∷ 0x02 ∷ 0x01 ∷ []);
      fault = Some (record { code = 3; subcode = 4; info = 0x00 ∷ 0x03 ∷ 0x04 ∷ 0xC0 ∷ 0x00 ∷ 0x02 ∷ 0x01 ∷ [] });
    }
    ∷  -- MED transitive
    record {
      frame = framed 2 (0x00 ∷ 0x00 ∷ 0x00 ∷ 0x07 ∷ 0xC0 ∷ 0x04 ∷ 0x04 ∷ 0x00 ∷ 0x00 ∷ 0x00 ∷ 0x01 ∷ []);
      fault = Some (record { code = 3; subcode = 4; info = 0xC0 ∷ 0x04 ∷ 0x04 ∷ 0x00 ∷ 0x00 ∷ 0x00 ∷ 0x01 ∷ [] });
    }
    ∷  -- MED not optional
    record {
      frame = framed 2 (0x00 ∷ 0x00 ∷ 0x00 ∷ 0x07 ∷ 0x00 ∷ 0x04 ∷ 0x04 ∷ 0x00 ∷ 0x00 ∷ 0x00 ∷ 0x01 ∷ []);
      fault = Some (record { code = 3; subcode = 4; info = 0x00 ∷ 0x04 ∷ 0x04 ∷ 0x00 ∷ 0x00 ∷ 0x00 ∷ 0x01 ∷ [] });
    }
    ∷  -- ATOMIC_AGGREGATE optional
    record {
      frame = framed 2 (0x00 ∷ 0x00 ∷ 0x00 ∷ 0x03 ∷ 0xC0 ∷ 0x06 ∷ 0x00 ∷ []);
      fault = Some (record { code = 3; subcode = 4; info = 0xC0 ∷ 0x06 ∷ 0x00 ∷ [] });
    }
    ∷  -- AGGREGATOR not optional
    record {
      frame = framed 2 (0x00 ∷ 0x00 ∷ 0x00 ∷ 0x09 ∷ 0x40 ∷ 0x07 ∷ 0x06 ∷ 0xFD ∷ 0xE9 ∷ 0xC0 ∷ 0x00 ∷ 0x02 ∷ 0x01 ∷ []);
      fault = Some (record { code = 3; subcode = 4; info = 0x40 ∷ 0x07 ∷ 0x06 ∷ 0xFD ∷ 0xE9 ∷ 0xC0 ∷ 0x00 ∷ 0x02 ∷ 0x01 ∷ [] });
    }
    ∷  -- AGGREGATOR not transitive
    record {
      frame = framed 2 (0x00 ∷ 0x00 ∷ 0x00 ∷ 0x09 ∷ 0x80 ∷ 0x07 ∷ 0x06 ∷ 0xFD ∷ 0xE9 ∷ 0xC0 ∷ 0x00 ∷ 0x02 ∷ 0x01 ∷ []);
      fault = Some (record { code = 3; subcode = 4; info = 0x80 ∷ 0x07 ∷ 0x06 ∷ 0xFD ∷ 0xE9 ∷ 0xC0 ∷ 0x00 ∷ 0x02 ∷ 0x01 ∷ [] });
    }
    ∷  -- flags before length
    record {
      frame = framed 2 (0x00 ∷ 0x00 ∷ 0x00 ∷ 0x05 ∷ 0xC0 ∷ 0x01 ∷ 0x02 ∷ 0x00 ∷ 0x00 ∷ []);
      fault = Some (record { code = 3; subcode = 4; info = 0xC0 ∷ 0x01 ∷ 0x02 ∷ 0x00 ∷ 0x00 ∷ [] });
    }
    ∷  -- ORIGIN of 2
    record {
      frame = framed 2 (0x00 ∷ 0x00 ∷ 0x00 ∷ 0x05 ∷ 0x40 ∷ 0x01 ∷ 0x02 ∷ 0x00 ∷ 0x00 ∷ []);
      fault = Some (record { code = 3; subcode = 5; info = 0x40 ∷ 0x01 ∷ 0x02 ∷ 0x00 ∷ 0x00 ∷ [] });
    }
    ∷  -- ORIGIN of 0
    record {
      frame = framed 2 (0x00 ∷ 0x00 ∷ 0x00 ∷ 0x03 ∷ 0x40 ∷ 0x01 ∷ 0x00 ∷ []);
      fault = Some (record { code = 3; subcode = 5; info = 0x40 ∷ 0x01 ∷ 0x00 ∷ [] });
    }
    ∷  -- NEXT_HOP of 3
    record {
      frame = framed 2 (0x00 ∷ 0x00 ∷ 0x00 ∷ 0x06 ∷ 0x40 ∷ 0x03 ∷ 0x03 ∷ 0xC0 ∷ 0x00 ∷ 0x02 ∷ []);
      fault = Some (record { code = 3; subcode = 5; info = 0x40 ∷ 0x03 ∷ 0x03 ∷ 0xC0 ∷ 0x00 ∷ 0x02 ∷ [] });
    }
    ∷  -- NEXT_HOP of 5
    record {
      frame = framed 2 (0x00 ∷ 0x00 ∷ 0x00 ∷ 0x08 ∷ 0x40 ∷ 0x03 ∷ 0x05 ∷ 0xC0 ∷ 0x00 ∷ 0x02 ∷ 0x01 ∷ 0x00 ∷ []);
      fault = Some (record { code = 3; subcode = 5; info = 0x40 ∷ 0x03 ∷ 0x05 ∷ 0xC0 ∷ 0x00 ∷ 0x02 ∷ 0x01 ∷ 0x00 ∷ [] });
    }
    ∷  -- MED of 3
    record {
      frame = framed 2 (0x00 ∷ 0x00 ∷ 0x00 ∷ 0x06 ∷ 0x80 ∷ 0x04 ∷ 0x03 ∷ 0x00 ∷ 0x00 ∷ 0x01 ∷ []);
      fault = Some (record { code = 3; subcode = 5; info = 0x80 ∷ 0x04 ∷ 0x03 ∷ 0x00 ∷ 0x00 ∷ 0x01 ∷ [] });
    }
    ∷  -- ATOMIC_AGGREGATE of 1
    record {
      frame = framed 2 (0x00 ∷ 0x00 ∷ 0x00 ∷ 0x04 ∷ 0x40 ∷ 0x06 ∷ 0x01 ∷ 0x00 ∷ []);
      fault = Some (record { code = 3; subcode = 5; info = 0x40 ∷ 0x06 ∷ 0x01 ∷ 0x00 ∷ [] });
    }
    ∷  -- AGGREGATOR of 8
    record {
      frame = framed 2 (0x00 ∷ 0x00 ∷ 0x00 ∷ 0x0B ∷ 0xC0 ∷ 0x07 ∷ 0x08 ∷ 0x00 ∷ 0x00 ∷ 0xFD ∷ 0xE9 ∷ 0xC0 ∷ 0x00 ∷ 0x02 ∷ 0x01 ∷ []);
      fault = Some (record { code = 3; subcode = 5; info = 0xC0 ∷ 0x07 ∷ 0x08 ∷ 0x00 ∷ 0x00 ∷ 0xFD ∷ 0xE9 ∷ 0xC0 ∷ 0x00 ∷ 0x02 ∷ 0x01 ∷ [] });
    }
    ∷  -- AGGREGATOR of 5
    record {
      frame = framed 2 (0x00 ∷ 0x00 ∷ 0x00 ∷ 0x08 ∷ 0xC0 ∷ 0x07 ∷ 0x05 ∷ 0xFD ∷ 0xE9 ∷ 0xC0 ∷ 0x00 ∷ 0x02 ∷ []);
      fault = Some (record { code = 3; subcode = 5; info = 0xC0 ∷ 0x07 ∷ 0x05 ∷ 0xFD ∷ 0xE9 ∷ 0xC0 ∷ 0x00 ∷ 0x02 ∷ [] });
    }
    ∷  -- extended length in the data
    record {
      frame = framed 2 (0x00 ∷ 0x00 ∷ 0x00 ∷ 0x06 ∷ 0x50 ∷ 0x01 ∷ 0x00 ∷ 0x02 ∷ 0x00 ∷ 0x00 ∷ []);
      fault = Some (record { code = 3; subcode = 5; info = 0x50 ∷ 0x01 ∷ 0x00 ∷ 0x02 ∷ 0x00 ∷ 0x00 ∷ [] });
    }
    ∷  -- ORIGIN 3
    record {
      frame = framed 2 (0x00 ∷ 0x00 ∷ 0x00 ∷ 0x04 ∷ 0x40 ∷ 0x01 ∷ 0x01 ∷ 0x03 ∷ []);
      fault = Some (record { code = 3; subcode = 6; info = 0x40 ∷ 0x01 ∷ 0x01 ∷ 0x03 ∷ [] });
    }
    ∷  -- ORIGIN 255, low flags set
    record {
      frame = framed 2 (0x00 ∷ 0x00 ∷ 0x00 ∷ 0x04 ∷ 0x4F ∷ 0x01 ∷ 0x01 ∷ 0xFF ∷ []);
      fault = Some (record { code = 3; subcode = 6; info = 0x4F ∷ 0x01 ∷ 0x01 ∷ 0xFF ∷ [] });
    }
    ∷  -- path part of kind 0
    record {
      frame = framed 2 (0x00 ∷ 0x00 ∷ 0x00 ∷ 0x07 ∷ 0x40 ∷ 0x02 ∷ 0x04 ∷ 0x00 ∷ 0x01 ∷ 0xFD ∷ 0xE9 ∷ []);
      fault = Some (record { code = 3; subcode = 11; info = [] });
    }
    ∷  -- path part of kind 3
    record {
      frame = framed 2 (0x00 ∷ 0x00 ∷ 0x00 ∷ 0x07 ∷ 0x40 ∷ 0x02 ∷ 0x04 ∷ 0x03 ∷ 0x01 ∷ 0xFD ∷ 0xE9 ∷ []);
      fault = Some (record { code = 3; subcode = 11; info = [] });
    }
    ∷  -- path part of count 0
    record { frame = framed 2 (0x00 ∷ 0x00 ∷ 0x00 ∷ 0x05 ∷ 0x40 ∷ 0x02 ∷ 0x02 ∷ 0x02 ∷ 0x00 ∷ []); fault = Some (record { code = 3; subcode = 11; info = [] }) }
    ∷  -- path part past the end
    record {
      frame = framed 2 (0x00 ∷ 0x00 ∷ 0x00 ∷ 0x07 ∷ 0x40 ∷ 0x02 ∷ 0x04 ∷ 0x02 ∷ 0x02 ∷ 0xFD ∷ 0xE9 ∷ []);
      fault = Some (record { code = 3; subcode = 11; info = [] });
    }
    ∷  -- half a path part
    record { frame = framed 2 (0x00 ∷ 0x00 ∷ 0x00 ∷ 0x04 ∷ 0x40 ∷ 0x02 ∷ 0x01 ∷ 0x02 ∷ []); fault = Some (record { code = 3; subcode = 11; info = [] }) }
    ∷  -- an octet after a part
    record {
      frame = framed 2 (0x00 ∷ 0x00 ∷ 0x00 ∷ 0x08 ∷ 0x40 ∷ 0x02 ∷ 0x05 ∷ 0x02 ∷ 0x01 ∷ 0xFD ∷ 0xE9 ∷ 0x02 ∷ []);
      fault = Some (record { code = 3; subcode = 11; info = [] });
    }
    ∷  -- next hop 0.0.0.0
    record {
      frame = framed 2 (0x00 ∷ 0x00 ∷ 0x00 ∷ 0x07 ∷ 0x40 ∷ 0x03 ∷ 0x04 ∷ 0x00 ∷ 0x00 ∷ 0x00 ∷ 0x00 ∷ []);
      fault = Some (record { code = 3; subcode = 8; info = 0x40 ∷ 0x03 ∷ 0x04 ∷ 0x00 ∷ 0x00 ∷ 0x00 ∷ 0x00 ∷ [] });
    }
    ∷  -- next hop 224.0.0.0
    record {
      frame = framed 2 (0x00 ∷ 0x00 ∷ 0x00 ∷ 0x07 ∷ 0x40 ∷ 0x03 ∷ 0x04 ∷ 0xE0 ∷ 0x00 ∷ 0x00 ∷ 0x00 ∷ []);
      fault = Some (record { code = 3; subcode = 8; info = 0x40 ∷ 0x03 ∷ 0x04 ∷ 0xE0 ∷ 0x00 ∷ 0x00 ∷ 0x00 ∷ [] });
    }
    ∷  -- an unknown type that is not optional
    record {
      frame = framed 2 (0x00 ∷ 0x00 ∷ 0x00 ∷ 0x03 ∷ 0x40 ∷ 0x63 ∷ 0x00 ∷ []);
      fault = Some (record { code = 3; subcode = 2; info = 0x40 ∷ 0x63 ∷ 0x00 ∷ [] });
    }
    ∷  -- a type 0 that is not optional
    record {
      frame = framed 2 (0x00 ∷ 0x00 ∷ 0x00 ∷ 0x03 ∷ 0x00 ∷ 0x00 ∷ 0x00 ∷ []);
      fault = Some (record { code = 3; subcode = 2; info = 0x00 ∷ 0x00 ∷ 0x00 ∷ [] });
    }
    ∷  -- AS4_PATH that is not optional
    record {
      frame = framed 2 (0x00 ∷ 0x00 ∷ 0x00 ∷ 0x03 ∷ 0x40 ∷ 0x11 ∷ 0x00 ∷ []);
      fault = Some (record { code = 3; subcode = 2; info = 0x40 ∷ 0x11 ∷ 0x00 ∷ [] });
    }
    ∷  -- AS4_AGGREGATOR that is not optional
    record {
      frame = framed 2 (0x00 ∷ 0x00 ∷ 0x00 ∷ 0x03 ∷ 0x40 ∷ 0x12 ∷ 0x00 ∷ []);
      fault = Some (record { code = 3; subcode = 2; info = 0x40 ∷ 0x12 ∷ 0x00 ∷ [] });
    }
    ∷  -- the first attribute first
    record {
      frame = framed 2 (0x00 ∷ 0x00 ∷ 0x00 ∷ 0x07 ∷ 0x40 ∷ 0x63 ∷ 0x00 ∷ 0x40 ∷ 0x01 ∷ 0x01 ∷ 0x03 ∷ []);
      fault = Some (record { code = 3; subcode = 2; info = 0x40 ∷ 0x63 ∷ 0x00 ∷ [] });
    }
    ∷  -- ORIGIN is missing
    record { frame = framed 2 (0x00 ∷ 0x00 ∷ 0x00 ∷ 0x00 ∷ 0x08 ∷ 0x0A ∷ []); fault = Some (record { code = 3; subcode = 3; info = 0x01 ∷ [] }) }
    ∷  -- AS_PATH is missing
    record {
      frame = framed 2 (0x00 ∷ 0x00 ∷ 0x00 ∷ 0x0B ∷ 0x40 ∷ 0x01 ∷ 0x01 ∷ 0x00 ∷ 0x40 ∷ 0x03 ∷ 0x04 ∷ 0xC0 ∷ 0x00 ∷ 0x02 ∷ 0x01 ∷ 0x08 ∷ 0x0A ∷ []);
      fault = Some (record { code = 3; subcode = 3; info = 0x02 ∷ [] });
    }
    ∷  -- NEXT_HOP is missing
    record {
      frame = framed 2 (0x00 ∷ 0x00 ∷ 0x00 ∷ 0x0B ∷ 0x40 ∷ 0x01 ∷ 0x01 ∷ 0x00 ∷ 0x40 ∷ 0x02 ∷ 0x04 ∷ 0x02 ∷ 0x01 ∷ 0xFD ∷ 0xE9 ∷ 0x08 ∷ 0x0A ∷ []);
      fault = Some (record { code = 3; subcode = 3; info = 0x03 ∷ [] });
    }
    ∷  -- the first that is missing
    record {
      frame = framed 2 (0x00 ∷ 0x00 ∷ 0x00 ∷ 0x07 ∷ 0x40 ∷ 0x03 ∷ 0x04 ∷ 0xC0 ∷ 0x00 ∷ 0x02 ∷ 0x01 ∷ 0x08 ∷ 0x0A ∷ []);
      fault = Some (record { code = 3; subcode = 3; info = 0x01 ∷ [] });
    }
    ∷  -- AS_PATH is missing though AS4_PATH is there
    record {
      frame = framed 2 (0x00 ∷ 0x00 ∷ 0x00 ∷ 0x14 ∷ 0x40 ∷ 0x01 ∷ 0x01 ∷ 0x00 ∷ 0x40 ∷ 0x03 ∷ 0x04 ∷ 0xC0 ∷ 0x00
          ∷ 0x02 ∷ 0x01 ∷ 0xC0 ∷ 0x11 ∷ 0x06 ∷ 0x02 ∷ 0x01 ∷ 0x00 ∷ 0x00 ∷ 0xFD ∷ 0xE9 ∷ 0x08 ∷ 0x0A ∷ []);
      fault = Some (record { code = 3; subcode = 3; info = 0x02 ∷ [] });
    }
    ∷  -- what is missing before NLRI
    record { frame = framed 2 (0x00 ∷ 0x00 ∷ 0x00 ∷ 0x00 ∷ 0x21 ∷ []); fault = Some (record { code = 3; subcode = 3; info = 0x01 ∷ [] }) }
    ∷  -- NLRI length 33
    record {
      frame = framed 2 (0x00 ∷ 0x00 ∷ 0x00 ∷ 0x12 ∷ 0x40 ∷ 0x01 ∷ 0x01 ∷ 0x00 ∷ 0x40 ∷ 0x02 ∷ 0x04 ∷ 0x02 ∷ 0x01
          ∷ 0xFD ∷ 0xE9 ∷ 0x40 ∷ 0x03 ∷ 0x04 ∷ 0xC0 ∷ 0x00 ∷ 0x02 ∷ 0x01 ∷ 0x21 ∷ 0x00 ∷ 0x00 ∷ 0x00 ∷ 0x00 ∷ []);
      fault = Some (record { code = 3; subcode = 10; info = [] });
    }
    ∷  -- NLRI past the end
    record {
      frame = framed 2 (0x00 ∷ 0x00 ∷ 0x00 ∷ 0x12 ∷ 0x40 ∷ 0x01 ∷ 0x01 ∷ 0x00 ∷ 0x40 ∷ 0x02 ∷ 0x04 ∷ 0x02
          ∷ 0x01 ∷ 0xFD ∷ 0xE9 ∷ 0x40 ∷ 0x03 ∷ 0x04 ∷ 0xC0 ∷ 0x00 ∷ 0x02 ∷ 0x01 ∷ 0x18 ∷ 0x0A ∷ 0x00 ∷ []);
      fault = Some (record { code = 3; subcode = 10; info = [] });
    }
    ∷  -- an announcement
    record {
      frame = framed 2 (0x00 ∷ 0x00 ∷ 0x00 ∷ 0x12 ∷ 0x40 ∷ 0x01 ∷ 0x01 ∷ 0x00 ∷ 0x40 ∷ 0x02 ∷ 0x04 ∷ 0x02
          ∷ 0x01 ∷ 0xFD ∷ 0xE9 ∷ 0x40 ∷ 0x03 ∷ 0x04 ∷ 0xC0 ∷ 0x00 ∷ 0x02 ∷ 0x01 ∷ 0x08 ∷ 0x0A ∷ []);
      fault = None;
    }
    ∷  -- extended length on a short value
    record {
      frame = framed 2 (0x00 ∷ 0x00 ∷ 0x00 ∷ 0x13 ∷ 0x50 ∷ 0x01 ∷ 0x00 ∷ 0x01 ∷ 0x00 ∷ 0x40 ∷ 0x02 ∷ 0x04
          ∷ 0x02 ∷ 0x01 ∷ 0xFD ∷ 0xE9 ∷ 0x40 ∷ 0x03 ∷ 0x04 ∷ 0xC0 ∷ 0x00 ∷ 0x02 ∷ 0x01 ∷ 0x08 ∷ 0x0A ∷ []);
      fault = None;
    }
    ∷  -- dirty bits
    record {
      frame = framed 2 (0x00 ∷ 0x00 ∷ 0x00 ∷ 0x12 ∷ 0x40 ∷ 0x01 ∷ 0x01 ∷ 0x00 ∷ 0x40 ∷ 0x02 ∷ 0x04 ∷ 0x02
          ∷ 0x01 ∷ 0xFD ∷ 0xE9 ∷ 0x40 ∷ 0x03 ∷ 0x04 ∷ 0xC0 ∷ 0x00 ∷ 0x02 ∷ 0x01 ∷ 0x07 ∷ 0x0B ∷ 0x00 ∷ []);
      fault = None;
    }
    ∷  -- withdrawn and announced
    record {
      frame = framed 2 (0x00 ∷ 0x02 ∷ 0x08 ∷ 0x0A ∷ 0x00 ∷ 0x12 ∷ 0x40 ∷ 0x01 ∷ 0x01 ∷ 0x00 ∷ 0x40 ∷ 0x02 ∷ 0x04
          ∷ 0x02 ∷ 0x01 ∷ 0xFD ∷ 0xE9 ∷ 0x40 ∷ 0x03 ∷ 0x04 ∷ 0xC0 ∷ 0x00 ∷ 0x02 ∷ 0x01 ∷ 0x08 ∷ 0x0A ∷ []);
      fault = None;
    }
    ∷  -- the end of RIB
    record { frame = framed 2 (0x00 ∷ 0x00 ∷ 0x00 ∷ 0x00 ∷ []); fault = None }
    ∷  -- an empty path
    record {
      frame = framed 2 (0x00 ∷ 0x00 ∷ 0x00 ∷ 0x0E ∷ 0x40 ∷ 0x01 ∷ 0x01 ∷ 0x00 ∷ 0x40 ∷ 0x02
          ∷ 0x00 ∷ 0x40 ∷ 0x03 ∷ 0x04 ∷ 0xC0 ∷ 0x00 ∷ 0x02 ∷ 0x01 ∷ 0x08 ∷ 0x0A ∷ []);
      fault = None;
    }
    ∷  -- a malformed AS4_PATH is dropped
    record {
      frame = framed 2 (0x00 ∷ 0x00 ∷ 0x00 ∷ 0x16 ∷ 0x40 ∷ 0x01 ∷ 0x01 ∷ 0x00 ∷ 0x40 ∷ 0x02 ∷ 0x04 ∷ 0x02 ∷ 0x01 ∷ 0xFD
          ∷ 0xE9 ∷ 0x40 ∷ 0x03 ∷ 0x04 ∷ 0xC0 ∷ 0x00 ∷ 0x02 ∷ 0x01 ∷ 0xC0 ∷ 0x11 ∷ 0x01 ∷ 0x09 ∷ 0x08 ∷ 0x0A ∷ []);
      fault = None;
    }
    ∷  -- an unknown optional attribute
    record { frame = framed 2 (0x00 ∷ 0x00 ∷ 0x00 ∷ 0x04 ∷ 0x80 ∷ 0x63 ∷ 0x01 ∷ 0xFF ∷ []); fault = None }
    ∷ []

pub updates_hold : map (λ (row : Row). first_fault row.frame established) updates ≡ map (λ (row : Row). row.fault) updates
unfolding message_of header_fault body_of open_of update_of fields_of prefixes_of prefix_at many many_within attrs_in attrs_fault own_fault
    origin_in path_in next_hop_in med_in atomic_in aggregator_in other_in found_in all_known part_at attr_at cap_at caps_of params_of merged_path
updates_hold = refl

abbrev pub wide_updates : List Row
wide_updates =
    -- AGGREGATOR of 6 in a wide UPDATE
    record {
      frame = framed 2 (0x00 ∷ 0x00 ∷ 0x00 ∷ 0x09 ∷ 0xC0 ∷ 0x07 ∷ 0x06 ∷ 0xFD ∷ 0xE9 ∷ 0xC0 ∷ 0x00 ∷ 0x02 ∷ 0x01 ∷ []);
      fault = Some (record { code = 3; subcode = 5; info = 0xC0 ∷ 0x07 ∷ 0x06 ∷ 0xFD ∷ 0xE9 ∷ 0xC0 ∷ 0x00 ∷ 0x02 ∷ 0x01 ∷ [] });
    }
    ∷  -- AGGREGATOR of 8
    record { frame = framed 2 (0x00 ∷ 0x00 ∷ 0x00 ∷ 0x0B ∷ 0xC0 ∷ 0x07 ∷ 0x08 ∷ 0x00 ∷ 0x00 ∷ 0xFD ∷ 0xE9 ∷ 0xC0 ∷ 0x00 ∷ 0x02 ∷ 0x01 ∷ []); fault = None }
    ∷  -- a path of two octets an AS
    record {
      frame = framed 2 (0x00 ∷ 0x00 ∷ 0x00 ∷ 0x07 ∷ 0x40 ∷ 0x02 ∷ 0x04 ∷ 0x02 ∷ 0x01 ∷ 0xFD ∷ 0xE9 ∷ []);
      fault = Some (record { code = 3; subcode = 11; info = [] });
    }
    ∷  -- a wide path
    record { frame = framed 2 (0x00 ∷ 0x00 ∷ 0x00 ∷ 0x09 ∷ 0x40 ∷ 0x02 ∷ 0x06 ∷ 0x02 ∷ 0x01 ∷ 0x00 ∷ 0x00 ∷ 0xFD ∷ 0xE9 ∷ []); fault = None }
    ∷  -- AS4_PATH not optional in a wide UPDATE
    record {
      frame = framed 2 (0x00 ∷ 0x00 ∷ 0x00 ∷ 0x03 ∷ 0x40 ∷ 0x11 ∷ 0x00 ∷ []);
      fault = Some (record { code = 3; subcode = 2; info = 0x40 ∷ 0x11 ∷ 0x00 ∷ [] });
    }
    ∷ []

pub wide_updates_hold : map (λ (row : Row). first_fault row.frame wide_session) wide_updates ≡ map (λ (row : Row). row.fault) wide_updates
unfolding message_of header_fault body_of open_of update_of fields_of prefixes_of prefix_at many many_within attrs_in attrs_fault own_fault
    origin_in path_in next_hop_in med_in atomic_in aggregator_in other_in found_in all_known part_at attr_at cap_at caps_of params_of merged_path
wide_updates_hold = refl
