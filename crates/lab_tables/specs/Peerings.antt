-- Costs, peerings and planned faults.
use Rattle.std.specs.Prelude.{ℕ, ◌==◌, nat_lt, Bool, true, false, not, ◌&&◌, List, [], ◌∷◌, ◌++◌, Option, codes, if◌then◌else◌}
use Rattle.std.specs.List.{list_any}
use Rattle.std.specs.Str.{bytes_eq}
use Rattle.toml.specs.Data.{Data, table, Members}
use Rattle.std.specs.Int.{w32, to_be_bytes}
use Rattle.bgp_types.specs.declared.message.Cap.{Cap}
use Rattle.bgp_types.specs.declared.message.Message.TheVariants.{OpenMsg, KeepaliveMsg}
use Rattle.bgp_types.specs.PathOctets.{narrow_as}
use Rattle.bgp_types.specs.Spelling.{spell}
use Rattle.tcp_seq.specs.declared.segment.Way.{Way}
use Rattle.tcp_seq.specs.declared.segment.Way.TheVariants.{Remote}
use Rattle.link_bag.specs.declared.plan.Fault.{Fault}
use Rattle.link_bag.specs.declared.plan.FaultKind.{FaultKind}
use Rattle.link_bag.specs.declared.plan.FaultKind.TheVariants.{Lose, Stray}
use Rattle.lab_keys.specs.declared.flaw.Flaw.{Flaw}
use Rattle.lab_keys.specs.declared.flaw.Flaw.TheVariants.{Shape}
use Rattle.lab_keys.specs.declared.key.Kind.TheVariants as kinds
use Rattle.lab_keys.specs.declared.key.Kind.TheVariants.{Number, HoldTime, Name, Host, Flag, Hex, Misplaced}
use Rattle.lab_keys.specs.declared.table_at.TableAt.TheVariants as tables
use Rattle.lab_keys.specs.declared.words.StepWord.{StepWord}
use Rattle.lab_keys.specs.declared.words.StepWord.TheVariants.{SaysRaw}
use Rattle.lab_keys.specs.KeyRows.{KeyRow}
use Rattle.lab_keys.specs.Spots.{spot_of}
use Rattle.lab_keys.specs.Kinds.{first_of, flaw_if}
use Rattle.lab_keys.specs.Keys.{required, optional, keys_flaw, stray_flaw, names_of}
use Rattle.lab_keys.specs.Values.{has_member, text_at, maybe_text, number_or, flag_or, address_or, octets_at, items_at}
use Rattle.lab_tables.specs.declared.input.CostInput.{CostInput}
use Rattle.lab_tables.specs.declared.input.PeeringInput.{PeeringInput}
use Rattle.lab_tables.specs.Meanings.{index_of_name, way_at, fault_kind_at, word_at}

-- ---- costs

abbrev pub cost_ends : List KeyRow
cost_ends = required (codes "from") Name ∷ required (codes "to") Name ∷ []

abbrev pub cost_rest : List KeyRow
cost_rest = required (codes "cost") (Number 0 65535) ∷ []

abbrev pub cost_flaw : ℕ → Members → Option Flaw
cost_flaw i t = first_of (
    keys_flaw (tables.Cost i) cost_ends t
    ∷ flaw_if (bytes_eq (text_at (codes "to") t) (text_at (codes "from") t)) (Shape (spot_of (tables.Cost i) (codes "to")))
    ∷ keys_flaw (tables.Cost i) cost_rest t
    ∷ stray_flaw (tables.Cost i) (names_of (cost_ends ++ cost_rest)) t
    ∷ [])

abbrev pub cost_of : List (List ℕ) → Members → CostInput
cost_of routers t = record {
  from = record { 0 = index_of_name routers (text_at (codes "from") t) };
  to = record { 0 = index_of_name routers (text_at (codes "to") t) };
  cost = number_or 32 0 (codes "cost") t;
}

-- ---- peerings

abbrev pub peering_ends : List KeyRow
peering_ends = required (codes "name") Name ∷ required (codes "at") Name ∷ required (codes "remote_as") (Number 1 4294967295) ∷ []

abbrev pub peering_rest : List KeyRow
peering_rest =
    required (codes "remote_address") Host
    ∷ required (codes "local_address") Host
    ∷ optional (codes "remote_id") Host
    ∷ optional (codes "import") Name
    ∷ optional (codes "export") Name
    ∷ optional (codes "home_seq") (Number 0 4294967295)
    ∷ optional (codes "remote_seq") (Number 0 4294967295)
    ∷ optional (codes "hold") HoldTime
    ∷ optional (codes "opening") (Hex 0 4096)
    ∷ optional (codes "as4") Flag
    ∷ optional (codes "remote_as4") Flag
    ∷ optional (codes "home_hold") HoldTime
    ∷ optional (codes "beats") Flag
    ∷ []

abbrev pub peering_last : List KeyRow
peering_last = optional (codes "unicast") Flag ∷ []

abbrev pub is_raw : StepWord → Bool
is_raw SaysRaw = true
is_raw _ = false

-- the step says raw octets on the peering of this name
abbrev pub is_raw_of : List ℕ → Data → Bool
is_raw_of name (table t) = is_raw (word_at t) && bytes_eq (text_at (codes "peering") t) name
is_raw_of name _ = false

-- A remote can send KEEPALIVEs of its own if both sides' hold times are above 0 and all that it says is said by its steps and the default opening.
abbrev pub may_beat : Members → Members → Bool
may_beat doc t =
    nat_lt 0 (number_or 16 0 (codes "home_hold") t) && nat_lt 0 (number_or 16 180 (codes "hold") t)
    && not (has_member (codes "opening") t) && not (list_any (is_raw_of (text_at (codes "name") t)) (items_at (codes "step") doc))

abbrev pub peering_flaw : Members → ℕ → Members → Option Flaw
peering_flaw doc i t = first_of (
    keys_flaw (tables.Peering i) peering_ends t
    ∷ flaw_if (number_or 32 0 (codes "remote_as") t == number_or 32 0 (codes "home_as") doc) (Shape (spot_of (tables.Peering i) (codes "remote_as")))
    ∷ keys_flaw (tables.Peering i) peering_rest t
    ∷ flaw_if (flag_or false (codes "beats") t && not (may_beat doc t)) (Shape (spot_of (tables.Peering i) (codes "beats")))
    ∷ keys_flaw (tables.Peering i) peering_last t
    ∷ stray_flaw (tables.Peering i) (names_of (peering_ends ++ peering_rest ++ peering_last)) t
    ∷ [])

-- capability 65, support for four-octet AS numbers (RFC 6793, section 3)
abbrev pub offered_caps : Bool → ℕ → List Cap
offered_caps offers as_number = if offers then record { code = 65; bytes = to_be_bytes w32 as_number } ∷ [] else []

-- an OPEN and a KEEPALIVE
abbrev pub default_opening : (remote_as hold remote_id : ℕ) → (as4 : Bool) → List ℕ
default_opening remote_as hold remote_id as4 =
    spell (OpenMsg (record { as_number = narrow_as remote_as; hold = hold; identifier = remote_id; caps = offered_caps as4 remote_as })) false
    ++ spell KeepaliveMsg false

abbrev pub remote_id_of : Members → ℕ
remote_id_of t = address_or (address_or 0 (codes "remote_address") t) (codes "remote_id") t

abbrev pub remote_as4_of : Members → Bool
remote_as4_of t = flag_or (flag_or false (codes "as4") t) (codes "remote_as4") t

abbrev pub opening_of : Members → List ℕ
opening_of t =
    if has_member (codes "opening") t then octets_at (codes "opening") t
    else default_opening (number_or 32 0 (codes "remote_as") t) (number_or 16 180 (codes "hold") t) (remote_id_of t) (remote_as4_of t)

abbrev pub peering_input : Members → List (List ℕ) → Members → PeeringInput
peering_input doc routers t = record {
  name = text_at (codes "name") t;
  at = record { 0 = index_of_name routers (text_at (codes "at") t) };
  remote_as = number_or 32 0 (codes "remote_as") t;
  remote_address = address_or 0 (codes "remote_address") t;
  local_address = address_or 0 (codes "local_address") t;
  remote_id = remote_id_of t;
  «import» = maybe_text (codes "import") t;
  export = maybe_text (codes "export") t;
  home_seq = number_or 32 1000 (codes "home_seq") t;
  remote_seq = number_or 32 5000 (codes "remote_seq") t;
  hold = number_or 16 180 (codes "hold") t;
  opening = opening_of t;
  as4 = flag_or false (codes "as4") t;
  remote_as4 = remote_as4_of t;
  home_hold = number_or 16 0 (codes "home_hold") t;
  beats = flag_or (may_beat doc t) (codes "beats") t;
  unicast = flag_or false (codes "unicast") t;
}

-- ---- planned faults

abbrev pub fault_keys : List KeyRow
fault_keys =
    required (codes "peering") Name
    ∷ required (codes "way") kinds.Way
    ∷ required (codes "segment") (Number 1 1000000)
    ∷ required (codes "kind") kinds.FaultKind
    ∷ []

abbrev pub is_lost : FaultKind → Bool
is_lost Lose = true
is_lost _ = false

-- a lost segment has no later time
abbrev pub after_keys : Bool → List KeyRow
after_keys lost = (if lost then optional (codes "after") Misplaced else required (codes "after") (Number 1 6)) ∷ []

-- a copy strays that goes to the remote; only what goes home can stray
abbrev pub strays_out : FaultKind → Way → Bool
strays_out Stray Remote = true
strays_out _ _ = false

abbrev pub fault_flaw : ℕ → Members → Option Flaw
fault_flaw i t = first_of (
    keys_flaw (tables.Fault i) fault_keys t
    ∷ flaw_if (strays_out (fault_kind_at t) (way_at t)) (Shape (spot_of (tables.Fault i) (codes "kind")))
    ∷ keys_flaw (tables.Fault i) (after_keys (is_lost (fault_kind_at t))) t
    ∷ stray_flaw (tables.Fault i) (names_of (fault_keys ++ after_keys true)) t
    ∷ [])

abbrev pub fault_of : List (List ℕ) → Members → Fault
fault_of peerings t = record {
  peering = record { 0 = index_of_name peerings (text_at (codes "peering") t) };
  way = way_at t;
  segment = number_or 32 0 (codes "segment") t;
  kind = fault_kind_at t;
  after = number_or 32 0 (codes "after") t;
}
