-- What each attribute gives, or its fault (RFC 4271, section 6.3).
use Rattle.std.specs.Prelude.{ℕ, ◌+◌, ◌==◌, List, [], ◌∷◌, ◌++◌, length, take, drop, get_or, Option, Some}
use Rattle.std.specs.Prelude.{None, Result, Ok, Err, Bool, not, bit_and, if◌then◌else◌, is_some}
use Rattle.std.specs.Int.{w32, from_be_bytes, byte_len}
use Rattle.bgp_types.specs.declared.attrs.Aggregator.{Aggregator}
use Rattle.bgp_types.specs.declared.attrs.Origin.{Origin}
use Rattle.bgp_types.specs.declared.attrs.Origin.TheVariants.{Igp, Egp, Incomplete}
use Rattle.bgp_types.specs.declared.attrs.RawAttr.{RawAttr}
use Rattle.bgp_types.specs.declared.message.Notice.{Notice}
use Rattle.bgp_types.specs.declared.path.PathPart.{PathPart}
use Rattle.bgp_types.specs.PathOctets.{as_width, path_of}
use Rattle.bgp_types.specs.WireAttrs.{WireAttr, attr_octets}
use Rattle.bgp_types.specs.Values.{is_no_host}

abbrev pub fault_in : {A : Type 0} → Result A Notice → Option Notice
fault_in (Ok x) = None
fault_in (Err n) = Some n

abbrev pub ok_in : {A : Type 0} → Result A Notice → Option A
ok_in (Ok x) = Some x
ok_in (Err n) = None

-- a fault of an UPDATE without data, and one whose data is the attribute, cut so that the
-- NOTIFICATION has at most 4,096 octets
abbrev pub bare : ℕ → Notice
bare subcode = record { code = 3; subcode = subcode; info = [] }

abbrev pub about : ℕ → List ℕ → Notice
about subcode octets = record { code = 3; subcode = subcode; info = take 4075 octets }

abbrev pub or_fault : {A : Type 0} → Option A → Notice → Result A Notice
or_fault (Some x) n = Ok x
or_fault None n = Err n

-- a fault if the optional and transitive flags aren't these, else the given result
abbrev pub with_flags : {A : Type 0} → ℕ → WireAttr → Result A Notice → Result A Notice
with_flags mode a read = if bit_and a.flags 192 == mode then read else Err (about 4 (attr_octets a))

abbrev pub with_size : {A : Type 0} → ℕ → WireAttr → Result A Notice → Result A Notice
with_size size a read = if length a.value == size then read else Err (about 5 (attr_octets a))

abbrev pub origin_of : ℕ → Option Origin
origin_of n = if n == 0 then Some Igp else if n == 1 then Some Egp else if n == 2 then Some Incomplete else None

unfoldable pub origin_in : WireAttr → Result Origin Notice
origin_in a = with_flags 64 a (with_size 1 a (or_fault (origin_of (get_or a.value 0 0)) (about 6 (attr_octets a))))

unfoldable pub path_in : Bool → WireAttr → Result (List PathPart) Notice
path_in wide a = with_flags 64 a (or_fault (path_of wide a.value) (bare 11))

abbrev pub host_in : WireAttr → ℕ → Result ℕ Notice
host_in a address = if is_no_host address then Err (about 8 (attr_octets a)) else Ok address

unfoldable pub next_hop_in : WireAttr → Result ℕ Notice
next_hop_in a = with_flags 64 a (with_size 4 a (host_in a (from_be_bytes w32 a.value)))

unfoldable pub med_in : WireAttr → Result ℕ Notice
med_in a = with_flags 128 a (with_size 4 a (Ok (from_be_bytes w32 a.value)))

unfoldable pub atomic_in : WireAttr → Result (Unit {0}) Notice
atomic_in a = with_flags 64 a (with_size 0 a (Ok tt))

abbrev pub is_partial : WireAttr → Bool
is_partial a = not (bit_and a.flags 32 == 0)

abbrev pub is_transitive : WireAttr → Bool
is_transitive a = not (bit_and a.flags 64 == 0)

-- an AS and an address of four octets
abbrev pub aggregator_of : Bool → WireAttr → Aggregator
aggregator_of wide a =
    let size = byte_len (as_width wide) in
    record { as_number = from_be_bytes (as_width wide) (take size a.value); address = from_be_bytes w32 (drop size a.value); partial = is_partial a }

unfoldable pub aggregator_in : Bool → WireAttr → Result Aggregator Notice
aggregator_in wide a = with_flags 192 a (with_size (byte_len (as_width wide) + 4) a (Ok (aggregator_of wide a)))

-- an attribute of an unknown type, which is kept if it is transitive
abbrev pub kept_raw : WireAttr → Option RawAttr
kept_raw a = if is_transitive a then Some (record { kind = a.kind; partial = is_partial a; bytes = a.value }) else None

unfoldable pub other_in : WireAttr → Result (Option RawAttr) Notice
other_in a = if bit_and a.flags 128 == 0 then Err (about 2 (attr_octets a)) else Ok (kept_raw a)

-- the checks of one attribute by itself: LOCAL_PREF (type 5) has none, AS4_PATH and AS4_AGGREGATOR (types 17 and 18) have those of an unknown type
unfoldable pub own_fault : Bool → WireAttr → Option Notice
own_fault wide a =
    if a.kind == 1 then fault_in (origin_in a)
    else if a.kind == 2 then fault_in (path_in wide a)
    else if a.kind == 3 then fault_in (next_hop_in a)
    else if a.kind == 4 then fault_in (med_in a)
    else if a.kind == 5 then None
    else if a.kind == 6 then fault_in (atomic_in a)
    else if a.kind == 7 then fault_in (aggregator_in wide a)
    else fault_in (other_in a)

-- the first attribute of a type
abbrev pub attr_of : ℕ → List WireAttr → Option WireAttr
attr_of kind [] = None
attr_of kind (a ∷ others) = if a.kind == kind then Some a else attr_of kind others

-- the fault of an attribute behind these: its type is one of theirs, or it has a fault of its own
abbrev pub fault_after : Bool → List WireAttr → WireAttr → Option Notice
fault_after wide before a = if is_some (attr_of a.kind before) then Some (bare 1) else own_fault wide a

abbrev pub earlier_notice : Option Notice → Option Notice → Option Notice
earlier_notice (Some n) later = Some n
earlier_notice None later = later

-- the first fault of the attributes from left to right; octets left at the end that are no whole attribute are one
unfoldable pub attrs_fault : Bool → List WireAttr → List WireAttr → List ℕ → Option Notice
attrs_fault wide before [] [] = None
attrs_fault wide before [] (octet ∷ rest) = Some (bare 1)
attrs_fault wide before (a ∷ others) rest = earlier_notice (fault_after wide before a) (attrs_fault wide (before ++ a ∷ []) others rest)
