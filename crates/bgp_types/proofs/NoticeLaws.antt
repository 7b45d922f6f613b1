-- Whatever fault is answered, the NOTIFICATION has room for its data.
use Rattle.std.proofs.Common.{◌≡◌, ℕ, ◌+◌, ◌≤◌, Bool, true, false, cond, eqb, List, [], ◌∷◌, ◌++◌, length}
use Rattle.std.proofs.Common.{length-take, Option, Some, None, Result, Ok, Err, refl, subst, arith}
use Rattle.std.specs.Prelude.{not, ◌&&◌, get_or, drop}
use Rattle.std.specs.Int.{w32, from_be_bytes, byte_len}
use Rattle.std.proofs.lemmas.Bool.Decides.{nat_tests}
use Rattle.bgp_types.specs.declared.attrs.Attrs.{Attrs}
use Rattle.bgp_types.specs.declared.fault.Expected.{Expected}
use Rattle.bgp_types.specs.declared.fault.FoundAttrs.{FoundAttrs}
use Rattle.bgp_types.specs.declared.fault.HeaderFault.{HeaderFault}
use Rattle.bgp_types.specs.declared.fault.HeaderFault.TheVariants.{NotSynchronized, BadLength, BadType}
use Rattle.bgp_types.specs.declared.message.Cap.{Cap}
use Rattle.bgp_types.specs.declared.message.Message.TheVariants as messages
use Rattle.bgp_types.specs.declared.message.Notice.{Notice}
use Rattle.bgp_types.specs.declared.message.OpenMsg.{OpenMsg}
use Rattle.bgp_types.specs.declared.message.Update.{Update}
use Rattle.bgp_types.specs.FirstFault.{first_fault, message_of, body_of, with_header, open_message, update_message, state_fault, notice_of}
use Rattle.bgp_types.specs.Faults.{fault_in, bare, about, or_fault, with_flags, with_size, origin_of, origin_in, path_in}
use Rattle.bgp_types.specs.Faults.{host_in, next_hop_in, med_in, atomic_in, aggregator_in, aggregator_of, other_in}
use Rattle.bgp_types.specs.Faults.{kept_raw, own_fault, fault_after, earlier_notice, attrs_fault}
use Rattle.bgp_types.specs.Found.{attrs_in, found_in, unless}
use Rattle.bgp_types.specs.Header.{header_fault, header_notice, kind_in}
use Rattle.bgp_types.specs.Many.{all_of, many}
use Rattle.bgp_types.specs.OpenBody.{cap_at, open_fault, with_caps, caps_of, params_of, with_params, as_said, is_field, is_said}
use Rattle.bgp_types.specs.OpenBody.{unless_fault, with_said, open_with, open_of, version_in, as_in, hold_in}
use Rattle.bgp_types.specs.OpenBody as opens
use Rattle.bgp_types.specs.PathOctets.{path_of, as_width}
use Rattle.bgp_types.specs.Prefixes.{PrefixValue, prefixes_of}
use Rattle.bgp_types.specs.Spelling.{spell}
use Rattle.bgp_types.specs.UpdateBody.{Fields, fields_of, with_known, all_known, with_nlri, with_found, with_withdrawn, with_fields, update_of}
use Rattle.bgp_types.specs.Values.{is_no_host, is_short_hold}
use Rattle.bgp_types.specs.WireAttrs.{WireAttr, attr_at, attr_octets}
use Rattle.bgp_types.specs.Writable.{IsWritable}
use Rattle.bgp_types.proofs.Lengths.{framed_size}

abbrev IsShort : Notice → Type 0
IsShort n = length n.info ≤ 4075

-- a reading, or a fault, whose data is short
abbrev Short : {A : Type 0} → Result A Notice → Type 0
Short (Ok x) = Unit {0}
Short (Err n) = IsShort n

abbrev ShortFault : Option Notice → Type 0
ShortFault None = Unit {0}
ShortFault (Some n) = IsShort n

about_short : (subcode : ℕ) (octets : List ℕ) → IsShort (about subcode octets)
about_short subcode octets = let l = length-take 4075 octets in grind (arith, nat_tests)

none_short : (code subcode : ℕ) → IsShort (record { code = code; subcode = subcode; info = [] })
none_short code subcode = omega arith

fault_short : {A : Type 0} (r : Result A Notice) → Short r → ShortFault (fault_in r)
fault_short (Ok x) s = tt
fault_short (Err n) s = s

-- ---- attributes

module _ {A : Type 0} where
  if_short : (t : Bool) (read : Result A Notice) (n : Notice) → Short read → IsShort n → Short (cond t read (Err n))
  if_short true read n r s = r
  if_short false read n r s = s

  flags_short : (mode : ℕ) (a : WireAttr) (read : Result A Notice) → Short read → Short (with_flags mode a read)
  flags_short mode a read r = if_short _ read (about 4 (attr_octets a)) r (about_short 4 (attr_octets a))

  size_short : (size : ℕ) (a : WireAttr) (read : Result A Notice) → Short read → Short (with_size size a read)
  size_short size a read r = if_short _ read (about 5 (attr_octets a)) r (about_short 5 (attr_octets a))

  or_short : (o : Option A) (n : Notice) → IsShort n → Short (or_fault o n)
  or_short (Some x) n s = tt
  or_short None n s = s

  unless_short : (t : Bool) (n : Notice) (later : Result A Notice) → IsShort n → Short later → Short (unless_fault t n later)
  unless_short true n later s l = s
  unless_short false n later s l = l

host_short : (a : WireAttr) (address : ℕ) → Short (host_in a address)
host_short a address = by_test (is_no_host address) where
  by_test : (t : Bool) → Short (cond t (Err (about 8 (attr_octets a))) (Ok address))
  by_test true = about_short 8 (attr_octets a)
  by_test false = tt

other_short : (a : WireAttr) → Short (other_in a)
unfolding other_in
other_short a = by_test _ where
  by_test : (t : Bool) → Short (cond t (Err (about 2 (attr_octets a))) (Ok (kept_raw a)))
  by_test true = about_short 2 (attr_octets a)
  by_test false = tt

origin_short : (a : WireAttr) → Short (origin_in a)
unfolding origin_in
origin_short a = flags_short 64 a _ (size_short 1 a _ (or_short (origin_of (get_or a.value 0 0)) _ (about_short 6 (attr_octets a))))

path_short : (wide : Bool) (a : WireAttr) → Short (path_in wide a)
unfolding path_in
path_short wide a = flags_short 64 a _ (or_short (path_of wide a.value) _ (none_short 3 11))

next_hop_short : (a : WireAttr) → Short (next_hop_in a)
unfolding next_hop_in
next_hop_short a = flags_short 64 a _ (size_short 4 a _ (host_short a (from_be_bytes w32 a.value)))

med_short : (a : WireAttr) → Short (med_in a)
unfolding med_in
med_short a = flags_short 128 a _ (size_short 4 a (Ok (from_be_bytes w32 a.value)) tt)

atomic_short : (a : WireAttr) → Short (atomic_in a)
unfolding atomic_in
atomic_short a = flags_short 64 a _ (size_short 0 a (Ok tt) tt)

aggregator_short : (wide : Bool) (a : WireAttr) → Short (aggregator_in wide a)
unfolding aggregator_in
aggregator_short wide a = flags_short 192 a _ (size_short (byte_len (as_width wide) + 4) a (Ok (aggregator_of wide a)) tt)

own_short : (wide : Bool) (a : WireAttr) → ShortFault (own_fault wide a)
unfolding own_fault
own_short wide a = by_kind (eqb a.kind 1) (eqb a.kind 2) (eqb a.kind 3) (eqb a.kind 4) (eqb a.kind 5) (eqb a.kind 6) (eqb a.kind 7) where
  by_kind : (t u v w x y z : Bool)
      → ShortFault (cond t (fault_in (origin_in a)) (cond u (fault_in (path_in wide a)) (cond v (fault_in (next_hop_in a))
      (cond w (fault_in (med_in a)) (cond x None (cond y (fault_in (atomic_in a)) (cond z (fault_in (aggregator_in wide a)) (fault_in (other_in a)))))))))
  by_kind true u v w x y z = fault_short (origin_in a) (origin_short a)
  by_kind false true v w x y z = fault_short (path_in wide a) (path_short wide a)
  by_kind false false true w x y z = fault_short (next_hop_in a) (next_hop_short a)
  by_kind false false false true x y z = fault_short (med_in a) (med_short a)
  by_kind false false false false true y z = tt
  by_kind false false false false false true z = fault_short (atomic_in a) (atomic_short a)
  by_kind false false false false false false true = fault_short (aggregator_in wide a) (aggregator_short wide a)
  by_kind false false false false false false false = fault_short (other_in a) (other_short a)

after_short : (wide : Bool) (before : List WireAttr) (a : WireAttr) → ShortFault (fault_after wide before a)
after_short wide before a = by_test _ where
  by_test : (t : Bool) → ShortFault (cond t (Some (bare 1)) (own_fault wide a))
  by_test true = none_short 3 1
  by_test false = own_short wide a

first_short : (one later : Option Notice) → ShortFault one → ShortFault later → ShortFault (earlier_notice one later)
first_short (Some n) later s l = s
first_short None later s l = l

attrs_short : (wide : Bool) (before attrs : List WireAttr) (rest : List ℕ) → ShortFault (attrs_fault wide before attrs rest)
unfolding attrs_fault
attrs_short wide before [] [] = tt
attrs_short wide before [] (octet ∷ rest) = none_short 3 1
attrs_short wide before (a ∷ others) rest = first_short _ _ (after_short wide before a) (attrs_short wide (before ++ a ∷ []) others rest)

read_short : (wide : Bool) (bytes : List ℕ) → Short (attrs_in wide bytes)
unfolding attrs_in
read_short wide bytes =
    of (attrs_fault wide [] (many attr_at bytes).0 (many attr_at bytes).1) (attrs_short wide [] (many attr_at bytes).0 (many attr_at bytes).1)
  where
    of : (o : Option Notice) → ShortFault o → Short (unless o (found_in wide (many attr_at bytes).0))
    of None s = tt
    of (Some n) s = s

-- ---- bodies

known_short : (found : FoundAttrs) → Short (all_known found)
unfolding all_known
known_short found = by_parts found.origin found.path found.next_hop where
  by_parts : (o : _) (p : _) (n : _) → Short (with_known o p n found)
  by_parts None p n = about_short 3 (1 ∷ [])
  by_parts (Some o) None n = about_short 3 (2 ∷ [])
  by_parts (Some o) (Some p) None = about_short 3 (3 ∷ [])
  by_parts (Some o) (Some p) (Some n) = tt

update_short : (wide : Bool) (body : List ℕ) → Short (update_of wide body)
unfolding update_of
update_short wide body = by_fields (fields_of body) where
  by_nlri : (withdrawn : List PrefixValue) (r : Result Attrs Notice) (nlri : Option (List PrefixValue)) → Short r → Short (with_nlri withdrawn r nlri)
  by_nlri withdrawn (Err n) nlri s = s
  by_nlri withdrawn (Ok a) None s = none_short 3 10
  by_nlri withdrawn (Ok a) (Some nlri) s = tt

  by_found : (withdrawn : List PrefixValue) (r : Result FoundAttrs Notice) (nlri : List ℕ) → Short r → Short (with_found withdrawn r nlri)
  by_found withdrawn (Err n) nlri s = s
  by_found withdrawn (Ok found) [] s = tt
  by_found withdrawn (Ok found) (b ∷ nlri) s = by_nlri withdrawn (all_known found) (prefixes_of (b ∷ nlri)) (known_short found)

  by_withdrawn : (o : Option (List PrefixValue)) (f : Fields) → Short (with_withdrawn wide o f)
  by_withdrawn None f = none_short 3 10
  by_withdrawn (Some withdrawn) f = by_found withdrawn (attrs_in wide f.attrs) f.nlri (read_short wide f.attrs)

  by_fields : (o : Option Fields) → Short (with_fields wide o)
  by_fields None = none_short 3 1
  by_fields (Some f) = by_withdrawn (prefixes_of f.withdrawn) f

with_short : (o : Option (List Cap)) (later : Result (List Cap) Notice) → Short later → Short (with_caps o later)
with_short None later s = none_short 2 0
with_short (Some caps) (Err n) s = s
with_short (Some caps) (Ok later) s = tt

caps_short : (params : List Cap) → Short (caps_of params)
unfolding caps_of
caps_short [] = tt
caps_short (param ∷ params) = if_short (eqb param.code 2) (with_caps (all_of cap_at param.bytes) (caps_of params))
    (open_fault 4) (with_short (all_of cap_at param.bytes) (caps_of params) (caps_short params)) (none_short 2 4)

params_short : (o : Option (List Cap)) → Short (with_params o)
params_short None = none_short 2 0
params_short (Some ps) = caps_short ps

said_short : (expected : Expected) (body : List ℕ) (r : Result (List Cap) Notice) → Short r → Short (with_said expected body r)
said_short expected body (Err n) s = s
said_short expected body (Ok caps) s = unless_short (expected.offered && not (is_said expected.remote_as (as_in body) (as_said caps)))
    (open_fault 2) (Ok (open_with body caps)) (none_short 2 2) tt

open_short : (expected : Expected) (body : List ℕ) → Short (open_of expected body)
unfolding open_of
open_short expected body =
    unless_short (not (eqb (version_in body) 4)) _ _ (let two : length {A = ℕ} (0 ∷ 4 ∷ []) ≤ 4075 = omega arith in two)
    (unless_short (not expected.offered && not (is_field expected.remote_as (as_in body))) _ _ (none_short 2 2)
    (unless_short (is_short_hold (hold_in body)) _ _ (none_short 2 6)
    (unless_short (is_no_host (opens.identifier_in body)) _ _ (none_short 2 3)
    (said_short expected body (with_params (params_of (drop 9 body))) (params_short (params_of (drop 9 body)))))))

-- ---- frames

body_short : (expected : Expected) (kind : ℕ) (body : List ℕ) → Short (body_of expected kind body)
unfolding body_of
body_short expected kind body = by_kind (eqb kind 1) (eqb kind 2) (eqb kind 3) where
  opened : (r : Result OpenMsg Notice) → Short r → Short (open_message r)
  opened (Ok o) s = tt
  opened (Err n) s = s

  updated : (r : Result Update Notice) → Short r → Short (update_message r)
  updated (Ok u) s = tt
  updated (Err n) s = s

  by_kind : (t u v : Bool)
      → Short (cond t (open_message (open_of expected body))
      (cond u (update_message (update_of expected.wide body)) (cond v (Ok (messages.NoticeMsg (notice_of body))) (Ok messages.KeepaliveMsg))))
  by_kind true u v = opened (open_of expected body) (open_short expected body)
  by_kind false true v = updated (update_of expected.wide body) (update_short expected.wide body)
  by_kind false false true = tt
  by_kind false false false = tt

header_short : (fault : HeaderFault) → IsShort (header_notice fault)
header_short NotSynchronized = none_short 1 1
header_short (BadLength len) = let two : length (Rattle.std.specs.Int.to_be_bytes Rattle.std.specs.Int.w16 len) ≡ 2 = refl in omega arith
header_short (BadType kind) = let one : length (kind ∷ []) ≤ 4075 = omega arith in one

message_short : (expected : Expected) (frame : List ℕ) → Short (message_of expected frame)
unfolding message_of
message_short expected frame = by_header (header_fault frame) where
  by_state : (t : Bool) → Short (cond t (body_of expected (kind_in frame) (drop 19 frame)) (Err state_fault))
  by_state true = body_short expected (kind_in frame) (drop 19 frame)
  by_state false = none_short 5 0

  by_header : (o : Option HeaderFault) → Short (with_header o expected frame)
  by_header (Some fault) = header_short fault
  by_header None = by_state _

pub fault_writable : (frame : List ℕ) (expected : Expected) (n : Notice) (wide : Bool) → first_fault frame expected ≡ Some n
    → IsWritable (messages.NoticeMsg n) wide
unfolding spell
fault_writable frame expected n wide e =
    let s : IsShort n = subst ShortFault e (fault_short (message_of expected frame) (message_short expected frame)) in
    let size = framed_size 3 (n.code ∷ n.subcode ∷ n.info) in
    record { body = tt; size = omega arith }
