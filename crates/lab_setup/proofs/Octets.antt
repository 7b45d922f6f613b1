-- What is written are octets: the openings and UPDATEs of remotes.
use Rattle.std.proofs.Common.{◌≡◌, ℕ, zero, suc, ◌+◌, ◌%◌, ◌^◌, ◌/◌, ◌<◌, ◌≤◌, Bool, true, false, cond, List, []}
use Rattle.std.proofs.Common.{◌∷◌, ◌++◌, length, take, map, refl, sym, subst, arith, lit<, nat_lt}
use Rattle.std.specs.Prelude.{◌==◌, Option, Some, None, All, Result, Ok, Err}
use Rattle.std.specs.Result.{result_unwrap_or}
use Rattle.std.specs.Int.{Width, w16, w32, byte_at, bytes_high_first, byte_len, to_be_bytes}
use Rattle.std.specs.List.{AllByRecursion, flat_map, list_all}
use Rattle.std.proofs.lemmas.Bool.{and_parts}
use Rattle.std.proofs.lemmas.Bool.Decides.{nat_tests}
use Rattle.std.proofs.lemmas.List.{length-map}
use Rattle.std.proofs.lemmas.List.Elements.{recursion_from_All}
use Rattle.hex.specs.Hex.{decode_pairs}
use Rattle.hex.specs.declared.error.FromHexError.{FromHexError}
use Rattle.hex.specs.declared.error.FromHexError.TheVariants.{OddLength}
use Rattle.hex.proofs.HexLemmas.{decode_pairs-ok}
use Rattle.bgp_types.specs.declared.attrs.Aggregator.{Aggregator}
use Rattle.bgp_types.specs.declared.attrs.Attrs.{Attrs}
use Rattle.bgp_types.specs.declared.attrs.Origin.{Origin}
use Rattle.bgp_types.specs.declared.attrs.Origin.TheVariants.{Igp, Egp, Incomplete}
use Rattle.bgp_types.specs.declared.attrs.RawAttr.{RawAttr}
use Rattle.bgp_types.specs.declared.message.Message.TheVariants.{UpdateMsg}
use Rattle.bgp_types.specs.declared.message.Update.{Update}
use Rattle.bgp_types.specs.declared.path.PathPart.{PathPart}
use Rattle.bgp_types.specs.declared.path.PathPart.TheVariants.{Set, Sequence}
use Rattle.bgp_types.specs.OctetLists.{AreOctets}
use Rattle.bgp_types.specs.PathOctets.{as_width, part_octets, path_octets, path_in_width, narrow_part, narrow_as, has_long_as, is_long_as}
use Rattle.bgp_types.specs.Paths.{ases_of}
use Rattle.bgp_types.specs.Prefixes.{PrefixValue, IsPrefix, octets_for, prefix_octets}
use Rattle.bgp_types.specs.Rising.{in_rising}
use Rattle.bgp_types.specs.Spelling.{origin_written, med_written, atomic_written, passed_flags, aggregator_octets, aggregator_written}
use Rattle.bgp_types.specs.Spelling.{as4_path_written, as4_aggregator_written, other_written, attrs_written, spell_attrs}
use Rattle.bgp_types.specs.Spelling.{length_prefixed, spell_prefixes, spell_some_attrs, spell_update, marker, framed, spell}
use Rattle.bgp_types.specs.WireAttrs.{WireAttr, wire_kind, size_width, attr_octets, written}
use Rattle.bgp_types.specs.Writable.{IsPart}
use Rattle.bgp_types.proofs.OrderLaws.{all_rising}
use Rattle.lab_keys.specs.Texts.{octets_in}
use Rattle.lab_tables.specs.Peerings.{default_opening}
use Rattle.lab_tables.proofs.Openings.{plain_head, wide_head, keepalive, plain_is, wide_is}
use Rattle.lab_setup.proofs.Lists.{all_append, all_mapped}

abbrev IsOctet : ℕ → Type 0
IsOctet x = x < 256

abbrev Each : List ℕ → Type 0
Each bytes = AllByRecursion IsOctet bytes

pub octets_are : (bytes : List ℕ) → AllByRecursion (λ x. x < 256) bytes → AreOctets bytes
octets_are [] all i = lit< tt
octets_are (x ∷ xs) all zero = all.0
octets_are (x ∷ xs) all (suc i) = octets_are xs all.1 i

-- ---- lists

joined : (xs ys : List ℕ) → Each xs → Each ys → Each (xs ++ ys)
joined xs ys front back = all_append IsOctet xs ys front back

each_flat : {A : Type 0} (f : A → List ℕ) (P : A → Type 0) → ((x : A) → P x → Each (f x)) → (xs : List A) → AllByRecursion P xs → Each (flat_map f xs)
each_flat f P each [] ps = tt
each_flat f P each (x ∷ xs) ps = joined (f x) (flat_map f xs) (each x ps.0) (each_flat f P each xs ps.1)

each_take : (n : ℕ) (xs : List ℕ) → Each xs → Each (take n xs)
each_take zero xs all = tt
each_take (suc n) [] all = tt
each_take (suc n) (x ∷ xs) all = (all.0, each_take n xs all.1)

below : (x : ℕ) → nat_lt x 256 ≡ true → x < 256
below x e = grind (arith, nat_tests)

-- a list whose members are written out
tested : (xs : List ℕ) → list_all (λ x. nat_lt x 256) xs ≡ true → Each xs
tested [] e = tt
tested (x ∷ xs) e = let parts = and_parts (nat_lt x 256) (list_all (λ y. nat_lt y 256) xs) e in (below x parts.0, tested xs parts.1)

-- ---- numbers

remainder : (m : ℕ) → m % 256 < 256
remainder m = omega arith

byte_small : (k n : ℕ) → byte_at k n < 256
byte_small zero n = remainder n
byte_small (suc k) n = remainder (n / 256 ^ suc k)

high_bytes : (k n : ℕ) → Each (bytes_high_first k n)
high_bytes zero n = tt
high_bytes (suc k) n = (byte_small k n, high_bytes k n)

number_each : (w : Width) (n : ℕ) → Each (to_be_bytes w n)
number_each w n = high_bytes (byte_len w) n

numbers_each : (w : Width) (ns : List ℕ) → Each (flat_map (to_be_bytes w) ns)
numbers_each w [] = tt
numbers_each w (n ∷ ns) = joined (to_be_bytes w n) (flat_map (to_be_bytes w) ns) (number_each w n) (numbers_each w ns)

prefix_each : (p : PrefixValue) → IsPrefix p → Each (prefix_octets p)
prefix_each p is = let len = is.len in (omega arith, each_take (octets_for p.len) (to_be_bytes w32 p.address) (number_each w32 p.address))

prefixes_each : (ps : List PrefixValue) → All IsPrefix ps → Each (spell_prefixes ps)
prefixes_each ps all = each_flat prefix_octets IsPrefix prefix_each ps (recursion_from_All IsPrefix ps all)

-- ---- attributes

record IsOctetAttr (a : WireAttr) : Type 0 where
  flags : a.flags < 256
  kind : a.kind < 256
  value : Each a.value

attr_each : (a : WireAttr) → IsOctetAttr a → Each (attr_octets a)
attr_each a is =
    (is.flags, (is.kind, joined (to_be_bytes (size_width a.flags) (length a.value)) a.value (number_each (size_width a.flags) (length a.value)) is.value))

written_each : (flags kind : ℕ) (value : List ℕ) → flags ≤ 224 → kind < 256 → Each value → IsOctetAttr (written flags kind value)
written_each flags kind value low small each = record { flags = by_test (nat_lt 255 (length value)); kind = small; value = each } where
  by_test : (t : Bool) → cond t (flags + 16) flags < 256
  by_test true = omega arith
  by_test false = omega arith

abbrev IsShort : PathPart → Type 0
IsShort part = length (ases_of part) < 256

part_each : (wide : Bool) (part : PathPart) → IsShort part → Each (part_octets wide part)
part_each wide (Set ases) few = (omega arith, (few, numbers_each (as_width wide) ases))
part_each wide (Sequence ases) few = (omega arith, (few, numbers_each (as_width wide) ases))

path_each : (wide : Bool) (path : List PathPart) → AllByRecursion IsShort path → Each (path_octets wide path)
unfolding path_octets
path_each wide path few = each_flat (part_octets wide) IsShort (part_each wide) path few

narrow_short : (part : PathPart) → IsShort part → IsShort (narrow_part part)
narrow_short (Set ases) few = let same = length-map ases narrow_as in omega arith
narrow_short (Sequence ases) few = let same = length-map ases narrow_as in omega arith

in_width_each : (wide : Bool) (path : List PathPart) → AllByRecursion IsShort path → Each (path_octets wide (path_in_width wide path))
in_width_each true path few = path_each true path few
in_width_each false path few = path_each false (map narrow_part path) (all_mapped narrow_part IsShort IsShort narrow_short path few)

abbrev Written : List WireAttr → Type 0
Written attrs = AllByRecursion IsOctetAttr attrs

origin_each : (origin : Origin) → IsOctetAttr (origin_written origin)
origin_each Igp = written_each 64 1 (0 ∷ []) (omega arith) (omega arith) (omega arith, tt)
origin_each Egp = written_each 64 1 (1 ∷ []) (omega arith) (omega arith) (omega arith, tt)
origin_each Incomplete = written_each 64 1 (2 ∷ []) (omega arith) (omega arith) (omega arith, tt)

med_each : (med : Option ℕ) → Written (med_written med)
med_each None = tt
med_each (Some med) = (written_each 128 4 (to_be_bytes w32 med) (omega arith) (omega arith) (number_each w32 med), tt)

atomic_each : (atomic : Bool) → Written (atomic_written atomic)
atomic_each true = (written_each 64 6 [] (omega arith) (omega arith) tt, tt)
atomic_each false = tt

aggregator_octets_each : (wide : Bool) (as_number address : ℕ) → Each (aggregator_octets wide as_number address)
aggregator_octets_each wide as_number address =
    joined (to_be_bytes (as_width wide) as_number) (to_be_bytes w32 address) (number_each (as_width wide) as_number) (number_each w32 address)

passed_low : (partial : Bool) → passed_flags partial ≤ 224
passed_low true = omega arith
passed_low false = omega arith

aggregator_each : (wide : Bool) (o : Option Aggregator) → Written (aggregator_written wide o)
aggregator_each wide None = tt
aggregator_each wide (Some a) = (
  written_each (passed_flags a.partial) 7 (aggregator_octets wide (cond wide a.as_number (narrow_as a.as_number)) a.address)
      (passed_low a.partial) (omega arith)
      (aggregator_octets_each wide (cond wide a.as_number (narrow_as a.as_number)) a.address),
  tt,
)

as4_path_each : (wide : Bool) (path : List PathPart) → AllByRecursion IsShort path → Written (as4_path_written wide path)
as4_path_each true path few = tt
as4_path_each false path few = by_test (has_long_as path) where
  by_test : (t : Bool) → Written (cond t (written 192 17 (path_octets true path) ∷ []) [])
  by_test true = (written_each 192 17 (path_octets true path) (omega arith) (omega arith) (path_each true path few), tt)
  by_test false = tt

as4_aggregator_each : (wide : Bool) (o : Option Aggregator) → Written (as4_aggregator_written wide o)
as4_aggregator_each wide None = tt
as4_aggregator_each true (Some a) = tt
as4_aggregator_each false (Some a) = by_test (is_long_as a.as_number) where
  octets : List ℕ
  octets = aggregator_octets true a.as_number a.address

  by_test : (t : Bool) → Written (cond t (written 192 18 octets ∷ []) [])
  by_test true = (written_each 192 18 octets (omega arith) (omega arith) (aggregator_octets_each true a.as_number a.address), tt)
  by_test false = tt

-- attributes whose octets are known: each part of the path has a count of one octet, and no attribute is of an unknown type
pub record HasOctets (a : Attrs) : Type 0 where
  pub path : All IsPart a.path
  pub unknown : a.unknown ≡ []

shorter : (path : List PathPart) → AllByRecursion IsPart path → AllByRecursion IsShort path
shorter [] all = tt
shorter (part ∷ path) all = (all.0.count, shorter path all.1)

module _ (wide : Bool) (a : Attrs) (has : HasOctets a) where
  short : AllByRecursion IsShort a.path
  short = shorter a.path (recursion_from_All IsPart a.path has.path)

  others_each : Written (map other_written a.unknown)
  others_each = subst (λ (others : List RawAttr). Written (map other_written others)) (sym has.unknown) tt

  and_then : (xs ys : List WireAttr) → Written xs → Written ys → Written (xs ++ ys)
  and_then xs ys front back = all_append IsOctetAttr xs ys front back

  written_all : Written (attrs_written wide a)
  unfolding attrs_written
  written_all =
      let second = as4_aggregator_written wide a.aggregator in
      let others = map other_written a.unknown in
      let fourth = as4_path_written wide a.path in
      let aggregator = aggregator_written wide a.aggregator in
      let atomic = atomic_written a.atomic in
      let med = med_written a.med in (
        origin_each a.origin,
        (
          written_each 64 2 (path_octets wide (path_in_width wide a.path)) (omega arith) (omega arith) (in_width_each wide a.path short),
          (
            written_each 64 3 (to_be_bytes w32 a.next_hop) (omega arith) (omega arith) (number_each w32 a.next_hop),
            and_then med _ (med_each a.med) (and_then atomic _ (atomic_each a.atomic) (and_then aggregator _ (aggregator_each wide a.aggregator)
                (and_then fourth _ (as4_path_each wide a.path short) (and_then second others (as4_aggregator_each wide a.aggregator) others_each)))),
          ),
        ),
      )

  attrs_each : Each (spell_attrs wide a)
  unfolding spell_attrs
  attrs_each = each_flat attr_octets IsOctetAttr attr_each (in_rising wire_kind (attrs_written wide a))
      (all_rising IsOctetAttr wire_kind (attrs_written wide a) written_all)

-- ---- UPDATEs

abbrev pub HaveOctets : Option Attrs → Type 0
HaveOctets None = Unit {0}
HaveOctets (Some a) = HasOctets a

some_each : (wide : Bool) (o : Option Attrs) → HaveOctets o → Each (spell_some_attrs wide o)
some_each wide None has = tt
some_each wide (Some a) has = attrs_each wide a has

counted_each : (octets : List ℕ) → Each octets → Each (length_prefixed octets)
counted_each octets each = joined (to_be_bytes w16 (length octets)) octets (number_each w16 (length octets)) each

pub update_octets : (wide : Bool) (u : Update) → All IsPrefix u.withdrawn → All IsPrefix u.nlri → HaveOctets u.attrs → AreOctets (spell (UpdateMsg u) wide)
unfolding spell
update_octets wide u withdrawn nlri has =
    let gone = spell_prefixes u.withdrawn in
    let attrs = spell_some_attrs wide u.attrs in
    let come = spell_prefixes u.nlri in
    let body = spell_update wide u in
    let body_each : Each body =
    joined (length_prefixed gone) (length_prefixed attrs ++ come) (counted_each gone (prefixes_each u.withdrawn withdrawn))
    (joined (length_prefixed attrs) come (counted_each attrs (some_each wide u.attrs has)) (prefixes_each u.nlri nlri)) in
    let len = to_be_bytes w16 (19 + length body) in
    octets_are (framed 2 body)
    (joined marker (len ++ 2 ∷ body) (tested marker refl) (joined len (2 ∷ body) (number_each w16 (19 + length body)) (omega arith, body_each)))

-- ---- openings

default_octets : (as_number hold identifier : ℕ) (as4 : Bool) → AreOctets (default_opening as_number hold identifier as4)
default_octets a h i false =
    let tail : List ℕ = 0 ∷ keepalive in
    let fourth = to_be_bytes w32 i ++ tail in
    let third = to_be_bytes w16 h ++ fourth in
    let second = to_be_bytes w16 (narrow_as a) ++ third in
    let each : Each (plain_head ++ second) =
    joined plain_head second (tested plain_head refl)
    (joined (to_be_bytes w16 (narrow_as a)) third (number_each w16 (narrow_as a))
    (joined (to_be_bytes w16 h) fourth (number_each w16 h)
    (joined (to_be_bytes w32 i) tail (number_each w32 i) (tested tail refl)))) in
    subst AreOctets (plain_is a h i) (octets_are (plain_head ++ second) each)
default_octets a h i true =
    let cap : List ℕ = 8 ∷ 2 ∷ 6 ∷ 65 ∷ 4 ∷ [] in
    let sixth = to_be_bytes w32 a ++ keepalive in
    let fifth = cap ++ sixth in
    let fourth = to_be_bytes w32 i ++ fifth in
    let third = to_be_bytes w16 h ++ fourth in
    let second = to_be_bytes w16 (narrow_as a) ++ third in
    let each : Each (wide_head ++ second) =
    joined wide_head second (tested wide_head refl)
    (joined (to_be_bytes w16 (narrow_as a)) third (number_each w16 (narrow_as a))
    (joined (to_be_bytes w16 h) fourth (number_each w16 h)
    (joined (to_be_bytes w32 i) fifth (number_each w32 i)
    (joined cap sixth (tested cap refl)
    (joined (to_be_bytes w32 a) keepalive (number_each w32 a) (tested keepalive refl)))))) in
    subst AreOctets (wide_is a h i) (octets_are (wide_head ++ second) each)

none_octets : AreOctets []
none_octets i = lit< tt

-- the octets of a text in hexadecimal
pub hex_octets : (text : List ℕ) → AreOctets (octets_in text)
hex_octets text = by_odd (length text % 2 == 1) where
  by_result : (r : Result (List ℕ) FromHexError) → decode_pairs 0 text ≡ r → AreOctets (result_unwrap_or r [])
  by_result (Ok bytes) e = (decode_pairs-ok 0 text bytes e).2
  by_result (Err stop) e = none_octets

  by_odd : (odd : Bool) → AreOctets (result_unwrap_or (cond odd (Err OddLength) (decode_pairs 0 text)) [])
  by_odd true = none_octets
  by_odd false = by_result (decode_pairs 0 text) refl

pub opening_octets : (has : Bool) (text : List ℕ) (as_number hold identifier : ℕ) (as4 : Bool)
    → AreOctets (cond has (octets_in text) (default_opening as_number hold identifier as4))
opening_octets true text a h i as4 = hex_octets text
opening_octets false text a h i as4 = default_octets a h i as4
