-- The UPDATE that tells one prefix of plain attributes as they pass on isn't too long.
use Rattle.std.proofs.Common.{◌≡◌, ℕ, ◌+◌, ◌*◌, ◌≤◌, nat_lt, List, [], ◌∷◌, length, Option, Some, None}
use Rattle.std.proofs.Common.{Bool, true, false, ◌&&◌, ◌||◌, not, refl, sym, subst, arith}
use Rattle.std.specs.Prelude.{sum_by, if◌then◌else◌}
use Rattle.std.specs.List.{All}
use Rattle.std.proofs.lemmas.Bool.Decides.{nat_tests}
use Rattle.std.proofs.lemmas.List.Elements.{All-head, All-tail}
use Rattle.std.proofs.lemmas.List.Sums.{sum_by-cons}
use Rattle.bgp_types.specs.declared.attrs.Aggregator.{Aggregator}
use Rattle.bgp_types.specs.declared.attrs.Attrs.{Attrs}
use Rattle.bgp_types.specs.declared.path.PathPart.{PathPart}
use Rattle.bgp_types.specs.declared.path.PathPart.TheVariants.{Set, Sequence}
use Rattle.bgp_types.specs.Lengths.{part_size, attrs_size, attr_size, attr_size_of}
use Rattle.bgp_types.specs.PathOctets.{has_long_as, is_long_as, narrow_as}
use Rattle.bgp_types.specs.Prefixes.{PrefixValue}
use Rattle.bgp_types.specs.Spelling.{passed_flags, atomic_written, aggregator_octets, aggregator_written}
use Rattle.bgp_types.specs.Spelling.{as4_aggregator_written, as4_path_written, spell_attrs, spell}
use Rattle.bgp_types.specs.WireAttrs.{written}
use Rattle.bgp_types.proofs.Lengths.{part_size_is, as4_path_size, sized, spelled_attrs_size, update_size}
use Rattle.route_policy.specs.Paths.{prepend, with_as}
use Rattle.route_policy.specs.Telling.{announcing, announcement, is_too_long}
use Rattle.update_plan.specs.Passing.{IsShort, IsPlain, passed_on}
use Rattle.update_plan.proofs.Fits.{small}

-- ---- paths

part_small : (wide : Bool) (part : PathPart) → IsShort part → part_size wide part ≤ 130
part_small true part short = let e = part_size_is true part in omega arith
part_small false part short = let e = part_size_is false part in omega arith

path_small : (wide : Bool) (path : List PathPart) → All IsShort path → sum_by (part_size wide) path ≤ length path * 130
path_small wide [] short = omega arith
path_small wide (part ∷ path) short =
    let e = sum_by-cons (part_size wide) part path in
    let first = part_small wide part (All-head IsShort part path short) in
    let rest = path_small wide path (All-tail IsShort part path short) in
    omega arith

longer : (wide : Bool) (a : ℕ) (ases : List ℕ) → part_size wide (Sequence (a ∷ ases)) ≤ part_size wide (Sequence ases) + 4
longer true a ases =
    let e = part_size_is true (Sequence (a ∷ ases)) in
    let f = part_size_is true (Sequence ases) in
    omega arith
longer false a ases =
    let e = part_size_is false (Sequence (a ∷ ases)) in
    let f = part_size_is false (Sequence ases) in
    omega arith

new_part : (wide : Bool) (a : ℕ) (path : List PathPart) → sum_by (part_size wide) (Sequence (a ∷ []) ∷ path) ≤ sum_by (part_size wide) path + 6
new_part wide a path =
    let e = sum_by-cons (part_size wide) (Sequence (a ∷ [])) path in
    let f = longer wide a [] in
    omega arith

longer_part : (wide : Bool) (a : ℕ) (ases : List ℕ) (path : List PathPart)
    → sum_by (part_size wide) (Sequence (a ∷ ases) ∷ path) ≤ sum_by (part_size wide) (Sequence ases ∷ path) + 6
longer_part wide a ases path =
    let e = sum_by-cons (part_size wide) (Sequence (a ∷ ases)) path in
    let f = sum_by-cons (part_size wide) (Sequence ases) path in
    let g = longer wide a ases in
    omega arith

grown : (wide : Bool) (a : ℕ) (path : List PathPart) → sum_by (part_size wide) (prepend a path) ≤ sum_by (part_size wide) path + 6
grown wide a [] = new_part wide a []
grown wide a (Set ases ∷ parts) = new_part wide a (Set ases ∷ parts)
grown wide a (Sequence ases ∷ parts) =
    elim (nat_lt (length ases) 255)
    as (λ b. sum_by (part_size wide) (if b then with_as a (Sequence ases) ∷ parts else Sequence (a ∷ []) ∷ (Sequence ases ∷ parts))
    ≤ sum_by (part_size wide) (Sequence ases ∷ parts) + 6) [
      | true ↦ longer_part wide a ases parts
      | false ↦ new_part wide a (Sequence ases ∷ parts)
    ]

short_path : (wide : Bool) (a : ℕ) (path : List PathPart) → length path ≤ 8 → All IsShort path → sum_by (part_size wide) (prepend a path) ≤ 1046
short_path wide a path few short =
    let e = path_small wide path short in
    let f = grown wide a path in
    omega arith

-- ---- the other attributes

with_head : (n : ℕ) → attr_size_of n ≤ n + 4
with_head n = elim (nat_lt 255 n) as (λ b. (if b then n + 4 else n + 3) ≤ n + 4) [ true ↦ omega arith | false ↦ omega arith ]

atomic_small : (atomic : Bool) → attrs_size (atomic_written atomic) ≤ 3
atomic_small true = omega arith
atomic_small false = omega arith

one_small : (flags kind : ℕ) (value : List ℕ) → attr_size (written flags kind value) ≡ attr_size_of (length value) → length value ≤ 8
    → attrs_size (written flags kind value ∷ []) ≤ 12
one_small flags kind value e l =
    let f = sum_by-cons attr_size (written flags kind value) [] in
    let g = with_head (length value) in
    omega arith

aggregator_small : (wide : Bool) (aggregator : Option Aggregator) → attrs_size (aggregator_written wide aggregator) ≤ 12
aggregator_small wide None = omega arith
aggregator_small wide (Some a) = by_flag wide a.partial where
  octets_small : (wide : Bool) (n : ℕ) → length (aggregator_octets wide n a.address) ≤ 8
  octets_small true n = omega arith
  octets_small false n = omega arith

  by_flag : (wide partial : Bool)
      → attrs_size (written (passed_flags partial) 7 (aggregator_octets wide (if wide then a.as_number else narrow_as a.as_number) a.address) ∷ []) ≤ 12
  by_flag wide true =
      let value = aggregator_octets wide (if wide then a.as_number else narrow_as a.as_number) a.address in
      one_small 224 7 value (sized 224 7 value refl refl) (octets_small wide (if wide then a.as_number else narrow_as a.as_number))
  by_flag wide false =
      let value = aggregator_octets wide (if wide then a.as_number else narrow_as a.as_number) a.address in
      one_small 192 7 value (sized 192 7 value refl refl) (octets_small wide (if wide then a.as_number else narrow_as a.as_number))

as4_aggregator_small : (wide : Bool) (aggregator : Option Aggregator) → attrs_size (as4_aggregator_written wide aggregator) ≤ 12
as4_aggregator_small wide None = omega arith
as4_aggregator_small wide (Some a) = by_test (not wide && is_long_as a.as_number) where
  value : List ℕ
  value = aggregator_octets true a.as_number a.address

  by_test : (t : Bool) → attrs_size (if t then written 192 18 (aggregator_octets true a.as_number a.address) ∷ [] else []) ≤ 12
  by_test true = one_small 192 18 (aggregator_octets true a.as_number a.address)
      (sized 192 18 (aggregator_octets true a.as_number a.address) refl refl) (omega arith)
  by_test false = omega arith

as4_path_small : (wide : Bool) (path : List PathPart) → attrs_size (as4_path_written wide path) ≤ sum_by (part_size true) path + 4
as4_path_small wide path = subst (λ n. n ≤ sum_by (part_size true) path + 4) (sym (as4_path_size wide path)) (by_test (not wide && has_long_as path)) where
  by_test : (t : Bool) → (if t then attr_size_of (sum_by (part_size true) path) else 0) ≤ sum_by (part_size true) path + 4
  by_test true = with_head (sum_by (part_size true) path)
  by_test false = omega arith

-- ---- the UPDATE

attrs_small : (wide : Bool) (home_as local_address : ℕ) (attrs : Attrs) → IsPlain attrs
    → length (spell_attrs wide (passed_on home_as local_address attrs)) ≤ 2200
attrs_small wide home_as local_address attrs plain =
    let all = spelled_attrs_size wide (passed_on home_as local_address attrs) in
    let path = short_path wide home_as attrs.path plain.few plain.short in
    let whole = short_path true home_as attrs.path plain.few plain.short in
    let atomic = atomic_small attrs.atomic in
    let first = aggregator_small wide attrs.aggregator in
    let second = as4_aggregator_small wide attrs.aggregator in
    let written = with_head (sum_by (part_size wide) (prepend home_as attrs.path)) in
    let long = as4_path_small wide (prepend home_as attrs.path) in
    omega arith

message_small : (wide : Bool) (home_as local_address : ℕ) (prefix : PrefixValue) (attrs : Attrs) → IsPlain attrs
    → length (spell (announcement prefix (passed_on home_as local_address attrs)) wide) ≤ 4096
message_small wide home_as local_address prefix attrs plain =
    let u = record (announcing (passed_on home_as local_address attrs)) { nlri = prefix ∷ [] } in
    let a = update_size wide u in
    let b = attrs_small wide home_as local_address attrs plain in
    let c = small prefix in
    omega arith

both_fit : (m n : ℕ) → m ≤ 4096 → n ≤ 4096 → (nat_lt 4096 m || nat_lt 4096 n) ≡ false
both_fit m n l k = grind (arith, nat_tests)

pub plain_fits : (home_as local_address : ℕ) (prefix : PrefixValue) (attrs : Attrs) → IsPlain attrs
    → is_too_long prefix (passed_on home_as local_address attrs) ≡ false
plain_fits home_as local_address prefix attrs plain =
    let narrow = message_small false home_as local_address prefix attrs plain in
    let wide = message_small true home_as local_address prefix attrs plain in
    both_fit (length (spell (announcement prefix (passed_on home_as local_address attrs)) false))
    (length (spell (announcement prefix (passed_on home_as local_address attrs)) true)) narrow wide
