-- How many octets the parts of a message are written in.
use Rattle.std.proofs.Common.{◌≡◌, ℕ, suc, ◌+◌, ◌*◌, List, [], ◌∷◌, ◌++◌, length, map, Bool, true, false, cond, ltb, refl, sym, ap, ◌∙◌, arith, length-append}
use Rattle.std.specs.Prelude.{sum_by, if◌then◌else◌, bit_and, not, ◌&&◌, ◌==◌}
use Rattle.std.specs.List.{flat_map}
use Rattle.std.specs.Int.{w8, w16, w32, to_be_bytes}
use Rattle.std.proofs.lemmas.List.Concat.{length-flat_map}
use Rattle.std.proofs.lemmas.List.Sums.{sum_by-append, sum_by-cons}
use Rattle.std.proofs.lemmas.List.{length-map}
use Rattle.bgp_types.specs.declared.attrs.Attrs.{Attrs}
use Rattle.bgp_types.specs.declared.attrs.RawAttr.{RawAttr}
use Rattle.bgp_types.specs.declared.message.Cap.{Cap}
use Rattle.bgp_types.specs.declared.message.Message.TheVariants.{UpdateMsg}
use Rattle.bgp_types.specs.declared.message.Update.{Update}
use Rattle.bgp_types.specs.declared.path.PathPart.{PathPart}
use Rattle.bgp_types.specs.declared.path.PathPart.TheVariants as parts
use Rattle.bgp_types.specs.Lengths.{prefix_size, cap_size, part_size, attr_size, attrs_size, attr_size_of}
use Rattle.bgp_types.specs.PathOctets.{as_width, part_octets, path_octets, narrow_as, narrow_part, path_in_width, has_long_as}
use Rattle.bgp_types.specs.Paths.{ases_of}
use Rattle.bgp_types.specs.Rising.{insert_by, in_rising}
use Rattle.bgp_types.specs.Prefixes.{prefix_octets}
use Rattle.bgp_types.specs.Spelling.{passed_flags, origin_written, path_written, next_hop_written, med_written, atomic_written}
use Rattle.bgp_types.specs.Spelling.{aggregator_written, as4_path_written, as4_aggregator_written, other_written, attrs_written, spell}
use Rattle.bgp_types.specs.Spelling.{spell_attrs, spell_some_attrs, spell_prefixes, spell_update, length_prefixed, param_octets, cap_octets, framed}
use Rattle.bgp_types.specs.WireAttrs.{WireAttr, wire_kind, size_width, attr_octets, written}

-- ---- paths

ases_size : (wide : Bool) (ases : List ℕ) → length (flat_map (to_be_bytes (as_width wide)) ases) ≡ length ases * (if wide then 4 else 2)
ases_size true [] = refl
ases_size false [] = refl
ases_size true (a ∷ ases) = length-append (to_be_bytes w32 a) (flat_map (to_be_bytes w32) ases) ∙ (let h = ases_size true ases in omega arith)
ases_size false (a ∷ ases) = length-append (to_be_bytes w16 a) (flat_map (to_be_bytes w16) ases) ∙ (let h = ases_size false ases in omega arith)

pub part_size_is : (wide : Bool) (part : PathPart) → part_size wide part ≡ length (ases_of part) * (if wide then 4 else 2) + 2
part_size_is wide (parts.Set ases) = let h = ases_size wide ases in omega arith
part_size_is wide (parts.Sequence ases) = let h = ases_size wide ases in omega arith

narrow_part_size : (part : PathPart) → part_size false (narrow_part part) ≡ part_size false part
narrow_part_size (parts.Set ases) = ap (λ n. suc (suc n)) (ases_size false (map narrow_as ases) ∙ (rw (length-map ases narrow_as) (sym (ases_size false ases))))
narrow_part_size (parts.Sequence ases) =
    ap (λ n. suc (suc n)) (ases_size false (map narrow_as ases) ∙ (rw (length-map ases narrow_as) (sym (ases_size false ases))))

narrow_path_size : (path : List PathPart) → sum_by (part_size false) (map narrow_part path) ≡ sum_by (part_size false) path
narrow_path_size [] = refl
narrow_path_size (part ∷ path) =
    let first : part_size false (narrow_part part) ≡ part_size false part = narrow_part_size part in
    let rest : sum_by (part_size false) (map narrow_part path) ≡ sum_by (part_size false) path = narrow_path_size path in
    sum_by-cons (part_size false) (narrow_part part) (map narrow_part path) ∙ (rw (first, rest) (sym (sum_by-cons (part_size false) part path)))

pub path_size_is : (wide : Bool) (path : List PathPart) → length (path_octets wide path) ≡ sum_by (part_size wide) path
unfolding path_octets
path_size_is wide path = length-flat_map (part_octets wide) path

pub path_in_width_size : (wide : Bool) (path : List PathPart) → length (path_octets wide (path_in_width wide path)) ≡ sum_by (part_size wide) path
path_in_width_size true path = path_size_is true path
path_in_width_size false path = path_size_is false (map narrow_part path) ∙ narrow_path_size path

-- ---- attributes

insert_size : (x : WireAttr) (xs : List WireAttr) → attrs_size (insert_by wire_kind x xs) ≡ attr_size x + attrs_size xs
insert_size x [] = sum_by-cons attr_size x []
insert_size x (y ∷ ys) = by_test (ltb (wire_kind y) (wire_kind x)) (insert_size x ys) where
  by_test : (t : Bool) → attrs_size (insert_by wire_kind x ys) ≡ attr_size x + attrs_size ys
      → attrs_size (cond t (y ∷ insert_by wire_kind x ys) (x ∷ y ∷ ys)) ≡ attr_size x + attrs_size (y ∷ ys)
  by_test true h = sum_by-cons attr_size y (insert_by wire_kind x ys) ∙ (rw (h, sum_by-cons attr_size y ys) (omega arith))
  by_test false h = sum_by-cons attr_size x (y ∷ ys)

rising_size : (xs : List WireAttr) → attrs_size (in_rising wire_kind xs) ≡ attrs_size xs
rising_size [] = refl
rising_size (x ∷ xs) = insert_size x (in_rising wire_kind xs) ∙ (ap (λ n. attr_size x + n) (rising_size xs) ∙ sym (sum_by-cons attr_size x xs))

-- an attribute, by the size of its value, for each of the flags that are written
pub sized : (flags kind : ℕ) (value : List ℕ) → (bit_and flags 16 == 0) ≡ true → (bit_and (flags + 16) 16 == 0) ≡ false
    → attr_size (written flags kind value) ≡ attr_size_of (length value)
sized flags kind value short long = by_test (ltb 255 (length value)) where
  by_test : (t : Bool)
      → suc (suc (length (to_be_bytes (size_width (cond t (flags + 16) flags)) (length value) ++ value))) ≡ cond t (length value + 4) (length value + 3)
  by_test true = let h = length-append (to_be_bytes w16 (length value)) value in rw long (omega arith)
  by_test false = let h = length-append (to_be_bytes w8 (length value)) value in rw short (omega arith)

path_written_size : (wide : Bool) (path : List PathPart) → attr_size (path_written wide path) ≡ attr_size_of (sum_by (part_size wide) path)
path_written_size wide path = sized 64 2 (path_octets wide (path_in_width wide path)) refl refl ∙ ap attr_size_of (path_in_width_size wide path)

pub as4_path_size : (wide : Bool) (path : List PathPart)
    → attrs_size (as4_path_written wide path) ≡ (if not wide && has_long_as path then attr_size_of (sum_by (part_size true) path) else 0)
as4_path_size wide path = by_test (not wide && has_long_as path) where
  by_test : (t : Bool) → attrs_size (cond t (written 192 17 (path_octets true path) ∷ []) []) ≡ cond t (attr_size_of (sum_by (part_size true) path)) 0
  by_test true = let h : attr_size (written 192 17 (path_octets true path)) ≡ attr_size_of (sum_by (part_size true) path) =
      sized 192 17 (path_octets true path) refl refl ∙ ap attr_size_of (path_size_is true path) in omega arith
  by_test false = refl

pub other_size : (a : RawAttr) → attr_size (other_written a) ≡ attr_size_of (length a.bytes)
other_size a = by_test a.partial where
  by_test : (t : Bool) → attr_size (written (passed_flags t) a.kind a.bytes) ≡ attr_size_of (length a.bytes)
  by_test true = sized 224 a.kind a.bytes refl refl
  by_test false = sized 192 a.kind a.bytes refl refl

others_size : (others : List RawAttr) → attrs_size (map other_written others) ≡ sum_by (λ other. attr_size_of (length other.bytes)) others
others_size [] = refl
others_size (a ∷ others) =
    sum_by-cons attr_size (other_written a) (map other_written others)
    ∙ (rw (other_size a, others_size others) (sym (sum_by-cons (λ (other : RawAttr). attr_size_of (length other.bytes)) a others)))

-- all attributes of an announcement
pub spelled_attrs_size : (wide : Bool) (a : Attrs) → length (spell_attrs wide a)
    ≡ 11 + attrs_size (med_written a.med) + attrs_size (atomic_written a.atomic)
    + (attrs_size (aggregator_written wide a.aggregator) + attrs_size (as4_aggregator_written wide a.aggregator)) + attr_size_of
    (sum_by (part_size wide) a.path) + attrs_size (as4_path_written wide a.path) + sum_by (λ other. attr_size_of (length other.bytes)) a.unknown
unfolding spell_attrs attrs_written
spelled_attrs_size wide a =
    let others = map other_written a.unknown in
    let second = as4_aggregator_written wide a.aggregator in
    let long = as4_path_written wide a.path in
    let first = aggregator_written wide a.aggregator in
    let atomic = atomic_written a.atomic in
    let med = med_written a.med in
    let e1 : attrs_size (second ++ others) ≡ attrs_size second + attrs_size others = sum_by-append attr_size second others in
    let e2 : attrs_size (long ++ (second ++ others)) ≡ attrs_size long + attrs_size (second ++ others) = sum_by-append attr_size long (second ++ others) in
    let e3 : attrs_size (first ++ (long ++ (second ++ others))) ≡ attrs_size first + attrs_size (long ++ (second ++ others)) =
    sum_by-append attr_size first (long ++ (second ++ others)) in
    let e4 : attrs_size (atomic ++ (first ++ (long ++ (second ++ others)))) ≡ attrs_size atomic + attrs_size (first ++ (long ++ (second ++ others))) =
    sum_by-append attr_size atomic (first ++ (long ++ (second ++ others))) in
    let e5 : attrs_size (med ++ (atomic ++ (first ++ (long ++ (second ++ others)))))
    ≡ attrs_size med + attrs_size (atomic ++ (first ++ (long ++ (second ++ others)))) =
    sum_by-append attr_size med (atomic ++ (first ++ (long ++ (second ++ others)))) in
    let all : length (flat_map attr_octets (in_rising wire_kind (attrs_written wide a))) ≡ attrs_size (attrs_written wide a) =
    length-flat_map attr_octets (in_rising wire_kind (attrs_written wide a)) ∙ rising_size (attrs_written wide a) in
    let path = path_written_size wide a.path in
    let rest = others_size a.unknown in
    let e6 : attrs_size (attrs_written wide a)
    ≡ 4 + attr_size (path_written wide a.path) + 7 + attrs_size (med ++ (atomic ++ (first ++ (long ++ (second ++ others))))) =
    three (origin_written a.origin) (path_written wide a.path) (next_hop_written a.next_hop) (med ++ (atomic ++ (first ++ (long ++ (second ++ others))))) in
    all ∙ omega arith
  where
    three : (x y z : WireAttr) (xs : List WireAttr) → attrs_size (x ∷ y ∷ z ∷ xs) ≡ attr_size x + attr_size y + attr_size z + attrs_size xs
    three x y z xs = sum_by-cons attr_size x (y ∷ z ∷ xs) ∙ (rw (sum_by-cons attr_size y (z ∷ xs), sum_by-cons attr_size z xs) (omega arith))

-- ---- messages

counted_size : (octets : List ℕ) → length (length_prefixed octets) ≡ 2 + length octets
counted_size octets = length-append (to_be_bytes w16 (length octets)) octets

-- the three fields of an UPDATE, two of them behind their lengths
pub update_fields_size : (wide : Bool) (u : Update)
    → length (spell_update wide u) ≡ 4 + (length (spell_prefixes u.withdrawn) + (length (spell_some_attrs wide u.attrs) + length (spell_prefixes u.nlri)))
update_fields_size wide u =
    let withdrawn = spell_prefixes u.withdrawn in
    let attrs = spell_some_attrs wide u.attrs in
    let nlri = spell_prefixes u.nlri in
    let e1 : length (length_prefixed withdrawn ++ (length_prefixed attrs ++ nlri)) ≡ length (length_prefixed withdrawn)
    + length (length_prefixed attrs ++ nlri) = length-append (length_prefixed withdrawn) (length_prefixed attrs ++ nlri) in
    let e2 : length (length_prefixed attrs ++ nlri) ≡ length (length_prefixed attrs) + length nlri = length-append (length_prefixed attrs) nlri in
    let c1 = counted_size withdrawn in
    let c2 = counted_size attrs in
    omega arith

pub framed_size : (kind : ℕ) (body : List ℕ) → length (framed kind body) ≡ 19 + length body
framed_size kind body = omega arith

pub update_size : (wide : Bool) (u : Update)
    → length (spell (UpdateMsg u) wide) ≡ 23 + (sum_by prefix_size u.withdrawn + (length (spell_some_attrs wide u.attrs) + sum_by prefix_size u.nlri))
unfolding spell
update_size wide u =
    let all = update_fields_size wide u in
    let w : length (spell_prefixes u.withdrawn) ≡ sum_by prefix_size u.withdrawn = length-flat_map prefix_octets u.withdrawn in
    let n : length (spell_prefixes u.nlri) ≡ sum_by prefix_size u.nlri = length-flat_map prefix_octets u.nlri in
    let whole = framed_size 2 (spell_update wide u) in
    omega arith

pub caps_size : (caps : List Cap) → length (flat_map (λ cap. param_octets (cap_octets cap)) caps) ≡ sum_by cap_size caps
caps_size caps = length-flat_map (λ cap. param_octets (cap_octets cap)) caps
