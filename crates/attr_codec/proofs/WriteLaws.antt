-- Attributes that are written, group by group, in rising type.
use Rattle.std.proofs.Common.{◌≡◌, ℕ, zero, suc, ◌^◌, ◌<◌, ◌≤◌, List, [], ◌∷◌, ◌++◌, length, take, drop, get_or, map, Bool, true, false}
use Rattle.std.proofs.Common.{cond, Option, Some, None, refl, sym, ap, ◌∙◌, arith, subst, append_assoc, length-append}
use Rattle.std.specs.Prelude.{◌≢◌, All, sum_by, ◌&&◌, not}
use Rattle.std.specs.List.{flat_map, AllByRecursion}
use Rattle.std.specs.Int.{w16, to_be_bytes}
use Rattle.std.proofs.lemmas.Bool.Decides.{nat_tests}
use Rattle.std.proofs.lemmas.List.{length-map, map-append, take-append-drop}
use Rattle.std.proofs.lemmas.List.Concat.{flat_map-append}
use Rattle.std.proofs.lemmas.List.Elements.{recursion_from_All, All-from_recursion, All-weaker}
use Rattle.std.proofs.lemmas.List.Sums.{sum_by-cons}
use Rattle.bgp_types.specs.declared.attrs.Aggregator.{Aggregator}
use Rattle.bgp_types.specs.declared.attrs.Attrs.{Attrs}
use Rattle.bgp_types.specs.declared.attrs.RawAttr.{RawAttr}
use Rattle.bgp_types.specs.declared.path.PathPart.{PathPart}
use Rattle.bgp_types.specs.declared.path.PathPart.TheVariants as parts
use Rattle.bgp_types.specs.Lengths.{attr_size, attrs_size, attr_size_of, part_size}
use Rattle.bgp_types.specs.PathOctets.{part_octets, path_octets, narrow_as, narrow_part, path_in_width, has_long_as, is_long_as}
use Rattle.bgp_types.specs.Paths.{ases_of}
use Rattle.bgp_types.specs.Rising.{insert_by, in_rising, IsRising}
use Rattle.bgp_types.specs.Spelling.{origin_written, path_written, next_hop_written, med_written, atomic_written, aggregator_written}
use Rattle.bgp_types.specs.Spelling.{as4_path_written, aggregator_octets, as4_aggregator_written, other_written, attrs_written, spell_attrs}
use Rattle.bgp_types.specs.Values.{is_other, other_kind}
use Rattle.bgp_types.specs.WireAttrs.{WireAttr, wire_kind, size_width, attr_octets, written}
use Rattle.bgp_types.specs.Writable.{IsPart, IsOther}
use Rattle.bgp_types.proofs.Lengths.{path_in_width_size, spelled_attrs_size}
use Rattle.bgp_types.proofs.OrderLaws.{insert_swap, rising_same}
use Rattle.attr_codec.specs.Fields.{FitsField}
use Rattle.attr_codec.specs.Writing.{part_in_width, known_written, as4_written, NeedsLong, AreParts}

-- ---- paths

flat_map_map : {A B : Type 0} (f : B → List ℕ) (g : A → B) (xs : List A) → flat_map f (map g xs) ≡ flat_map (λ x. f (g x)) xs
flat_map_map f g [] = refl
flat_map_map f g (x ∷ xs) = ap (λ (y : List ℕ). f (g x) ++ y) (flat_map_map f g xs)

same_part : (part : PathPart) → part_octets false (narrow_part part) ≡ part_in_width false part
same_part (parts.Set ases) = ap (λ (n : ℕ). 1 ∷ n ∷ flat_map (to_be_bytes w16) (map narrow_as ases)) (length-map ases narrow_as)
    ∙ ap (λ (y : List ℕ). 1 ∷ length ases ∷ y) (flat_map_map (to_be_bytes w16) narrow_as ases)
same_part (parts.Sequence ases) = ap (λ (n : ℕ). 2 ∷ n ∷ flat_map (to_be_bytes w16) (map narrow_as ases)) (length-map ases narrow_as)
    ∙ ap (λ (y : List ℕ). 2 ∷ length ases ∷ y) (flat_map_map (to_be_bytes w16) narrow_as ases)

wide_part : (part : PathPart) → part_octets true part ≡ part_in_width true part
wide_part (parts.Set ases) = refl
wide_part (parts.Sequence ases) = refl

-- the value of a path
pub path_octets_are : (wide : Bool) (path : List PathPart) → flat_map (part_in_width wide) path ≡ path_octets wide (path_in_width wide path)
unfolding path_octets
path_octets_are true [] = refl
path_octets_are true (part ∷ path) = ap (λ (y : List ℕ). y ++ flat_map (part_in_width true) path) (sym (wide_part part))
    ∙ ap (λ (y : List ℕ). part_octets true part ++ y) (path_octets_are true path)
path_octets_are false [] = refl
path_octets_are false (part ∷ path) = ap (λ (y : List ℕ). y ++ flat_map (part_in_width false) path) (sym (same_part part))
    ∙ ap (λ (y : List ℕ). part_octets false (narrow_part part) ++ y) (path_octets_are false path)

-- ---- room

value_below : (a : WireAttr) → length a.value ≤ attr_size a
value_below a = let h = length-append (to_be_bytes (size_width a.flags) (length a.value)) a.value in omega arith

values_below : (xs : List WireAttr) → attrs_size xs < 65536 → AllByRecursion (λ a. length a.value < 65536) xs
values_below [] lt = tt
values_below (x ∷ xs) lt =
    let sum = sum_by-cons attr_size x xs in
    let below = value_below x in
    (omega arith, values_below xs (omega arith))

size_above : (n : ℕ) → n ≤ attr_size_of n
size_above n = grind (arith, nat_tests)

others_below : (others : List RawAttr) → sum_by (λ (o : RawAttr). attr_size_of (length o.bytes)) others < 65536
    → AllByRecursion (λ (o : RawAttr). length o.bytes < 65536) others
others_below [] lt = tt
others_below (o ∷ others) lt =
    let sum = sum_by-cons (λ (o : RawAttr). attr_size_of (length o.bytes)) o others in
    let above = size_above (length o.bytes) in
    (omega arith, others_below others (omega arith))

long_below : (wide : Bool) (path : List PathPart) → NeedsLong wide path → attrs_size (as4_path_written wide path) < 65536
    → length (path_octets true path) < 65536
long_below wide path needs lt =
    let t : (not wide && has_long_as path) ≡ true = rw (needs.narrow, needs.long) refl in
    let below = values_below (as4_path_written wide path) lt in
    (subst (λ (b : Bool). AllByRecursion (λ a. length a.value < 65536) (cond b (written 192 17 (path_octets true path) ∷ []) [])) t below).0

-- each value has room
pub record HasRoom (wide : Bool) (a : Attrs) : Type 0 where
  pub path : length (path_octets wide (path_in_width wide a.path)) < 2 ^ 16
  pub long : NeedsLong wide a.path → length (path_octets true a.path) < 2 ^ 16
  pub others : All (λ (o : RawAttr). length o.bytes < 2 ^ 16) a.unknown
  pub counts : All (λ part. length (ases_of part) < 256) a.path

pub room_in : (wide : Bool) (a : Attrs) → FitsField a wide → HasRoom wide a
room_in wide a fits =
    let total = spelled_attrs_size wide a in
    let size = fits.size in
    let path = path_in_width_size wide a.path in
    let above = size_above (sum_by (part_size wide) a.path) in
    record {
      path = omega arith;
      long = λ needs. long_below wide a.path needs (omega arith);
      others = All-from_recursion _ a.unknown (others_below a.unknown (omega arith));
      counts = All-weaker IsPart (λ part. length (ases_of part) < 256) (λ part p. p.count) a.path fits.writable.path;
    }

-- ---- rising lists

all_append : {A : Type 0} (P : A → Type 0) (xs ys : List A) → AllByRecursion P xs → AllByRecursion P ys → AllByRecursion P (xs ++ ys)
all_append P [] ys a b = b
all_append P (x ∷ xs) ys a b = (a.0, all_append P xs ys a.1 b)

all_weaker : {A : Type 0} (P Q : A → Type 0) (xs : List A) → ((x : A) → P x → Q x) → AllByRecursion P xs → AllByRecursion Q xs
all_weaker P Q [] h all = tt
all_weaker P Q (x ∷ xs) h all = (h x all.0, all_weaker P Q xs h all.1)

all_take : {A : Type 0} (P : A → Type 0) (n : ℕ) (xs : List A) → AllByRecursion P xs → AllByRecursion P (take n xs) × AllByRecursion P (drop n xs)
all_take P zero xs all = (tt, all)
all_take P (suc n) [] all = (tt, tt)
all_take P (suc n) (x ∷ xs) all = let h = all_take P n xs all.1 in ((all.0, h.0), h.1)

pub rising_parts : {A : Type 0} (key : A → ℕ) (n : ℕ) (xs : List A) → IsRising key xs → IsRising key (take n xs) × IsRising key (drop n xs)
rising_parts key zero xs r = (tt, r)
rising_parts key (suc n) [] r = (tt, tt)
rising_parts key (suc n) (x ∷ xs) r = let h = rising_parts key n xs r.1 in (((all_take (λ y. key x < key y) n xs r.0).0, h.0), h.1)

-- members from an index on
pub rest_above : {A : Type 0} (key : A → ℕ) (k n : ℕ) (xs : List A) (d : A) → IsRising key xs → n < length xs → k ≤ key (get_or xs n d)
    → AllByRecursion (λ x. k ≤ key x) (drop n xs)
rest_above key k n [] d r lt le = absurd (omega arith)
rest_above key k zero (x ∷ xs) d r lt le = (le, all_weaker (λ y. key x < key y) (λ y. k ≤ key y) xs (λ y h. omega arith) r.0)
rest_above key k (suc n) (x ∷ xs) d r lt le = rest_above key k n xs d r.1 (omega arith) le

-- rising attributes whose types are in a range
record Ranged (low high : ℕ) (xs : List WireAttr) : Type 0 where
  rising : IsRising wire_kind xs
  from : AllByRecursion (λ x. low ≤ wire_kind x) xs
  below : AllByRecursion (λ x. wire_kind x < high) xs

rising_append : (m : ℕ) (xs ys : List WireAttr) → IsRising wire_kind xs → IsRising wire_kind ys → AllByRecursion (λ x. wire_kind x < m) xs
    → AllByRecursion (λ y. m ≤ wire_kind y) ys → IsRising wire_kind (xs ++ ys)
rising_append m [] ys r q low high = q
rising_append m (x ∷ xs) ys r q low high =
    let lt = low.0 in (
      all_append (λ y. wire_kind x < wire_kind y) xs ys r.0
          (all_weaker (λ y. m ≤ wire_kind y) (λ y. wire_kind x < wire_kind y) ys (λ y h. omega arith) high),
      rising_append m xs ys r.1 q low.1 high,
    )

append_ranged : (low mid high : ℕ) (xs ys : List WireAttr) → low ≤ mid → mid ≤ high → Ranged low mid xs → Ranged mid high ys → Ranged low high (xs ++ ys)
append_ranged low mid high xs ys l h r q = record {
  rising = rising_append mid xs ys r.rising q.rising r.below q.from;
  from = all_append (λ x. low ≤ wire_kind x) xs ys r.from (all_weaker (λ x. mid ≤ wire_kind x) (λ x. low ≤ wire_kind x) ys (λ x g. omega arith) q.from);
  below = all_append (λ x. wire_kind x < high) xs ys (all_weaker (λ x. wire_kind x < mid) (λ x. wire_kind x < high) xs (λ x g. omega arith) r.below) q.below;
}

apart : (m : ℕ) (xs ys : List WireAttr) → AllByRecursion (λ x. m ≤ wire_kind x) xs → AllByRecursion (λ y. wire_kind y < m) ys
    → AllByRecursion (λ x. AllByRecursion (λ y. wire_kind y ≢ wire_kind x) ys) xs
apart m [] ys high low = tt
apart m (x ∷ xs) ys high low = let le = high.0 in
    (all_weaker (λ y. wire_kind y < m) (λ y. wire_kind y ≢ wire_kind x) ys (λ y h. λ e. omega arith) low, apart m xs ys high.1 low)

rising_past : (x : WireAttr) (ys zs : List WireAttr) → AllByRecursion (λ y. wire_kind y ≢ wire_kind x) ys
    → in_rising wire_kind (x ∷ (ys ++ zs)) ≡ in_rising wire_kind (ys ++ x ∷ zs)
rising_past x [] zs h = refl
rising_past x (y ∷ ys) zs h = insert_swap wire_kind x y (in_rising wire_kind (ys ++ zs)) (λ e. h.0 (sym e))
    ∙ ap (insert_by wire_kind y) (rising_past x ys zs h.1)

rising_swap : (xs ys zs : List WireAttr) → AllByRecursion (λ x. AllByRecursion (λ y. wire_kind y ≢ wire_kind x) ys) xs
    → in_rising wire_kind (xs ++ (ys ++ zs)) ≡ in_rising wire_kind (ys ++ (xs ++ zs))
rising_swap [] ys zs h = refl
rising_swap (x ∷ xs) ys zs h = ap (insert_by wire_kind x) (rising_swap xs ys zs h.1) ∙ rising_past x ys (xs ++ zs) h.0

rising_after : (xs ys zs : List WireAttr) → in_rising wire_kind ys ≡ in_rising wire_kind zs → in_rising wire_kind (xs ++ ys) ≡ in_rising wire_kind (xs ++ zs)
rising_after [] ys zs e = e
rising_after (x ∷ xs) ys zs e = ap (insert_by wire_kind x) (rising_after xs ys zs e)

-- ---- the groups

med_ranged : (med : Option ℕ) → Ranged 4 6 (med_written med)
med_ranged None = record { rising = tt; from = tt; below = tt }
med_ranged (Some n) = record { rising = (tt, tt); from = (omega arith, tt); below = (omega arith, tt) }

atomic_ranged : (atomic : Bool) → Ranged 6 7 (atomic_written atomic)
atomic_ranged false = record { rising = tt; from = tt; below = tt }
atomic_ranged true = record { rising = (tt, tt); from = (omega arith, tt); below = (omega arith, tt) }

aggregator_ranged : (wide : Bool) (a : Option Aggregator) → Ranged 7 8 (aggregator_written wide a)
aggregator_ranged wide None = record { rising = tt; from = tt; below = tt }
aggregator_ranged wide (Some a) = record { rising = (tt, tt); from = (omega arith, tt); below = (omega arith, tt) }

as4_path_ranged : (wide : Bool) (path : List PathPart) → Ranged 17 18 (as4_path_written wide path)
as4_path_ranged wide path = by_test (not wide && has_long_as path) where
  by_test : (t : Bool) → Ranged 17 18 (cond t (written 192 17 (path_octets true path) ∷ []) [])
  by_test false = record { rising = tt; from = tt; below = tt }
  by_test true = record { rising = (tt, tt); from = (omega arith, tt); below = (omega arith, tt) }

as4_aggregator_ranged : (wide : Bool) (a : Option Aggregator) → Ranged 18 19 (as4_aggregator_written wide a)
as4_aggregator_ranged wide None = record { rising = tt; from = tt; below = tt }
as4_aggregator_ranged wide (Some a) = by_test (not wide && is_long_as a.as_number) where
  by_test : (t : Bool) → Ranged 18 19 (cond t (written 192 18 (aggregator_octets true a.as_number a.address) ∷ []) [])
  by_test false = record { rising = tt; from = tt; below = tt }
  by_test true = record { rising = (tt, tt); from = (omega arith, tt); below = (omega arith, tt) }

known_ranged : (wide : Bool) (a : Attrs) → Ranged 1 8 (known_written wide a)
known_ranged wide a =
    let three : Ranged 1 4 (origin_written a.origin ∷ path_written wide a.path ∷ next_hop_written a.next_hop ∷ []) = record {
      rising = ((omega arith, (omega arith, tt)), ((omega arith, tt), (tt, tt)));
      from = (omega arith, (omega arith, (omega arith, tt)));
      below = (omega arith, (omega arith, (omega arith, tt)));
    } in
    append_ranged 1 4 8 _ _ (omega arith) (omega arith) three
    (append_ranged 4 6 8 _ _ (omega arith) (omega arith) (med_ranged a.med)
    (append_ranged 6 7 8 _ _ (omega arith) (omega arith) (atomic_ranged a.atomic) (aggregator_ranged wide a.aggregator)))

as4_ranged : (wide : Bool) (a : Attrs) → Ranged 17 19 (as4_written wide a)
as4_ranged wide a = append_ranged 17 18 19 _ _ (omega arith) (omega arith) (as4_path_ranged wide a.path) (as4_aggregator_ranged wide a.aggregator)

all_written : (P : ℕ → Type 0) (us : List RawAttr) → AllByRecursion (λ u. P (other_kind u)) us → AllByRecursion (λ x. P (wire_kind x)) (map other_written us)
all_written P [] all = tt
all_written P (u ∷ us) all = (all.0, all_written P us all.1)

rising_written : (us : List RawAttr) → IsRising other_kind us → IsRising wire_kind (map other_written us)
rising_written [] r = tt
rising_written (u ∷ us) r = (all_written (λ k. other_kind u < k) us r.0, rising_written us r.1)

others_ranged : (low high : ℕ) (us : List RawAttr) → IsRising other_kind us → AllByRecursion (λ u. low ≤ other_kind u) us
    → AllByRecursion (λ u. other_kind u < high) us → Ranged low high (map other_written us)
others_ranged low high us r from below =
    record { rising = rising_written us r; from = all_written (λ k. low ≤ k) us from; below = all_written (λ k. k < high) us below }

-- a type that isn't known, from 1 or from 17 on
past_known : (k : ℕ) → is_other k ≡ true → 1 ≤ k → 8 ≤ k
past_known k o le = grind (arith, nat_tests)

past_as4 : (k : ℕ) → is_other k ≡ true → 17 ≤ k → 19 ≤ k
past_as4 k o le = grind (arith, nat_tests)

both : (P Q R : RawAttr → Type 0) (us : List RawAttr) → ((u : RawAttr) → P u → Q u → R u) → AllByRecursion P us → AllByRecursion Q us → AllByRecursion R us
both P Q R [] h p q = tt
both P Q R (u ∷ us) h p q = (h u p.0 q.0, both P Q R us h p.1 q.1)

pub spelled_in_parts : (wide : Bool) (a : Attrs) (first middle last : List RawAttr) → AreParts a.unknown first middle last
    → spell_attrs wide a ≡ flat_map attr_octets (map other_written first) ++ (flat_map attr_octets (known_written wide a)
    ++ (flat_map attr_octets (map other_written middle) ++ (flat_map attr_octets (as4_written wide a) ++ flat_map attr_octets (map other_written last))))
unfolding spell_attrs attrs_written
spelled_in_parts wide a first middle last p =
    let F : List WireAttr = map other_written first in
    let D : List WireAttr = map other_written middle in
    let L : List WireAttr = map other_written last in
    let K : List WireAttr = known_written wide a in
    let Q : List WireAttr = as4_written wide a in
    let f : Ranged 0 1 F = others_ranged 0 1 first p.rising.0 (all_weaker IsOther (λ u. 0 ≤ other_kind u) first (λ u h. omega arith) p.kinds.0) p.first_below in
    let d : Ranged 8 17 D = others_ranged 8 17 middle p.rising.1
    (both IsOther (λ u. 1 ≤ other_kind u) (λ u. 8 ≤ other_kind u) middle (λ u o le. past_known u.kind o.other le) p.kinds.1 p.middle_from) p.middle_below in
    let l : Ranged 19 256 L = others_ranged 19 256 last p.rising.2 (both IsOther (λ u. 17 ≤ other_kind u) (λ u. 19 ≤ other_kind u) last
    (λ u o le. past_as4 u.kind o.other le) p.kinds.2 p.last_from) (all_weaker IsOther (λ u. other_kind u < 256) last (λ u o. o.kind) p.kinds.2) in
    let k = known_ranged wide a in
    let q = as4_ranged wide a in
    let all : Ranged 0 256 (F ++ (K ++ (D ++ (Q ++ L)))) =
    append_ranged 0 1 256 F (K ++ (D ++ (Q ++ L))) (omega arith) (omega arith) f
    (append_ranged 1 8 256 K (D ++ (Q ++ L)) (omega arith) (omega arith) k
    (append_ranged 8 17 256 D (Q ++ L) (omega arith) (omega arith) d
    (append_ranged 17 19 256 Q L (omega arith) (omega arith) q l))) in
    let others : map other_written a.unknown ≡ F ++ (D ++ L) = ap (map other_written) p.parts
    ∙ (map-append other_written first (middle ++ last) ∙ ap (λ (xs : List WireAttr). F ++ xs) (map-append other_written middle last)) in
    let regrouped : attrs_written wide a ≡ K ++ (Q ++ (F ++ (D ++ L))) =
    rw others (groups (med_written a.med) (atomic_written a.atomic) (aggregator_written wide a.aggregator) (as4_path_written wide a.path)
    (as4_aggregator_written wide a.aggregator) (F ++ (D ++ L)) (origin_written a.origin ∷ path_written wide a.path ∷ next_hop_written a.next_hop ∷ [])) in
    let ordered : in_rising wire_kind (K ++ (Q ++ (F ++ (D ++ L)))) ≡ F ++ (K ++ (D ++ (Q ++ L))) =
    rising_after K (Q ++ (F ++ (D ++ L))) (F ++ (Q ++ (D ++ L)))
    (rising_swap Q F (D ++ L) (apart 1 Q F (all_weaker (λ x. 17 ≤ wire_kind x) (λ x. 1 ≤ wire_kind x) Q (λ x h. omega arith) q.from) f.below))
    ∙ (rising_swap K F (Q ++ (D ++ L)) (apart 1 K F k.from f.below)
    ∙ (rising_after F (K ++ (Q ++ (D ++ L))) (K ++ (D ++ (Q ++ L)))
    (rising_after K (Q ++ (D ++ L)) (D ++ (Q ++ L)) (rising_swap Q D L (apart 17 Q D q.from d.below)))
    ∙ rising_same wire_kind (F ++ (K ++ (D ++ (Q ++ L)))) all.rising)) in
    ap (λ (xs : List WireAttr). flat_map attr_octets (in_rising wire_kind xs)) regrouped
    ∙ (ap (flat_map attr_octets) ordered
    ∙ (flat_map-append attr_octets F (K ++ (D ++ (Q ++ L)))
    ∙ ap (λ (ys : List ℕ). flat_map attr_octets F ++ ys) (flat_map-append attr_octets K (D ++ (Q ++ L))
    ∙ ap (λ (ys : List ℕ). flat_map attr_octets K ++ ys) (flat_map-append attr_octets D (Q ++ L)
    ∙ ap (λ (ys : List ℕ). flat_map attr_octets D ++ ys) (flat_map-append attr_octets Q L)))))
  where
    groups : (m t g p s o h : List WireAttr) → h ++ (m ++ (t ++ (g ++ (p ++ (s ++ o))))) ≡ (h ++ (m ++ (t ++ g))) ++ ((p ++ s) ++ o)
    groups m t g p s o h = simp append_assoc

-- ---- one group after another

pub known_put : (o0 o1 o2 o3 o4 o5 o6 : List ℕ) (x y z : WireAttr) (ms ts gs : List WireAttr) → o1 ≡ o0 ++ attr_octets x → o2 ≡ o1 ++ attr_octets y
    → o3 ≡ o2 ++ attr_octets z
    → o4 ≡ o3 ++ flat_map attr_octets ms → o5 ≡ o4 ++ flat_map attr_octets ts → o6 ≡ o5 ++ flat_map attr_octets gs
    → o6 ≡ o0 ++ flat_map attr_octets (x ∷ y ∷ z ∷ [] ++ (ms ++ (ts ++ gs)))
known_put o0 o1 o2 o3 o4 o5 o6 x y z ms ts gs e1 e2 e3 e4 e5 e6 =
    e6
    ∙ (rw (e5, e4, e3, e2, e1)
    (regroup o0 (attr_octets x) (attr_octets y) (attr_octets z) (flat_map attr_octets ms) (flat_map attr_octets ts) (flat_map attr_octets gs))
    ∙ ap (λ (w : List ℕ). o0 ++ (attr_octets x ++ (attr_octets y ++ (attr_octets z ++ w))))
    (sym (flat_map-append attr_octets ms (ts ++ gs) ∙ ap (λ (w : List ℕ). flat_map attr_octets ms ++ w) (flat_map-append attr_octets ts gs))))
  where
    regroup : (o a b c d e f : List ℕ) → (((((o ++ a) ++ b) ++ c) ++ d) ++ e) ++ f ≡ o ++ (a ++ (b ++ (c ++ (d ++ (e ++ f)))))
    regroup o a b c d e f = simp append_assoc

pub all_put : (o1 o2 o3 o4 o5 a b c d e : List ℕ) → o1 ≡ [] ++ a → o2 ≡ o1 ++ b → o3 ≡ o2 ++ c → o4 ≡ o3 ++ d → o5 ≡ o4 ++ e → o5 ≡ a ++ (b ++ (c ++ (d ++ e)))
all_put o1 o2 o3 o4 o5 a b c d e e1 e2 e3 e4 e5 = e5 ∙ (rw (e4, e3, e2, e1) (regroup a b c d e)) where
  regroup : (a b c d e : List ℕ) → ((((a ++ b) ++ c) ++ d) ++ e) ≡ a ++ (b ++ (c ++ (d ++ e)))
  regroup a b c d e = simp append_assoc

-- ---- the unknown ones in three parts

all_parts : {A : Type 0} (P : A → Type 0) (xs ys : List A) → AllByRecursion P (xs ++ ys) → AllByRecursion P xs × AllByRecursion P ys
all_parts P [] ys all = (tt, all)
all_parts P (x ∷ xs) ys all = let h = all_parts P xs ys all.1 in ((all.0, h.0), h.1)

pub all_in_parts : (P : RawAttr → Type 0) (others first middle last : List RawAttr) → AreParts others first middle last → All P others
    → All P first × All P middle × All P last
all_in_parts P others first middle last p all =
    let h = all_parts P first (middle ++ last) (subst (AllByRecursion P) p.parts (recursion_from_All P others all)) in
    let k = all_parts P middle last h.1 in
    (All-from_recursion P first h.0, All-from_recursion P middle k.0, All-from_recursion P last k.1)

pub parted : (others first rest middle last : List RawAttr) (n m : ℕ) → IsRising other_kind others → All IsOther others
    → first ≡ take n others → rest ≡ drop n others → middle ≡ take m rest → last ≡ drop m rest
    → All (λ u. other_kind u < 1) first → All (λ u. 1 ≤ other_kind u) rest → All (λ u. other_kind u < 17) middle → All (λ u. 17 ≤ other_kind u) last
    → AreParts others first middle last
parted others first rest middle last n m rising kinds f r d l first_below rest_from middle_below last_from =
    let rs = rising_parts other_kind n others rising in
    let ks = all_take IsOther n others (recursion_from_All IsOther others kinds) in
    let first_rising : IsRising other_kind first = subst (IsRising other_kind) (sym f) rs.0 in
    let rest_rising : IsRising other_kind rest = subst (IsRising other_kind) (sym r) rs.1 in
    let first_kinds : AllByRecursion IsOther first = subst (AllByRecursion IsOther) (sym f) ks.0 in
    let rest_kinds : AllByRecursion IsOther rest = subst (AllByRecursion IsOther) (sym r) ks.1 in
    let rs2 = rising_parts other_kind m rest rest_rising in
    let ks2 = all_take IsOther m rest rest_kinds in
    let from = all_take (λ u. 1 ≤ other_kind u) m rest (recursion_from_All (λ u. 1 ≤ other_kind u) rest rest_from) in
    record {
      parts = sym (take-append-drop n others)
          ∙ (ap (λ (xs : List RawAttr). xs ++ drop n others) (sym f) ∙ ap (λ (xs : List RawAttr). first ++ xs) (sym r
          ∙ (sym (take-append-drop m rest) ∙ (ap (λ (xs : List RawAttr). xs ++ drop m rest) (sym d) ∙ ap (λ (xs : List RawAttr). middle ++ xs) (sym l)))));
      rising = (first_rising, subst (IsRising other_kind) (sym d) rs2.0, subst (IsRising other_kind) (sym l) rs2.1);
      kinds = (first_kinds, subst (AllByRecursion IsOther) (sym d) ks2.0, subst (AllByRecursion IsOther) (sym l) ks2.1);
      first_below = recursion_from_All (λ u. other_kind u < 1) first first_below;
      middle_from = subst (AllByRecursion (λ u. 1 ≤ other_kind u)) (sym d) from.0;
      middle_below = recursion_from_All (λ u. other_kind u < 17) middle middle_below;
      last_from = recursion_from_All (λ u. 17 ≤ other_kind u) last last_from;
    }
