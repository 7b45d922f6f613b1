-- Attributes that are written read back.
use Rattle.std.proofs.Common.{◌≡◌, ℕ, ◌+◌, ◌-◌, ◌^◌, ◌<◌, ◌≤◌, List, [], ◌∷◌, length, map, Bool, true, false, cond, eqb}
use Rattle.std.proofs.Common.{ltb, Option, Some, None, Result, Ok, Err, refl, sym, ap, ◌∙◌, arith, subst}
use Rattle.std.specs.Prelude.{◌≢◌, All, IfSome, bit_and, ◌||◌, ◌&&◌, not, sum_by, is_some}
use Rattle.std.specs.List.{flat_map, AllByRecursion, list_any}
use Rattle.std.specs.Int.{w32, to_be_bytes}
use Rattle.std.proofs.lemmas.Bool.{ltb-false}
use Rattle.std.proofs.lemmas.Bool.Decides.{nat_tests}
use Rattle.std.proofs.lemmas.List.{length-map}
use Rattle.std.proofs.lemmas.List.Sums.{sum_by-cons}
use Rattle.std.proofs.lemmas.List.Elements.{recursion_from_All, All-from_recursion}
use Rattle.bgp_types.specs.declared.attrs.Aggregator.{Aggregator}
use Rattle.bgp_types.specs.declared.attrs.Attrs.{Attrs}
use Rattle.bgp_types.specs.declared.attrs.Origin.{Origin}
use Rattle.bgp_types.specs.declared.attrs.Origin.TheVariants.{Igp, Egp, Incomplete}
use Rattle.bgp_types.specs.declared.attrs.RawAttr.{RawAttr}
use Rattle.bgp_types.specs.declared.fault.FoundAttrs.{FoundAttrs}
use Rattle.bgp_types.specs.declared.message.Notice.{Notice}
use Rattle.bgp_types.specs.declared.path.PathPart.{PathPart}
use Rattle.bgp_types.specs.declared.path.PathPart.TheVariants as parts
use Rattle.bgp_types.specs.Faults.{about, fault_in, ok_in, host_in, origin_in, path_in, next_hop_in, med_in, atomic_in}
use Rattle.bgp_types.specs.Faults.{aggregator_in, aggregator_of, other_in, kept_raw, own_fault, attr_of}
use Rattle.bgp_types.specs.Found.{said, join, kept, as4_path_in, as4_aggregator_in, unless_wide, if_some_part, found_in}
use Rattle.bgp_types.specs.Lengths.{attrs_size, attr_size_of, part_size}
use Rattle.bgp_types.specs.Merge.{lead, meet, merged_path, merged_aggregator, is_stale, path_with}
use Rattle.bgp_types.specs.PathOctets.{path_octets, is_long_as, narrow_as, narrow_part, path_in_width, has_long_as}
use Rattle.bgp_types.specs.Paths.{ases_of, part_count, path_count}
use Rattle.bgp_types.specs.Reads.{Differ, ReadsAttrs}
use Rattle.bgp_types.specs.Rising.{in_rising}
use Rattle.bgp_types.specs.Spelling.{origin_written, path_written, next_hop_written, med_written, atomic_written, passed_flags, aggregator_octets}
use Rattle.bgp_types.specs.Spelling.{aggregator_written, as4_path_written, as4_aggregator_written, other_written, attrs_written, spell_attrs}
use Rattle.bgp_types.specs.Values.{is_no_host, is_other, other_kind}
use Rattle.bgp_types.specs.WireAttrs.{WireAttr, IsWireAttr, wire_kind, attr_octets, written}
use Rattle.bgp_types.specs.Writable.{IsPart, IsOther, IsAggregator, IsWritableAttrs}
use Rattle.bgp_types.proofs.AttrLaws.{wide16, wide32}
use Rattle.bgp_types.proofs.Lengths.{path_in_width_size, sized, spelled_attrs_size}
use Rattle.bgp_types.proofs.OrderLaws.{all_rising, rising_of, find_rising, rising_same, rising_differ, kept_rising}
use Rattle.bgp_types.proofs.PartLaws.{AreAses, IsPartIn, path_again}
use Rattle.bgp_types.proofs.SlotLaws.{IsGood, IsSlot, none, one, joined, AreSlots, slot_of, head_of, all_good, all_differ, find_slot, kept_slots}

-- ---- flags

record IsFlags (flags : ℕ) : Type 0 where
  small : flags + 16 < 256
  short : eqb (bit_and flags 16) 0 ≡ true
  long : eqb (bit_and (flags + 16) 16) 0 ≡ false

written_sound : (flags kind : ℕ) (value : List ℕ) → IsFlags flags → kind < 256 → length value < 65536 → IsWireAttr (written flags kind value)
written_sound flags kind value f k v = by_test (ltb 255 (length value)) refl where
  by_test : (t : Bool) → ltb 255 (length value) ≡ t
      → (let a : WireAttr = record { flags = cond t (flags + 16) flags; kind = kind; value = value } in IsWireAttr a)
  by_test true e = record { flags = f.small; kind = k; size = rw f.long v }
  by_test false e = record { flags = let s = f.small in omega arith; kind = k; size = rw f.short (let l = ltb-false _ _ e in omega arith) }

flags64 : IsFlags 64
flags64 = record { small = omega arith; short = refl; long = refl }

flags128 : IsFlags 128
flags128 = record { small = omega arith; short = refl; long = refl }

passed : (partial : Bool) → IsFlags (passed_flags partial)
passed true = record { small = omega arith; short = refl; long = refl }
passed false = record { small = omega arith; short = refl; long = refl }

-- ---- the known attributes

origin_good : (wide : Bool) (o : Origin) → IsGood wide (origin_written o)
unfolding own_fault origin_in
origin_good wide Igp = record { sound = written_sound 64 1 (0 ∷ []) flags64 (omega arith) (omega arith); own = refl }
origin_good wide Egp = record { sound = written_sound 64 1 (1 ∷ []) flags64 (omega arith) (omega arith); own = refl }
origin_good wide Incomplete = record { sound = written_sound 64 1 (2 ∷ []) flags64 (omega arith) (omega arith); own = refl }

origin_said : (o : Origin) → ok_in (origin_in (origin_written o)) ≡ Some o
unfolding origin_in
origin_said Igp = refl
origin_said Egp = refl
origin_said Incomplete = refl

path_said : (wide : Bool) (path : List PathPart) → All (IsPartIn wide) path → path_in wide (written 64 2 (path_octets wide path)) ≡ Ok path
unfolding path_in
path_said wide path fits = by_test (ltb 255 (length (path_octets wide path))) where
  by_test : (t : Bool) → (let a : WireAttr = record { flags = cond t 80 64; kind = 2; value = path_octets wide path } in path_in wide a ≡ Ok path)
  by_test true = rw (path_again wide path fits) refl
  by_test false = rw (path_again wide path fits) refl

path_good : (wide : Bool) (path : List PathPart) → All (IsPartIn wide) path → length (path_octets wide path) < 65536
    → IsGood wide (written 64 2 (path_octets wide path))
unfolding own_fault
path_good wide path fits size =
    record { sound = written_sound 64 2 (path_octets wide path) flags64 (omega arith) size; own = ap fault_in (path_said wide path fits) }

host_small : (n : ℕ) → is_no_host n ≡ false → n < 2 ^ 32
host_small n host = grind (arith, nat_tests)

next_hop_said : (n : ℕ) → is_no_host n ≡ false → next_hop_in (next_hop_written n) ≡ Ok n
unfolding next_hop_in
next_hop_said n host =
    let a : WireAttr = next_hop_written n in
    ap (host_in a) (wide32.again n (host_small n host)) ∙ ap (λ (t : Bool). (let r : Result ℕ Notice = cond t (Err (about 8 (attr_octets a))) (Ok n) in r)) host

next_hop_good : (wide : Bool) (n : ℕ) → is_no_host n ≡ false → IsGood wide (next_hop_written n)
unfolding own_fault
next_hop_good wide n host =
    record { sound = written_sound 64 3 (to_be_bytes w32 n) flags64 (omega arith) (omega arith); own = ap fault_in (next_hop_said n host) }

med_said : (n : ℕ) → n < 2 ^ 32 → med_in (written 128 4 (to_be_bytes w32 n)) ≡ Ok n
unfolding med_in
med_said n lt = ap (λ (m : ℕ). (let r : Result ℕ Notice = Ok m in r)) (wide32.again n lt)

med_slot : (wide : Bool) (med : Option ℕ) → IfSome med (λ n. n < 2 ^ 32) → IsSlot wide 4 (med_written med)
unfolding own_fault
med_slot wide None f = none
med_slot wide (Some n) f = one (written 128 4 (to_be_bytes w32 n)) refl
    (record { sound = written_sound 128 4 (to_be_bytes w32 n) flags128 (omega arith) (omega arith); own = ap fault_in (med_said n f) })

med_found : (med : Option ℕ) → IfSome med (λ n. n < 2 ^ 32) → said med_in (head_of (med_written med)) ≡ med
med_found None f = refl
med_found (Some n) f = ap ok_in (med_said n f)

atomic_slot : (wide atomic : Bool) → IsSlot wide 6 (atomic_written atomic)
unfolding own_fault atomic_in
atomic_slot wide true = one (written 64 6 []) refl (record { sound = written_sound 64 6 [] flags64 (omega arith) (omega arith); own = refl })
atomic_slot wide false = none

-- ---- the aggregator

aggregator_said : (wide partial : Bool) (kind as_number address : ℕ) → as_number < (cond wide (2 ^ 32) (2 ^ 16)) → address < 2 ^ 32 →
    aggregator_of wide (written (passed_flags partial) kind (aggregator_octets wide as_number address))
    ≡ record { as_number = as_number; address = address; partial = partial }
aggregator_said true true kind n address a b = same_aggregator _ _ _ _ _ (wide32.again n a) (wide32.again address b) where
  same_aggregator : (n n' d d' : ℕ) (p : Bool) → n ≡ n' → d ≡ d'
      → (let a : Aggregator = record { as_number = n; address = d; partial = p } in a) ≡ record { as_number = n'; address = d'; partial = p }
  same_aggregator n n' d d' p e f = cc
aggregator_said true false kind n address a b = same_aggregator _ _ _ _ _ (wide32.again n a) (wide32.again address b) where
  same_aggregator : (n n' d d' : ℕ) (p : Bool) → n ≡ n' → d ≡ d'
      → (let a : Aggregator = record { as_number = n; address = d; partial = p } in a) ≡ record { as_number = n'; address = d'; partial = p }
  same_aggregator n n' d d' p e f = cc
aggregator_said false true kind n address a b = same_aggregator _ _ _ _ _ (wide16.again n a) (wide32.again address b) where
  same_aggregator : (n n' d d' : ℕ) (p : Bool) → n ≡ n' → d ≡ d'
      → (let a : Aggregator = record { as_number = n; address = d; partial = p } in a) ≡ record { as_number = n'; address = d'; partial = p }
  same_aggregator n n' d d' p e f = cc
aggregator_said false false kind n address a b = same_aggregator _ _ _ _ _ (wide16.again n a) (wide32.again address b) where
  same_aggregator : (n n' d d' : ℕ) (p : Bool) → n ≡ n' → d ≡ d'
      → (let a : Aggregator = record { as_number = n; address = d; partial = p } in a) ≡ record { as_number = n'; address = d'; partial = p }
  same_aggregator n n' d d' p e f = cc

aggregator_reads : (wide partial : Bool) (n address : ℕ)
    → (let a : WireAttr = written (passed_flags partial) 7 (aggregator_octets wide n address) in aggregator_in wide a ≡ Ok (aggregator_of wide a))
unfolding aggregator_in
aggregator_reads true true n address = refl
aggregator_reads true false n address = refl
aggregator_reads false true n address = refl
aggregator_reads false false n address = refl

aggregator_size : (wide : Bool) (n address : ℕ) → length (aggregator_octets wide n address) < 65536
aggregator_size true n address = omega arith
aggregator_size false n address = omega arith

narrow_small : (n : ℕ) → narrow_as n < 2 ^ 16
narrow_small n = by_test (ltb 65535 n) refl where
  by_test : (t : Bool) → ltb 65535 n ≡ t → cond t 23456 n < 65536
  by_test true e = omega arith
  by_test false e = let le = ltb-false _ _ e in omega arith

-- the AS as it is written in a width
abbrev as_in_width : Bool → ℕ → ℕ
as_in_width wide n = cond wide n (narrow_as n)

in_width_small : (wide : Bool) (n : ℕ) → n < 2 ^ 32 → as_in_width wide n < (cond wide (2 ^ 32) (2 ^ 16))
in_width_small true n lt = lt
in_width_small false n lt = narrow_small n

aggregator_slot : (wide : Bool) (a : Option Aggregator) → IsSlot wide 7 (aggregator_written wide a)
unfolding own_fault
aggregator_slot wide None = none
aggregator_slot wide (Some a) = one (written (passed_flags a.partial) 7 (aggregator_octets wide (as_in_width wide a.as_number) a.address)) refl (record {
  sound = written_sound (passed_flags a.partial) 7 (aggregator_octets wide (as_in_width wide a.as_number) a.address)
      (passed a.partial) (omega arith) (aggregator_size wide (as_in_width wide a.as_number) a.address);
  own = ap fault_in (aggregator_reads wide a.partial (as_in_width wide a.as_number) a.address);
})

-- what AGGREGATOR says
abbrev aggregator_in_width : Bool → Option Aggregator → Option Aggregator
aggregator_in_width wide None = None
aggregator_in_width wide (Some a) = Some (record { as_number = as_in_width wide a.as_number; address = a.address; partial = a.partial })

aggregator_found : (wide : Bool) (a : Option Aggregator) → IfSome a IsAggregator
    → said (aggregator_in wide) (head_of (aggregator_written wide a)) ≡ aggregator_in_width wide a
aggregator_found wide None f = refl
aggregator_found wide (Some a) f = ap ok_in (aggregator_reads wide a.partial (as_in_width wide a.as_number) a.address)
    ∙ ap (λ (b : Aggregator). Some b)
    (aggregator_said wide a.partial 7 (as_in_width wide a.as_number) a.address (in_width_small wide a.as_number f.as_number) f.address)

-- ---- AS4_PATH and AS4_AGGREGATOR

other_own : (wide : Bool) (r : WireAttr) → (is_other r.kind || (eqb r.kind 17 || eqb r.kind 18)) ≡ true → own_fault wide r ≡ fault_in (other_in r)
unfolding own_fault
other_own wide r o = grind (arith, nat_tests)

passed_own : (partial : Bool) (kind : ℕ) (value : List ℕ) → fault_in (other_in (written (passed_flags partial) kind value)) ≡ None
unfolding other_in
passed_own partial kind value = by_test partial (ltb 255 (length value)) where
  by_test : (p t : Bool)
      → (let a : WireAttr = record { flags = cond t (passed_flags p + 16) (passed_flags p); kind = kind; value = value } in fault_in (other_in a) ≡ None)
  by_test true true = refl
  by_test true false = refl
  by_test false true = refl
  by_test false false = refl

passed_good : (wide partial : Bool) (kind : ℕ) (value : List ℕ) → (is_other kind || (eqb kind 17 || eqb kind 18)) ≡ true → kind < 256
    → length value < 65536 → IsGood wide (written (passed_flags partial) kind value)
passed_good wide partial kind value o k size = record {
  sound = written_sound (passed_flags partial) kind value (passed partial) k size;
  own = other_own wide (written (passed_flags partial) kind value) o ∙ passed_own partial kind value;
}

as4_path_slot : (wide : Bool) (path : List PathPart) → attrs_size (as4_path_written wide path) < 65536 → IsSlot wide 17 (as4_path_written wide path)
as4_path_slot wide path size = by_test (not wide && has_long_as path) size where
  by_test : (t : Bool) → attrs_size (cond t (written 192 17 (path_octets true path) ∷ []) []) < 65536
      → IsSlot wide 17 (cond t (written 192 17 (path_octets true path) ∷ []) [])
  by_test true size =
      let s = sized 192 17 (path_octets true path) refl refl in
      let room : length (path_octets true path) < 65536 = grind (arith, nat_tests) in
      one (written 192 17 (path_octets true path)) refl (passed_good wide false 17 (path_octets true path) refl (omega arith) room)
  by_test false size = none

as4_aggregator_slot : (wide : Bool) (a : Option Aggregator) → IsSlot wide 18 (as4_aggregator_written wide a)
as4_aggregator_slot wide None = none
as4_aggregator_slot wide (Some a) = by_test (not wide && is_long_as a.as_number) where
  by_test : (t : Bool) → IsSlot wide 18 (cond t (written 192 18 (aggregator_octets true a.as_number a.address) ∷ []) [])
  by_test true = one (written 192 18 (aggregator_octets true a.as_number a.address)) refl
      (passed_good wide false 18 (aggregator_octets true a.as_number a.address) refl (omega arith) (aggregator_size true a.as_number a.address))
  by_test false = none

-- ---- paths in a width

all_map : (P Q : ℕ → Type 0) (f : ℕ → ℕ) (xs : List ℕ) → ((x : ℕ) → P x → Q (f x)) → AllByRecursion P xs → AllByRecursion Q (map f xs)
all_map P Q f [] h all = tt
all_map P Q f (x ∷ xs) h all = (h x all.0, all_map P Q f xs h all.1)

ases_wide : (part : PathPart) → IsPart part → AreAses true (ases_of part)
ases_wide part p = (p.some, p.count, p.each)

ases_narrow : (part : PathPart) → IsPart part → AreAses false (map narrow_as (ases_of part))
ases_narrow part p =
    let len = length-map (ases_of part) narrow_as in
    let some = p.some in
    let count = p.count in (
      omega arith,
      omega arith,
      All-from_recursion _ (map narrow_as (ases_of part))
          (all_map (λ n. n < 2 ^ 32) (λ n. n < 2 ^ 16) narrow_as (ases_of part) (λ n lt. narrow_small n) (recursion_from_All _ (ases_of part) p.each)),
    )

part_wide : (part : PathPart) → IsPart part → IsPartIn true part
part_wide (parts.Set ases) p = ases_wide (parts.Set ases) p
part_wide (parts.Sequence ases) p = ases_wide (parts.Sequence ases) p

part_narrow : (part : PathPart) → IsPart part → IsPartIn false (narrow_part part)
part_narrow (parts.Set ases) p = ases_narrow (parts.Set ases) p
part_narrow (parts.Sequence ases) p = ases_narrow (parts.Sequence ases) p

path_wide : (path : List PathPart) → AllByRecursion IsPart path → AllByRecursion (IsPartIn true) path
path_wide [] all = tt
path_wide (part ∷ path) all = (part_wide part all.0, path_wide path all.1)

path_narrow : (path : List PathPart) → AllByRecursion IsPart path → AllByRecursion (IsPartIn false) (map narrow_part path)
path_narrow [] all = tt
path_narrow (part ∷ path) all = (part_narrow part all.0, path_narrow path all.1)

path_fits : (wide : Bool) (path : List PathPart) → All IsPart path → All (IsPartIn wide) (path_in_width wide path)
path_fits true path all = All-from_recursion _ path (path_wide path (recursion_from_All _ path all))
path_fits false path all = All-from_recursion _ (map narrow_part path) (path_narrow path (recursion_from_All _ path all))

-- a path without long ASes is the same in two octets
narrow_same : (ases : List ℕ) → list_any is_long_as ases ≡ false → map narrow_as ases ≡ ases
narrow_same [] e = refl
narrow_same (n ∷ ases) e = by_test (is_long_as n) refl e (narrow_same ases) where
  by_test : (t : Bool) → is_long_as n ≡ t → (t || list_any is_long_as ases) ≡ false → (list_any is_long_as ases ≡ false → map narrow_as ases ≡ ases)
      → cond t 23456 n ∷ map narrow_as ases ≡ n ∷ ases
  by_test true f e ih = absurd cc
  by_test false f e ih = ap (λ (xs : List ℕ). n ∷ xs) (ih e)

narrow_part_same : (part : PathPart) → list_any is_long_as (ases_of part) ≡ false → narrow_part part ≡ part
narrow_part_same (parts.Set ases) e = ap (λ (xs : List ℕ). (let p : PathPart = parts.Set xs in p)) (narrow_same ases e)
narrow_part_same (parts.Sequence ases) e = ap (λ (xs : List ℕ). (let p : PathPart = parts.Sequence xs in p)) (narrow_same ases e)

narrow_path_same : (path : List PathPart) → has_long_as path ≡ false → map narrow_part path ≡ path
narrow_path_same [] e = refl
narrow_path_same (part ∷ path) e = by_test (list_any is_long_as (ases_of part)) refl e (narrow_path_same path) where
  by_test : (t : Bool) → list_any is_long_as (ases_of part) ≡ t → (t || has_long_as path) ≡ false
      → (has_long_as path ≡ false → map narrow_part path ≡ path) → narrow_part part ∷ map narrow_part path ≡ part ∷ path
  by_test true f e ih = absurd cc
  by_test false f e ih = ap (λ (p : PathPart). p ∷ map narrow_part path) (narrow_part_same part f) ∙ ap (λ (ps : List PathPart). part ∷ ps) (ih e)

narrow_count : (path : List PathPart) → path_count (map narrow_part path) ≡ path_count path
narrow_count [] = refl
narrow_count (part ∷ path) = sum_by-cons part_count (narrow_part part) (map narrow_part path)
    ∙ (rw (same part, narrow_count path) (sym (sum_by-cons part_count part path))) where
      same : (part : PathPart) → part_count (narrow_part part) ≡ part_count part
      same (parts.Set ases) = refl
      same (parts.Sequence ases) = length-map ases narrow_as

-- a path that counts as much as AS4_PATH gives way to it
merged_whole : (path : List PathPart) → merged_path (map narrow_part path) path ≡ path
unfolding merged_path
merged_whole path = counts (path_count (map narrow_part path)) (path_count path) (narrow_count path) where
  none_leads : (ps : List PathPart) → lead 0 ps ≡ []
  none_leads [] = refl
  none_leads (p ∷ ps) = refl

  met : (ps : List PathPart) → meet [] ps ≡ ps
  met [] = refl
  met (p ∷ ps) = refl

  counts : (n m : ℕ) → n ≡ m → cond (ltb n m) (map narrow_part path) (meet (lead (n - m) (map narrow_part path)) path) ≡ path
  counts n m e =
      let t : ltb n m ≡ false = grind (arith, nat_tests) in
      let d : n - m ≡ 0 = omega arith in
      rw (t, d, none_leads (map narrow_part path)) (met path)

-- ---- what is found of a narrow message

as4_path_found : (path : List PathPart) → All (IsPartIn true) path → as4_path_in (Some (written 192 17 (path_octets true path))) ≡ if_some_part (Some path)
as4_path_found path fits = by_test (ltb 255 (length (path_octets true path))) where
  by_test : (t : Bool)
      → (let a : WireAttr = record { flags = cond t 208 192; kind = 17; value = path_octets true path } in as4_path_in (Some a) ≡ if_some_part (Some path))
  by_test true = ap if_some_part (path_again true path fits)
  by_test false = ap if_some_part (path_again true path fits)

some_long : (path : List PathPart) → has_long_as path ≡ true → if_some_part (Some path) ≡ Some path
some_long [] e = absurd cc
some_long (part ∷ path) e = refl

-- the path that is found, where no AS4 attribute is stale
path_found : (wide : Bool) (path : List PathPart) → All IsPart path
    → path_with false (Some (path_in_width wide path)) (unless_wide wide (as4_path_in (head_of (as4_path_written wide path)))) ≡ Some path
path_found true path all = refl
path_found false path all = by_test (has_long_as path) refl where
  by_test : (t : Bool) → has_long_as path ≡ t
      → path_with false (Some (map narrow_part path)) (as4_path_in (head_of (cond t (written 192 17 (path_octets true path) ∷ []) []))) ≡ Some path
  by_test true e =
      ap (path_with false (Some (map narrow_part path))) (as4_path_found path (path_fits true path all) ∙ some_long path e)
      ∙ ap (λ (ps : List PathPart). Some ps) (merged_whole path)
  by_test false e = ap (λ (ps : List PathPart). Some ps) (narrow_path_same path e)

as4_aggregator_found : (a : Aggregator) → IsAggregator a
    → as4_aggregator_in (Some (written 192 18 (aggregator_octets true a.as_number a.address)))
    ≡ Some (record { as_number = a.as_number; address = a.address; partial = false })
as4_aggregator_found a f = ap (λ (b : Aggregator). Some b) (aggregator_said true false 18 a.as_number a.address f.as_number f.address)

-- the aggregator that is found, and whether AS4 attributes are stale
merged_found : (wide : Bool) (a : Option Aggregator) → IfSome a IsAggregator →
    (let as4 : Option Aggregator = unless_wide wide (as4_aggregator_in (head_of (as4_aggregator_written wide a))) in
    (merged_aggregator (aggregator_in_width wide a) as4 ≡ a) × (is_stale (aggregator_in_width wide a) as4 ≡ false))
merged_found true None f = (refl, refl)
merged_found false None f = (refl, refl)
merged_found true (Some a) f = (refl, refl)
merged_found false (Some a) f = by_test (is_long_as a.as_number) where
  by_test : (t : Bool) → (let n : Aggregator = record { as_number = cond t 23456 a.as_number; address = a.address; partial = a.partial } in
      let as4 : Option Aggregator = as4_aggregator_in (head_of (cond t (written 192 18 (aggregator_octets true a.as_number a.address) ∷ []) [])) in
      (merged_aggregator (Some n) as4 ≡ Some a) × (is_stale (Some n) as4 ≡ false))
  by_test true =
      let n : Aggregator = record { as_number = 23456; address = a.address; partial = a.partial } in
      let Q : Option Aggregator → Type 0 = λ as4. (merged_aggregator (Some n) as4 ≡ Some a) × (is_stale (Some n) as4 ≡ false) in
      subst Q (sym (as4_aggregator_found a f)) (refl, refl)
  by_test false = (refl, refl)

-- ---- the unknown ones

-- the values have room
record HasRoom (wide : Bool) (a : Attrs) : Type 0 where
  path : length (path_octets wide (path_in_width wide a.path)) < 65536
  long : attrs_size (as4_path_written wide a.path) < 65536
  others : AllByRecursion (λ (o : RawAttr). length o.bytes < 65536) a.unknown

size_above : (n : ℕ) → n ≤ attr_size_of n
size_above n = grind (arith, nat_tests)

others_room : (others : List RawAttr) → sum_by (λ (o : RawAttr). attr_size_of (length o.bytes)) others < 65536
    → AllByRecursion (λ (o : RawAttr). length o.bytes < 65536) others
others_room [] lt = tt
others_room (o ∷ others) lt =
    let sum = sum_by-cons (λ (o : RawAttr). attr_size_of (length o.bytes)) o others in
    let above = size_above (length o.bytes) in
    (omega arith, others_room others (omega arith))

room_in : (wide : Bool) (a : Attrs) → length (spell_attrs wide a) < 65536 → HasRoom wide a
room_in wide a lt =
    let total = spelled_attrs_size wide a in
    let path = path_in_width_size wide a.path in
    let above = size_above (sum_by (part_size wide) a.path) in
    record { path = omega arith; long = omega arith; others = others_room a.unknown (omega arith) }

other_said : (a : RawAttr) → kept_raw (other_written a) ≡ Some a
other_said a = by_test a.partial refl (ltb 255 (length a.bytes)) where
  by_test : (p : Bool) → a.partial ≡ p → (t : Bool)
      → (let r : WireAttr = record { flags = cond t (cond p 224 192 + 16) (cond p 224 192); kind = a.kind; value = a.bytes } in kept_raw r ≡ Some a)
  by_test true e true = grind arith
  by_test true e false = grind arith
  by_test false e true = grind arith
  by_test false e false = grind arith

others_good : (wide : Bool) (us : List RawAttr) → AllByRecursion IsOther us → AllByRecursion (λ (o : RawAttr). length o.bytes < 65536) us
    → AllByRecursion (IsGood wide) (map other_written us)
others_good wide [] all room = tt
others_good wide (u ∷ us) all room = let o = all.0 in (
  passed_good wide u.partial u.kind u.bytes (either (is_other u.kind) (eqb u.kind 17 || eqb u.kind 18) o.other) o.kind room.0,
  others_good wide us all.1 room.1,
)
  where
    either : (t v : Bool) → t ≡ true → (t || v) ≡ true
    either true v e = refl
    either false v e = absurd cc

others_are : (us : List RawAttr) → AllByRecursion IsOther us → AllByRecursion (λ (r : WireAttr). is_other r.kind ≡ true) (map other_written us)
others_are [] all = tt
others_are (u ∷ us) all = let o = all.0 in (o.other, others_are us all.1)

all_written : (k : ℕ) (us : List RawAttr) → AllByRecursion (λ (u : RawAttr). other_kind u ≢ k) us
    → AllByRecursion (λ (r : WireAttr). wire_kind r ≢ k) (map other_written us)
all_written k [] all = tt
all_written k (u ∷ us) all = (all.0, all_written k us all.1)

others_differ : (us : List RawAttr) → Differ other_kind us → Differ wire_kind (map other_written us)
others_differ [] d = tt
others_differ (u ∷ us) d = (all_written u.kind us d.0, others_differ us d.1)

others_kept : (us : List RawAttr) → AllByRecursion IsOther us → kept (map other_written us) ≡ us
others_kept [] all = refl
others_kept (u ∷ us) all =
    let o = all.0 in
    ap (λ (t : Bool). cond t (join (kept_raw (other_written u)) (kept (map other_written us))) (kept (map other_written us))) o.other
    ∙ (ap (λ (r : Option RawAttr). join r (kept (map other_written us))) (other_said u) ∙ ap (λ (xs : List RawAttr). u ∷ xs) (others_kept us all.1))

-- ---- all of them

abbrev kinds : List ℕ
kinds = 1 ∷ 2 ∷ 3 ∷ 4 ∷ 6 ∷ 7 ∷ 17 ∷ 18 ∷ []

abbrev slots : Bool → Attrs → List (List WireAttr)
slots wide a =
    (origin_written a.origin ∷ []) ∷ (path_written wide a.path ∷ []) ∷ (next_hop_written a.next_hop ∷ []) ∷ med_written a.med ∷ atomic_written a.atomic
    ∷ aggregator_written wide a.aggregator ∷ as4_path_written wide a.path ∷ as4_aggregator_written wide a.aggregator ∷ []

written_joined : (wide : Bool) (a : Attrs) → attrs_written wide a ≡ joined (slots wide a) (map other_written a.unknown)
unfolding attrs_written
written_joined wide a = refl

are_slots : (wide : Bool) (a : Attrs) → IsWritableAttrs a → HasRoom wide a → AreSlots wide kinds (slots wide a)
are_slots wide a w r = (
  one (origin_written a.origin) refl (origin_good wide a.origin),
  refl,
  refl,
  (
    one (path_written wide a.path) refl (path_good wide (path_in_width wide a.path) (path_fits wide a.path w.path) r.path),
    refl,
    refl,
    (
      one (next_hop_written a.next_hop) refl (next_hop_good wide a.next_hop w.next_hop),
      refl,
      refl,
      (
        med_slot wide a.med w.med,
        refl,
        refl,
        (
          atomic_slot wide a.atomic,
          refl,
          refl,
          (
            aggregator_slot wide a.aggregator,
            refl,
            refl,
            (
              as4_path_slot wide a.path r.long,
              refl,
              refl,
              (as4_aggregator_slot wide a.aggregator, refl, refl, tt),
            ),
          ),
        ),
      ),
    ),
  ),
)

-- what the attributes say
abbrev pub all_found : Attrs → FoundAttrs
all_found a = record {
  origin = Some a.origin;
  path = Some a.path;
  next_hop = Some a.next_hop;
  med = a.med;
  atomic = a.atomic;
  aggregator = a.aggregator;
  unknown = a.unknown;
}

look : (wide : Bool) (a : Attrs) (k : ℕ) → is_other k ≡ false → IsWritableAttrs a → HasRoom wide a
    → attr_of k (in_rising wire_kind (joined (slots wide a) (map other_written a.unknown))) ≡ slot_of k kinds (slots wide a)
look wide a k o w r =
    find_rising k (joined (slots wide a) (map other_written a.unknown))
    ∙ find_slot wide k kinds (slots wide a) (map other_written a.unknown) o (are_slots wide a w r)
    (others_are a.unknown (recursion_from_All IsOther a.unknown w.unknown))

atomic_found : (atomic : Bool) → is_some (head_of (atomic_written atomic)) ≡ atomic
atomic_found true = refl
atomic_found false = refl

same_found : (o o' : Option Origin) (p p' : Option (List PathPart)) (n n' m m' : Option ℕ) (t t' : Bool) (g g' : Option Aggregator) (u u' : List RawAttr)
    → o ≡ o' → p ≡ p' → n ≡ n' → m ≡ m' → t ≡ t' → g ≡ g' → u ≡ u' →
    (let x : FoundAttrs = record { origin = o; path = p; next_hop = n; med = m; atomic = t; aggregator = g; unknown = u } in
    let y : FoundAttrs = record { origin = o'; path = p'; next_hop = n'; med = m'; atomic = t'; aggregator = g'; unknown = u' } in x ≡ y)
same_found o o' p p' n n' m m' t t' g g' u u' e1 e2 e3 e4 e5 e6 e7 = grind arith

paths_found : (wide : Bool) (a : Attrs) → IsWritableAttrs a → (g as4 : Option Aggregator) → is_stale g as4 ≡ false →
    path_with (is_stale g as4) (said (path_in wide) (Some (path_written wide a.path)))
    (unless_wide wide (as4_path_in (head_of (as4_path_written wide a.path)))) ≡ Some a.path
paths_found wide a w g as4 fresh =
    let as4_path : Option (List PathPart) = unless_wide wide (as4_path_in (head_of (as4_path_written wide a.path))) in
    ap (λ (t : Bool). path_with t (said (path_in wide) (Some (path_written wide a.path))) as4_path) fresh
    ∙ (ap (λ (o : Option (List PathPart)). path_with false o as4_path) (ap ok_in (path_said wide (path_in_width wide a.path) (path_fits wide a.path w.path)))
    ∙ path_found wide a.path w.path)

all_are_found : (wide : Bool) (a : Attrs) → IsWritableAttrs a → HasRoom wide a
    → found_in wide (in_rising wire_kind (joined (slots wide a) (map other_written a.unknown))) ≡ all_found a
unfolding found_in
all_are_found wide a w r =
    let xs : List WireAttr = in_rising wire_kind (joined (slots wide a) (map other_written a.unknown)) in
    let find : (k : ℕ) → is_other k ≡ false → attr_of k xs ≡ slot_of k kinds (slots wide a) = λ k o. look wide a k o w r in
    let g : said (aggregator_in wide) (attr_of 7 xs) ≡ aggregator_in_width wide a.aggregator =
    ap (said (aggregator_in wide)) (find 7 refl) ∙ aggregator_found wide a.aggregator w.aggregator in
    let as4 : unless_wide wide (as4_aggregator_in (attr_of 18 xs))
    ≡ unless_wide wide (as4_aggregator_in (head_of (as4_aggregator_written wide a.aggregator))) =
    ap (λ (o : Option WireAttr). unless_wide wide (as4_aggregator_in o)) (find 18 refl) in
    let merged = merged_found wide a.aggregator w.aggregator in
    let fresh : is_stale (said (aggregator_in wide) (attr_of 7 xs)) (unless_wide wide (as4_aggregator_in (attr_of 18 xs))) ≡ false =
    ap (λ (o : Option Aggregator). is_stale o (unless_wide wide (as4_aggregator_in (attr_of 18 xs)))) g
    ∙ (ap (is_stale (aggregator_in_width wide a.aggregator)) as4 ∙ merged.1) in
    let path = ap (λ (o : Option WireAttr). path_with (is_stale (said (aggregator_in wide) (attr_of 7 xs))
    (unless_wide wide (as4_aggregator_in (attr_of 18 xs)))) (said (path_in wide) o) (unless_wide wide (as4_path_in (attr_of 17 xs)))) (find 2 refl) in
    let path2 =
    ap (λ (o : Option WireAttr). path_with (is_stale (said (aggregator_in wide) (attr_of 7 xs)) (unless_wide wide (as4_aggregator_in (attr_of 18 xs))))
    (said (path_in wide) (Some (path_written wide a.path))) (unless_wide wide (as4_path_in o))) (find 17 refl) in
    let us = recursion_from_All IsOther a.unknown w.unknown in
    let kept_are : in_rising other_kind (kept xs) ≡ a.unknown =
    kept_rising (joined (slots wide a) (map other_written a.unknown))
    ∙ (ap (in_rising other_kind) (kept_slots wide kinds (slots wide a) (map other_written a.unknown) (are_slots wide a w r) ∙ others_kept a.unknown us)
    ∙ rising_same other_kind a.unknown w.rising) in
    same_found _ _ _ _ _ _ _ _ _ _ _ _ _ _
    (ap (said origin_in) (find 1 refl) ∙ origin_said a.origin)
    (path ∙ (path2 ∙ paths_found wide a w (said (aggregator_in wide) (attr_of 7 xs)) (unless_wide wide (as4_aggregator_in (attr_of 18 xs))) fresh))
    (ap (said next_hop_in) (find 3 refl) ∙ ap ok_in (next_hop_said a.next_hop w.next_hop))
    (ap (said med_in) (find 4 refl) ∙ med_found a.med w.med)
    (ap is_some (find 6 refl) ∙ atomic_found a.atomic)
    (ap (λ (o : Option Aggregator). merged_aggregator o (unless_wide wide (as4_aggregator_in (attr_of 18 xs)))) g
    ∙ (ap (merged_aggregator (aggregator_in_width wide a.aggregator)) as4 ∙ merged.0))
    kept_are

good_parts : (wide : Bool) (xs : List WireAttr) → AllByRecursion (IsGood wide) xs
    → AllByRecursion IsWireAttr xs × AllByRecursion (λ x. own_fault wide x ≡ None) xs
good_parts wide [] all = (tt, tt)
good_parts wide (x ∷ xs) all = let g = all.0 in let h = good_parts wide xs all.1 in ((g.sound, h.0), (g.own, h.1))

-- attributes that are written read as they are
pub attrs_again : (wide : Bool) (a : Attrs) → IsWritableAttrs a → length (spell_attrs wide a) < 65536 → ReadsAttrs wide (spell_attrs wide a) (all_found a)
unfolding spell_attrs
attrs_again wide a w lt =
    let r = room_in wide a lt in
    let us = recursion_from_All IsOther a.unknown w.unknown in
    let ss = are_slots wide a w r in
    let all : List WireAttr = joined (slots wide a) (map other_written a.unknown) in
    let good = all_good wide kinds (slots wide a) (map other_written a.unknown) ss (others_good wide a.unknown us r.others) in
    let differ = all_differ wide kinds (slots wide a) (map other_written a.unknown) ss
    (others_are a.unknown us) (others_differ a.unknown (rising_differ other_kind a.unknown w.rising)) in
    let parts = good_parts wide (in_rising wire_kind all) (all_rising (IsGood wide) wire_kind all good) in
    record {
      attrs = in_rising wire_kind all;
      octets = ap (λ (xs : List WireAttr). flat_map attr_octets (in_rising wire_kind xs)) (written_joined wide a);
      each = parts.0;
      sound = parts.1;
      once = rising_differ wire_kind (in_rising wire_kind all) (rising_of wire_kind all differ);
      says = sym (all_are_found wide a w r);
    }
