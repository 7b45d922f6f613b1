-- Attributes that a frame reads as can be written.
use Rattle.std.proofs.Common.{◌≡◌, ℕ, ◌+◌, ◌^◌, ◌<◌, List, [], ◌∷◌, length, take, drop, Bool, true, false, cond, eqb}
use Rattle.std.proofs.Common.{Option, Some, None, Result, Ok, Err, refl, sym, ap, ◌∙◌, subst, arith}
use Rattle.std.specs.Prelude.{◌≢◌, bit_and, IfSome, ◌&&◌}
use Rattle.std.specs.List.{flat_map, AllByRecursion}
use Rattle.std.specs.Int.{w32, byte_len, from_be_bytes, to_be_bytes}
use Rattle.std.proofs.lemmas.List.Elements.{All-from_recursion, All-weaker}
use Rattle.bgp_types.specs.declared.attrs.Aggregator.{Aggregator}
use Rattle.bgp_types.specs.declared.attrs.Attrs.{Attrs}
use Rattle.bgp_types.specs.declared.attrs.RawAttr.{RawAttr}
use Rattle.bgp_types.specs.declared.fault.FoundAttrs.{FoundAttrs}
use Rattle.bgp_types.specs.declared.message.Notice.{Notice}
use Rattle.bgp_types.specs.declared.path.PathPart.{PathPart}
use Rattle.bgp_types.specs.declared.path.PathPart.TheVariants as parts
use Rattle.bgp_types.specs.Faults.{ok_in, about, or_fault, with_flags, with_size, host_in, path_in, next_hop_in, med_in}
use Rattle.bgp_types.specs.Faults.{aggregator_in, aggregator_of, is_transitive, kept_raw, attr_of, bare}
use Rattle.bgp_types.specs.Found.{said, if_some_part, as4_path_in, as4_aggregator_in, unless_wide, join, kept, found_in}
use Rattle.bgp_types.specs.Merge.{merged_aggregator, is_stale, path_with}
use Rattle.bgp_types.specs.OctetLists.{AreOctets}
use Rattle.bgp_types.specs.PathOctets.{as_width, path_of}
use Rattle.bgp_types.specs.Prefixes.{PrefixValue}
use Rattle.bgp_types.specs.Reads.{Differ, ReadsAttrs, SaysAttributes}
use Rattle.bgp_types.specs.Rising.{IsRising}
use Rattle.bgp_types.specs.Values.{is_no_host, is_other, other_kind}
use Rattle.bgp_types.specs.WireAttrs.{WireAttr, IsWireAttr, wire_kind, size_width, attr_octets}
use Rattle.bgp_types.specs.Writable.{IsPart, IsOther, IsAggregator, HasAttrsFor}
use Rattle.bgp_types.proofs.AttrLaws.{AreOctets-take, AreOctets-drop, wide32}
use Rattle.bgp_types.proofs.OrderLaws.{all_rising, rising_of, kept_kind}
use Rattle.bgp_types.proofs.PartLaws.{IsPartIn, as_limit, wide_as, path_is}
use Rattle.bgp_wire.proofs.MergeLaws.{Parts, merged_is}
use Rattle.bgp_wire.proofs.OctetLaws.{AreOctets-front, AreOctets-back}

-- an attribute that was cut from octets
record IsCut (a : WireAttr) : Type 0 where
  octets : AreOctets a.value
  kind : a.kind < 256

cut_is : (attrs : List WireAttr) → AreOctets (flat_map attr_octets attrs) → AllByRecursion IsWireAttr attrs → AllByRecursion IsCut attrs
cut_is [] octets each = tt
cut_is (a ∷ attrs) octets each =
    let whole : AreOctets (attr_octets a) = AreOctets-front (attr_octets a) (flat_map attr_octets attrs) octets in
    let value : AreOctets a.value = AreOctets-back (a.flags ∷ a.kind ∷ to_be_bytes (size_width a.flags) (length a.value)) a.value whole in
    (record { octets = value; kind = each.0.kind }, cut_is attrs (AreOctets-back (attr_octets a) (flat_map attr_octets attrs) octets) each.1)

-- what holds of an attribute, where one of a type is there
abbrev Where : {A : Type 0} → (A → Type 0) → Option A → Type 0
Where P None = Unit {0}
Where P (Some x) = P x

of_type : (P : WireAttr → Type 0) (kind : ℕ) (attrs : List WireAttr) → AllByRecursion P attrs → Where P (attr_of kind attrs)
of_type P kind [] all = tt
of_type P kind (a ∷ attrs) all = by_test (eqb a.kind kind) (of_type P kind attrs all.1) where
  by_test : (t : Bool) → Where P (attr_of kind attrs) → Where P (cond t (Some a) (attr_of kind attrs))
  by_test true rest = all.0
  by_test false rest = rest

of_said : {A : Type 0} (P : A → Type 0) (read : WireAttr → Result A Notice) (o : Option WireAttr) → Where IsCut o
    → ((a : WireAttr) → IsCut a → Where P (ok_in (read a))) → Where P (said read o)
of_said P read None cut h = tt
of_said P read (Some a) cut h = h a cut

-- ---- each test in front of a value

of_flags : {A : Type 0} (P : A → Type 0) (mode : ℕ) (a : WireAttr) (r : Result A Notice) → Where P (ok_in r) → Where P (ok_in (with_flags mode a r))
of_flags {A} P mode a r h = by_test (eqb (bit_and a.flags 192) mode) where
  by_test : (t : Bool) → Where P (ok_in (let s : Result A Notice = cond t r (Err (about 4 (attr_octets a))) in s))
  by_test true = h
  by_test false = tt

of_size : {A : Type 0} (P : A → Type 0) (size : ℕ) (a : WireAttr) (r : Result A Notice) → Where P (ok_in r) → Where P (ok_in (with_size size a r))
of_size {A} P size a r h = by_test (eqb (length a.value) size) where
  by_test : (t : Bool) → Where P (ok_in (let s : Result A Notice = cond t r (Err (about 5 (attr_octets a))) in s))
  by_test true = h
  by_test false = tt

-- ---- paths

in_four : (wide : Bool) (n : ℕ) → n < as_limit wide → n < 2 ^ 32
in_four true n lt = lt
in_four false n lt = omega arith

part_is : (wide : Bool) (part : PathPart) → IsPartIn wide part → IsPart part
part_is wide (parts.Set ases) p = record { some = p.0; count = p.1; each = All-weaker (λ n. n < as_limit wide) (λ n. n < 2 ^ 32) (in_four wide) ases p.2 }
part_is wide (parts.Sequence ases) p = record { some = p.0; count = p.1; each = All-weaker (λ n. n < as_limit wide) (λ n. n < 2 ^ 32) (in_four wide) ases p.2 }

parts_are : (wide : Bool) (path : List PathPart) → AllByRecursion (IsPartIn wide) path → Parts path
parts_are wide [] all = tt
parts_are wide (part ∷ path) all = (part_is wide part all.0, parts_are wide path all.1)

path_parts : (wide : Bool) (value : List ℕ) → AreOctets value → Where Parts (path_of wide value)
path_parts wide value octets = by_answer (path_of wide value) refl where
  by_answer : (o : Option (List PathPart)) → path_of wide value ≡ o → Where Parts o
  by_answer None e = tt
  by_answer (Some path) e = parts_are wide path (path_is wide value path octets e).1

path_said : (wide : Bool) (a : WireAttr) → IsCut a → Where Parts (ok_in (path_in wide a))
unfolding path_in
path_said wide a cut =
    of_flags Parts 64 a (or_fault (path_of wide a.value) (bare 11)) (by_answer (path_of wide a.value) (path_parts wide a.value cut.octets))
  where
    by_answer : (o : Option (List PathPart)) → Where Parts o → Where Parts (ok_in (or_fault o (bare 11)))
    by_answer None p = tt
    by_answer (Some path) p = p

as4_said : (o : Option WireAttr) → Where IsCut o → Where Parts (as4_path_in o)
as4_said None cut = tt
as4_said (Some a) cut = by_test (is_transitive a) (some_part (path_of true a.value) (path_parts true a.value cut.octets)) where
  some_part : (o : Option (List PathPart)) → Where Parts o → Where Parts (if_some_part o)
  some_part None p = tt
  some_part (Some []) p = tt
  some_part (Some (part ∷ path)) p = p

  by_test : (t : Bool) → Where Parts (if_some_part (path_of true a.value))
      → Where Parts (let o : Option (List PathPart) = cond t (if_some_part (path_of true a.value)) None in o)
  by_test true p = p
  by_test false p = tt

of_width : {A : Type 0} (P : A → Type 0) (wide : Bool) (o : Option A) → Where P o → Where P (unless_wide wide o)
of_width P true o p = tt
of_width P false o p = p

of_merge : (stale : Bool) (path as4 : Option (List PathPart)) → Where Parts path → Where Parts as4 → Where Parts (path_with stale path as4)
of_merge stale None as4 p q = tt
of_merge stale (Some path) None p q = p
of_merge true (Some path) (Some as4) p q = p
of_merge false (Some path) (Some as4) p q = merged_is path as4 p q

-- ---- numbers

abbrev IsHost : ℕ → Type 0
IsHost address = is_no_host address ≡ false

host_said : (a : WireAttr) → Where IsHost (ok_in (next_hop_in a))
unfolding next_hop_in
host_said a = of_flags IsHost 64 a (with_size 4 a (host_in a (from_be_bytes w32 a.value)))
    (of_size IsHost 4 a (host_in a (from_be_bytes w32 a.value)) (by_test (is_no_host (from_be_bytes w32 a.value)) refl))
  where
    by_test : (t : Bool) → is_no_host (from_be_bytes w32 a.value) ≡ t
        → Where IsHost (ok_in (let r : Result ℕ Notice = cond t (Err (about 8 (attr_octets a))) (Ok (from_be_bytes w32 a.value)) in r))
    by_test true e = tt
    by_test false e = e

med_said : (a : WireAttr) → IsCut a → Where (λ n. n < 2 ^ 32) (ok_in (med_in a))
unfolding med_in
med_said a cut = of_flags (λ n. n < 2 ^ 32) 128 a (with_size 4 a (Ok (from_be_bytes w32 a.value)))
    (of_size (λ n. n < 2 ^ 32) 4 a (Ok (from_be_bytes w32 a.value)) (wide32.below a.value cut.octets))

aggregator_is : (wide : Bool) (a : WireAttr) → IsCut a → IsAggregator (aggregator_of wide a)
aggregator_is wide a cut =
    let size : ℕ = byte_len (as_width wide) in
    record {
      as_number = in_four wide _ ((wide_as wide).below (take size a.value) (AreOctets-take size a.value cut.octets));
      address = wide32.below (drop size a.value) (AreOctets-drop size a.value cut.octets);
    }

aggregator_said : (wide : Bool) (a : WireAttr) → IsCut a → Where IsAggregator (ok_in (aggregator_in wide a))
unfolding aggregator_in
aggregator_said wide a cut = of_flags IsAggregator 192 a (with_size (byte_len (as_width wide) + 4) a (Ok (aggregator_of wide a)))
    (of_size IsAggregator (byte_len (as_width wide) + 4) a (Ok (aggregator_of wide a)) (aggregator_is wide a cut))

as4_aggregator_said : (o : Option WireAttr) → Where IsCut o → Where IsAggregator (as4_aggregator_in o)
as4_aggregator_said None cut = tt
as4_aggregator_said (Some a) cut = by_test (is_transitive a && eqb (length a.value) 8) where
  by_test : (t : Bool) → Where IsAggregator (let o : Option Aggregator = cond t (Some (aggregator_of true a)) None in o)
  by_test true = aggregator_is true a cut
  by_test false = tt

of_merged : (a as4 : Option Aggregator) → Where IsAggregator a → Where IsAggregator as4 → Where IsAggregator (merged_aggregator a as4)
of_merged None as4 p q = tt
of_merged (Some a) None p q = p
of_merged (Some a) (Some b) p q = by_test (eqb a.as_number 23456) where
  by_test : (t : Bool)
      → Where IsAggregator (let o : Option Aggregator = cond t (Some (record a { as_number = b.as_number; address = b.address })) (Some a) in o)
  by_test true = record { as_number = q.as_number; address = q.address }
  by_test false = p

-- ---- those of unknown types

record AreOthers (attrs : List WireAttr) : Type 0 where
  each : AllByRecursion IsOther (kept attrs)
  differ : Differ other_kind (kept attrs)

-- the kept ones have types that stand among the attributes
kept_unlike : (kind : ℕ) (attrs : List WireAttr) → AllByRecursion (λ a. wire_kind a ≢ kind) attrs → AllByRecursion (λ r. other_kind r ≢ kind) (kept attrs)
kept_unlike kind [] all = tt
kept_unlike kind (a ∷ attrs) all = by_test (is_other a.kind) (kept_raw a) refl (kept_unlike kind attrs all.1) where
  by_test : (t : Bool) (o : Option RawAttr) → kept_raw a ≡ o → AllByRecursion (λ r. other_kind r ≢ kind) (kept attrs)
      → AllByRecursion (λ r. other_kind r ≢ kind) (cond t (join o (kept attrs)) (kept attrs))
  by_test true None e rest = rest
  by_test true (Some r) e rest = ((λ same. all.0 (sym (kept_kind a r e) ∙ same)), rest)
  by_test false o e rest = rest

others_are : (attrs : List WireAttr) → AllByRecursion IsCut attrs → Differ wire_kind attrs → AreOthers attrs
others_are [] cut differ = record { each = tt; differ = tt }
others_are (a ∷ attrs) cut differ =
    let both = by_test (is_other a.kind) refl (kept_raw a) refl (others_are attrs cut.1 differ.1) in record { each = both.0; differ = both.1 }
  where
    by_test : (t : Bool) → is_other a.kind ≡ t → (o : Option RawAttr) → kept_raw a ≡ o → AreOthers attrs
        → AllByRecursion IsOther (cond t (join o (kept attrs)) (kept attrs)) × Differ other_kind (cond t (join o (kept attrs)) (kept attrs))
    by_test true e None f rest = (rest.each, rest.differ)
    by_test true e (Some r) f rest =
        let k : other_kind r ≡ a.kind = kept_kind a r f in
        let other : IsOther r = record { other = ap is_other k ∙ e; kind = subst (λ n. n < 256) (sym k) cut.0.kind } in
        ((other, rest.each), (subst (λ n. AllByRecursion (λ s. other_kind s ≢ n) (kept attrs)) (sym k) (kept_unlike a.kind attrs differ.0), rest.differ))
    by_test false e o f rest = (rest.each, rest.differ)

-- ---- all of them

-- what was found can be written
pub record IsGood (f : FoundAttrs) : Type 0 where
  pub path : Where Parts f.path
  pub next_hop : Where IsHost f.next_hop
  pub med : Where (λ n. n < 2 ^ 32) f.med
  pub aggregator : Where IsAggregator f.aggregator
  pub unknown : AllByRecursion IsOther f.unknown
  pub rising : IsRising other_kind f.unknown

found_good : (wide : Bool) (attrs : List WireAttr) → AllByRecursion IsCut attrs → Differ wire_kind attrs → IsGood (found_in wide attrs)
unfolding found_in
found_good wide attrs cut differ =
    let others = others_are attrs cut differ in
    let at : (kind : ℕ) → Where IsCut (attr_of kind attrs) = λ kind. of_type IsCut kind attrs cut in
    let aggregator : Option Aggregator = said (aggregator_in wide) (attr_of 7 attrs) in
    let as4 : Option Aggregator = unless_wide wide (as4_aggregator_in (attr_of 18 attrs)) in
    record {
      path = of_merge (is_stale aggregator as4) (said (path_in wide) (attr_of 2 attrs)) (unless_wide wide (as4_path_in (attr_of 17 attrs)))
          (of_said Parts (path_in wide) (attr_of 2 attrs) (at 2) (path_said wide))
          (of_width Parts wide (as4_path_in (attr_of 17 attrs)) (as4_said (attr_of 17 attrs) (at 17)));
      next_hop = of_said IsHost next_hop_in (attr_of 3 attrs) (at 3) (λ a cut. host_said a);
      med = of_said (λ n. n < 2 ^ 32) med_in (attr_of 4 attrs) (at 4) med_said;
      aggregator = of_merged aggregator as4 (of_said IsAggregator (aggregator_in wide) (attr_of 7 attrs) (at 7) (aggregator_said wide))
          (of_width IsAggregator wide (as4_aggregator_in (attr_of 18 attrs)) (as4_aggregator_said (attr_of 18 attrs) (at 18)));
      unknown = all_rising IsOther other_kind (kept attrs) others.each;
      rising = rising_of other_kind (kept attrs) others.differ;
    }

pub read_good : (wide : Bool) (field : List ℕ) (found : FoundAttrs) → AreOctets field → ReadsAttrs wide field found → IsGood found
read_good wide field found octets r = subst IsGood (sym r.says) (found_good wide r.attrs (cut_is r.attrs (subst AreOctets r.octets octets) r.each) r.once)

if_some : {A : Type 0} (P : A → Type 0) (o : Option A) → Where P o → IfSome o P
if_some P None p = tt
if_some P (Some x) p = p

pub attrs_for : (found : FoundAttrs) (attrs : Option Attrs) (nlri : List PrefixValue) → IsGood found → SaysAttributes found attrs nlri → HasAttrsFor attrs nlri
attrs_for found None nlri good says = says
attrs_for found (Some a) nlri good says =
    let g = subst IsGood says.1 good in (
      says.0,
      record {
        path = All-from_recursion IsPart a.path g.path;
        next_hop = g.next_hop;
        med = if_some (λ n. n < 2 ^ 32) a.med g.med;
        aggregator = if_some IsAggregator a.aggregator g.aggregator;
        unknown = All-from_recursion IsOther a.unknown g.unknown;
        rising = g.rising;
      },
    )
