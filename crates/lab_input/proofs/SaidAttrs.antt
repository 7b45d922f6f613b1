-- The attributes that a step announces with: they can be written, in few octets.
use Rattle.std.proofs.Common.{◌≡◌, ℕ, ◌+◌, ◌*◌, ◌^◌, ◌<◌, ◌≤◌, List, [], ◌∷◌, length, Bool, true, false, cond, not, refl, sym, ap, subst, arith}
use Rattle.std.specs.Prelude.{◌&&◌, Option, Some, None, IfSome, sum_by, All, codes}
use Rattle.std.specs.List.{AllByRecursion, filter_map, cons_option}
use Rattle.std.proofs.lemmas.Bool.Decides.{nat_tests}
use Rattle.std.proofs.lemmas.List.Elements.{All-from_recursion, All-nil, All-cons}
use Rattle.toml.specs.Data.{Data, Members, get_member}
use Rattle.bgp_types.specs.declared.attrs.Attrs.{Attrs}
use Rattle.bgp_types.specs.declared.path.PathPart.{PathPart}
use Rattle.bgp_types.specs.declared.path.PathPart.TheVariants.{Sequence}
use Rattle.bgp_types.specs.Lengths.{part_size, attrs_size, attr_size_of}
use Rattle.bgp_types.specs.PathOctets.{has_long_as}
use Rattle.bgp_types.specs.Spelling.{med_written, atomic_written, aggregator_written, as4_path_written, as4_aggregator_written, spell_attrs}
use Rattle.bgp_types.specs.Values.{is_no_host}
use Rattle.bgp_types.specs.Writable.{IsPart, IsOther, IsWritableAttrs}
use Rattle.bgp_types.proofs.Lengths.{part_size_is, as4_path_size, spelled_attrs_size}
use Rattle.lab_keys.specs.Values.{number_in, has_member, items_at, numbers_at}
use Rattle.lab_keys.proofs.NoFlaws.{number_fits, maybe_fits}
use Rattle.lab_tables.specs.Scripts.{sequence_path, step_ases, attrs_of}

-- ---- the path

abbrev IsNumber : ℕ → Type 0
IsNumber as_number = as_number < 2 ^ 32

added : (o : Option ℕ) (ns : List ℕ) → IfSome o (λ n. n < 2 ^ 32) → AllByRecursion IsNumber ns → AllByRecursion IsNumber (cons_option o ns)
added None ns fits each = each
added (Some n) ns fits each = (fits, each)

numbers_fit : (ds : List Data) → AllByRecursion IsNumber (filter_map (number_in 32) ds)
numbers_fit [] = tt
numbers_fit (d ∷ ds) = added (number_in 32 d) (filter_map (number_in 32) ds) (number_fits 32 d) (numbers_fit ds)

ases_fit : (remote_as : ℕ) (t : Members) → remote_as < 2 ^ 32 → AllByRecursion IsNumber (step_ases remote_as t)
ases_fit remote_as t fits = by_test (has_member (codes "path") t) where
  by_test : (b : Bool) → AllByRecursion IsNumber (cond b (numbers_at (codes "path") t) (remote_as ∷ []))
  by_test true = numbers_fit (items_at (codes "path") t)
  by_test false = (fits, tt)

parts_written : (ases : List ℕ) → AllByRecursion IsNumber ases → length ases ≤ 64 → All IsPart (sequence_path ases)
parts_written [] each few = All-nil IsPart
parts_written (a ∷ ases) each few =
    let part : IsPart (Sequence (a ∷ ases)) = record {
      some = omega arith;
      count = omega arith;
      each = All-from_recursion IsNumber (a ∷ ases) each;
    } in
    All-cons IsPart (Sequence (a ∷ ases)) [] part (All-nil IsPart)

path_small : (wide : Bool) (ases : List ℕ) → length ases ≤ 64 → sum_by (part_size wide) (sequence_path ases) ≤ 258
path_small wide [] few = omega arith
path_small false (a ∷ ases) few =
    let size : part_size false (Sequence (a ∷ ases)) ≡ length (a ∷ ases) * 2 + 2 = part_size_is false (Sequence (a ∷ ases)) in omega arith
path_small true (a ∷ ases) few =
    let size : part_size true (Sequence (a ∷ ases)) ≡ length (a ∷ ases) * 4 + 2 = part_size_is true (Sequence (a ∷ ases)) in omega arith

-- ---- octets

small_enough : (value : ℕ) → value ≤ 258 → attr_size_of value ≤ 262
small_enough value le = grind (arith, nat_tests)

small_if : (t : Bool) (value : ℕ) → value ≤ 262 → cond t value 0 ≤ 262
small_if true value le = le
small_if false value le = omega arith

med_small : (med : Option ℕ) → attrs_size (med_written med) ≤ 7
med_small None = omega arith
med_small (Some med) = omega arith

-- ORIGIN, AS_PATH, NEXT_HOP, MULTI_EXIT_DISC and AS4_PATH
attrs_small : (wide : Bool) (a : Attrs) (ases : List ℕ) → a.path ≡ sequence_path ases → a.atomic ≡ false → a.aggregator ≡ None → a.unknown ≡ []
    → length ases ≤ 64 → length (spell_attrs wide a) ≤ 600
attrs_small wide a ases path_is no_atomic no_aggregator no_unknown few =
    let size = spelled_attrs_size wide a in
    let med = med_small a.med in
    let atomic : attrs_size (atomic_written a.atomic) ≡ 0 = ap (λ (x : Bool). attrs_size (atomic_written x)) no_atomic in
    let aggregator : attrs_size (aggregator_written wide a.aggregator) ≡ 0 = subst (λ x. attrs_size (aggregator_written wide x) ≡ 0) (sym no_aggregator) refl in
    let second : attrs_size (as4_aggregator_written wide a.aggregator) ≡ 0 =
    subst (λ x. attrs_size (as4_aggregator_written wide x) ≡ 0) (sym no_aggregator) refl in
    let path : attr_size_of (sum_by (part_size wide) a.path) ≤ 262 =
    subst (λ (x : List PathPart). attr_size_of (sum_by (part_size wide) x) ≤ 262) (sym path_is) (small_enough _ (path_small wide ases few)) in
    let long : attr_size_of (sum_by (part_size true) a.path) ≤ 262 =
    subst (λ (x : List PathPart). attr_size_of (sum_by (part_size true) x) ≤ 262) (sym path_is) (small_enough _ (path_small true ases few)) in
    let fourth : attrs_size (as4_path_written wide a.path) ≤ 262 =
    subst (λ n. n ≤ 262) (sym (as4_path_size wide a.path)) (small_if (not wide && has_long_as a.path) (attr_size_of (sum_by (part_size true) a.path)) long) in
    let others : sum_by (λ other. attr_size_of (length other.bytes)) a.unknown ≡ 0 =
    ap (λ x. sum_by (λ other. attr_size_of (length other.bytes)) x) no_unknown in
    omega arith

-- ---- all of them

-- Attributes that can be written, in few octets.
pub record AreSaidAttrs (a : Attrs) : Type 0 where
  pub writable : IsWritableAttrs a
  pub small : (wide : Bool) → length (spell_attrs wide a) ≤ 600

pub attrs_said : (remote_as remote_address : ℕ) (t : Members) → remote_as < 2 ^ 32
    → is_no_host (attrs_of remote_as remote_address t).next_hop ≡ false → length (step_ases remote_as t) ≤ 64
    → AreSaidAttrs (attrs_of remote_as remote_address t)
attrs_said remote_as remote_address t fits host few =
    let a : Attrs = attrs_of remote_as remote_address t in
    let ases : List ℕ = step_ases remote_as t in
    let writable : IsWritableAttrs a = record {
      path = parts_written ases (ases_fit remote_as t fits) few;
      next_hop = host;
      med = maybe_fits 32 (get_member (codes "med") t);
      aggregator = tt;
      unknown = All-nil IsOther;
      rising = tt;
    } in
    record { writable = writable; small = λ wide. attrs_small wide a ases refl refl refl refl few }
