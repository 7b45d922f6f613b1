-- A part that is spelled is read.
use Rattle.std.proofs.Common.{◌≡◌, ℕ, zero, suc, ◌+◌, ◌*◌, ◌^◌, ◌<◌, ◌≤◌, List, [], ◌∷◌, ◌++◌, length, take, drop, Bool, true, false, cond, eqb}
use Rattle.std.proofs.Common.{ltb, Option, Some, None, refl, sym, ap, subst, ◌∙◌, arith, append_assoc, length-drop, inl, inr}
use Rattle.std.specs.Prelude.{All, ◌||◌, ◌⊎◌, if◌then◌else◌}
use Rattle.std.specs.List.{flat_map, AllByRecursion}
use Rattle.std.specs.Int.{Width, byte_len, to_be_bytes}
use Rattle.std.proofs.Math.Nat.{suc-mul, zero-mul}
use Rattle.std.proofs.Math.Seq.{take-add}
use Rattle.std.proofs.lemmas.Option.{same_Some}
use Rattle.std.proofs.lemmas.Bool.{le-ltb, ltb-false, eqb-true}
use Rattle.std.proofs.lemmas.Bool.Decides.{nat_tests}
use Rattle.std.proofs.lemmas.List.{take_at, drop_at, length-append, length-take-le, take-append-drop}
use Rattle.std.proofs.lemmas.List.Elements.{recursion_from_All, All-from_recursion}
use Rattle.bgp_types.specs.declared.path.PathPart.{PathPart}
use Rattle.bgp_types.specs.declared.path.PathPart.TheVariants as parts
use Rattle.bgp_types.specs.PathOctets.{as_width, numbers, path_part, with_rest, part_at, part_octets, path_octets, path_of}
use Rattle.bgp_types.specs.OctetLists.{AreOctets}
use Rattle.bgp_types.proofs.AttrLaws.{IsWide, wide16, wide32, AreOctets-drop, AreOctets-take}
use Rattle.bgp_types.proofs.TakesLaws.{TakesOne, all_taken}
use Rattle.bgp_types.proofs.ManyLaws.{all_again, kept_out}
use Rattle.bgp_types.proofs.PathLaws.{part_shortens}

-- the ASes that a width holds
abbrev pub as_limit : Bool → ℕ
as_limit wide = if wide then 2 ^ 32 else 2 ^ 16

abbrev pub AreAses : Bool → List ℕ → Type 0
AreAses wide ases = (0 < length ases) × (length ases < 256) × All (λ as_number. as_number < as_limit wide) ases

abbrev pub IsPartIn : Bool → PathPart → Type 0
IsPartIn wide (parts.Set ases) = AreAses wide ases
IsPartIn wide (parts.Sequence ases) = AreAses wide ases

pub wide_as : (wide : Bool) → IsWide (as_width wide) (as_limit wide)
wide_as true = wide32
wide_as false = wide16

ases_length : (w : Width) (limit : ℕ) → IsWide w limit → (ases : List ℕ) → length (flat_map (to_be_bytes w) ases) ≡ length ases * byte_len w
ases_length w limit wide [] = omega arith
ases_length w limit wide (a ∷ ases) =
    length-append (to_be_bytes w a) (flat_map (to_be_bytes w) ases)
    ∙ rw (wide.len a, ases_length w limit wide ases, suc-mul (length ases) (byte_len w)) (omega arith)

numbers_again : (w : Width) (limit : ℕ) → IsWide w limit → (ases rest : List ℕ) → AllByRecursion (λ a. a < limit) ases
    → numbers w (length ases) (flat_map (to_be_bytes w) ases ++ rest) ≡ ases
numbers_again w limit wide [] rest fits = refl
numbers_again w limit wide (a ∷ ases) rest fits =
    let tail : List ℕ = flat_map (to_be_bytes w) ases ++ rest in
    ap (numbers w (suc (length ases))) (append_assoc (to_be_bytes w a) (flat_map (to_be_bytes w) ases) rest)
    ∙ rw (
      take_at (to_be_bytes w a) tail (byte_len w) (wide.len a),
      drop_at (to_be_bytes w a) tail (byte_len w) (wide.len a),
      wide.again a fits.0,
      numbers_again w limit wide ases rest fits.1,
    ) refl

ases_again : (wide : Bool) (kind : ℕ) (ases rest : List ℕ) → AreAses wide ases
    → part_at wide (kind ∷ length ases ∷ flat_map (to_be_bytes (as_width wide)) ases ++ rest) ≡ with_rest (path_part kind ases) rest
unfolding part_at
ases_again wide kind ases rest fits =
    let w = as_width wide in
    let bytes : List ℕ = flat_map (to_be_bytes w) ases in
    let len : length bytes ≡ length ases * byte_len w = ases_length w (as_limit wide) (wide_as wide) ases in
    let some : eqb (length ases) 0 ≡ false = let lt = fits.0 in grind (arith, nat_tests) in
    let long : ltb (length (bytes ++ rest)) (length ases * byte_len w) ≡ false = le-ltb _ _ (omega (arith, length-append bytes rest)) in
    rw (
      some,
      long,
      numbers_again w (as_limit wide) (wide_as wide) ases rest (recursion_from_All _ ases fits.2),
      drop_at bytes rest (length ases * byte_len w) len,
    ) refl

part_again : (wide : Bool) (p : PathPart) (rest : List ℕ) → IsPartIn wide p → part_at wide (part_octets wide p ++ rest) ≡ Some (p, rest)
part_again wide (parts.Set ases) rest fits = ases_again wide 1 ases rest fits
part_again wide (parts.Sequence ases) rest fits = ases_again wide 2 ases rest fits

no_part : (wide : Bool) → part_at wide [] ≡ None
unfolding part_at
no_part wide = refl

pub path_again : (wide : Bool) (path : List PathPart) → All (IsPartIn wide) path → path_of wide (path_octets wide path) ≡ Some path
unfolding path_octets
path_again wide path fits = all_again (part_at wide) (part_octets wide) (IsPartIn wide)
    (record { shortens = part_shortens wide; again = part_again wide }) path (recursion_from_All _ path fits) (no_part wide)

-- ---- what is read is spelled so

ases_take : (w : Width) (limit : ℕ) → IsWide w limit → (count : ℕ) (bytes : List ℕ) → AreOctets bytes → count * byte_len w ≤ length bytes
    → (take (count * byte_len w) bytes ≡ flat_map (to_be_bytes w) (numbers w count bytes))
    × (length (numbers w count bytes) ≡ count) × AllByRecursion (λ a. a < limit) (numbers w count bytes)
ases_take w limit wide zero bytes b le = (rw (zero-mul (byte_len w)) refl, refl, tt)
ases_take w limit wide (suc count) bytes b le =
    let k : suc count * byte_len w ≡ byte_len w + count * byte_len w = suc-mul count (byte_len w) ∙ omega arith in
    let first : byte_len w ≤ length bytes = omega arith in
    let ih = ases_take w limit wide count (drop (byte_len w) bytes) (AreOctets-drop (byte_len w) bytes b) (rw (length-drop (byte_len w) bytes) (omega arith)) in
    let front_bytes = AreOctets-take (byte_len w) bytes b in (
      ap (λ (n : ℕ). take n bytes) k
          ∙ (take-add (byte_len w) (count * byte_len w) bytes
          ∙ rw (ih.0, wide.back (take (byte_len w) bytes) (length-take-le (byte_len w) bytes first) front_bytes) refl),
      ap suc ih.1,
      (wide.below (take (byte_len w) bytes) front_bytes, ih.2),
    )

-- the part of a kind
part_kind : (kind : ℕ) (ases : List ℕ) (p : PathPart) → path_part kind ases ≡ Some p
    → ((kind ≡ 1) × (p ≡ parts.Set ases)) ⊎ ((kind ≡ 2) × (p ≡ parts.Sequence ases))
part_kind kind ases p e = by_test (eqb kind 1) refl (eqb kind 2) refl e where
  by_test : (t : Bool) → eqb kind 1 ≡ t → (u : Bool) → eqb kind 2 ≡ u
      → cond t (Some (parts.Set ases)) (cond u (Some (parts.Sequence ases)) None) ≡ Some p
      → ((kind ≡ 1) × (p ≡ parts.Set ases)) ⊎ ((kind ≡ 2) × (p ≡ parts.Sequence ases))
  by_test true f u g e = inl (eqb-true _ _ f, sym (same_Some _ p e))
  by_test false f true g e = inr (eqb-true _ _ g, sym (same_Some _ p e))
  by_test false f false g e = absurd cc

with_rest_some : (o : Option PathPart) (rest : List ℕ) (x : PathPart × List ℕ) → with_rest o rest ≡ Some x → (o ≡ Some x.0) × (rest ≡ x.1)
with_rest_some None rest x e = absurd cc
with_rest_some (Some p) rest x e =
    let s = same_Some _ x e in (ap (λ (y : PathPart × List ℕ). (let o : Option PathPart = Some y.0 in o)) s, ap (λ (y : PathPart × List ℕ). y.1) s)

pub part_takes : (wide : Bool) (bytes : List ℕ) (x : PathPart × List ℕ) → AreOctets bytes → part_at wide bytes ≡ Some x
    → TakesOne AreOctets (part_at wide) (part_octets wide) (IsPartIn wide) bytes x
unfolding part_at
part_takes wide [] x b e = absurd cc
part_takes wide (kind ∷ []) x b e = absurd cc
part_takes wide (kind ∷ count ∷ bytes) x b e =
    let w = as_width wide in
    let size : ℕ = count * byte_len w in
    let ases : List ℕ = numbers w count bytes in
    let bytes_fit : AreOctets bytes = AreOctets-drop 2 (kind ∷ count ∷ bytes) b in
    let k = kept_out ((eqb count 0) || ltb (length bytes) size) (with_rest (path_part kind ases) (drop size bytes)) x e in
    let t = either_false (eqb count 0) (ltb (length bytes) size) k.0 in
    let r = with_rest_some (path_part kind ases) (drop size bytes) x k.1 in
    let a = ases_take w (as_limit wide) (wide_as wide) count bytes bytes_fit (ltb-false _ _ t.1) in
    let some : 0 < count = let n = t.0 in grind (arith, nat_tests) in
    let below : count < 256 = b 1 in
    let good : AreAses wide ases = (rw a.1 some, rw a.1 below, All-from_recursion _ ases a.2) in
    let parted : bytes ≡ flat_map (to_be_bytes w) ases ++ x.1 =
    sym (take-append-drop size bytes) ∙ (ap (λ (y : List ℕ). y ++ drop size bytes) a.0 ∙ ap (λ (y : List ℕ). flat_map (to_be_bytes w) ases ++ y) r.1) in
    let rest_fits : AreOctets x.1 = subst AreOctets r.1 (AreOctets-drop size bytes bytes_fit) in
    elim (part_kind kind ases x.0 r.0) [
      | inl h ↦ record {
        parts = ap (λ (n : ℕ). n ∷ count ∷ bytes) h.0
            ∙ (ap (λ (n : ℕ). 1 ∷ n ∷ bytes) (sym a.1)
            ∙ (ap (λ (y : List ℕ). 1 ∷ length ases ∷ y) parted ∙ ap (λ (p : PathPart). part_octets wide p ++ x.1) (sym h.1)));
        fits = subst (IsPartIn wide) (sym h.1) good;
        rest = rest_fits;
      }
      | inr h ↦ record {
        parts = ap (λ (n : ℕ). n ∷ count ∷ bytes) h.0
            ∙ (ap (λ (n : ℕ). 2 ∷ n ∷ bytes) (sym a.1)
            ∙ (ap (λ (y : List ℕ). 2 ∷ length ases ∷ y) parted ∙ ap (λ (p : PathPart). part_octets wide p ++ x.1) (sym h.1)));
        fits = subst (IsPartIn wide) (sym h.1) good;
        rest = rest_fits;
      }
    ]
  where
    either_false : (t u : Bool) → (t || u) ≡ false → (t ≡ false) × (u ≡ false)
    either_false true u e = absurd cc
    either_false false u e = (refl, e)

-- a value is a path exactly where it is the path's parts, one after another
pub path_is : (wide : Bool) (value : List ℕ) (path : List PathPart) → AreOctets value → path_of wide value ≡ Some path
    → (value ≡ path_octets wide path) × AllByRecursion (IsPartIn wide) path
unfolding path_octets
path_is wide value path b e = all_taken AreOctets (part_at wide) (part_octets wide) (IsPartIn wide) (part_takes wide) value path b e
