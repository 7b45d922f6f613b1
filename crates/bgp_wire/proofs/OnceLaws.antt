-- Prefixes that a frame reads as: each is one, and none stands twice.
use Rattle.std.proofs.Common.{◌≡◌, ℕ, zero, suc, ◌^◌, ◌<◌, List, [], ◌∷◌, ◌++◌, length, map, drop, Bool, true, false, cond, refl, sym, subst, arith}
use Rattle.std.specs.Prelude.{All, not, filter}
use Rattle.std.specs.List.{flat_map, AllByRecursion, IsDistinct, list_any}
use Rattle.std.proofs.lemmas.List.Elements.{All-from_recursion}
use Rattle.bgp_types.specs.OctetLists.{AreOctets}
use Rattle.bgp_types.specs.Prefixes.{PrefixValue, WirePrefix, IsPrefix, IsWirePrefix, address_of, wire_octets, prefix_said, same_prefix, once_after}
use Rattle.bgp_types.specs.Reads.{ReadsPrefixes}
use Rattle.bgp_types.specs.UpdateBody.{apart}
use Rattle.bgp_types.proofs.AttrLaws.{wide32, AreOctets-drop}
use Rattle.bgp_types.proofs.ManyLaws.{either_false}
use Rattle.bgp_types.proofs.OnceLaws.{IsPrefix-prefix_of, once_each, each_once}
use Rattle.bgp_wire.proofs.OctetLaws.{AreOctets-front, AreOctets-back, AreOctets-append}

-- ---- each is a prefix

no_octets : AreOctets (0 ∷ 0 ∷ 0 ∷ 0 ∷ [])
no_octets zero = omega arith
no_octets (suc zero) = omega arith
no_octets (suc (suc zero)) = omega arith
no_octets (suc (suc (suc zero))) = omega arith
no_octets (suc (suc (suc (suc i)))) = omega arith

said_is : (w : WirePrefix) → IsWirePrefix w → AreOctets w.octets → IsPrefix (prefix_said w)
said_is w fits octets =
    let address : ℕ = address_of w.octets in
    let below : address < 2 ^ 32 = wide32.below (w.octets ++ drop (length w.octets) (0 ∷ 0 ∷ 0 ∷ 0 ∷ []))
    (AreOctets-append w.octets _ octets (AreOctets-drop (length w.octets) (0 ∷ 0 ∷ 0 ∷ 0 ∷ []) no_octets)) in
    IsPrefix-prefix_of w.len address fits.len below

all_said : (ws : List WirePrefix) → AreOctets (flat_map wire_octets ws) → AllByRecursion IsWirePrefix ws → AllByRecursion IsPrefix (map prefix_said ws)
all_said [] octets each = tt
all_said (w ∷ ws) octets each = (
  said_is w each.0 (AreOctets-drop 1 (wire_octets w) (AreOctets-front (wire_octets w) (flat_map wire_octets ws) octets)),
  all_said ws (AreOctets-back (wire_octets w) (flat_map wire_octets ws) octets) each.1,
)

-- ---- each stands once

-- prefixes that a field reads as
pub record IsOnce (ps : List PrefixValue) : Type 0 where
  pub each : AllByRecursion IsPrefix ps
  pub once : IsDistinct same_prefix ps

pub read_is : (field : List ℕ) (prefixes : List PrefixValue) → AreOctets field → ReadsPrefixes field prefixes → IsOnce prefixes
read_is field prefixes octets r =
    let said : List PrefixValue = map prefix_said r.spelled in
    let each : AllByRecursion IsPrefix (once_after [] said) = once_each [] said tt (all_said r.spelled (subst AreOctets r.octets octets) r.each) in
    record { each = subst (AllByRecursion IsPrefix) (sym r.says) each; once = ((each_once said prefixes).0 r.says).distinct }

-- ---- those that are withdrawn, and then those that are announced

all_kept : (P : PrefixValue → Type 0) (keep : PrefixValue → Bool) (ps : List PrefixValue) → AllByRecursion P ps → AllByRecursion P (filter keep ps)
all_kept P keep [] all = tt
all_kept P keep (p ∷ ps) all = by_test (keep p) (all_kept P keep ps all.1) where
  by_test : (t : Bool) → AllByRecursion P (filter keep ps) → AllByRecursion P (cond t (p ∷ filter keep ps) (filter keep ps))
  by_test true rest = (all.0, rest)
  by_test false rest = rest

unlike_any : (p : PrefixValue) (ps : List PrefixValue) → list_any (same_prefix p) ps ≡ false → AllByRecursion (λ q. same_prefix p q ≡ false) ps
unlike_any p [] none = tt
unlike_any p (q ∷ ps) none = let both = either_false (same_prefix p q) (list_any (same_prefix p) ps) none in (both.0, unlike_any p ps both.1)

all_joined : {A : Type 0} (P : A → Type 0) (xs ys : List A) → AllByRecursion P xs → AllByRecursion P ys → AllByRecursion P (xs ++ ys)
all_joined P [] ys all more = more
all_joined P (x ∷ xs) ys all more = (all.0, all_joined P xs ys all.1 more)

apart_distinct : (ps nlri : List PrefixValue) → IsDistinct same_prefix ps → IsDistinct same_prefix nlri → IsDistinct same_prefix (apart ps nlri ++ nlri)
unfolding IsDistinct
apart_distinct [] nlri d e = e
apart_distinct (p ∷ ps) nlri d e = by_test (list_any (same_prefix p) nlri) refl (apart_distinct ps nlri d.1 e) where
  by_test : (t : Bool) → list_any (same_prefix p) nlri ≡ t → IsDistinct same_prefix (apart ps nlri ++ nlri)
      → IsDistinct same_prefix (cond (not t) (p ∷ apart ps nlri) (apart ps nlri) ++ nlri)
  by_test true f rest = rest
  by_test false f rest = (
    all_joined (λ q. same_prefix p q ≡ false) (apart ps nlri) nlri
        (all_kept (λ q. same_prefix p q ≡ false) (λ q. not (list_any (same_prefix q) nlri)) ps d.0) (unlike_any p nlri f),
    rest,
  )

-- what an UPDATE's prefixes are
pub record AreApart (ps qs : List PrefixValue) : Type 0 where
  pub withdrawn : All IsPrefix ps
  pub nlri : All IsPrefix qs
  pub once : IsDistinct same_prefix (ps ++ qs)

pub apart_is : (ps nlri : List PrefixValue) → IsOnce ps → IsOnce nlri → AreApart (apart ps nlri) nlri
apart_is ps nlri s n = record {
  withdrawn = All-from_recursion IsPrefix (apart ps nlri) (all_kept IsPrefix (λ p. not (list_any (same_prefix p) nlri)) ps s.each);
  nlri = All-from_recursion IsPrefix nlri n.each;
  once = apart_distinct ps nlri s.once n.once;
}
