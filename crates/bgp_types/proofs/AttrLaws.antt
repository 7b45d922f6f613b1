-- An attribute that is read stands there as it is spelled, and what is spelled is read.
use Rattle.std.proofs.Common.{◌≡◌, ℕ, ◌+◌, ◌^◌, ◌<◌, ◌≤◌, List, [], ◌∷◌, ◌++◌, length, take, drop, Bool, true, false, cond, eqb, ltb}
use Rattle.std.proofs.Common.{Option, Some, None, refl, sym, ap, ◌∙◌, arith, subst, append_assoc, length-drop, inl, inr}
use Rattle.std.specs.Prelude.{bit_and}
use Rattle.std.specs.Int.{Width, w8, w16, w32, byte_len, from_be_bytes, to_be_bytes}
use Rattle.std.proofs.lemmas.Bool.{cases_lt, ltb-false, le-ltb}
use Rattle.std.proofs.lemmas.List.{take_at, drop_at, take-append-drop, length-append, length-take, get_or-drop, get_or-take, get_or_past, length-take-le}
use Rattle.std.proofs.lemmas.Nat.{be_bytes_2, be_bytes_4, from_be_bytes-to_be_bytes_2, from_be_bytes-to_be_bytes_4}
use Rattle.std.proofs.lemmas.Option.{same_Some}
use Rattle.bgp_types.specs.Many.{number_at, told_at}
use Rattle.bgp_types.specs.WireAttrs.{WireAttr}
use Rattle.bgp_types.specs.WireAttrs.{IsWireAttr, attr_at, attr_with_value, size_width, size_limit, attr_octets}
use Rattle.bgp_types.specs.OctetLists.{AreOctets}
use Rattle.bgp_types.proofs.ManyLaws.{Reads, Shortens, kept_out}

pub AreOctets-drop : (n : ℕ) (bytes : List ℕ) → AreOctets bytes → AreOctets (drop n bytes)
AreOctets-drop n bytes h i = rw get_or-drop (h (n + i))

pub AreOctets-take : (n : ℕ) (bytes : List ℕ) → AreOctets bytes → AreOctets (take n bytes)
AreOctets-take n bytes h i =
    elim (cases_lt i n) [
      | inl lt ↦ rw (get_or-take n bytes i 0 lt) (h i)
      | inr le ↦ rw (get_or_past (take n bytes) i 0 (omega (arith, length-take n bytes))) (omega arith)
    ]

pub record IsWide (w : Width) (limit : ℕ) : Type 0 where
  pub len : (n : ℕ) → length (to_be_bytes w n) ≡ byte_len w
  pub back : (bytes : List ℕ) → length bytes ≡ byte_len w → AreOctets bytes → to_be_bytes w (from_be_bytes w bytes) ≡ bytes
  pub again : (n : ℕ) → n < limit → from_be_bytes w (to_be_bytes w n) ≡ n
  pub below : (bytes : List ℕ) → AreOctets bytes → from_be_bytes w bytes < limit

one_byte : (b : ℕ) → b < 256 → to_be_bytes w8 (from_be_bytes w8 (b ∷ [])) ≡ b ∷ []
one_byte b lt = ap (λ (x : ℕ). x ∷ []) (omega arith)

back8 : (bytes : List ℕ) → length bytes ≡ 1 → AreOctets bytes → to_be_bytes w8 (from_be_bytes w8 bytes) ≡ bytes
back8 [] len fits = absurd (omega arith)
back8 (b ∷ []) len fits = one_byte b (fits 0)
back8 (b ∷ c ∷ bytes) len fits = absurd (omega arith)

again8 : (n : ℕ) → n < 256 → from_be_bytes w8 (to_be_bytes w8 n) ≡ n
again8 n lt = omega arith

pub wide8 : IsWide w8 256
wide8 = record {
  len = λ n. refl;
  back = back8;
  again = again8;
  below = λ bytes fits. omega (arith, fits 0);
}

pub wide16 : IsWide w16 65536
wide16 = record {
  len = λ n. refl;
  back = λ bytes len fits. be_bytes_2 bytes _ len fits refl;
  again = λ n lt. from_be_bytes-to_be_bytes_2 n lt;
  below = λ bytes fits. omega (arith, fits 0, fits 1);
}

pub wide32 : IsWide w32 (2 ^ 32)
wide32 = record {
  len = λ n. refl;
  back = λ bytes len fits. be_bytes_4 bytes _ len fits refl;
  again = λ n lt. from_be_bytes-to_be_bytes_4 n lt;
  below = λ bytes fits. omega (arith, fits 0, fits 1, fits 2, fits 3);
}

pub wide_size : (flags : ℕ) → IsWide (size_width flags) (size_limit flags)
wide_size flags = by_test (eqb (bit_and flags 16) 0) where
  by_test : (t : Bool) → IsWide (cond t w8 w16) (cond t 256 65536)
  by_test true = wide8
  by_test false = wide16

pub number_is : (w : Width) (bytes : List ℕ) (x : ℕ × List ℕ) → number_at w bytes ≡ Some x
    → (byte_len w ≤ length bytes) × ((from_be_bytes w (take (byte_len w) bytes), drop (byte_len w) bytes) ≡ x)
number_is w bytes x e =
    let g = kept_out (ltb (length bytes) (byte_len w)) (Some (from_be_bytes w (take (byte_len w) bytes), drop (byte_len w) bytes)) x e in
    (ltb-false _ _ g.0, same_Some _ x g.1)

pub told_is : (o : Option (ℕ × List ℕ)) (v : List ℕ × List ℕ) → told_at o ≡ Some v
    → (n : ℕ × List ℕ) × (o ≡ Some n) × (n.0 ≤ length n.1) × ((take n.0 n.1, drop n.0 n.1) ≡ v)
told_is None v e = absurd cc
told_is (Some n) v e =
    let g = kept_out (ltb (length n.1) n.0) (Some (take n.0 n.1, drop n.0 n.1)) v e in
    (n, refl, ltb-false _ _ g.0, same_Some _ v g.1)

abbrev attr_with : ℕ → ℕ → List ℕ → WireAttr
attr_with flags kind value = record { flags = flags; kind = kind; value = value }

value_is : (flags kind : ℕ) (o : Option (List ℕ × List ℕ)) (x : WireAttr × List ℕ) → attr_with_value flags kind o ≡ Some x
    → (v : List ℕ × List ℕ) × (o ≡ Some v) × ((attr_with flags kind v.0, v.1) ≡ x)
value_is flags kind None x e = absurd cc
value_is flags kind (Some v) x e = (v, refl, same_Some _ x e)

-- what an attribute took from the front
pub record TakesAttr (bytes : List ℕ) (a : WireAttr) (rest : List ℕ) : Type 0 where
  pub parts : bytes ≡ attr_octets a ++ rest
  pub sound : IsWireAttr a
  pub rest_fits : AreOctets rest

pub attr_takes : (bytes : List ℕ) (x : WireAttr × List ℕ) → AreOctets bytes → attr_at bytes ≡ Some x → TakesAttr bytes x.0 x.1
unfolding attr_at
attr_takes [] x fits e = absurd cc
attr_takes (f ∷ []) x fits e = absurd cc
attr_takes (f ∷ k ∷ bytes) x fits e =
    let w = size_width f in
    let wide = wide_size f in
    let a = value_is f k (told_at (number_at w bytes)) x e in
    let b = told_is (number_at w bytes) a.0 a.1 in
    let c = number_is w bytes b.0 b.1 in
    let bytes_fit : AreOctets bytes = AreOctets-drop 2 (f ∷ k ∷ bytes) fits in
    let front_fits = AreOctets-take (byte_len w) bytes bytes_fit in
    let n : ℕ = from_be_bytes w (take (byte_len w) bytes) in
    let rest : List ℕ = drop (byte_len w) bytes in
    let long : n ≤ length rest = subst (λ (y : ℕ × List ℕ). y.0 ≤ length y.1) (sym c.1) b.2 in
    let value : (take n rest, drop n rest) ≡ a.0 = ap (λ (y : ℕ × List ℕ). (take y.0 y.1, drop y.0 y.1)) c.1 ∙ b.3 in
    let len : length (take n rest) ≡ n = length-take-le n rest long in
    let size : to_be_bytes w n ≡ take (byte_len w) bytes = wide.back (take (byte_len w) bytes) (length-take-le (byte_len w) bytes c.0) front_fits in
    let parts : bytes ≡ (to_be_bytes w (length (take n rest)) ++ take n rest) ++ drop n rest =
    sym (take-append-drop (byte_len w) bytes)
    ∙ (ap (λ (y : List ℕ). y ++ rest) (sym size) ∙ (ap (λ (y : List ℕ). to_be_bytes w n ++ y) (sym (take-append-drop n rest))
    ∙ (sym (append_assoc (to_be_bytes w n) (take n rest) (drop n rest)) ∙ ap (λ (m : ℕ). (to_be_bytes w m ++ take n rest) ++ drop n rest) (sym len)))) in
    let here : TakesAttr (f ∷ k ∷ bytes) (attr_with f k (take n rest)) (drop n rest) = record {
      parts = ap (λ (y : List ℕ). f ∷ k ∷ y) parts;
      sound = record { flags = fits 0; kind = fits 1; size = subst (λ (m : ℕ). m < size_limit f) (sym len) (wide.below (take (byte_len w) bytes) front_fits) };
      rest_fits = AreOctets-drop n rest (AreOctets-drop (byte_len w) bytes bytes_fit);
    } in
    let there : TakesAttr (f ∷ k ∷ bytes) (attr_with f k a.0.0) a.0.1 =
    subst (λ (v : List ℕ × List ℕ). TakesAttr (f ∷ k ∷ bytes) (attr_with f k v.0) v.1) value here in
    subst (λ (y : WireAttr × List ℕ). TakesAttr (f ∷ k ∷ bytes) y.0 y.1) a.2 there

pub number_again : (w : Width) (limit : ℕ) → IsWide w limit → (n : ℕ) (rest : List ℕ) → n < limit → number_at w (to_be_bytes w n ++ rest) ≡ Some (n, rest)
number_again w limit wide n rest lt =
    let len = wide.len n in
    let long : ltb (length (to_be_bytes w n ++ rest)) (byte_len w) ≡ false = le-ltb _ _ (omega (arith, length-append (to_be_bytes w n) rest)) in
    rw (long, take_at (to_be_bytes w n) rest (byte_len w) len, drop_at (to_be_bytes w n) rest (byte_len w) len, wide.again n lt) refl

pub told_again : (value rest : List ℕ) → told_at (Some (length value, value ++ rest)) ≡ Some (value, rest)
told_again value rest =
    let long : ltb (length (value ++ rest)) (length value) ≡ false = le-ltb _ _ (omega (arith, length-append value rest)) in
    rw (long, take_at value rest (length value) refl, drop_at value rest (length value) refl) refl

pub attr_again : (a : WireAttr) (rest : List ℕ) → IsWireAttr a → attr_at (attr_octets a ++ rest) ≡ Some (a, rest)
unfolding attr_at
attr_again a rest fits =
    let w = size_width a.flags in
    ap (λ (y : List ℕ). attr_with_value a.flags a.kind (told_at (number_at w y))) (append_assoc (to_be_bytes w (length a.value)) a.value rest)
    ∙ (ap (λ (o : Option (ℕ × List ℕ)). attr_with_value a.flags a.kind (told_at o))
    (number_again w (size_limit a.flags) (wide_size a.flags) (length a.value) (a.value ++ rest) fits.size)
    ∙ ap (attr_with_value a.flags a.kind) (told_again a.value rest))

told_shorter : (n : Option (ℕ × List ℕ)) (len : ℕ) (v : List ℕ × List ℕ) → ((x : ℕ × List ℕ) → n ≡ Some x → length x.1 ≤ len) → told_at n ≡ Some v
    → length v.1 ≤ len
told_shorter None len v h e = absurd cc
told_shorter (Some n) len v h e =
    let g = kept_out (ltb (length n.1) n.0) (Some (take n.0 n.1, drop n.0 n.1)) v e in
    let l = h n refl in
    let d : v.1 ≡ drop n.0 n.1 = ap (λ (x : List ℕ × List ℕ). x.1) (sym (same_Some (take n.0 n.1, drop n.0 n.1) v g.1)) in
    rw (d, length-drop n.0 n.1) (omega arith)

number_shorter : (flags : ℕ) (bytes : List ℕ) (x : ℕ × List ℕ) → number_at (size_width flags) bytes ≡ Some x → length x.1 ≤ length bytes
number_shorter flags bytes x e =
    let w = size_width flags in
    let g = kept_out (ltb (length bytes) (byte_len w)) _ x e in
    let d : x.1 ≡ drop (byte_len w) bytes = ap (λ (y : ℕ × List ℕ). y.1) (sym (same_Some _ x g.1)) in
    rw (d, length-drop (byte_len w) bytes) (omega arith)

value_shorter : (flags kind : ℕ) (v : Option (List ℕ × List ℕ)) (len : ℕ) (x : WireAttr × List ℕ)
    → ((y : List ℕ × List ℕ) → v ≡ Some y → length y.1 ≤ len) → attr_with_value flags kind v ≡ Some x → length x.1 ≤ len
value_shorter flags kind None len x h e = absurd cc
value_shorter flags kind (Some y) len x h e = rw (ap (λ (z : WireAttr × List ℕ). z.1) (sym (same_Some _ x e))) (h y refl)

attr_shorter : (bytes : List ℕ) (x : WireAttr × List ℕ) → attr_at bytes ≡ Some x → length x.1 < length bytes
unfolding attr_at
attr_shorter [] x e = absurd cc
attr_shorter (f ∷ []) x e = absurd cc
attr_shorter (f ∷ k ∷ bytes) x e =
    let h = value_shorter f k (told_at (number_at (size_width f) bytes)) (length bytes) x
    (λ y d. told_shorter (number_at (size_width f) bytes) (length bytes) y (number_shorter f bytes) d) e in
    omega arith

attr_shortens : Shortens attr_at
attr_shortens = record { shorter = attr_shorter }

pub attr_reads : Reads attr_at attr_octets IsWireAttr
attr_reads = record { shortens = attr_shortens; again = attr_again }

pub no_attr : attr_at [] ≡ None
unfolding attr_at
no_attr = refl
