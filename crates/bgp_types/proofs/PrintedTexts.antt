-- A text writes one prefix at most, and what is printed of an address or a prefix reads back.
use Rattle.std.proofs.Common.{◌≡◌, ℕ, ◌^◌, ◌<◌, eqb, false, List, [], ◌∷◌, ◌++◌, refl, sym, ap, ◌∙◌, subst, arith, append_assoc, decimal}
use Rattle.std.specs.Prelude.{◌↔◌}
use Rattle.std.proofs.lemmas.Fmt.{decimal_injective}
use Rattle.std.proofs.lemmas.Bool.{false≢true}
use Rattle.bgp_types.specs.Prefixes.{PrefixValue, IsPrefix, prefix_of}
use Rattle.bgp_types.specs.Texts.{IsAddressText, IsPrefixText, address_text, prefix_text}
use Rattle.bgp_types.proofs.TextLemmas.{IsAddressText_unique, NoSlash, NoSlash-address}

pub IsAddressText-printed : (address other : ℕ) → address < 2 ^ 32 → IsAddressText (address_text address) other ↔ (other ≡ address)
IsAddressText-printed address other fits =
    let own : IsAddressText (address_text address) address = record { fits = fits; text = refl } in
    ((λ is. IsAddressText_unique (address_text address) other address is own), λ same. rw same own)

-- the parts before the first slash of equal texts are equal, and those after it
front : (xs ys us vs : List ℕ) → NoSlash xs → NoSlash ys → xs ++ 47 ∷ us ≡ ys ++ 47 ∷ vs → xs ≡ ys
front [] [] us vs free free' e = refl
front [] (y ∷ ys) us vs free free' e = absurd (false≢true (sym (subst (λ c. eqb c 47 ≡ false) (sym (head_of e)) free'.0)))
  where
    head_of : 47 ∷ us ≡ (y ∷ ys) ++ 47 ∷ vs → 47 ≡ y
    head_of e = cc
front (x ∷ xs) [] us vs free free' e = absurd (false≢true (sym (subst (λ c. eqb c 47 ≡ false) (head_of e) free.0)))
  where
    head_of : (x ∷ xs) ++ 47 ∷ us ≡ 47 ∷ vs → x ≡ 47
    head_of e = cc
front (x ∷ xs) (y ∷ ys) us vs free free' e = let rest : xs ≡ ys = front xs ys us vs free.1 free'.1 cc in let same : x ≡ y = cc in cc

back : (xs us vs : List ℕ) → xs ++ 47 ∷ us ≡ xs ++ 47 ∷ vs → us ≡ vs
back [] us vs e = cc
back (x ∷ xs) us vs e = back xs us vs cc

-- a text writes one prefix at most
pub IsPrefixText_unique : (text : List ℕ) (p q : PrefixValue) → IsPrefixText text p → IsPrefixText text q → p ≡ q
IsPrefixText_unique text p q one other =
    let joined : address_text one.address ++ 47 ∷ decimal p.len ≡ address_text other.address ++ 47 ∷ decimal q.len =
    sym (append_assoc (address_text one.address) (47 ∷ []) (decimal p.len)) ∙ sym one.text ∙ other.text
    ∙ append_assoc (address_text other.address) (47 ∷ []) (decimal q.len) in
    let texts : address_text one.address ≡ address_text other.address = front _ _ _ _ (NoSlash-address one.address) (NoSlash-address other.address) joined in
    let address : one.address ≡ other.address = IsAddressText_unique (address_text one.address) one.address other.address
    (record { fits = one.fits; text = refl }) (record { fits = other.fits; text = texts }) in
    let decimals : decimal p.len ≡ decimal q.len = back (address_text one.address) _ _ (joined ∙ ap (λ t. t ++ 47 ∷ decimal q.len) (sym texts)) in
    let len : p.len ≡ q.len = decimal_injective p.len q.len (omega (arith, one.short)) (omega (arith, other.short)) decimals in
    one.prefix ∙ ap (λ l. prefix_of l one.address) len ∙ ap (λ a. prefix_of q.len a) address ∙ sym other.prefix

IsPrefixText-own : (p : PrefixValue) → IsPrefix p → IsPrefixText (prefix_text p) p
IsPrefixText-own p is = record {
  address = p.address;
  fits = is.address;
  short = is.len;
  text = refl;
  prefix = ap (λ a. record { address = a; len = p.len }) (sym is.clear);
}

pub IsPrefixText-printed : (p q : PrefixValue) → IsPrefix p → IsPrefixText (prefix_text p) q ↔ (q ≡ p)
IsPrefixText-printed p q is =
    let own : IsPrefixText (prefix_text p) p = IsPrefixText-own p is in
    ((λ read. IsPrefixText_unique (prefix_text p) q p read own), λ same. rw same own)
