-- Addresses and prefixes are read as they are written.
use Rattle.std.proofs.Common.{◌≡◌, ℕ, ◌+◌, ◌^◌, ◌<◌, zero, suc, Bool, true, false, cond, eqb, List, [], ◌∷◌, ◌++◌, length, get_or, take, drop, refl}
use Rattle.std.proofs.Common.{sym, ap, ◌∙◌, subst, arith, append-nil, length-drop, not, rules, lit≤, decimal, inl, inr, ◌⊎◌, append_assoc}
use Rattle.std.specs.Prelude.{Option, Some, None}
use Rattle.std.specs.Int.{w32, to_be_bytes, from_be_bytes}
use Rattle.std.specs.List.{before_first, after_first, position_or_len}
use Rattle.std.specs.Net.Reader.{Read, read_ipv4}
use Rattle.std.specs.Str.{bytes_eq}
use Rattle.std.proofs.lemmas.Bool.{false≢true}
use Rattle.std.proofs.lemmas.Bool.{eqb-true}
use Rattle.std.proofs.lemmas.List.Sums.{split_at_first, passes_at_first}
use Rattle.std.proofs.lemmas.Slice.Eq.{bytes_eq-Decides}
use Rattle.std.proofs.NetLemmas.Ipv4.{read_ipv4_sound, read_ipv4_complete}
use Rattle.bgp_types.specs.Finds.{Finds}
use Rattle.bgp_types.specs.Prefixes.{PrefixValue, prefix_of}
use Rattle.bgp_types.specs.Texts.{IsAddressText, IsPrefixText, IsLengthText, address_text}
use Rattle.bgp_types.proofs.TextLemmas.{IsAddressText-dotted, IsDotted-address, IsAddressText_unique, NoSlash, NoSlash-address, BeginsPlainly-length}
use Rattle.bgp_types.proofs.PrintedTexts.{IsPrefixText_unique}
use Rattle.lab_keys.specs.Texts.{whole_address, address_in, decimal_below, length_in, prefix_from, prefix_in}

-- two searches for the one value of a kind answer the same
pub finds_same : {A : Type 0} (Is : A → Type 0) → ((x y : A) → Is x → Is y → x ≡ y) → (a b : Option A) → Finds Is a → Finds Is b → a ≡ b
finds_same Is unique None None f g = refl
finds_same Is unique None (Some y) f g = absurd (f y g)
finds_same Is unique (Some x) None f g = absurd (g x f)
finds_same Is unique (Some x) (Some y) f g = ap Some (unique x y f g)

none_some : {A : Type 0} (x : A) (o : Option A) → o ≡ None → o ≡ Some x → ⊥
none_some x o none some = let same : None ≡ Some x = sym none ∙ some in cc

some_same : {A : Type 0} (x y : A) (o : Option A) → o ≡ Some x → o ≡ Some y → x ≡ y
some_same x y o one other = let same : Some x ≡ Some y = sym one ∙ other in cc

-- ---- addresses

address_read : (text : List ℕ) (address : ℕ) → IsAddressText text address → read_ipv4 text ≡ Some (to_be_bytes w32 address, [])
address_read text address is = rw append-nil at (read_ipv4_complete text (to_be_bytes w32 address) [] (IsDotted-address text address is) (lit≤ tt))

four_octets : (a b c d : ℕ) → a < 256 → b < 256 → c < 256 → d < 256 → from_be_bytes w32 (a ∷ b ∷ c ∷ d ∷ []) < 2 ^ 32
four_octets a b c d fa fb fc fd = omega arith

address_sound : (text octets : List ℕ) → read_ipv4 text ≡ Some (octets, []) → IsAddressText text (from_be_bytes w32 octets)
address_sound text octets read =
    let found = read_ipv4_sound text octets [] read in
    let dotted = found.2 in
    let whole : text ≡ found.0 = found.1 ∙ append-nil found.0 in
    let fits : from_be_bytes w32 octets < 2 ^ 32 =
    rw dotted.value (four_octets dotted.a dotted.b dotted.c dotted.d dotted.fit.0 dotted.fit.1 dotted.fit.2 dotted.fit.3) in
    subst (λ t. IsAddressText t (from_be_bytes w32 octets)) (sym whole) (IsAddressText-dotted found.0 octets (from_be_bytes w32 octets) fits refl dotted)

no_octets : (rest : List ℕ) → eqb (length rest) 0 ≡ true → rest ≡ []
no_octets [] e = refl
no_octets (c ∷ rest) e = absurd (let h : length (c ∷ rest) ≡ 0 = eqb-true _ _ e in omega arith)

address_of_read : (text : List ℕ) (read : Read (List ℕ)) → read_ipv4 text ≡ read → Finds (IsAddressText text) (whole_address read)
address_of_read text None e = λ address is. none_some (to_be_bytes w32 address, []) (read_ipv4 text) e (address_read text address is)
address_of_read text (Some read) e = by_rest (eqb (length read.1) 0) refl where
  by_rest : (t : Bool) → eqb (length read.1) 0 ≡ t → Finds (IsAddressText text) (cond t (Some (from_be_bytes w32 read.0)) None)
  by_rest true none = address_sound text read.0 (e ∙ ap (λ rest. Some (read.0, rest)) (no_octets read.1 none))
  by_rest false some = λ address is.
      let same : read ≡ (to_be_bytes w32 address, []) = some_same read (to_be_bytes w32 address, []) (read_ipv4 text) e (address_read text address is) in
      let empty : read.1 ≡ [] = ap (λ (r : List ℕ × List ℕ). r.1) same in
      absurd (false≢true (sym some ∙ ap (λ rest. eqb (length rest) 0) empty))

pub address_in-finds : (text : List ℕ) → Finds (IsAddressText text) (address_in text)
unfolding address_in
address_in-finds text = address_of_read text (read_ipv4 text) refl

-- whatever a search for the address answers, the definition does
pub same_address : (text : List ℕ) (o : Option ℕ) → Finds (IsAddressText text) o → o ≡ address_in text
same_address text o found = finds_same (IsAddressText text) (IsAddressText_unique text) o (address_in text) found (address_in-finds text)

-- ---- lengths

below_finds : (text : List ℕ) (n : ℕ) → Finds (λ len. (len < n) × (text ≡ decimal len)) (decimal_below text n)
below_finds text zero = λ len is. absurd (omega (arith, is.0))
below_finds text (suc n) = by_test (bytes_eq text (decimal n)) refl (decimal_below text n) (below_finds text n) where
  by_test : (t : Bool) → bytes_eq text (decimal n) ≡ t → (o : Option ℕ) → Finds (λ len. (len < n) × (text ≡ decimal len)) o
      → Finds (λ len. (len < suc n) × (text ≡ decimal len)) (cond t (Some n) o)
  by_test true e o found = (omega arith, (bytes_eq-Decides text (decimal n)).0 e)
  by_test false e (Some len) found = (omega (arith, found.0), found.1)
  by_test false e None found = λ len is. by_order len is (cases len is.0)
    where
      cases : (len : ℕ) → len < suc n → (len < n) ⊎ (len ≡ n)
      cases len within = search rules

      by_order : (len : ℕ) → (len < suc n) × (text ≡ decimal len) → (len < n) ⊎ (len ≡ n) → ⊥
      by_order len is (inl less) = found len (less, is.1)
      by_order len is (inr same) = false≢true (sym e ∙ (bytes_eq-Decides text (decimal n)).1 (is.1 ∙ ap decimal same))

length_of : (text : List ℕ) (o : Option ℕ) → Finds (λ len. (len < 33) × (text ≡ decimal len)) o → Finds (IsLengthText text) o
length_of text None none = λ len is. none len (omega (arith, is.0), is.1)
length_of text (Some len) found = (omega (arith, found.0), found.1)

length_in-finds : (text : List ℕ) → Finds (IsLengthText text) (length_in text)
unfolding length_in
length_in-finds text = length_of text (decimal_below text 33) (below_finds text 33)

-- ---- prefixes

abbrev Slash : ℕ → Bool
Slash c = eqb c 47

slash_there : (xs : List ℕ) → 0 < length (after_first Slash xs) → position_or_len Slash xs < length xs
slash_there xs some = let h = length-drop (position_or_len Slash xs + 1) xs in omega arith

prefix_sound : (text : List ℕ) (address len : ℕ) → IsAddressText (before_first Slash text) address → IsLengthText (after_first Slash text) len
    → IsPrefixText text (prefix_of len address)
prefix_sound text address len front back =
    let there : position_or_len Slash text < length text = slash_there text (BeginsPlainly-length (after_first Slash text) len back).some in
    let c : ℕ = get_or text (position_or_len Slash text) 0 in
    let slash : c ≡ 47 = eqb-true c 47 (passes_at_first Slash text 0 there) in
    let whole : text ≡ before_first Slash text ++ c ∷ after_first Slash text = split_at_first Slash text 0 there in
    let joined : text ≡ address_text address ++ 47 ∷ decimal len =
    whole ∙ ap (λ d. before_first Slash text ++ d ∷ after_first Slash text) slash ∙ ap (λ t. t ++ 47 ∷ after_first Slash text) front.text
    ∙ ap (λ t. address_text address ++ 47 ∷ t) back.1 in
    record {
      address = address;
      fits = front.fits;
      short = back.0;
      text = joined ∙ sym (append_assoc (address_text address) (47 ∷ []) (decimal len));
      prefix = refl;
    }

slash_at : (xs ys : List ℕ) → NoSlash xs → position_or_len Slash (xs ++ 47 ∷ ys) ≡ length xs
slash_at [] ys free = refl
slash_at (x ∷ xs) ys free =
    let rest : position_or_len Slash (xs ++ 47 ∷ ys) ≡ length xs = slash_at xs ys free.1 in
    ap (λ (t : Bool). cond (not t) (1 + position_or_len Slash (xs ++ 47 ∷ ys)) 0) free.0 ∙ (omega (arith, rest))

take_front : (xs zs : List ℕ) → take (length xs) (xs ++ zs) ≡ xs
take_front [] zs = refl
take_front (x ∷ xs) zs = ap (λ ys. x ∷ ys) (take_front xs zs)

drop_front : (xs : List ℕ) (y : ℕ) (ys : List ℕ) → drop (suc (length xs)) (xs ++ y ∷ ys) ≡ ys
drop_front [] y ys = refl
drop_front (x ∷ xs) y ys = drop_front xs y ys

-- the parts of a prefix's text
record HasParts (text : List ℕ) (p : PrefixValue) : Type 0 where
  address : ℕ
  front : IsAddressText (before_first Slash text) address
  back : IsLengthText (after_first Slash text) p.len
  prefix : p ≡ prefix_of p.len address

parts_of : (text : List ℕ) (p : PrefixValue) → IsPrefixText text p → HasParts text p
parts_of text p is =
    let a : List ℕ = address_text is.address in
    let joined : text ≡ a ++ 47 ∷ decimal p.len = is.text ∙ append_assoc a (47 ∷ []) (decimal p.len) in
    let at : position_or_len Slash text ≡ length a = ap (position_or_len Slash) joined ∙ slash_at a (decimal p.len) (NoSlash-address is.address) in
    let front : before_first Slash text ≡ a = ap (λ n. take n text) at ∙ ap (take (length a)) joined ∙ take_front a (47 ∷ decimal p.len) in
    let next : position_or_len Slash text + 1 ≡ suc (length a) = omega (arith, at) in
    let back : after_first Slash text ≡ decimal p.len = ap (λ n. drop n text) next ∙ ap (drop (suc (length a))) joined ∙ drop_front a 47 (decimal p.len) in
    record { address = is.address; front = record { fits = is.fits; text = front }; back = (is.short, back); prefix = is.prefix }

prefix_found : (text : List ℕ) (o : Option ℕ) (n : Option ℕ) → Finds (IsAddressText (before_first Slash text)) o
    → Finds (IsLengthText (after_first Slash text)) n
    → Finds (IsPrefixText text) (prefix_from o n)
prefix_found text (Some address) (Some len) front back = prefix_sound text address len front back
prefix_found text (Some address) None front none = λ p is. let parts = parts_of text p is in none p.len parts.back
prefix_found text None n none back = λ p is. let parts = parts_of text p is in none parts.address parts.front

pub prefix_in-finds : (text : List ℕ) → Finds (IsPrefixText text) (prefix_in text)
unfolding prefix_in
prefix_in-finds text = prefix_found text (address_in (before_first Slash text)) (length_in (after_first Slash text))
    (address_in-finds (before_first Slash text)) (length_in-finds (after_first Slash text))

pub same_prefix_text : (text : List ℕ) (o : Option PrefixValue) → Finds (IsPrefixText text) o → o ≡ prefix_in text
same_prefix_text text o found = finds_same (IsPrefixText text) (IsPrefixText_unique text) o (prefix_in text) found (prefix_in-finds text)
