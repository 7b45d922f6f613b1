-- Fields that may all stand where they do.
use Rattle.std.proofs.Common.{◌≡◌, ℕ, ◌≤◌, List, [], ◌∷◌, ◌++◌, length, refl, sym, ◌∙◌, arith, length-append}
use Rattle.std.specs.Prelude.{◌==◌, ◌%◌, Bool, true, false, not, ◌&&◌, ◌||◌, nat_le, if◌then◌else◌, Option, None, Some}
use Rattle.std.proofs.lemmas.Bool.{cond-true, and_parts, leb-true, le-leb}
use Rattle.pcap_form.specs.Numbers.{first_wrong}
use Rattle.pcap_form.specs.Blocks.{is_length}

abbrev pub AllRight : List (ℕ × Bool) → Type 0
AllRight [] = Unit {0}
AllRight (field ∷ fields) = (field.1 ≡ true) × AllRight fields

first_right : (b : Bool) (place : ℕ) (rest : Option ℕ) → (if b then rest else Some place) ≡ None → (b ≡ true) × (rest ≡ None)
first_right true place rest e = (refl, e)
first_right false place rest e = absurd cc

pub all_right : (fields : List (ℕ × Bool)) → first_wrong fields ≡ None → AllRight fields
all_right [] e = tt
all_right (field ∷ fields) e = let r = first_right field.1 field.0 (first_wrong fields) e in (r.0, all_right fields r.1)

pub none_wrong : (fields : List (ℕ × Bool)) → AllRight fields → first_wrong fields ≡ None
none_wrong [] rows = refl
none_wrong (field ∷ fields) rows = cond-true field.1 (first_wrong fields) (Some field.0) rows.0 ∙ none_wrong fields rows.1

-- a fact that follows from another
pub or_same : (b x y : Bool) → (b ≡ true → x ≡ y) → (not b || x) ≡ (not b || y)
or_same true x y h = h refl
or_same false x y h = refl

pub or_then : (b x : Bool) → (not b || x) ≡ true → b ≡ true → x ≡ true
or_then true x h e = h
or_then false x h e = absurd cc

-- a list that is long enough stays so with more behind it
pub reaches : (n : ℕ) (xs ys : List ℕ) → n ≤ length xs → nat_le n (length (xs ++ ys)) ≡ nat_le n (length xs)
reaches n xs ys long = le-leb n (length (xs ++ ys)) (omega (arith, long, length-append xs ys)) ∙ sym (le-leb n (length xs) long)

-- the length of a block that may stand
pub lengths : (least size : ℕ) (left : List ℕ) → is_length least size left ≡ true → (least ≤ size) × (size ≤ length left)
lengths least size left e =
    let one = and_parts (nat_le least size && size % 4 == 0) (nat_le size (length left)) e in
    let two = and_parts (nat_le least size) (size % 4 == 0) one.0 in
    (leb-true least size two.0, leb-true size (length left) one.1)
