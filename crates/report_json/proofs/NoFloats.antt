-- Values without floats, of which it is settled how they are written.
use Rattle.std.proofs.Common.{ℕ, ◌≡◌, List, [], ◌∷◌, ◌++◌, Bool, true, false, ◌||◌, if◌then◌else◌, map, Option, Some, None, refl}
use Rattle.std.proofs.lemmas.Bool.{or_from, or_parts}
use Rattle.std.specs.List.{flat_map}
use Rattle.serde_json.specs.Data.{Data}
use Rattle.serde_json.specs.View.{items_of}
use Rattle.serde_json.specs.Written.{has_float, items_have_float}
use Rattle.report_json.specs.Values.{count_or_null, text_or_null}

abbrev pub Whole : Data → Type 0
Whole value = has_float value ≡ false

abbrev pub AllWhole : List Data → Type 0
AllWhole values = items_have_float (items_of values) ≡ false

-- a member, and those behind it
pub with : {a b : Bool} → a ≡ false → b ≡ false → (a || b) ≡ false
with {a} {b} p q = or_from a b p q

pub number_whole : (n : Option ℕ) → Whole (count_or_null n)
number_whole None = refl
number_whole (Some n) = refl

pub text_whole : (text : Option (List ℕ)) → Whole (text_or_null text)
text_whole None = refl
text_whole (Some text) = refl

pub mapped_whole : {X : Type 0} (f : X → Data) → ((x : X) → Whole (f x)) → (xs : List X) → AllWhole (map f xs)
mapped_whole f each [] = refl
mapped_whole f each (x ∷ xs) = with (each x) (mapped_whole f each xs)

pub appended_whole : (first second : List Data) → AllWhole first → AllWhole second → AllWhole (first ++ second)
appended_whole [] second p q = q
appended_whole (value ∷ first) second p q =
    let parts = or_parts (has_float value) (items_have_float (items_of first)) p in
    with parts.0 (appended_whole first second parts.1 q)

pub gathered_whole : {X : Type 0} (f : X → List Data) → ((x : X) → AllWhole (f x)) → (xs : List X) → AllWhole (flat_map f xs)
gathered_whole f each [] = refl
gathered_whole f each (x ∷ xs) = appended_whole (f x) (flat_map f xs) (each x) (gathered_whole f each xs)

-- one of two
pub either_whole : (test : Bool) (x y : Data) → Whole x → Whole y → Whole (if test then x else y)
either_whole true x y p q = p
either_whole false x y p q = q

pub listed_whole : (test : Bool) (xs ys : List Data) → AllWhole xs → AllWhole ys → AllWhole (if test then xs else ys)
listed_whole true xs ys p q = p
listed_whole false xs ys p q = q
