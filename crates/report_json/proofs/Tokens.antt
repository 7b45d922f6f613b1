-- The tokens of lists and of their elements one by one, and how a value is printed.
use Rattle.std.proofs.Common.{◌≡◌, ℕ, ◌+◌, ◌<◌, List, [], ◌∷◌, ◌++◌, map, drop, length, slice_index_or}
use Rattle.std.proofs.Common.{refl, ap, sym, ◌∙◌, append_assoc}
use Rattle.std.specs.List.{flat_map, enumerate_from}
use Rattle.std.proofs.lemmas.List.{at_drop_more}
use Rattle.json.specs.Token.{Token}
use Rattle.json.specs.Print.{print}
use Rattle.json.specs.Tree.{json_tokens, items_tokens, members_tokens}
use Rattle.serde_json.specs.Data.{Data, null, boolean, number, string, array, object, Items, no_items, item, Members, no_members, member}
use Rattle.serde_json.specs.View.{items_of}
use Rattle.serde_json.specs.Written.{outline, items_outline, members_outline, compact_text}
use Rattle.serde_json.proofs.Texts.{print-outline}
use Rattle.report_json.specs.Tokens.{with_value, with_items, with_members, with_values}

mutual
  value_tokens : (d : Data) (before : List Token) → with_value d before ≡ before ++ json_tokens (outline d)
  value_tokens null before = refl
  value_tokens (boolean b) before = refl
  value_tokens (number n) before = refl
  value_tokens (string s) before = refl
  value_tokens (array ds) before =
      array_tokens ds (before ++ Token.begin_array ∷ []) ∙ append_assoc before (Token.begin_array ∷ []) (items_tokens (items_outline ds))
  value_tokens (object ms) before =
      object_tokens ms (before ++ Token.begin_object ∷ []) ∙ append_assoc before (Token.begin_object ∷ []) (members_tokens (members_outline ms))

  array_tokens : (ds : Items) (before : List Token) → with_items ds before ≡ before ++ items_tokens (items_outline ds)
  array_tokens no_items before = refl
  array_tokens (item d ds) before =
      let rest = items_tokens (items_outline ds) in
      array_tokens ds (with_value d before) ∙ ap (λ ts. ts ++ rest) (value_tokens d before) ∙ append_assoc before (json_tokens (outline d)) rest

  object_tokens : (ms : Members) (before : List Token) → with_members ms before ≡ before ++ members_tokens (members_outline ms)
  object_tokens no_members before = refl
  object_tokens (member k d ms) before =
      let named = before ++ Token.key k ∷ [] in
      let rest = members_tokens (members_outline ms) in
      object_tokens ms (with_value d named) ∙ ap (λ ts. ts ++ rest) (value_tokens d named) ∙ append_assoc named (json_tokens (outline d)) rest
      ∙ append_assoc before (Token.key k ∷ []) (json_tokens (outline d) ++ rest)

-- what is printed of a value's tokens
pub printed : (value : Data) → print (with_value value []) ≡ compact_text value
printed value = ap print (value_tokens value []) ∙ print-outline value

-- some values more
pub with_more : (ds es : List Data) (before : List Token) → with_items (items_of (ds ++ es)) before ≡ with_items (items_of es) (with_values ds before)
with_more [] es before = refl
with_more (d ∷ ds) es before = with_more ds es (with_value d before)

-- the tokens of a list are its bracket, those of its values, and the closing bracket
pub with_all : (ds : List Data) (before : List Token) → with_items (items_of ds) before ≡ with_values ds before ++ Token.end_array ∷ []
with_all [] before = refl
with_all (d ∷ ds) before = with_all ds (with_value d before)

-- a member behind others
pub member_added : (name : List ℕ) (d : Data) {before named after whole : List Token} → named ≡ before ++ Token.key name ∷ []
    → after ≡ with_value d named → before ≡ whole → after ≡ with_value d (whole ++ Token.key name ∷ [])
member_added name d n v so = v ∙ ap (with_value d) (n ∙ ap (λ ts. ts ++ Token.key name ∷ []) so)

-- ---- one element further: the tokens so far, and those of what is left behind them

module _ {X : Type 0} (xs : List X) (i : ℕ) (x : X) (below : i < length xs) (is : x ≡ slice_index_or xs i x) where
  pub mapped_further : (f : X → Data) (before after all : List Token) → with_items (items_of (map f (drop i xs))) before ≡ all
      → after ≡ with_value (f x) before → with_items (items_of (map f (drop (i + 1) xs))) after ≡ all
  mapped_further f before after all so then =
      let rest = items_of (map f (drop (i + 1) xs)) in
      ap (with_items rest) then ∙ ap (λ y. with_items rest (with_value (f y) before)) is
      ∙ sym (at_drop_more (λ ys. with_items (items_of (map f ys)) before) xs i x below) ∙ so

  pub gathered_further : (f : X → List Data) (before after all : List Token) → with_items (items_of (flat_map f (drop i xs))) before ≡ all
      → after ≡ with_values (f x) before → with_items (items_of (flat_map f (drop (i + 1) xs))) after ≡ all
  gathered_further f before after all so then =
      let rest = flat_map f (drop (i + 1) xs) in
      ap (with_items (items_of rest)) then ∙ ap (λ y. with_items (items_of rest) (with_values (f y) before)) is
      ∙ sym (at_drop_more (λ ys. with_items (items_of (flat_map f ys)) before) xs i x below ∙ with_more (f (slice_index_or xs i x)) rest before) ∙ so

  pub numbered_mapped : (f : ℕ × X → Data) (before after all : List Token)
      → with_items (items_of (map f (enumerate_from i (drop i xs)))) before ≡ all → after ≡ with_value (f (i, x)) before
      → with_items (items_of (map f (enumerate_from (i + 1) (drop (i + 1) xs)))) after ≡ all
  numbered_mapped f before after all so then =
      let rest = items_of (map f (enumerate_from (i + 1) (drop (i + 1) xs))) in
      ap (with_items rest) then ∙ ap (λ y. with_items rest (with_value (f (i, y)) before)) is
      ∙ sym (at_drop_more (λ ys. with_items (items_of (map f (enumerate_from i ys))) before) xs i x below) ∙ so

  pub numbered_gathered : (f : ℕ × X → List Data) (before after all : List Token)
      → with_items (items_of (flat_map f (enumerate_from i (drop i xs)))) before ≡ all → after ≡ with_values (f (i, x)) before
      → with_items (items_of (flat_map f (enumerate_from (i + 1) (drop (i + 1) xs)))) after ≡ all
  numbered_gathered f before after all so then =
      let rest = flat_map f (enumerate_from (i + 1) (drop (i + 1) xs)) in
      ap (with_items (items_of rest)) then ∙ ap (λ y. with_items (items_of rest) (with_values (f (i, y)) before)) is
      ∙ sym (at_drop_more (λ ys. with_items (items_of (flat_map f (enumerate_from i ys))) before) xs i x below
      ∙ with_more (f (i, slice_index_or xs i x)) rest before) ∙ so
