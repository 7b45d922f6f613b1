-- Other values have other codes.
use Rattle.std.proofs.Common.{◌≡◌, ℕ, ◌+◌, ◌<◌, List, [], ◌∷◌, ◌++◌, append_assoc, Option, Some, None, Bool, true, false, refl, sym, ap, ◌∙◌, arith}
use Rattle.std.specs.List.{flat_map}
use Rattle.bgp_types.specs.declared.attrs.Aggregator.{Aggregator}
use Rattle.bgp_types.specs.declared.attrs.Attrs.{Attrs}
use Rattle.bgp_types.specs.declared.attrs.Origin.{Origin}
use Rattle.bgp_types.specs.declared.attrs.Origin.TheVariants.{Igp, Egp, Incomplete}
use Rattle.bgp_types.specs.declared.attrs.RawAttr.{RawAttr}
use Rattle.bgp_types.specs.declared.path.PathPart.{PathPart}
use Rattle.bgp_types.specs.declared.path.PathPart.TheVariants.{Set, Sequence}
use Rattle.update_plan.specs.Codes.{listed, part_code, path_code, flag, raw_code, raws_code, origin_index, med_code, aggregator_code, head_code, value_code}

-- ---- codes that end by themselves

-- what stands behind a code doesn't change what it is the code of
abbrev Splits : {A : Type 0} → (A → List ℕ) → Type 0
Splits {A} code = (a b : A) (rest other : List ℕ) → code a ++ rest ≡ code b ++ other → (a ≡ b) × (rest ≡ other)

-- no code begins as the end of a list
record StartsAbove (code : List ℕ) : Type 0 where
  pub number : ℕ
  pub further : List ℕ
  pub is : code ≡ (number + 1) ∷ further

no_next : (n : ℕ) → 0 ≡ n + 1 → ⊥
no_next n e = omega arith

no_end : (n : ℕ) (xs ys : List ℕ) → 0 ∷ xs ≡ (n + 1) ∷ ys → ⊥
no_end n xs ys e = let head : 0 ≡ n + 1 = cc in no_next n head

next_number : (m n : ℕ) → m + 1 ≡ n + 1 → m ≡ n
next_number m n e = omega arith

one_more : (x y : ℕ) (xs ys rest other : List ℕ) → x ≡ y → (xs ≡ ys) × (rest ≡ other) → (x ∷ xs ≡ y ∷ ys) × (rest ≡ other)
one_more x y xs ys rest other e f = let h = f.0 in (cc, f.1)

listed-splits : Splits listed
listed-splits [] [] rest other e = (refl, cc)
listed-splits [] (y ∷ ys) rest other e = absurd (no_end y rest (listed ys ++ other) e)
listed-splits (x ∷ xs) [] rest other e = absurd (no_end x other (listed xs ++ rest) (sym e))
listed-splits (x ∷ xs) (y ∷ ys) rest other e =
    let head : x + 1 ≡ y + 1 = cc in
    let tail : listed xs ++ rest ≡ listed ys ++ other = cc in
    one_more x y xs ys rest other (next_number x y head) (listed-splits xs ys rest other tail)

module _ {A : Type 0} (code : A → List ℕ) (splits : Splits code) (starts : (a : A) → StartsAbove (code a)) where
  abbrev ended : List A → List ℕ
  ended xs = flat_map code xs ++ 0 ∷ []

  apart : (x : A) (xs : List A) (rest : List ℕ) → ended (x ∷ xs) ++ rest ≡ code x ++ (ended xs ++ rest)
  apart x xs rest = ap (λ (l : List ℕ). l ++ rest) (append_assoc (code x) (flat_map code xs) (0 ∷ [])) ∙ append_assoc (code x) (ended xs) rest

  not_ended : (y : A) (ys : List A) (rest other : List ℕ) → 0 ∷ rest ≡ ended (y ∷ ys) ++ other → ⊥
  not_ended y ys rest other e =
      let s = starts y in
      no_end s.number rest (s.further ++ (ended ys ++ other)) (e ∙ (apart y ys other ∙ ap (λ (l : List ℕ). l ++ (ended ys ++ other)) s.is))

  more : (x y : A) (xs ys : List A) (rest other : List ℕ) → x ≡ y → (xs ≡ ys) × (rest ≡ other) → (x ∷ xs ≡ y ∷ ys) × (rest ≡ other)
  more x y xs ys rest other e f = let h = f.0 in (cc, f.1)

  ended-splits : Splits ended
  ended-splits [] [] rest other e = (refl, cc)
  ended-splits [] (y ∷ ys) rest other e = absurd (not_ended y ys rest other e)
  ended-splits (x ∷ xs) [] rest other e = absurd (not_ended x xs other rest (sym e))
  ended-splits (x ∷ xs) (y ∷ ys) rest other e =
      let h = splits x y (ended xs ++ rest) (ended ys ++ other) (sym (apart x xs rest) ∙ (e ∙ apart y ys other)) in
      more x y xs ys rest other h.0 (ended-splits xs ys rest other h.1)

-- ---- the parts of attributes

set_too : (xs ys rest other : List ℕ) → (xs ≡ ys) × (rest ≡ other) → (Set xs ≡ Set ys) × (rest ≡ other)
set_too xs ys rest other f = (ap Set f.0, f.1)

sequence_too : (xs ys rest other : List ℕ) → (xs ≡ ys) × (rest ≡ other) → (Sequence xs ≡ Sequence ys) × (rest ≡ other)
sequence_too xs ys rest other f = (ap Sequence f.0, f.1)

heads : (m n : ℕ) (xs ys : List ℕ) → m ∷ xs ≡ n ∷ ys → m ≡ n
heads m n xs ys e = cc

not_less : (m n : ℕ) → m < n → m ≡ n → ⊥
not_less m n l e = omega arith

part-splits : Splits part_code
part-splits (Set xs) (Set ys) rest other e = set_too xs ys rest other (listed-splits xs ys rest other cc)
part-splits (Set xs) (Sequence ys) rest other e = absurd (not_less 1 2 (omega arith) (heads 1 2 (listed xs ++ rest) (listed ys ++ other) e))
part-splits (Sequence xs) (Set ys) rest other e = absurd (not_less 1 2 (omega arith) (sym (heads 2 1 (listed xs ++ rest) (listed ys ++ other) e)))
part-splits (Sequence xs) (Sequence ys) rest other e = sequence_too xs ys rest other (listed-splits xs ys rest other cc)

part-starts : (part : PathPart) → StartsAbove (part_code part)
part-starts (Set xs) = record { number = 0; further = listed xs; is = refl }
part-starts (Sequence xs) = record { number = 1; further = listed xs; is = refl }

path-splits : Splits path_code
path-splits = ended-splits part_code part-splits part-starts

flag-same : (a b : Bool) → flag a ≡ flag b → a ≡ b
flag-same true true e = refl
flag-same true false e = absurd cc
flag-same false true e = absurd cc
flag-same false false e = refl

raw-same : (a b : RawAttr) → a.kind ≡ b.kind → a.partial ≡ b.partial → a.bytes ≡ b.bytes → a ≡ b
raw-same a b e f g = grind arith

raw-splits : Splits raw_code
raw-splits a b rest other e =
    let kind : a.kind + 1 ≡ b.kind + 1 = cc in
    let partial : flag a.partial ≡ flag b.partial = cc in
    let bytes = listed-splits a.bytes b.bytes rest other cc in
    (raw-same a b (next_number a.kind b.kind kind) (flag-same a.partial b.partial partial) bytes.0, bytes.1)

raw-starts : (raw : RawAttr) → StartsAbove (raw_code raw)
raw-starts raw = record { number = raw.kind; further = flag raw.partial ∷ listed raw.bytes; is = refl }

raws-splits : Splits raws_code
raws-splits = ended-splits raw_code raw-splits raw-starts

origin-same : (a b : Origin) → origin_index a ≡ origin_index b → a ≡ b
origin-same Igp Igp e = refl
origin-same Igp Egp e = absurd cc
origin-same Igp Incomplete e = absurd cc
origin-same Egp Igp e = absurd cc
origin-same Egp Egp e = refl
origin-same Egp Incomplete e = absurd cc
origin-same Incomplete Igp e = absurd cc
origin-same Incomplete Egp e = absurd cc
origin-same Incomplete Incomplete e = refl

med-splits : Splits med_code
med-splits None None rest other e = (refl, cc)
med-splits None (Some n) rest other e = absurd (no_end n rest other e)
med-splits (Some m) None rest other e = absurd (no_end m other rest (sym e))
med-splits (Some m) (Some n) rest other e = let head : m + 1 ≡ n + 1 = cc in (ap Some (next_number m n head), cc)

aggregator-parts : (a b : Aggregator) → a.as_number ≡ b.as_number → a.address ≡ b.address → a.partial ≡ b.partial → a ≡ b
aggregator-parts a b e f g = grind arith

aggregator-same : (a b : Option Aggregator) → aggregator_code a ≡ aggregator_code b → a ≡ b
aggregator-same None None e = refl
aggregator-same None (Some b) e = absurd (no_end b.as_number [] (b.address ∷ flag b.partial ∷ []) e)
aggregator-same (Some a) None e = absurd (no_end a.as_number [] (a.address ∷ flag a.partial ∷ []) (sym e))
aggregator-same (Some a) (Some b) e =
    let as_number : a.as_number + 1 ≡ b.as_number + 1 = cc in
    let address : a.address ≡ b.address = cc in
    let partial : flag a.partial ≡ flag b.partial = cc in
    ap Some (aggregator-parts a b (next_number a.as_number b.as_number as_number) address (flag-same a.partial b.partial partial))

-- ---- attributes

attrs-parts : (a b : Attrs) → a.origin ≡ b.origin → a.path ≡ b.path → a.next_hop ≡ b.next_hop → a.med ≡ b.med → a.atomic ≡ b.atomic
    → a.aggregator ≡ b.aggregator → a.unknown ≡ b.unknown → a ≡ b
attrs-parts a b e f g h i j k = grind arith

attrs-same : (a b : Attrs) → value_code (Some a) ≡ value_code (Some b) → a ≡ b
attrs-same a b e =
    let path = path-splits a.path b.path (raws_code a.unknown ++ head_code a) (raws_code b.unknown ++ head_code b) e in
    let unknown = raws-splits a.unknown b.unknown (head_code a) (head_code b) path.1 in
    let head = unknown.1 in
    let origin : origin_index a.origin ≡ origin_index b.origin = cc in
    let next_hop : a.next_hop ≡ b.next_hop = cc in
    let atomic : flag a.atomic ≡ flag b.atomic = cc in
    let med = med-splits a.med b.med (aggregator_code a.aggregator) (aggregator_code b.aggregator) cc in
    attrs-parts a b (origin-same a.origin b.origin origin) path.0 next_hop med.0
    (flag-same a.atomic b.atomic atomic) (aggregator-same a.aggregator b.aggregator med.1) unknown.0

none-apart : (path : List PathPart) (further : List ℕ) → [] ≡ path_code path ++ further → ⊥
none-apart [] further e = absurd cc
none-apart (Set xs ∷ path) further e = absurd cc
none-apart (Sequence xs ∷ path) further e = absurd cc

pub value-same : (v w : Option Attrs) → value_code v ≡ value_code w → v ≡ w
value-same None None e = refl
value-same None (Some b) e = absurd (none-apart b.path (raws_code b.unknown ++ head_code b) e)
value-same (Some a) None e = absurd (none-apart a.path (raws_code a.unknown ++ head_code a) (sym e))
value-same (Some a) (Some b) e = ap Some (attrs-same a b e)
