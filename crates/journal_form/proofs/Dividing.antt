-- Where a text divides: at its last line `%% journal 1`.
use Rattle.std.proofs.Common.{◌≡◌, ◌≢◌, ℕ, ◌+◌, ◌-◌, ◌<◌, ◌≤◌, List, [], ◌∷◌, ◌++◌, length, take, drop, refl, sym, ap, ◌∙◌, subst, arith, rules}
use Rattle.std.proofs.Common.{◌⊎◌, inl, inr, append_assoc, length-append}
use Rattle.std.specs.Prelude.{codes}
use Rattle.std.proofs.lemmas.Bool.{cases_order}
use Rattle.std.proofs.lemmas.List.{append_cancel_left, take-append-drop, length-take-le, length-drop, take_all}
use Rattle.std.proofs.Math.Seq.{drop-append_seam, take-append_seam}
use Rattle.memchr.specs.Find.{OccursAt, Nowhere, NoneAfter}
use Rattle.memchr.proofs.lemmas.MatchLemmas.{OccursAt-split, OccursAt-from_part}
use Rattle.journal_form.specs.Journals.{dividing_line}
use Rattle.journal_form.specs.Reading.{IsDivided, HasDividingLine, Divides}
use Rattle.journal_form.proofs.Lines.{Without, same_parts, later, tails}

-- the dividing line without its newline
abbrev mark : List ℕ
mark = codes "%% journal 1"

Without-mark : Without 10 mark
Without-mark = search rules

-- what is searched for: the dividing line, and the newline in front of it
abbrev pub divider : List ℕ
divider = 10 ∷ dividing_line

-- a text with its parts from the right
pub parted : (input rest : List ℕ) → input ++ codes "\n" ++ dividing_line ++ rest ≡ input ++ (divider ++ rest)
parted input rest = append_assoc (input ++ codes "\n") dividing_line rest ∙ append_assoc input (codes "\n") (dividing_line ++ rest)

-- behind its first line a text has a dividing line, where it has one behind a newline
pub divided_later : (line rest input behind : List ℕ) → Without 10 line → line ++ 10 ∷ rest ≡ input ++ (divider ++ behind) → HasDividingLine rest
divided_later line rest input behind none e = at (later 10 line rest input (dividing_line ++ behind) none e)
  where
    at : (rest ≡ dividing_line ++ behind) ⊎ ((m : List ℕ) × (rest ≡ m ++ (divider ++ behind))) → HasDividingLine rest
    at (inl is) = record { input = []; rest = behind; divided = inr (refl, is) }
    at (inr (m, is)) = record { input = m; rest = behind; divided = inl (is ∙ sym (parted m behind)) }

-- of two dividing lines the first has the other one behind it
earlier : (before rest input behind : List ℕ) → before ++ (dividing_line ++ rest) ≡ input ++ (divider ++ behind) → length before ≤ length input
    → HasDividingLine rest
earlier [] rest input behind e short = divided_later mark rest input behind Without-mark e
earlier (b ∷ before) rest [] behind e short = absurd (omega (arith, short))
earlier (b ∷ before) rest (i ∷ input) behind e short =
    earlier before rest input behind (tails b i (before ++ (dividing_line ++ rest)) (input ++ (divider ++ behind)) e) (omega (arith, short))

-- the newline in front of the line may count as the last octet before it
with_newline : (input rest : List ℕ) → (input ++ 10 ∷ []) ++ (dividing_line ++ rest) ≡ input ++ (divider ++ rest)
with_newline input rest = append_assoc input (10 ∷ []) (dividing_line ++ rest)

shorter : (xs ys us vs : List ℕ) → xs ++ (divider ++ us) ≡ ys ++ (divider ++ vs) → length xs < length ys → HasDividingLine us
shorter xs ys us vs e less =
    earlier (xs ++ 10 ∷ []) us ys vs (with_newline xs us ∙ e) (omega (arith, length-append xs (10 ∷ []), less))

as_long : (xs ys us vs : List ℕ) → xs ++ (divider ++ us) ≡ ys ++ (divider ++ vs) → length xs ≡ length ys → (xs ≡ ys) × (us ≡ vs)
as_long xs ys us vs e same =
    let parts = same_parts xs ys (divider ++ us) (divider ++ vs) same e in
    (parts.0, append_cancel_left divider us vs parts.1)

-- a text divides in one way
pub divided_once : (text input rest input' rest' : List ℕ) → Divides text input rest → Divides text input' rest' → (input ≡ input') × (rest ≡ rest')
divided_once text input rest input' rest' one other = by one.divided other.divided
  where
    lengths : (length input ≡ length input') ⊎ ((length input < length input') ⊎ (length input' < length input))
        → input ++ (divider ++ rest) ≡ input' ++ (divider ++ rest') → (input ≡ input') × (rest ≡ rest')
    lengths (inl same) e = as_long input input' rest rest' e same
    lengths (inr (inl less)) e = absurd (one.last (shorter input input' rest rest' e less))
    lengths (inr (inr more)) e = absurd (other.last (shorter input' input rest' rest (sym e) more))

    by : IsDivided text input rest → IsDivided text input' rest' → (input ≡ input') × (rest ≡ rest')
    by (inl a) (inl b) =
        lengths (cases_order (length input) (length input')) (sym (parted input rest) ∙ sym a ∙ b ∙ parted input' rest')
    by (inl a) (inr b) = absurd (other.last (earlier [] rest' input rest (sym b.1 ∙ a ∙ parted input rest) (omega arith)))
    by (inr a) (inl b) = absurd (one.last (earlier [] rest input' rest' (sym a.1 ∙ b ∙ parted input' rest') (omega arith)))
    by (inr a) (inr b) = (a.0 ∙ sym b.0, append_cancel_left dividing_line rest rest' (sym a.1 ∙ b.1))

-- ---- what a search finds

-- a needle that stands between others occurs there
occurs : (hay before needle behind : List ℕ) → hay ≡ before ++ (needle ++ behind) → OccursAt hay needle (length before)
occurs hay before needle behind e =
    let dropped : drop (length before) hay ≡ needle ++ behind = ap (drop (length before)) e ∙ drop-append_seam before (needle ++ behind) in
    let long : length hay ≡ length before + (length needle + length behind) =
    ap (λ (xs : List ℕ). length xs) e ∙ length-append before (needle ++ behind) ∙ ap (λ (n : ℕ). length before + n) (length-append needle behind) in
    OccursAt-from_part hay needle (length before) (omega (arith, long)) (ap (take (length needle)) dropped ∙ take-append_seam needle behind)

-- a text that has the divider nowhere from a place on
abbrev HasNoDivider : List ℕ → ℕ → Type 0
HasNoDivider text from = (before behind : List ℕ) → text ≡ before ++ (divider ++ behind) → from ≤ length before → ⊥

none_from : (text : List ℕ) (from : ℕ) → Nowhere (OccursAt text divider) from (length text + 1) → HasNoDivider text from
none_from text from nowhere = λ before behind e past.
    let there = occurs text before divider behind e in
    nowhere (length before) past (omega (arith, there.fits)) there

-- the last place of the divider
Divides-last : (text : List ℕ) (at : ℕ) → OccursAt text divider at → HasNoDivider text (at + 1) → Divides text (take at text) (drop (at + 14) text)
Divides-last text at here none =
    record {
      divided = inl (parts ∙ sym (parted (take at text) (drop (at + 14) text)));
      last = λ more. by more.input more.rest more.divided;
    }
  where
    parts : text ≡ take at text ++ (divider ++ drop (at + 14) text)
    parts = sym (take-append-drop at text) ∙ ap (λ (xs : List ℕ). take at text ++ xs) (OccursAt-split text divider at here)

    long : length (take at text) ≡ at
    long = length-take-le at text (omega (arith, here.fits))

    by : (input more : List ℕ) → IsDivided (drop (at + 14) text) input more → ⊥
    by input more (inl is) =
        none ((take at text ++ divider) ++ input) more
        (parts ∙ ap (λ (xs : List ℕ). take at text ++ (divider ++ xs)) (is ∙ parted input more)
        ∙ sym (append_assoc (take at text) divider (input ++ (divider ++ more))) ∙ sym (append_assoc (take at text ++ divider) input (divider ++ more)))
        (omega (arith, long, length-append (take at text ++ divider) input, length-append (take at text) divider))
    by input more (inr is) =
        none (take at text ++ 10 ∷ mark) more
        (parts ∙ ap (λ (xs : List ℕ). take at text ++ (divider ++ xs)) is.1 ∙ sym (append_assoc (take at text) (10 ∷ mark) (divider ++ more)))
        (omega (arith, long, length-append (take at text) (10 ∷ mark)))

-- what the search for a needle finds, where that is the divider, and the parts of the text there
pub Divides-found : (text needle : List ℕ) (at : ℕ) → needle ≡ divider
    → NoneAfter (OccursAt text needle) 0 (length text + 1) at × OccursAt text needle at
    → Divides text (take at text) (take (length text - (at + length needle)) (drop (at + length needle) text))
Divides-found text needle at is =
    subst (λ (n : List ℕ). NoneAfter (OccursAt text n) 0 (length text + 1) at × OccursAt text n at
    → Divides text (take at text) (take (length text - (at + length n)) (drop (at + length n) text))) (sym is) there
  where
    there : NoneAfter (OccursAt text divider) 0 (length text + 1) at × OccursAt text divider at
        → Divides text (take at text) (take (length text - (at + 14)) (drop (at + 14) text))
    there found =
        subst (Divides text (take at text)) (sym (take_all (length text - (at + 14)) (drop (at + 14) text) (omega (arith, length-drop (at + 14) text))))
        (Divides-last text at found.1 (none_from text (at + 1) found.0.after))

-- a dividing line that is the text's first, where there is no divider
pub Divides-first : (text needle rest : List ℕ) → needle ≡ divider → Nowhere (OccursAt text needle) 0 (length text + 1) → text ≡ dividing_line ++ rest
    → Divides text [] rest
Divides-first text needle rest needle_is nowhere is = record { divided = inr (refl, is); last = λ more. by more.input more.rest more.divided }
  where
    none : HasNoDivider text 0
    none = none_from text 0 (subst (λ (n : List ℕ). Nowhere (OccursAt text n) 0 (length text + 1)) needle_is nowhere)

    by : (input more : List ℕ) → IsDivided rest input more → ⊥
    by input more (inl e) =
        none (dividing_line ++ input) more
        (is ∙ ap (λ (xs : List ℕ). dividing_line ++ xs) (e ∙ parted input more) ∙ sym (append_assoc dividing_line input (divider ++ more))) (omega arith)
    by input more (inr e) = none mark more (is ∙ ap (λ (xs : List ℕ). dividing_line ++ xs) e.1) (omega arith)

-- no dividing line
pub no_division : (text needle : List ℕ) → needle ≡ divider → Nowhere (OccursAt text needle) 0 (length text + 1)
    → ((rest : List ℕ) → text ≢ dividing_line ++ rest) → ¬ HasDividingLine text
no_division text needle needle_is nowhere first = λ has. by has.input has.rest has.divided
  where
    none : HasNoDivider text 0
    none = none_from text 0 (subst (λ (n : List ℕ). Nowhere (OccursAt text n) 0 (length text + 1)) needle_is nowhere)

    by : (input rest : List ℕ) → IsDivided text input rest → ⊥
    by input rest (inl e) = none input rest (e ∙ parted input rest) (omega arith)
    by input rest (inr e) = first rest e.1
