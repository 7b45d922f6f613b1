-- A text that is cut at the first character of a kind.
use Rattle.std.proofs.Common.{◌≡◌, ℕ, ◌+◌, ◌<◌, Bool, true, false, cond, eqb, List, [], length, take, drop, sym, ap, ◌∙◌, arith, length-drop, eq-eqb, ne_eqb}
use Rattle.std.proofs.Common.{eqb-true}
use Rattle.std.specs.Prelude.{Some, None}
use Rattle.std.specs.List.{position_or_len}
use Rattle.std.proofs.lemmas.Bool.{false≢true}
use Rattle.std.proofs.lemmas.List.{take_all, drop_all}
use Rattle.lab_keys.specs.Reported.{before, behind, bracketed}

-- where the text has no such character
pub whole_before : (mark : ℕ) (text : List ℕ) → position_or_len (λ c. eqb c mark) text ≡ length text → text ≡ before mark text
whole_before mark text none = sym (ap (λ n. take n text) none ∙ take_all (length text) text (omega arith))

pub nothing_behind : (mark : ℕ) (text : List ℕ) → position_or_len (λ c. eqb c mark) text ≡ length text → [] ≡ behind mark text
nothing_behind mark text none = sym (drop_all (position_or_len (λ c. eqb c mark) text + 1) text (omega (arith, none)))

-- ---- a closing bracket

by_end : (text : List ℕ) (t : Bool) → eqb (position_or_len (λ c. eqb c 41) text + 1) (length text) ≡ t → cond t (Some (before 41 text)) None ≡ bracketed text
by_end text t is = ap (λ (b : Bool). cond b (Some (before 41 text)) None) (sym is)

pub closed : (text detail back : List ℕ) → detail ≡ before 41 text → back ≡ behind 41 text → position_or_len (λ c. eqb c 41) text < length text
    → eqb (length back) 0 ≡ true → Some detail ≡ bracketed text
closed text detail back front is_back there empty =
    let at = position_or_len (λ c. eqb c 41) text in
    let none : length (drop (at + 1) text) ≡ 0 = ap length (sym is_back) ∙ eqb-true (length back) 0 empty in
    let last : at + 1 ≡ length text = omega (arith, none, there, length-drop (at + 1) text) in
    ap Some front ∙ by_end text true (eq-eqb (at + 1) (length text) last)

pub open_behind : (text back : List ℕ) → back ≡ behind 41 text → eqb (length back) 0 ≡ false → None ≡ bracketed text
open_behind text back is_back some =
    let at = position_or_len (λ c. eqb c 41) text in
    let none : at + 1 ≡ length text → length back ≡ 0 = λ last. ap length (is_back ∙ drop_all (at + 1) text (omega (arith, last))) in
    by_end text false (ne_eqb (at + 1) (length text) (λ last. false≢true (sym some ∙ eq-eqb (length back) 0 (none last))))

pub never_closed : (text : List ℕ) → position_or_len (λ c. eqb c 41) text ≡ length text → None ≡ bracketed text
never_closed text none =
    let at = position_or_len (λ c. eqb c 41) text in
    by_end text false (ne_eqb (at + 1) (length text) (λ last. omega (arith, none, last)))
