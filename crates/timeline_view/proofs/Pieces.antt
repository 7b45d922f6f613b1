-- Texts that are written piece by piece.
use Rattle.std.proofs.Common.{ℕ, ◌≡◌, List, ◌++◌, ap, sym, ◌∙◌, append_assoc}
use Rattle.std.specs.Prelude.{codes, decimal}
use Rattle.lab_report.specs.Report.{line_end}
use Rattle.timeline_view.specs.Lines.{did}

module _ {X : Type 0} (start now next before : List X) where
  -- one piece stands behind what was written before
  pub one_behind : (x : List X) → now ≡ start ++ before → next ≡ now ++ x → next ≡ start ++ (before ++ x)
  one_behind x so is = is ∙ ap (λ (l : List X). l ++ x) so ∙ append_assoc start before x

  pub two_behind : (x y : List X) → now ≡ start ++ before → next ≡ now ++ (x ++ y) → next ≡ start ++ (before ++ x ++ y)
  two_behind x y so is = one_behind (x ++ y) so is ∙ ap (λ (l : List X). start ++ l) (sym (append_assoc before x y))

  pub four_behind : (x y z w : List X) → now ≡ start ++ before → next ≡ now ++ (x ++ (y ++ (z ++ w))) → next ≡ start ++ (before ++ x ++ y ++ z ++ w)
  four_behind x y z w so is =
      two_behind x (y ++ (z ++ w)) so is
      ∙ ap (λ (l : List X). start ++ l) (sym (append_assoc (before ++ x) y (z ++ w)) ∙ sym (append_assoc (before ++ x ++ y) z w))

-- words and a number, of which it is known what it counts
pub number_behind : (start now next before words : List ℕ) (number counted : ℕ) → number ≡ counted → now ≡ start ++ before
    → next ≡ now ++ (words ++ decimal number) → next ≡ start ++ (before ++ words ++ decimal counted)
number_behind start now next before words number counted same so is =
    two_behind start now next before words (decimal counted) so (is ∙ ap (λ n. now ++ (words ++ decimal n)) same)

-- a line of what an actor did
pub did_behind : (round : ℕ) (name words start one two three : List ℕ)
    → one ≡ start ++ (codes "round " ++ (decimal round ++ (codes "  " ++ (name ++ codes "  ")))) → two ≡ one ++ words → three ≡ two ++ line_end
    → three ≡ start ++ did round name words
did_behind round name words start one two three first second third =
    let front : List ℕ = codes "round " ++ decimal round ++ codes "  " ++ name ++ codes "  " in
    let left : codes "round " ++ (decimal round ++ (codes "  " ++ (name ++ codes "  "))) ≡ front =
    sym (append_assoc (codes "round ") (decimal round) (codes "  " ++ (name ++ codes "  ")))
    ∙ sym (append_assoc (codes "round " ++ decimal round) (codes "  ") (name ++ codes "  "))
    ∙ sym (append_assoc (codes "round " ++ decimal round ++ codes "  ") name (codes "  ")) in
    let begun : one ≡ start ++ front = first ∙ ap (λ (l : List ℕ). start ++ l) left in
    one_behind start two three (front ++ words) line_end (one_behind start one two front words begun second) third
