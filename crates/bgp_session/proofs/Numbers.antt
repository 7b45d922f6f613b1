-- The least number that the next round may have, and what it says of the rounds that passed.
use Rattle.std.proofs.Common.{◌≡◌, ℕ, ◌+◌, ◌≤◌, max, List, [], ◌∷◌, ◌++◌, ◌∙◌, arith}
use Rattle.std.specs.Prelude.{All, fold}
use Rattle.std.proofs.lemmas.List.Elements.{All-nil, All-cons, All-head, All-tail}
use Rattle.std.proofs.lemmas.List.Sums.{fold-append}
use Rattle.bgp_story.specs.declared.line.Line.{Line}
use Rattle.bgp_story.specs.declared.line.Line.TheVariants.{Put, Got, Tick}
use Rattle.bgp_story.specs.Legal.{IsEarlier}
use Rattle.bgp_session.specs.Inner.{after_line, after_rounds}

number_grows : (lines : List Line) (n : ℕ) → n ≤ fold after_line n lines
number_grows [] n = omega arith
number_grows (Put _ ∷ lines) n = number_grows lines n
number_grows (Got _ ∷ lines) n = number_grows lines n
number_grows (Tick t ∷ lines) n = let rest = number_grows lines (max n (t + 1)) in omega (arith, rest)

each_earlier : (round : ℕ) (lines : List Line) (n : ℕ) → fold after_line n lines ≤ round → All (IsEarlier round) lines
each_earlier round [] n few = All-nil (IsEarlier round)
each_earlier round (Put m ∷ lines) n few = All-cons (IsEarlier round) (Put m) lines tt (each_earlier round lines n few)
each_earlier round (Got bytes ∷ lines) n few = All-cons (IsEarlier round) (Got bytes) lines tt (each_earlier round lines n few)
each_earlier round (Tick t ∷ lines) n few =
    let rest = number_grows lines (max n (t + 1)) in
    All-cons (IsEarlier round) (Tick t) lines (omega (arith, rest, few)) (each_earlier round lines (max n (t + 1)) few)

number_within : (round : ℕ) (lines : List Line) (n : ℕ) → n ≤ round → All (IsEarlier round) lines → fold after_line n lines ≤ round
number_within round [] n le later = le
number_within round (Put m ∷ lines) n le later = number_within round lines n le (All-tail (IsEarlier round) (Put m) lines later)
number_within round (Got bytes ∷ lines) n le later = number_within round lines n le (All-tail (IsEarlier round) (Got bytes) lines later)
number_within round (Tick t ∷ lines) n le later =
    let first = All-head (IsEarlier round) (Tick t) lines later in
    number_within round lines (max n (t + 1)) (omega (arith, le, first)) (All-tail (IsEarlier round) (Tick t) lines later)

pub earlier_all : (round : ℕ) (lines : List Line) → after_rounds lines ≤ round → All (IsEarlier round) lines
earlier_all round lines few = each_earlier round lines 0 few

pub number_least : (round : ℕ) (lines : List Line) → All (IsEarlier round) lines → after_rounds lines ≤ round
number_least round lines later = number_within round lines 0 (omega arith) later

-- with further lines, of which none but the first may be a round
pub numbers_then : (lines : List Line) (line : Line) (answer : List Line) → ((n : ℕ) → fold after_line n answer ≡ n)
    → after_rounds (lines ++ line ∷ answer) ≡ after_line (after_rounds lines) line
numbers_then lines line answer none = fold-append after_line 0 lines (line ∷ answer) ∙ none (after_line (after_rounds lines) line)
