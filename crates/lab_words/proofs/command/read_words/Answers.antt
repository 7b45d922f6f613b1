use Rattle.std.proofs.Common.{ℕ, List, ap, ◌∙◌, map, refl}
use Rattle.std.specs.Borrow.{Bor}
use Rattle.lab_words.proofs.Answers.{line_asked, line_refused, numbers_of, numbers_answered}
use Rattle.lab_words.proofs.command.read_words.Goals as goal

pub returns-in-Some-clause-numbers : goal.returns-in-Some-clause-numbers
returns-in-Some-clause-numbers c = numbers_of c.args.words.now c.in-Some.job c.in-Some.ensures.found

pub returns-in-Ok-clause-asked : goal.returns-in-Ok-clause-asked
returns-in-Ok-clause-asked c =
    let same = ap (map (λ (word : Bor (List ℕ)). word.now)) c.as_slice.ensures.value ∙ c.in-Ok.ensures in
    line_asked c.args.words.now _ c.read_line.result same c.read_line.ensures

pub returns-in-Ok-clause-numbers : goal.returns-in-Ok-clause-numbers
returns-in-Ok-clause-numbers c =
    let same = ap (map (λ (word : Bor (List ℕ)). word.now)) c.as_slice.ensures.value ∙ c.in-Ok.ensures in
    numbers_answered c.args.words.now c.read_line.result (line_asked c.args.words.now _ c.read_line.result same c.read_line.ensures)

pub returns-in-Ok-clause-refused : goal.returns-in-Ok-clause-refused
returns-in-Ok-clause-refused c =
    let same = ap (map (λ (word : Bor (List ℕ)). word.now)) c.as_slice.ensures.value ∙ c.in-Ok.ensures in
    line_refused c.args.words.now _ c.read_line.result same c.read_line.ensures (c.in-None.ensures.none refl)
