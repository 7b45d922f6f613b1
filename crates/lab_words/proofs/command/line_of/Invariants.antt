use Rattle.std.proofs.Common.{◌≡◌, ◌∷◌, map, take, codes}
use Rattle.lab_words.proofs.command.line_of.Given as goal

abbrev pub invariant-loop-k : goal.invariant-loop-k
invariant-loop-k l = map (λ word. word.now) l.line.items ≡ codes "graftlab" ∷ take l.k l.words
