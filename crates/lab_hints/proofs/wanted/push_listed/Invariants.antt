use Rattle.std.proofs.Common.{◌≡◌, ◌++◌, take, string_bytes}
use Rattle.std.specs.List.{flat_map}
use Rattle.lab_hints.specs.Wanted.{spaced}
use Rattle.lab_hints.proofs.wanted.push_listed.Given as goal

-- the text so far is that of the words so far
abbrev pub invariant-loop-word : goal.invariant-loop-word
invariant-loop-word l = string_bytes l.text ≡ string_bytes l.initial.text ++ flat_map (λ word. spaced word.now) (take l.word-index l.words)
