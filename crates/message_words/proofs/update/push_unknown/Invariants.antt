use Rattle.std.proofs.Common.{◌≡◌, ◌++◌, take, string_bytes}
use Rattle.std.specs.List.{flat_map}
use Rattle.message_words.specs.Updates.{raw_words}
use Rattle.message_words.proofs.update.push_unknown.Given as goal

-- the text so far is that of the attributes so far
abbrev pub invariant-loop-raw : goal.invariant-loop-raw
invariant-loop-raw l = string_bytes l.text ≡ string_bytes l.initial.text ++ flat_map raw_words (take l.raw-index l.unknown)
