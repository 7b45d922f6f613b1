use Rattle.std.proofs.Common.{◌≡◌, ◌++◌, take, string_bytes}
use Rattle.std.specs.List.{flat_map}
use Rattle.message_words.specs.Messages.{cap_words}
use Rattle.message_words.proofs.message.push_caps.Given as goal

-- the text so far is that of the capabilities so far
abbrev pub invariant-loop-cap : goal.invariant-loop-cap
invariant-loop-cap l = string_bytes l.text ≡ string_bytes l.initial.text ++ flat_map cap_words (take l.cap-index l.caps)
