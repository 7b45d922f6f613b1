use Rattle.std.proofs.Common.{◌≡◌, ◌++◌, take, string_bytes}
use Rattle.std.specs.List.{flat_map}
use Rattle.bgp_types.specs.Texts.{prefix_text}
use Rattle.message_words.specs.Notices.{space}
use Rattle.message_words.proofs.update.push_each_prefix.Given as goal

-- the text so far is that of the prefixes so far
abbrev pub invariant-loop-prefix : goal.invariant-loop-prefix
invariant-loop-prefix l = string_bytes l.text ≡ string_bytes l.initial.text ++ flat_map (λ p. space ++ prefix_text p) (take l.prefix-index l.prefixes)
