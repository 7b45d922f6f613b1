use Rattle.std.proofs.Common.{◌≡◌, map, take}
use Rattle.serde_json.specs.View.{view}
use Rattle.serde_json.specs.Data.{string}
use Rattle.bgp_types.specs.Texts.{prefix_text}
use Rattle.message_json.proofs.messages.prefixes_value.Given as goal

-- the values so far are those of the prefixes so far
abbrev pub invariant-loop-prefix : goal.invariant-loop-prefix
invariant-loop-prefix l = map view l.list.items ≡ map (λ p. string (prefix_text p)) (take l.prefix-index l.prefixes)
