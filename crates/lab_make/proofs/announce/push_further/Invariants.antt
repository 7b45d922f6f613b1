use Rattle.std.proofs.Common.{◌≡◌, ◌++◌, take, string_bytes}
use Rattle.std.specs.Prelude.{codes}
use Rattle.std.specs.List.{flat_map}
use Rattle.lab_make.specs.Made.{quoted_prefix}
use Rattle.lab_make.proofs.announce.push_further.Given as goal

-- the text so far is that of the prefixes so far
abbrev pub invariant-loop-i : goal.invariant-loop-i
invariant-loop-i l = string_bytes l.text ≡ string_bytes l.initial.text ++ flat_map (λ i. codes ", " ++ quoted_prefix i) (take l.i-index l.prefixes)
