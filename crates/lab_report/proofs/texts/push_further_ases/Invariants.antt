use Rattle.std.proofs.Common.{◌≡◌, ◌++◌, take, decimal, string_bytes}
use Rattle.std.specs.Prelude.{codes}
use Rattle.std.specs.List.{flat_map}
use Rattle.lab_report.proofs.texts.push_further_ases.Given as goal

-- the text so far is that of the members so far
abbrev pub invariant-loop-as_number : goal.invariant-loop-as_number
invariant-loop-as_number l = string_bytes l.text ≡ string_bytes l.initial.text ++ flat_map (λ a. codes "," ++ decimal a) (take l.as_number-index l.ases)
