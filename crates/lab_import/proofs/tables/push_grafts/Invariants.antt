use Rattle.std.proofs.Common.{◌≡◌, ◌++◌, take, string_bytes}
use Rattle.std.specs.List.{flat_map}
use Rattle.lab_import.specs.Texts.{graft_text}
use Rattle.lab_import.proofs.tables.push_grafts.Given as goal

-- the text so far is that of the grafts so far
abbrev pub invariant-loop-peering : goal.invariant-loop-peering
invariant-loop-peering l = string_bytes l.text ≡ string_bytes l.initial.text ++ flat_map graft_text (take l.peering-index l.peerings)
