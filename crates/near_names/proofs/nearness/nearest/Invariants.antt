use Rattle.std.proofs.Common.{map, take}
use Rattle.std.specs.Prelude.{option_map}
use Rattle.near_names.specs.Nearness.{distance, most_edits}
use Rattle.near_names.proofs.Leading.{Leads}
use Rattle.near_names.proofs.nearness.nearest.Given as goal

-- the nearest of the names so far
abbrev pub invariant-loop-name : goal.invariant-loop-name
invariant-loop-name l =
    Leads (distance l.text) (most_edits l.text) (map (λ name. name.now) (take l.name-index l.names)) (option_map (λ name. name.now) l.near) l.least
