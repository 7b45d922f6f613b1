use Rattle.std.proofs.Common.{◌≡◌, map, take}
use Rattle.std.specs.List.{filter_map}
use Rattle.toml.specs.View.{view}
use Rattle.lab_keys.specs.Values.{number_in}
use Rattle.lab_keys.proofs.arrays.numbers_of.Given as goal

abbrev pub invariant-loop-value : goal.invariant-loop-value
invariant-loop-value l = l.numbers ≡ filter_map (number_in 32) (map view (take l.value-index l.values))
