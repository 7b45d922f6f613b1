use Rattle.std.proofs.Common.{◌≡◌, map, take}
use Rattle.std.specs.List.{filter_map}
use Rattle.toml.specs.View.{view}
use Rattle.lab_keys.specs.Values.{prefix_of_data}
use Rattle.lab_keys.proofs.arrays.prefixes_of.Given as goal

abbrev pub invariant-loop-value : goal.invariant-loop-value
invariant-loop-value l = l.prefixes ≡ filter_map (prefix_of_data) (map view (take l.value-index l.values))
