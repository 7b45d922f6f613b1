-- A table in which each value is seen through a function.
use Rattle.std.specs.Prelude.{map}
use Rattle.std.specs.FinMap as table
use Rattle.bgp_types.specs.Tables.{prefix_cmp}

abbrev pub each_value : {V W : Type 0} → (V → W) → table.FinMap prefix_cmp V → table.FinMap prefix_cmp W
each_value f m = table.from_sorted (map (λ e. (e.0, f e.1)) (table.entries m))
