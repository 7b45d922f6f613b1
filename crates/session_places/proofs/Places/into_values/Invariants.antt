use Rattle.std.proofs.Common.{◌≡◌, ◌++◌, length, drop, filter_map}
use Rattle.session_places.specs.Places.{values_in}
use Rattle.session_places.proofs.Places.into_values.Given as goal

-- what was taken out and what is left are the values that were there
abbrev pub invariant-loop-n : goal.invariant-loop-n
invariant-loop-n g l = record {
  end : length l.self.places ≡ l.n-end;
  left : l.values ++ filter_map (λ value. value) (drop l.n l.self.places) ≡ values_in l.fn.self;
}
