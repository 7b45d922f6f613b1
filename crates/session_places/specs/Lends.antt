-- The state of `Places` after a `&mut` to one of the values was returned.
use Rattle.std.specs.Prelude.{ℕ, Option, Some}
use Rattle.std.specs.Borrow.{LendsIf, Fml, RattleType, MutBor}
use Rattle.session_places.specs.Places.{PlaceList, with_place}
use Rattle.session_places.specs.contracts.Places.{the_row}

-- once the borrow r ends, the last value written through it is at the place, and all else is unchanged
abbrev pub lends_place : (V : RattleType) → MutBor (PlaceList V.Denot) → ℕ → Option (MutBor V.Denot) → Fml
lends_place V s n r = LendsIf (the_row V) V s r (λ value. with_place s.now n (Some value)) s.now
