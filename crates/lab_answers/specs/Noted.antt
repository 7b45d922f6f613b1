-- What is kept of routes, to tell whether their MEDs are even.
use Rattle.std.specs.Prelude.{ℕ, ◌≡◌, List, ◌++◌, Option, option_map, find}
use Rattle.std.specs.HashMap.{get}
use Rattle.bgp_types.specs.Prefixes.{PrefixValue}
use Rattle.even_inputs.specs.Evenness.{Med, is_between, are_even}
use Rattle.lab_answers.specs.declared.meds.Meds.{Meds}
use Rattle.lab_answers.specs.contracts.meds.BetweenPartialEq.TheImpl as between_eq

-- a network of a home router
abbrev pub own_med : ℕ → PrefixValue → Med
own_med home_as prefix = record { prefix = prefix; neighbour = home_as; med = 0 }

-- the first MED that is kept of a prefix and a neighbour AS
abbrev pub kept_med : Meds → PrefixValue → ℕ → Option ℕ
kept_med kept prefix neighbour = get (between_eq.ghosts).eq kept.first (record { prefix = prefix; neighbour = neighbour })

-- The first MED of each prefix and neighbour AS among these routes is kept, and whether they are even.
pub record KeepsFirstMeds (meds : List Med) (kept : Meds) : Type 0 where
  pub first : (prefix : PrefixValue) (neighbour : ℕ) → kept_med kept prefix neighbour ≡ option_map (λ m. m.med) (find (is_between prefix neighbour) meds)
  pub even : kept.even ≡ are_even meds

-- After these routes are noted, what is kept is of them too.
abbrev pub NotesMeds : List Med → Meds → Meds → Type 0
NotesMeds meds old new = (before : List Med) → KeepsFirstMeds before old → KeepsFirstMeds (before ++ meds) new
