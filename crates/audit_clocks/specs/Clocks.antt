-- What clocks are, and what becomes of them.
use Rattle.std.specs.Prelude.{ℕ, ◌≡◌, List, [], length, replicate, slice_index_or, slice_set, Option}
use Rattle.item_channels.specs.Channels.{items_between}
use Rattle.audit_clocks.specs.Stamps.{without_next, with_stamp}
use Rattle.audit_clocks.specs.declared.clocks.Clocks.{Clocks}

-- the clocks of all actors, by their numbers
abbrev pub clocks_of : Clocks → List ℕ
clocks_of clocks = clocks.clocks.items

abbrev pub actors_of : Clocks → ℕ
actors_of clocks = length (clocks_of clocks)

abbrev pub clock_of : Clocks → ℕ → ℕ
clock_of clocks n = slice_index_or (clocks_of clocks) n 0

-- the stamps of what is on its way from one actor to another, the next one first
abbrev pub stamps_of : Clocks → (from to : ℕ) → List ℕ
stamps_of clocks = items_between clocks.stamps.items

-- so many clocks are 0, and nothing is on its way
pub record IsNew (actors : ℕ) (clocks : Clocks) : Type 0 where
  pub clocks_are : clocks_of clocks ≡ replicate actors 0
  pub none : (a b : ℕ) → stamps_of clocks a b ≡ []

-- An actor's event has passed: its clock is the actor's, and the stamp of what it sent to the receiver, if there is one; the stamp of what it took
-- from the sender, if there is one, is gone.
pub record HasPassed (before : Clocks) (actor : ℕ) (from to : Option ℕ) (clock : ℕ) (after : Clocks) : Type 0 where
  pub clocks_are : clocks_of after ≡ slice_set (clocks_of before) actor clock
  pub stamps_are : (a b : ℕ) → stamps_of after a b ≡ with_stamp (without_next (stamps_of before) from actor) actor to clock a b

-- all clocks are this one, and the stamps are as they were
pub record IsLevel (before : Clocks) (clock : ℕ) (after : Clocks) : Type 0 where
  pub clocks_are : clocks_of after ≡ replicate (actors_of before) clock
  pub stamps_are : stamps_of after ≡ stamps_of before
