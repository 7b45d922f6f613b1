-- The places of entries in their rounds.
use Rattle.std.specs.Prelude.{ℕ, ◌≡◌, ◌<◌, ◌==◌, List, [], ◌∷◌, length, take, count_by, get_or, Option, Some, None}
use Rattle.lab_capture.specs.declared.timed.Timed.{Timed}

-- These are, by the rounds of all entries, how many entries of its round come before each.
pub record ArePlaces (rounds places : List ℕ) : Type 0 where
  pub all : length places ≡ length rounds
  pub each : (k : ℕ) → k < length rounds → get_or places k 0 ≡ count_by (λ r. r == get_or rounds k 0) (take k rounds)

-- a packet with its round and its place, if there is one
abbrev pub timed_if : (round place : ℕ) → Option (List ℕ) → List Timed
timed_if round place None = []
timed_if round place (Some octets) = record { round = round; place = place; octets = octets } ∷ []
