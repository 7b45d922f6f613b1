-- The steps in which remotes say what is behind their openings.
use Rattle.std.specs.Prelude.{ℕ, ◌≡◌, ◌≤◌, ◌<◌, ◌+◌, ◌/◌, suc, List, ◌∷◌, ◌++◌, length, map, filter, Bool, Some, slice_get}
use Rattle.std.specs.List.{All, flat_map, range_with_len}
use Rattle.std.specs.Fork.{slice_chunk}
use Rattle.captured_streams.specs.declared.streams.Flow.{Flow}
use Rattle.imported_sessions.specs.Messages.{told, unfinished}
use Rattle.imported_sessions.specs.declared.imported.Said.{Said}

abbrev pub octets_in : List Said → List ℕ
octets_in all = flat_map (λ said. said.octets) all

-- a step: messages of one remote, one behind another, with at most 4,096 octets
pub record IsStep (part : List Said) (step : Said) : Type 0 where
  pub some : 1 ≤ length part
  pub one : All (λ said. said.peer ≡ step.peer) part
  pub octets : step.octets ≡ octets_in part
  pub short : length step.octets ≤ 4096

-- the first message behind a step has no room in it: it is another remote's, or would make it longer than 4,096 octets
abbrev pub IsFull : (step next : Said) → Type 0
IsFull step next = step.peer ≡ next.peer → 4096 < length step.octets + length next.octets

-- These messages stand in these steps, in their order and in no more steps than they need.
pub record ArePacked (all steps : List Said) : Type 0 where
  pub parts : List (List Said)
  pub all_are : flat_map (λ part. part) parts ≡ all
  pub count : length parts ≡ length steps
  pub each : (n : ℕ) (part : List Said) (step : Said) → slice_get parts n ≡ Some part → slice_get steps n ≡ Some step → IsStep part step
  pub full : (n : ℕ) (step next : Said) (part : List Said) → slice_get steps n ≡ Some step → slice_get parts (suc n) ≡ Some (next ∷ part)
      → IsFull step next

-- octets in pieces of 4,096, the last of which may be shorter
abbrev pub pieces : List ℕ → List (List ℕ)
pieces octets = map (slice_chunk octets 4096) (range_with_len 0 ((length octets + 4095) / 4096))

-- what is behind the last whole message of a remote
abbrev pub last_of : List Flow → (k : ℕ) → List Said
last_of flows k = map (λ piece. record { peer = k; octets = piece }) (pieces (unfinished k flows))

-- The steps of the remotes that are kept, of so many: their messages behind their openings, in the order in which they are whole, and then, in the
-- order of the remotes, what is behind their last ones.
pub record AreSteps (keeps : ℕ → Bool) (count : ℕ) (flows : List Flow) (steps : List Said) : Type 0 where
  pub whole : List Said
  pub packed : ArePacked (told keeps flows) whole
  pub steps_are : steps ≡ whole ++ flat_map (last_of flows) (filter keeps (range_with_len 0 count))
