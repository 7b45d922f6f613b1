-- The number of bytes that a remote has said, and is still to say.
use Rattle.std.specs.Prelude.{ℕ, ◌≡◌, ◌<◌, ◌≤◌, ◌+◌, ◌*◌, Bool, List, [], ◌∷◌, length, sum_by, Option, Some, None, if◌then◌else◌, slice_get}
use Rattle.std.specs.List.{AllByRecursion}
use Rattle.graft_model.specs.Setups.{Setup, PeeringSetup, ScriptStep, SayStep, keepalive_interval_of, said_by, said_length}
use Rattle.graft_model.specs.Parts.{World}

-- the bytes that a step has a remote say, if there is one
abbrev pub said_by_step : ℕ → Option ScriptStep → List ℕ
said_by_step p None = []
said_by_step p (Some step) = said_by p step

-- how many bytes the step of a number has a remote say
abbrev pub size_at : Setup → ℕ → ℕ → ℕ
size_at setup p n = length (said_by_step p (slice_get setup.steps n))

-- how many bytes are said by the steps that weren't issued; the first step has the number n
abbrev pub unissued_octets : (ℕ → Bool) → ℕ → ℕ → List ScriptStep → ℕ
unissued_octets issued p n [] = 0
unissued_octets issued p n (step ∷ steps) = (if issued n then 0 else length (said_by p step)) + unissued_octets issued p (n + 1) steps

-- the step of a number has the remote say something
pub record IsSayOf (setup : Setup) (p n : ℕ) : Type 0 where
  pub bytes : List ℕ
  pub is : slice_get setup.steps n ≡ Some (SayStep p bytes)

-- What a remote has said, is ordered to say, and says in steps that weren't issued has the length of its opening, what it says over the script, and a
-- KEEPALIVE of 19 bytes for each time that its timer ran. Each step number that it is sent is that of a step in which it says something.
pub record Said (setup : Setup) (p : ℕ) (peering : PeeringSetup) (w : World) : Type 0 where
  pub sum : length (w.far p).end.stream + sum_by (size_at setup p) (w.says p) + unissued_octets w.operator.issued p 0 setup.steps
      ≡ said_length setup p peering + 19 * (w.far p).keepalives
  pub orders : AllByRecursion (IsSayOf setup p) (w.says p)
  pub few : (w.far p).keepalives ≤ 27594
  pub keepalives : 0 < (w.far p).keepalives → 0 < keepalive_interval_of peering
