-- What has no room in an input.
use Rattle.std.specs.Prelude.{ℕ, ◌≡◌, ◌<◌, ◌+◌, ◌⊎◌, ◌==◌, nat_lt, nat_le, Bool, true, false, not, ◌&&◌, List, [], length, take, find, option_map}
use Rattle.std.specs.Prelude.{Some, slice_get, unwrap_or}
use Rattle.std.specs.List.{flat_map}
use Rattle.bgp_types.specs.Values.{is_no_host}
use Rattle.imported_sessions.specs.Imports.{octets_by}
use Rattle.imported_sessions.specs.declared.imported.Said.{Said}
use Rattle.imported_sessions.specs.declared.imported.ImportedPeering.{ImportedPeering}
use Rattle.imported_sessions.specs.declared.imported.Imported.{Imported}
use Rattle.lab_import.specs.Texts.{head_text, steps_text, tail_text}
use Rattle.lab_import.specs.declared.limits.Beyond.{Beyond}

-- ---- peerings

-- an input has at most 32 peerings, each between addresses of hosts
abbrev pub fits_peering : (n : ℕ) → ImportedPeering → Bool
fits_peering n p = nat_lt n 32 && not (is_no_host p.remote_address) && not (is_no_host p.local_address)

abbrev pub AllPeeringsFit : List ImportedPeering → Type 0
AllPeeringsFit peerings = (n : ℕ) (p : ImportedPeering) → slice_get peerings n ≡ Some p → fits_peering n p ≡ true

-- this is the first one that has no room
pub record IsPeeringBeyond (peerings : List ImportedPeering) (beyond : Beyond) : Type 0 where
  pub n : ℕ
  pub p : ImportedPeering
  pub at : slice_get peerings n ≡ Some p
  pub fails : fits_peering n p ≡ false
  pub first : (m : ℕ) (other : ImportedPeering) → m < n → slice_get peerings m ≡ Some other → fits_peering m other ≡ true
  pub is : beyond ≡ record { peer = p.peer; octet = 0 }

-- ---- steps

-- what the remote of a connection says at first
abbrev pub opening_at : List ImportedPeering → (peer : ℕ) → List ℕ
opening_at peerings peer = unwrap_or (option_map (λ p. p.opening) (find (λ p. p.peer == peer) peerings)) []

-- the place of a step's first octet in the stream of its remote, counted from 0
abbrev pub place_of : Imported → (n : ℕ) → Said → ℕ
place_of i n step = length (opening_at i.peerings step.peer) + length (flat_map (octets_by step.peer) (take n i.steps))

-- how long the text is with its first n steps
abbrev pub length_with : Imported → (n : ℕ) → ℕ
length_with i n = length (head_text i) + length (steps_text (take n i.steps)) + length (tail_text i)

-- an input has at most 4,096 steps, the last of which is the settle; a remote says at most 1,048,576 octets; and the text has at most 4,194,304 bytes
abbrev pub fits_step : Imported → (n : ℕ) → Said → Bool
fits_step i n step = nat_lt n 4095 && nat_le (place_of i n step + length step.octets) 1048576 && nat_le (length_with i (n + 1)) 4194304

abbrev pub AllStepsFit : Imported → Type 0
AllStepsFit i = (n : ℕ) (step : Said) → slice_get i.steps n ≡ Some step → fits_step i n step ≡ true

-- this is the first one that has no room
pub record IsStepBeyond (i : Imported) (beyond : Beyond) : Type 0 where
  pub n : ℕ
  pub step : Said
  pub at : slice_get i.steps n ≡ Some step
  pub fails : fits_step i n step ≡ false
  pub first : (m : ℕ) (other : Said) → m < n → slice_get i.steps m ≡ Some other → fits_step i m other ≡ true
  pub is : beyond ≡ record { peer = step.peer; octet = place_of i n step }

-- ---- both

-- All have room.
pub record Fits (i : Imported) : Type 0 where
  pub peerings : AllPeeringsFit i.peerings
  pub steps : AllStepsFit i

-- this is the first peering that has no room, or else the first step
abbrev pub IsBeyond : Imported → Beyond → Type 0
IsBeyond i beyond = IsPeeringBeyond i.peerings beyond ⊎ (AllPeeringsFit i.peerings × IsStepBeyond i beyond)
