-- What an endpoint sends in one turn of its actor: old slices, new slices and acknowledgements.
use Rattle.std.specs.Prelude.{ℕ, zero, suc, ◌≡◌, ◌⊎◌, ◌<◌, ◌+◌, ◌-◌, nat_lt, min, if◌then◌else◌, true, false, length}
use Rattle.tcp_seq.specs.Endpoint.{Endpoint}

-- up to where a stream may be emitted: to its end, or to the end of the flight of 15,360
abbrev pub reach_of : Endpoint → ℕ
reach_of e = min (length e.stream) (e.acked + 15360)

-- The first outstanding bytes again, at most 1,024.
pub record IsOld (e : Endpoint) (from len : ℕ) : Type 0 where
  pub first : from ≡ e.acked
  pub out : from < e.emitted
  pub all : len ≡ min 1024 (e.emitted - e.acked)

-- The next bytes that were never emitted: 1,024, or as many as there are.
pub record IsNewSlice (e : Endpoint) (from len : ℕ) : Type 0 where
  pub next : from ≡ e.emitted
  pub all : (len ≡ 1024) ⊎ (from + len ≡ reach_of e)

-- A segment without bytes is an acknowledgement that is owed; one with bytes is an old slice or a new one.
abbrev pub IsCareful : Endpoint → ℕ → ℕ → Type 0
IsCareful e from zero = e.owed ≡ true
IsCareful e from (suc n) = IsOld e from (suc n) ⊎ IsNewSlice e from (suc n)

-- the number of old slices sent again, and of acknowledgements sent
pub record Tally : Type 0 where
  pub again : ℕ
  pub answers : ℕ

abbrev pub zero_tally : Tally
zero_tally = record { again = 0; answers = 0 }

-- counts a segment that is sent
abbrev pub tallied : Endpoint → ℕ → ℕ → Tally → Tally
tallied e from zero t = record t { answers = t.answers + 1 }
tallied e from (suc n) t = if nat_lt from e.emitted then record t { again = t.again + 1 } else t

-- At the end of a turn all that may be emitted is emitted, and no acknowledgement is owed.
pub record IsRested (e : Endpoint) : Type 0 where
  pub emitted : e.emitted ≡ reach_of e
  pub answered : e.owed ≡ false
