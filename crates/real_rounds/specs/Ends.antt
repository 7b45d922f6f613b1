-- What is required of an endpoint that stays at one actor through a round.
use Rattle.std.specs.Prelude.{ℕ, ◌≡◌, ◌<◌, ◌⊎◌}
use Rattle.tcp_seq.specs.Endpoint.{Endpoint}

-- If bytes were outstanding at the start, more is acknowledged at the end, or an old slice was sent again. The number counts the slices that were
-- sent again.
abbrev pub AcksOrResends : Endpoint → Endpoint → ℕ → Type 0
AcksOrResends start end again = start.acked < start.emitted → (start.acked < end.acked) ⊎ (again ≡ 1)
