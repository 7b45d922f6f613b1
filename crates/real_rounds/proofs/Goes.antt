-- What is outstanding at the start of a round goes on.
use Rattle.std.proofs.Common.{◌≡◌, ◌≤◌, ◌<◌, ℕ, inl, inr, arith}
use Rattle.std.specs.Prelude.{◌⊎◌}
use Rattle.tcp_seq.specs.Endpoint.{Endpoint}
use Rattle.real_rounds.specs.Ends.{AcksOrResends}

-- the endpoint at the start, before its retransmission turn and at the end: more was acknowledged, or what is outstanding is sent again
pub goes_on : (a r c : Endpoint) (again : ℕ) → a.acked ≤ r.acked → r.emitted ≡ a.emitted → c.acked ≡ r.acked
    → (a.acked ≡ r.acked → r.acked < r.emitted → again ≡ 1) → AcksOrResends a c again
goes_on a r c again le emitted acked sends out = elim (compare a.acked r.acked le) [
  | inl rose ↦ inl (omega (arith, rose, acked))
  | inr is ↦ inr (sends is (omega (arith, out, is, emitted)))
]
  where
    compare : (x y : ℕ) → x ≤ y → (x < y) ⊎ (x ≡ y)
    compare x y h = grind (arith, h)
