use Rattle.std.proofs.Common.{◌≡◌, ◌==◌, ℕ, ◌<◌, length, get_or, take, count_by}
use Rattle.lab_capture.proofs.timed.places_along.Given as goal

-- how many entries of each round there are so far, and the places of the entries so far
abbrev pub invariant-loop-round : goal.invariant-loop-round
invariant-loop-round l = record {
  ends : length l.counts ≡ length l.fn.counts;
  counted : (r : ℕ) → r < length l.counts → get_or l.counts r 0 ≡ count_by (λ x. x == r) (take l.round-index l.rounds);
  all : length l.places.items ≡ l.round-index;
  each : (k : ℕ) → k < l.round-index → get_or l.places.items k 0 ≡ count_by (λ x. x == get_or l.rounds k 0) (take k l.rounds);
}
