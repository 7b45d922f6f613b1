-- What is tapped has one capture.
use Rattle.std.specs.Prelude.{ℕ, ◌≡◌, List, Option}
use Rattle.lab_capture.specs.Captures.{IsCaptureOf}

abbrev pub OneCapture : Type 0
OneCapture = (rounds : List ℕ) (taps : List (Option (List ℕ))) (one other : List ℕ) → IsCaptureOf rounds taps one → IsCaptureOf rounds taps other
    → one ≡ other
