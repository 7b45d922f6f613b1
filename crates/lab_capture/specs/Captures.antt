-- The capture of a run.
use Rattle.std.specs.Prelude.{ℕ, ◌≡◌, ◌-◌, ◌^◌, ◌==◌, min, List, [], ◌∷◌, filter, count_by, map, take, Option, None, Some, get_or}
use Rattle.std.specs.List.{enumerate_from, flat_map}
use Rattle.std.specs.List.Sorted.{IsNonDecreasingBy}
use Rattle.graft_model.specs.First.{first_world}
use Rattle.graft_model.specs.Parts.{World}
use Rattle.graft_model.specs.Steps.{Event, Run}
use Rattle.graft_actors.specs.Laws.{AreEntriesOf}
use Rattle.entry_rounds.specs.Rounds.{entry_rounds}
use Rattle.lab_setup.specs.Setups.{setup_of}
use Rattle.lab_report.specs.declared.lab.Lab.{Lab}
use Rattle.pcap_form.specs.Written.{written}
use Rattle.pcap_form.specs.declared.packet.CapturedPacket.{CapturedPacket}
use Rattle.lab_capture.specs.Taps.{tapped_along}
use Rattle.lab_capture.specs.declared.timed.Timed.{Timed}

abbrev pub timed_at : (rounds : List ℕ) → ℕ × Option (List ℕ) → List Timed
timed_at rounds (k, None) = []
timed_at rounds (k, Some octets) =
    record { round = get_or rounds k 0; place = count_by (λ r. r == get_or rounds k 0) (take k rounds); octets = octets } ∷ []

-- the packets that were tapped, in the order of the journal
abbrev pub timed : (rounds : List ℕ) → List (Option (List ℕ)) → List Timed
timed rounds taps = flat_map (timed_at rounds) (enumerate_from 0 taps)

-- the same packets in the order of their rounds, those of a round in the order of the journal
pub record AreByRound (all packets : List Timed) : Type 0 where
  pub rise : IsNonDecreasingBy (λ p. p.round) packets
  pub each : (round : ℕ) → filter (λ p. p.round == round) packets ≡ filter (λ p. p.round == round) all

-- A second for each round, and a microsecond for each entry of a round, as far as there are such numbers.
abbrev pub captured : Timed → CapturedPacket
captured p = record { seconds = min (2 ^ 32 - 1) p.round; microseconds = min 999999 p.place; octets = p.octets }

-- The octets are a capture of what was tapped, entry by entry, in these rounds.
pub record IsCaptureOf (rounds : List ℕ) (taps : List (Option (List ℕ))) (octets : List ℕ) : Type 0 where
  pub packets : List Timed
  pub by_round : AreByRound (timed rounds taps) packets
  pub written : octets ≡ written (map captured packets)

-- The octets are a capture of the lab's run: of each list of events that has its journal's entries and leads somewhere from the first world.
abbrev pub IsLabCapture : Lab → List ℕ → Type 0
IsLabCapture lab octets =
    (events : List Event) (last : World) (run : Run (setup_of lab.input) (first_world (setup_of lab.input)) events last)
    → AreEntriesOf (setup_of lab.input) events lab.journal
    → IsCaptureOf (entry_rounds lab.marks lab.journal)
    (tapped_along lab.input (setup_of lab.input) (first_world (setup_of lab.input)) events last run) octets
