-- Laboratories in which no session has a timer.
use Rattle.std.specs.Prelude.{ℕ, ◌==◌, Bool, ◌&&◌, List, min, option_map, unwrap_or}
use Rattle.std.specs.List.{enumerate_from, list_all}
use Rattle.bgp_types.specs.Header.{frame_at}
use Rattle.graft_model.specs.Setups.{Setup, PeeringSetup, keepalive_interval_of}
use Rattle.one_answer.specs.Settled.{said_in_all}
use Rattle.even_inputs.specs.Announced.{open_at_front}

-- the hold time that the OPEN offers with which a remote's bytes begin, 0 where no sound one stands there (RFC 4271, section 4.2)
abbrev pub hold_offered : PeeringSetup → List ℕ → ℕ
hold_offered peering said = unwrap_or (option_map (λ opened. opened.hold) (open_at_front peering (frame_at said))) 0

-- One of the hold times that both sides of a peering offer is 0, and its remote says no KEEPALIVE by a timer.
abbrev pub has_no_timer_on : Setup → ℕ × PeeringSetup → Bool
has_no_timer_on setup p = (min p.1.config.home_hold (hold_offered p.1 (said_in_all setup p.0 p.1)) == 0) && (keepalive_interval_of p.1 == 0)

abbrev pub has_no_timer : Setup → Bool
has_no_timer setup = list_all (has_no_timer_on setup) (enumerate_from 0 setup.peerings)
