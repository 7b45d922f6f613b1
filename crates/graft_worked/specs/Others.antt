-- Worlds for events that don't occur in the worked run.
use Rattle.std.specs.Prelude.{[], ◌∷◌, ◌++◌, true}
use Rattle.std.specs.FinMap as map
use Rattle.bgp_story.specs.WorkedSessions.{keepalive_bytes, joined_lines}
use Rattle.bgp_story.specs.declared.line.Line.TheVariants.{Tick}
use Rattle.bgp_types.specs.Spelling.{framed}
use Rattle.session_value.specs.Sessions.{SessionValue}
use Rattle.graft_model.specs.Setups.{Setup}
use Rattle.graft_model.specs.Parts.{World}
use Rattle.graft_model.specs.SmallWorlds.{config}
use Rattle.graft_worked.specs.Base.{peering_c, base}
use Rattle.graft_worked.specs.Places.{idle_router, nothing_on_the_way, world_of}
use Rattle.graft_worked.specs.First.{a_first}
use Rattle.graft_worked.specs.Graft.{said_all, home_end, remote_end, a_before, b_before, far_before}
use Rattle.graft_worked.specs.Graft.{operator_before, a_after, b_after, far_after, operator_after}
use Rattle.graft_worked.specs.Start.{a_with, ack_segment, far_sent, far_emitted}

-- a segment on its way to a, which the session has left; and the same without it
abbrev pub with_stray : World
with_stray = world_of a_after b_after far_after operator_after (record nothing_on_the_way { in_a = ack_segment ∷ [] })

abbrev pub without_stray : World
without_stray = world_of a_after b_after far_after operator_after nothing_on_the_way

-- The remote says KEEPALIVEs at an interval, with a hold time of 90 seconds in force: one in each round that is a multiple of 30.
abbrev pub beating : Setup
beating = record base { peerings = record peering_c { config = record config { home_hold = 90 }; beats = true } ∷ [] }

abbrev pub with_beat : World
with_beat = world_of a_before b_before
    (record far_before { end = record remote_end { stream = said_all ++ keepalive_bytes }; keepalives = 1; last_keepalive = 30 })
    operator_before nothing_on_the_way

-- the link to home holds all that the remote said; and nothing
abbrev pub with_segment : World
with_segment = world_of a_first idle_router far_sent operator_before nothing_on_the_way

abbrev pub without_segment : World
without_segment = world_of a_first idle_router far_emitted operator_before nothing_on_the_way

-- the session with a hold time of 90 seconds, established; and after its first round, which needs no answer
abbrev pub session_timed : SessionValue
session_timed = record {
  config = record config { home_hold = 90 };
  story = joined_lines 90;
  adj_rib_in = map.empty;
  adj_rib_out = map.empty;
  end = record home_end { stream = framed 1 (0x04 ∷ 0xFD ∷ 0xE8 ∷ 0x00 ∷ 0x5A ∷ 0x0A ∷ 0xFF ∷ 0x00 ∷ 0x01 ∷ 0x00 ∷ []) ++ keepalive_bytes };
}

abbrev pub session_ticked : SessionValue
session_ticked = record session_timed { story = joined_lines 90 ++ Tick 1 ∷ [] }

abbrev pub with_round_due : World
with_round_due = world_of (a_with session_timed) idle_router far_before operator_before nothing_on_the_way

abbrev pub with_round : World
with_round = world_of (a_with session_ticked) idle_router far_before operator_before nothing_on_the_way
