-- The world with which the worked laboratory begins, field by field.
use Rattle.std.specs.Prelude.{ℕ, List, [], ◌∷◌, ◌++◌, None, false}
use Rattle.std.specs.FinMap as map
use Rattle.bgp_types.specs.Spelling.{framed}
use Rattle.tcp_seq.specs.Endpoint.{fresh_endpoint}
use Rattle.bgp_story.specs.WorkedSessions.{open_bytes, keepalive_bytes, sent_lines}
use Rattle.session_value.specs.Sessions.{SessionValue}
use Rattle.graft_model.specs.Points.{at}
use Rattle.graft_model.specs.Parts.{Vacant, Live, Unmade, RouterPart, FarPart, OperatorPart, World}
use Rattle.graft_model.specs.SmallWorlds.{config}
use Rattle.graft_worked.specs.Places.{idle_router, idle_far, nothing_on_the_way, world_of}

-- the OPEN of the home side: AS 65000, hold time 0, 10.255.0.1, no parameters
abbrev pub home_open_bytes : List ℕ
home_open_bytes = framed 1 (0x04 ∷ 0xFD ∷ 0xE8 ∷ 0x00 ∷ 0x00 ∷ 0x0A ∷ 0xFF ∷ 0x00 ∷ 0x01 ∷ 0x00 ∷ [])

-- the session has put its OPEN, and none of it was emitted
abbrev pub session_first : SessionValue
session_first =
    record { config = config; story = sent_lines 0; adj_rib_in = map.empty; adj_rib_out = map.empty; end = record fresh_endpoint { stream = home_open_bytes } }

-- Router a holds it, and nothing is dirty or due.
abbrev pub a_first : RouterPart
a_first = record idle_router { places = at (λ p. Vacant) 0 (Live session_first None) }

-- The remote said its OPEN and a KEEPALIVE, and the link points at a.
abbrev pub far_first : FarPart
far_first = record idle_far { end = record fresh_endpoint { stream = open_bytes ++ keepalive_bytes } }

abbrev pub operator_first : OperatorPart
operator_first = record { group = 0; issued = λ n. false; given = λ k. Unmade; source = λ k. None; outcome = λ k. None }

-- Router b has nothing, and all channels are empty.
abbrev pub first_worked : World
first_worked = world_of a_first idle_router far_first operator_first nothing_on_the_way
