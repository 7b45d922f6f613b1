-- Sessions, as far as they are read.
use Rattle.std.specs.Prelude.{ℕ, ◌≡◌, nat_lt, max, if◌then◌else◌, List, [], ◌∷◌, ◌++◌, length, map, take, drop, filter}
use Rattle.std.specs.Prelude.{Option, Some, None, Ok}
use Rattle.std.specs.List.{flat_map, range_with_len}
use Rattle.tcp_seq.specs.declared.segment.Way.TheVariants.{Home, Remote}
use Rattle.bgp_frame.specs.Next.{IsFrontOf}
use Rattle.bgp_frame.specs.declared.front.FrontFrame.{FrontFrame}
use Rattle.bgp_types.specs.Header.{frame_at}
use Rattle.bgp_types.specs.Many.{many}
use Rattle.captured_streams.specs.declared.streams.Flow.{Flow}
use Rattle.imported_sessions.specs.Messages.{stream, opening, opening_len, ended_at}
use Rattle.imported_sessions.specs.declared.imported.Said.{Said}
use Rattle.imported_sessions.specs.declared.heard.Stage.{Stage}
use Rattle.imported_sessions.specs.declared.heard.Stage.TheVariants.{Nothing, Open, Whole}
use Rattle.imported_sessions.specs.declared.heard.Opening.{Opening}
use Rattle.imported_sessions.specs.declared.heard.Session.{Session}

-- ---- messages

-- the message at the front of octets, or none if there is no whole one with a sound header
abbrev pub IsMessageAt : Option FrontFrame → List ℕ → Type 0
IsMessageAt None octets = frame_at octets ≡ None
IsMessageAt (Some front) octets = IsFrontOf (Ok (Some front)) octets

-- ---- openings

abbrev pub stage_of : List (List ℕ) → Stage
stage_of [] = Nothing
stage_of (first ∷ []) = Open
stage_of (first ∷ next ∷ rest) = Whole

unfoldable pub opening_of : List (List ℕ) → Opening
opening_of all = record { stage = stage_of all; octets = opening all }

-- a message behind others, unless it is part of the opening
unfoldable pub behind : List (List ℕ) → List ℕ → List (List ℕ)
behind all message = if nat_lt (length all) (opening_len (all ++ message ∷ [])) then [] else message ∷ []

-- ---- sessions

-- a session of which the remote said these octets and the home side those
unfoldable pub session_of : (peer : ℕ) → (stream home : List ℕ) → Session
session_of peer stream home = record {
  peer = peer;
  opening = opening_of (many frame_at stream).0;
  rest = (many frame_at stream).1;
  home = take 4096 home;
}

abbrev pub session_at : List Flow → ℕ → Session
session_at flows k = session_of k (stream Home k flows) (stream Remote k flows)

abbrev pub said_by : (peer : ℕ) → List ℕ → Said
said_by peer message = record { peer = peer; octets = message }

-- the messages behind the opening that are whole in the second stream and weren't in the first one
unfoldable pub said_between : (peer : ℕ) → (before after : List ℕ) → List Said
said_between peer before after =
    let all = (many frame_at after).0 in
    map (said_by peer) (drop (max (opening_len all) (length (many frame_at before).0)) all)

-- those that are whole by the first flows, of so many sessions
abbrev pub told_by : (count : ℕ) → List Flow → (n : ℕ) → List Said
told_by count flows n = filter (λ said. nat_lt said.peer count) (flat_map (ended_at flows) (range_with_len 0 n))

-- those that a flow brings behind others
abbrev pub said_in : (count : ℕ) → List Flow → Flow → List Said
said_in count before flow =
    if nat_lt flow.peer count then said_between flow.peer (stream Home flow.peer before) (stream Home flow.peer (before ++ flow ∷ [])) else []
