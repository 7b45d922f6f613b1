-- The cases in which a session changes. What a case doesn't name stays as it is.
use Rattle.std.specs.Prelude.{◌≡◌, ◌≢◌, ℕ, ◌+◌, ◌≤◌, ◌<◌, List, [], ◌∷◌, ◌++◌, length, All, Option, Some, None, true}
use Rattle.std.specs.List.{flat_map}
use Rattle.std.specs.FinMap as map
use Rattle.bgp_types.specs.declared.attrs.Attrs.{Attrs}
use Rattle.bgp_types.specs.declared.message.Message.TheVariants.{UpdateMsg}
use Rattle.bgp_types.specs.Prefixes.{PrefixValue}
use Rattle.bgp_types.specs.declared.message.SessionState.{SessionState}
use Rattle.bgp_types.specs.declared.message.SessionState.TheVariants.{Established, Closed}
use Rattle.bgp_types.specs.declared.message.Update.{Update}
use Rattle.bgp_types.specs.FirstFault.{message_of}
use Rattle.bgp_types.specs.Spelling.{spell}
use Rattle.tcp_seq.specs.Endpoint.{Endpoint}
use Rattle.bgp_story.specs.declared.line.Line.{Line}
use Rattle.bgp_story.specs.declared.line.Line.TheVariants.{Put, Got, Tick}
use Rattle.bgp_story.specs.Legal.{IsGot, IsOneWay, IsEarlier, expected_next, is_up, is_wide, reply_to, reply_at, silence}
use Rattle.bgp_story.specs.Readings.{Routes, apply, apply_if, put_in, unless_closed, update_in}
use Rattle.session_value.specs.Sessions.{SessionValue, peering_of, state, unread, hold_time}

-- the endpoint with further bytes at the end of its stream, and with bytes that were read
abbrev pub sending : List ℕ → Endpoint → Endpoint
sending bytes e = record e { stream = e.stream ++ bytes }

abbrev pub having_read : ℕ → Endpoint → Endpoint
having_read n e = record e { read = e.read + n }

-- the bytes of the messages that lines put, in the width of AS numbers of a story that ends with them
abbrev pub put_by : SessionValue → List Line → List Line → List ℕ
put_by session story lines = flat_map (put_in (is_wide (peering_of session.config) story)) lines

-- The whole message with a sound header, or the faulty header, at the front of what is unread is got and answered (RFC 4271, sections 6 and 8.2.2).
-- An UPDATE changes the routes that were heard; a closed session has none (section 3.1).
pub record GetsFrame (before : SessionValue) (bytes : List ℕ) (after : SessionValue) : Type 0 where
  pub unclosed : state before ≢ Closed
  pub rest : List ℕ
  pub front : unread before ≡ bytes ++ rest
  pub got : IsGot bytes
  pub answer : List Line
  pub next : SessionState
  pub reply : reply_to (message_of (expected_next (peering_of before.config) before.story (state before)) bytes) ≡ (answer, next)
  pub effect : after ≡ record before {
    story = before.story ++ Got bytes ∷ answer;
    adj_rib_in =
        unless_closed next (apply_if before.adj_rib_in (update_in (message_of (expected_next (peering_of before.config) before.story (state before)) bytes)));
    adj_rib_out = unless_closed next before.adj_rib_out;
    end = sending (put_by before (before.story ++ Got bytes ∷ answer) answer) (having_read (length bytes) before.end);
  }

-- the UPDATE that says that prefixes have these attributes, or that they have none
abbrev pub update_for : Option Attrs → List PrefixValue → Update
update_for None prefixes = record { withdrawn = prefixes; attrs = None; nlri = [] }
update_for (Some attrs) prefixes = record { withdrawn = []; attrs = Some attrs; nlri = prefixes }

-- each prefix of the UPDATE has another value in the table after it than before
abbrev pub Changes : Routes → Update → Type 0
Changes table update = All (λ prefix. map.get (apply table update) prefix ≢ map.get table prefix) (update.withdrawn ++ update.nlri)

-- In Established an UPDATE is put that either withdraws or announces and changes what was told for each of its prefixes. At most 1,044,480 bytes are
-- put, so that a NOTIFICATION fits behind them in the stream of 1 MiB.
pub record PutsUpdate (before : SessionValue) (update : Update) (after : SessionValue) : Type 0 where
  pub established : state before ≡ Established
  pub one_way : IsOneWay update (is_wide (peering_of before.config) before.story)
  pub changes : Changes before.adj_rib_out update
  pub room : length before.end.stream + length (spell (UpdateMsg update) (is_wide (peering_of before.config) before.story)) ≤ 1044480
  pub effect : after ≡ record before {
    story = before.story ++ Put (UpdateMsg update) ∷ [];
    adj_rib_out = apply before.adj_rib_out update;
    end = sending (spell (UpdateMsg update) (is_wide (peering_of before.config) before.story)) before.end;
  }

-- A round passes in OpenConfirm or Established while the hold timer runs, and is answered: by a KEEPALIVE, by the end of the session, or not at all
-- (RFC 4271, sections 4.4, 6.5 and 10). A KEEPALIVE has 19 octets, and a NOTIFICATION still fits behind it.
pub record PassesRound (before : SessionValue) (round : ℕ) (after : SessionValue) : Type 0 where
  pub up : is_up (state before) ≡ true
  pub runs : 0 < hold_time before
  pub later : All (IsEarlier round) before.story
  pub room : length before.end.stream ≤ 1044461
  pub answer : List Line
  pub next : SessionState
  pub reply : reply_at (hold_time before) (silence before.story + 1) round (state before) ≡ (answer, next)
  pub effect : after ≡ record before {
    story = before.story ++ Tick round ∷ answer;
    adj_rib_in = unless_closed next before.adj_rib_in;
    adj_rib_out = unless_closed next before.adj_rib_out;
    end = sending (put_by before (before.story ++ Tick round ∷ answer) answer) before.end;
  }
