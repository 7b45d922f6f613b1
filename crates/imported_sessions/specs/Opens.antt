-- The OPENs of a capture's sessions, and the AS of the home side (RFC 4271, section 4.2; RFC 6793, section 4.1).
use Rattle.std.specs.Prelude.{ℕ, ◌≡◌, ◌≤◌, ◌<◌, ◌==◌, nat_lt, if◌then◌else◌, Bool, true, false, not, ◌&&◌, List, length, drop, filter_map, unwrap_or}
use Rattle.std.specs.Prelude.{Option, Some, None, slice_get}
use Rattle.std.specs.Option.{option_map_or}
use Rattle.std.specs.Result.{result_ok}
use Rattle.std.specs.List.{list_any, range_with_len}
use Rattle.tcp_seq.specs.declared.segment.Way.TheVariants.{Home, Remote}
use Rattle.bgp_types.specs.declared.fault.Expected.{Expected}
use Rattle.bgp_types.specs.declared.message.OpenMsg.{OpenMsg}
use Rattle.bgp_types.specs.declared.message.SessionState.TheVariants.{OpenSent}
use Rattle.bgp_types.specs.Header.{frame_at, kind_in}
use Rattle.bgp_types.specs.OpenBody.{as_in, as_said, open_of}
use Rattle.captured_streams.specs.declared.streams.Streams.{Streams}
use Rattle.imported_sessions.specs.Messages.{stream}

-- an OPEN is read as one of the AS that its field gives, so that any AS will do
abbrev pub any_as : List ℕ → Expected
any_as body = record { state = OpenSent; remote_as = as_in body; offered = false; wide = false }

-- the AS of an OPEN: that of its capability of four-octet AS numbers, or else its field
abbrev pub as_of : OpenMsg → ℕ
as_of o = unwrap_or (as_said o.caps) o.as_number

-- no AS is 0 (RFC 7607)
abbrev pub with_as : Option OpenMsg → Option OpenMsg
with_as None = None
with_as (Some o) = if as_of o == 0 then None else Some o

abbrev pub open_in : Option (List ℕ × List ℕ) → Option OpenMsg
open_in None = None
open_in (Some front) =
    if kind_in front.0 == 1 then with_as (result_ok (open_of (any_as (drop 19 front.0)) (drop 19 front.0))) else None

-- the sound OPEN with which a stream begins, if it begins with one
abbrev pub first_open : List ℕ → Option OpenMsg
first_open octets = open_in (frame_at octets)

abbrev pub remote_open : Streams → (k : ℕ) → Option OpenMsg
remote_open s k = first_open (stream Home k s.flows)

abbrev pub home_open : Streams → (k : ℕ) → Option OpenMsg
home_open s k = first_open (stream Remote k s.flows)

-- the OPENs of the remotes, and those of the home side, in the order of connections
abbrev pub remote_opens : Streams → List OpenMsg
remote_opens s = filter_map (remote_open s) (range_with_len 0 (length s.peers))

abbrev pub home_opens : Streams → List OpenMsg
home_opens s = filter_map (home_open s) (range_with_len 0 (length s.peers))

abbrev pub has_as : ℕ → OpenMsg → Bool
has_as a o = as_of o == a

-- the least AS from 64512 on, the first one for private use (RFC 6996), that none of these has
pub record IsLeastFree (opens : List OpenMsg) (a : ℕ) : Type 0 where
  pub from : 64512 ≤ a
  pub free : list_any (has_as a) opens ≡ false
  pub least : (b : ℕ) → 64512 ≤ b → b < a → list_any (has_as b) opens ≡ true

-- The home side's AS is that of its first OPEN. If none was captured, it is one that no remote has.
abbrev pub IsHomeAs : (remotes : List OpenMsg) → Option OpenMsg → ℕ → Type 0
IsHomeAs remotes (Some home) a = a ≡ as_of home
IsHomeAs remotes None a = IsLeastFree remotes a

abbrev pub first_home : Streams → Option OpenMsg
first_home s = slice_get (home_opens s) 0

-- the remote of a connection is of another AS than the home side
abbrev pub is_external : Streams → (home_as : ℕ) → (k : ℕ) → Bool
is_external s home_as k = nat_lt k (length s.peers) && option_map_or (λ o. not (has_as home_as o)) (remote_open s k) false
