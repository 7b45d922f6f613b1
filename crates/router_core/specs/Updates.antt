-- What is put next on a session, and why it may be impossible.
use Rattle.std.specs.Prelude.{ℕ, ◌≡◌, ◌≢◌, ◌<◌, ◌+◌, ◌⊎◌, length, Option, Some, None}
use Rattle.bgp_types.specs.declared.message.Message.TheVariants.{UpdateMsg}
use Rattle.bgp_types.specs.declared.message.SessionState.TheVariants.{Established, Closed}
use Rattle.bgp_types.specs.Spelling.{spell}
use Rattle.bgp_story.specs.Legal.{is_wide}
use Rattle.session_value.specs.Sessions.{SessionValue, state, hold_time, peering_of}
use Rattle.session_value.specs.Cases.{update_for}
use Rattle.update_plan.specs.Plans.{IsNext, IsWritableFor}
use Rattle.update_plan.specs.declared.batch.Batch.{Batch}
use Rattle.graft_model.specs.Setups.{Setup}
use Rattle.graft_model.specs.Parts.{RouterPart, Errand}
use Rattle.graft_model.specs.RouterRows.{IsLive, IsToTell}
use Rattle.graft_model.specs.Decisions.{to_tell}

-- The next UPDATE of a session: the prefixes that are to be told the same as the first of all that are to be told, as many as one message of 4,096
-- octets holds.
abbrev pub IsNextUpdate : Setup → ℕ → RouterPart → ℕ → SessionValue → Batch → Type 0
IsNextUpdate setup r part p session batch =
    IsNext (IsToTell setup r part p session) (to_tell setup r part session) (is_wide (peering_of session.config) session.story) batch

abbrev pub length_with : SessionValue → Batch → ℕ
length_with session batch = length session.end.stream
    + length (spell (UpdateMsg (update_for batch.attrs batch.prefixes)) (is_wide (peering_of session.config) session.story))

-- An established session is stuck at a length: with its next UPDATE its stream would have that length, above 1,044,480.
pub record IsStuck (setup : Setup) (r : ℕ) (part : RouterPart) (p : ℕ) (session : SessionValue) (n : ℕ) : Type 0 where
  pub established : state session ≡ Established
  pub batch : Batch
  pub next : IsNextUpdate setup r part p session batch
  pub writable : IsWritableFor batch
  pub size : n ≡ length_with session batch
  pub above : 1044480 < n

-- A session whose hold time runs is stuck at a length: with a KEEPALIVE of 19 bytes its stream would have that length, above 1,044,480, so no round
-- may pass.
pub record IsStuckInTime (session : SessionValue) (n : ℕ) : Type 0 where
  pub unclosed : state session ≢ Closed
  pub runs : 0 < hold_time session
  pub size : n ≡ length session.end.stream + 19
  pub above : 1044480 < n

-- A session's next UPDATE has attributes that no message can have.
pub record IsUnwritable (setup : Setup) (r : ℕ) (part : RouterPart) (p : ℕ) (session : SessionValue) : Type 0 where
  pub established : state session ≡ Established
  pub batch : Batch
  pub next : IsNextUpdate setup r part p session batch
  pub unwritable : ¬ IsWritableFor batch

-- ---- a session without room

-- there is no room for the next UPDATE of the live session of a peering: its stream would have this length
pub record HasNoRoomAt (setup : Setup) (r : ℕ) (part : RouterPart) (p n : ℕ) : Type 0 where
  pub session : SessionValue
  pub errand : Option Errand
  pub live : IsLive part p session errand
  pub stuck : IsStuck setup r part p session n

abbrev pub RoomAnswer : Setup → ℕ → RouterPart → ℕ → Option ℕ → Type 0
RoomAnswer setup r part p None = (n : ℕ) → ¬ HasNoRoomAt setup r part p n
RoomAnswer setup r part p (Some n) = HasNoRoomAt setup r part p n

-- The live session of a peering is stuck at a length: its next UPDATE has no room; or else no round may pass on it.
pub record IsStuckAt (setup : Setup) (r : ℕ) (part : RouterPart) (p n : ℕ) : Type 0 where
  pub session : SessionValue
  pub errand : Option Errand
  pub live : IsLive part p session errand
  pub stuck : IsStuck setup r part p session n ⊎ (((m : ℕ) → ¬ IsStuck setup r part p session m) × IsStuckInTime session n)

-- the lowest peering whose session is stuck, and the length
abbrev pub IsFirstStuck : Setup → ℕ → RouterPart → Option (ℕ × ℕ) → Type 0
IsFirstStuck setup r part None = (p n : ℕ) → ¬ IsStuckAt setup r part p n
IsFirstStuck setup r part (Some x) = IsStuckAt setup r part x.0 x.1 × ((p n : ℕ) → p < x.0 → ¬ IsStuckAt setup r part p n)

-- the length at which the live session of a peering is stuck, or none if it isn't
abbrev pub StuckAnswer : Setup → ℕ → RouterPart → ℕ → Option ℕ → Type 0
StuckAnswer setup r part p None = (n : ℕ) → ¬ IsStuckAt setup r part p n
StuckAnswer setup r part p (Some n) = IsStuckAt setup r part p n
