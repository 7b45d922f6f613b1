-- An UPDATE that a session puts again.
use Rattle.std.specs.Prelude.{ℕ, ◌≡◌, ◌≢◌, ◌≤◌, ◌⊎◌, List, []}
use Rattle.bgp_types.specs.declared.message.Message.TheVariants.{UpdateMsg}
use Rattle.bgp_types.specs.declared.message.SessionState.TheVariants.{Established}
use Rattle.bgp_types.specs.declared.message.Update.{Update}
use Rattle.bgp_types.specs.Spelling.{spell}
use Rattle.bgp_story.specs.Legal.{IsOneWay, is_wide}
use Rattle.session_value.specs.Cases.{Changes}
use Rattle.session_value.specs.Sessions.{SessionValue, peering_of, state}
use Rattle.bgp_session.specs.Steps.{offered_length}

-- the UPDATE either withdraws or announces
abbrev pub IsEitherWay : Update → Type 0
IsEitherWay update = ((update.withdrawn ≢ []) × (update.nlri ≡ [])) ⊎ ((update.withdrawn ≡ []) × (update.nlri ≢ []))

-- A session may put the UPDATE, apart from the room that this takes.
pub record MayPut (session : SessionValue) (update : Update) : Type 0 where
  pub established : state session ≡ Established
  pub one_way : IsOneWay update (is_wide (peering_of session.config) session.story)
  pub changes : Changes session.adj_rib_out update

-- Octets spell an UPDATE that the session may put, and for which it has room.
pub record SpellPut (session : SessionValue) (octets : List ℕ) (update : Update) : Type 0 where
  pub may : MayPut session update
  pub octets_are : octets ≡ spell (UpdateMsg update) (is_wide (peering_of session.config) session.story)
  pub room : offered_length session update ≤ 1044480
