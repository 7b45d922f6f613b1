-- How tables decide an event, whatever the places of the router are.
use Rattle.std.specs.Prelude.{ℕ, ◌≡◌, List, Bool, false, slice_index_or}
use Rattle.graft_model.specs.Parts.{Place}
use Rattle.graft_model.specs.TableRows.{holds_established}
use Rattle.graft_model.specs.declared.event.RouterEvent.{RouterEvent}
use Rattle.graft_actors.specs.Actors.{ActorName}
use Rattle.audit_ruling.specs.Rulings.{Parcel, RouterRules, RouterRulesTaking}
use Rattle.audit_ruling.specs.declared.ruling.Ruling.{Ruling}
use Rattle.audit_ruling.specs.declared.ruling.Ruling.TheVariants.{Refused, Silent, Sends}
use Rattle.audit_tables.specs.Changes.{KeepsTables}
use Rattle.audit_tables.specs.Parts.{part_with, NothingIsKnown}
use Rattle.audit_tables.specs.declared.tables.Tables.{Tables}

-- Where an event isn't refused, what is to be told is no longer known.
abbrev pub ForgetsUnlessRefused : Ruling → Tables → Tables → Type 0
ForgetsUnlessRefused Refused old new = new.pending.items ≡ old.pending.items
ForgetsUnlessRefused Silent old new = NothingIsKnown new
ForgetsUnlessRefused (Sends to item) old new = NothingIsKnown new

pub record DecidesTables (event : RouterEvent) (places : ℕ → Place) (old : Tables) (ruling : Ruling) (new : Tables) : Type 0 where
  pub rules : RouterRules old.known.setup old.number.0 event (part_with places old) ruling (part_with places new)
  pub keeps : KeepsTables old new

pub record DecidesTablesTaking (event : RouterEvent) (from : ActorName) (places : ℕ → Place) (old : Tables) (channel : List Parcel)
    (ruling : Ruling) (new : Tables) (rest : List Parcel) : Type 0 where
  pub rules : RouterRulesTaking old.known.setup old.number.0 event from (part_with places old) channel ruling (part_with places new) rest
  pub keeps : KeepsTables old new

-- these are the places with an established session, live or frozen; there is none behind them
pub record AreUp (up : List Bool) (places : ℕ → Place) : Type 0 where
  pub each : (p : ℕ) → slice_index_or up p false ≡ holds_established (places p)
