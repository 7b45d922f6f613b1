-- How a router follows its sessions, and what it puts on them.
use Rattle.std.specs.Prelude.{ℕ, ◌≡◌, ◌≢◌, ◌⊎◌, ◌≤◌, ◌<◌, Bool, true, false, MatchBool}
use Rattle.std.specs.FinMap as map
use Rattle.std.specs.List.{list_any}
use Rattle.bgp_types.specs.Prefixes.{PrefixValue, same_prefix}
use Rattle.bgp_types.specs.declared.message.SessionState.TheVariants.{Established}
use Rattle.bgp_types.specs.declared.message.Update.{Update}
use Rattle.bgp_story.specs.Legal.{IsOneWay, is_wide}
use Rattle.session_value.specs.Cases.{Changes, PutsUpdate}
use Rattle.session_value.specs.Sessions.{SessionValue, state, peering_of}
use Rattle.session_value.specs.Sets.{Marks}
use Rattle.update_plan.specs.Plans.{IsWritableFor, octets}
use Rattle.update_plan.specs.declared.batch.Batch.{Batch}
use Rattle.bgp_session.specs.Running.{RunningSession}
use Rattle.bgp_session.specs.Steps.{offered_length}
use Rattle.bgp_session.specs.declared.answers.ReadStep.{ReadStep}
use Rattle.graft_model.specs.Decisions.{entry_of}
use Rattle.graft_model.specs.Points.{at}
use Rattle.graft_model.specs.Parts.{Place}
use Rattle.router_tables.specs.Reads.{DueBy, prefixes_in}
use Rattle.audit_tables.specs.Changes.{KeepsTables}
use Rattle.audit_tables.specs.Parts.{IsForgotten, NothingIsKnown, part_with, entries_at, due_at, pending_at}
use Rattle.audit_tables.specs.declared.tables.Tables.{Tables}

-- The tables follow what changed on the session of a peering: the entries become what it brings in, and this is due.
pub record IsFollowed (step : ReadStep) (p : ℕ) (session : SessionValue) (old new : Tables) : Type 0 where
  pub each : (x : PrefixValue) → list_any (same_prefix x) (prefixes_in step) ≡ true
      → map.get (entries_at new p) x ≡ entry_of old.known.setup old.number.0 session x
  pub others : (x : PrefixValue) → list_any (same_prefix x) (prefixes_in step) ≡ false → map.get (entries_at new p) x ≡ map.get (entries_at old p) x
  pub dirty : Marks old.rib.dirty (entries_at old p) (entries_at new p) new.rib.dirty
  pub due : DueBy step old.rib.best (due_at old p) (due_at new p)
  pub effect : (places : ℕ → Place) → part_with places new ≡ record (part_with places old) {
    entries = at (part_with places old).entries p (entries_at new p);
    dirty = new.rib.dirty;
    due_out = at (part_with places old).due_out p (due_at new p);
  }
  pub keeps : KeepsTables old new
  -- What was known to be to tell on the peering is forgotten; that of the others too, unless no prefix became dirty.
  pub forgets : IsForgotten p new
  pub peerings : NothingIsKnown new ⊎ ((new.rib.dirty ≡ old.rib.dirty) × ((q : ℕ) → q ≢ p → pending_at new q ≡ pending_at old q))

-- an UPDATE may be offered to a session
pub record CanOffer (session : SessionValue) (update : Update) : Type 0 where
  pub established : state session ≡ Established
  pub one_way : IsOneWay update (is_wide (peering_of session.config) session.story)
  pub changes : Changes session.adj_rib_out update

-- it is put, or its stream has no room for it
abbrev pub OffersAs : Bool → RunningSession → Update → RunningSession → Type 0
OffersAs put s update u =
    MatchBool put (PutsUpdate s.session update u.session × (u.acked_at_turn ≡ s.acked_at_turn)) ((1044480 < offered_length s.session update) × (u ≡ s))

-- a batch can be written as one message
pub record IsMessage (wide : Bool) (batch : Batch) : Type 0 where
  pub size : octets wide batch.attrs batch.prefixes ≤ 4096
  pub writable : IsWritableFor batch
