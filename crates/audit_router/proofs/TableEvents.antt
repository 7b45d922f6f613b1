-- Events on a router's tables.
use Rattle.std.proofs.Common.{◌≡◌, ℕ, zero, suc, List, [], ◌∷◌, length, map, Bool, false, Option, refl, sym, ap, ◌∙◌, subst}
use Rattle.std.proofs.lemmas.Bool.{false≢true}
use Rattle.std.proofs.lemmas.List.{length-map}
use Rattle.std.specs.Prelude.{slice_get, slice_index_or}
use Rattle.bgp_types.specs.Prefixes.{PrefixValue}
use Rattle.session_value.specs.Sessions.{SessionValue}
use Rattle.session_value.specs.Sets.{has}
use Rattle.graft_model.specs.Setups.{peerings_in}
use Rattle.graft_model.specs.Parts as model
use Rattle.graft_model.specs.TableRows.{holds_established}
use Rattle.graft_model.specs.declared.event.RouterEvent.TheVariants.{Decide, Hear, Tell}
use Rattle.graft_actors.specs.Actors.{Router}
use Rattle.router_tables.specs.Owned.{HasNoEntry}
use Rattle.audit_ruling.specs.Rulings.{Parcel}
use Rattle.audit_ruling.specs.declared.ruling.Ruling.{Ruling}
use Rattle.audit_ruling.specs.declared.ruling.Ruling.TheVariants.{Refused, Silent, Sends}
use Rattle.audit_tables.specs.Changes.{KeepsTables}
use Rattle.audit_tables.specs.Decides.{AreUp, DecidesTables, DecidesTablesTaking, ForgetsUnlessRefused}
use Rattle.audit_tables.specs.Parts.{KnowsWhatToTell, NothingIsKnown, entries_at, part_with}
use Rattle.audit_tables.specs.declared.pending.Pending.{Pending}
use Rattle.audit_tables.specs.declared.tables.Tables.{Tables}
use Rattle.audit_router.specs.Decides.{Decides, DecidesTaking, KeepsRouter}
use Rattle.audit_router.specs.Parts.{RouterInvariant, places_of, setup_of_router}
use Rattle.audit_router.specs.Places.{place_at, place_of}
use Rattle.audit_router.specs.declared.place.Place.{Place}
use Rattle.audit_router.specs.declared.router.AuditedRouter.{AuditedRouter}
use Rattle.audit_router.proofs.Kept as kept

-- ---- which sessions are up

up_at : (places : List Place) (p : ℕ) → slice_index_or (map (λ place. holds_established (place_of place)) places) p false
    ≡ holds_established (place_of (place_at places p))
up_at [] p = refl
up_at (x ∷ places) zero = refl
up_at (x ∷ places) (suc p) = up_at places p

pub are_up : (r : AuditedRouter) (up : List Bool) → up ≡ map (λ place. holds_established (place_of place)) r.places.items → AreUp up (places_of r)
are_up r up is = record { each = λ p. ap (λ (xs : List Bool). slice_index_or xs p false) is ∙ up_at r.places.items p }

pub as_many_up : (r : AuditedRouter) → RouterInvariant r → (up : List Bool) → up ≡ map (λ place. holds_established (place_of place)) r.places.items
    → length up ≡ peerings_in (setup_of_router r)
as_many_up r k up is = ap (λ (xs : List Bool). length xs) is ∙ (length-map r.places.items (λ place. holds_established (place_of place)) ∙ k.all)

-- ---- the router is kept

module _ (r : AuditedRouter) (k : RouterInvariant r) (t : Tables) (keeps : KeepsTables r.tables t) where
  abbrev next : AuditedRouter
  next = record r { tables = t }

  module _ (entries : (q : ℕ) → entries_at t q ≡ entries_at r.tables q) where
    keeps_by : ((q : ℕ) (s : SessionValue) → KnowsWhatToTell r.tables kept.nowhere q s → KnowsWhatToTell t kept.nowhere q s) → KeepsRouter r next
    keeps_by knows = kept.keeps_then r next k (record { routers = refl; room = refl }) refl keeps
        (λ q. kept.stays_in r.tables t keeps q (subst HasNoEntry (sym (entries q))) (knows q) (place_at r.places.items q) (kept.keeps_at r k q))

    keeps_unknown : NothingIsKnown t → KeepsRouter r next
    keeps_unknown unknown = keeps_by (λ q s h. kept.knows_nothing t unknown q s)

    keeps_known : t.pending.items ≡ r.tables.pending.items → part_with kept.nowhere t ≡ record (part_with kept.nowhere r.tables) {
      tellings = (part_with kept.nowhere t).tellings;
      due_in = (part_with kept.nowhere t).due_in;
    } → KeepsRouter r next
    keeps_known pending part = keeps_by (λ q s. kept.knows_on r.tables t keeps q (ap (λ (xs : List (Option Pending)). slice_get xs q) pending)
        (ap (λ (x : model.RouterPart). x.due_out q) part) (ap (λ (x : model.RouterPart). x.dirty) part) (ap (λ (x : model.RouterPart). x.best) part) s)

  -- where the part stays as it is
  keeps_part : part_with (places_of r) t ≡ part_with (places_of r) r.tables → t.pending.items ≡ r.tables.pending.items → KeepsRouter r next
  keeps_part same pending = keeps_known (λ q. ap (λ (x : model.RouterPart). x.entries q) same) pending
      (λ i. record (part_with kept.nowhere r.tables) {
        entries = (same i).entries;
        tellings = (part_with kept.nowhere t).tellings;
        best = (same i).best;
        dirty = (same i).dirty;
        due_in = (part_with kept.nowhere t).due_in;
        due_out = (same i).due_out;
      })

-- ---- the events

pub clean_stays : (r : AuditedRouter) → RouterInvariant r → (prefix : PrefixValue) → has r.tables.rib.dirty prefix ≡ false → Decides (Decide prefix) r Refused r
clean_stays r k prefix clean = kept.refused r k (Decide prefix) (λ gave after row. false≢true (sym clean ∙ row.dirty))

pub decides_prefix : (r : AuditedRouter) (k : RouterInvariant r) (t : Tables) (prefix : PrefixValue) (ruling : Ruling)
    → DecidesTables (Decide prefix) (places_of r) r.tables ruling t → ForgetsUnlessRefused ruling r.tables t
    → Decides (Decide prefix) r ruling (record r { tables = t })
decides_prefix r k t prefix Refused d pending =
    record { rules = d.rules; keeps = keeps_part r k t d.keeps d.rules.0 pending }
decides_prefix r k t prefix Silent d unknown = record {
  rules = d.rules;
  keeps = keeps_unknown r k t d.keeps (λ q. ap (λ (x : model.RouterPart). x.entries q) d.rules.row.effect) unknown;
}
decides_prefix r k t prefix (Sends to item) d unknown = record {
  rules = d.rules;
  keeps = keeps_unknown r k t d.keeps (λ q. ap (λ (x : model.RouterPart). x.entries q) d.rules.row.effect) unknown;
}

pub tells_router : (r : AuditedRouter) (k : RouterInvariant r) (t : Tables) (q : ℕ) (prefix : PrefixValue) (ruling : Ruling)
    → DecidesTables (Tell q prefix) (places_of r) r.tables ruling t → t.pending.items ≡ r.tables.pending.items
    → Decides (Tell q prefix) r ruling (record r { tables = t })
tells_router r k t q prefix Refused d pending = record { rules = d.rules; keeps = keeps_part r k t d.keeps d.rules.0 pending }
tells_router r k t q prefix Silent d pending = record {
  rules = d.rules;
  keeps = keeps_known r k t d.keeps (λ n. ap (λ (x : model.RouterPart). x.entries n) d.rules.row.effect) pending
      (λ i. record (d.rules.row.effect i) {
        places = kept.nowhere;
        tellings = (part_with kept.nowhere t).tellings;
        due_in = (part_with kept.nowhere t).due_in;
      });
}
tells_router r k t q prefix (Sends to item) d pending = record {
  rules = d.rules;
  keeps = keeps_known r k t d.keeps (λ n. ap (λ (x : model.RouterPart). x.entries n) d.rules.row.effect) pending
      (λ i. record (d.rules.row.effect i) {
        places = kept.nowhere;
        tellings = (part_with kept.nowhere t).tellings;
        due_in = (part_with kept.nowhere t).due_in;
      });
}

pub hears_router : (r : AuditedRouter) (k : RouterInvariant r) (t : Tables) (q : ℕ) (channel : List Parcel) (ruling : Ruling) (rest : List Parcel)
    → DecidesTablesTaking (Hear q) (Router q) (places_of r) r.tables channel ruling t rest → ForgetsUnlessRefused ruling r.tables t
    → DecidesTaking (Hear q) (Router q) r channel ruling (record r { tables = t }) rest
hears_router r k t q channel Refused rest d pending = record { rules = d.rules; keeps = keeps_part r k t d.keeps d.rules.0 pending }
hears_router r k t q channel Silent rest d unknown = record {
  rules = d.rules;
  keeps = keeps_unknown r k t d.keeps (λ n. ap (λ (x : model.RouterPart). x.entries n) d.rules.holds.row.effect) unknown;
}
hears_router r k t q channel (Sends to item) rest d unknown = record {
  rules = d.rules;
  keeps = keeps_unknown r k t d.keeps (λ n. ap (λ (x : model.RouterPart). x.entries n) d.rules.holds.row.effect) unknown;
}
