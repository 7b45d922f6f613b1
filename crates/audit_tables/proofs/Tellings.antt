-- A router tells another one of a prefix, and hears of one.
use Rattle.std.proofs.Common.{◌≡◌, ℕ, ◌<◌, ◌≤◌, true, false, List, [], ◌∷◌, length, Option, Some, None, Bool, inl, inr, refl, sym, ap, ◌∙◌, subst, arith}
use Rattle.std.specs.Prelude.{slice_get}
use Rattle.std.specs.FinMap as map
use Rattle.std.proofs.lemmas.Bool.{cases_lt, false≢true}
use Rattle.bgp_session.specs.Running.{carried}
use Rattle.bgp_types.specs.Prefixes.{PrefixValue}
use Rattle.bgp_types.specs.declared.attrs.Route.{Route}
use Rattle.rib_stages.specs.Steps.{SetsTelling}
use Rattle.rib_stages.specs.Values.{RibStore, RibValue, rib_of, table_at}
use Rattle.route_policy.specs.Telling.{tell_in}
use Rattle.session_value.specs.Sets.{Prefixes, Tellings, has}
use Rattle.loc_rib.specs.Values.{with_value}
use Rattle.tcp_seq.specs.Endpoint.{PlacedSegment}
use Rattle.tcp_seq.specs.declared.segment.Way.{Way}
use Rattle.tcp_seq.specs.declared.segment.Way.TheVariants.{Home, Remote}
use Rattle.graft_steps.specs.declared.item.Item.TheVariants as items
use Rattle.graft_model.specs.Parts.{Mesh, Place, RouterPart, Told}
use Rattle.graft_model.specs.Points.{at}
use Rattle.graft_model.specs.RouterRows.{MeshIn, MeshTo, RouterTaken}
use Rattle.graft_model.specs.Setups.{Setup, routers_in}
use Rattle.graft_model.specs.declared.event.RouterEvent.TheVariants.{Hear, Tell}
use Rattle.graft_actors.specs.Actors.{Router}
use Rattle.graft_actors.specs.Items.{segment_of, segment_thing, thing_of}
use Rattle.graft_actors.proofs.Numbers.{there}
use Rattle.router_tables.proofs.DueSteps.{none_in, table_at_end}
use Rattle.router_tables.proofs.Points.{at_else}
use Rattle.audit_ruling.specs.Rulings.{Parcel, router_takes}
use Rattle.audit_ruling.specs.declared.ruling.Ruling.TheVariants.{Refused, Sends, Silent}
use Rattle.audit_tables.specs.Decides.{DecidesTables, DecidesTablesTaking}
use Rattle.audit_tables.specs.Dues.{is_telling}
use Rattle.audit_tables.specs.Parts.{TablesInvariant, part_with}
use Rattle.audit_tables.specs.declared.tables.Tables.{Tables}
use Rattle.audit_tables.proofs.Keeping.{forgotten_takes, keeps_itself, keeps_pending, keeps_then, no_some, refused}

-- ---- another router is told

-- where a prefix is due there is a set
pub due_within : (due : List Prefixes) (q : ℕ) (prefix : PrefixValue) → has (table_at due q) prefix ≡ true → q < length due
due_within due q prefix e = elim (cases_lt q (length due)) [
  | inl below ↦ below
  | inr from ↦ absurd (false≢true (sym (none_in prefix) ∙ (ap (λ (s : Prefixes). has s prefix) (sym (table_at_end due q from)) ∙ e)))
]

module _ (t : Tables) (k : TablesInvariant t) (places : ℕ → Place) (q : ℕ) (prefix : PrefixValue) where
  pub tell_nothing : has (table_at t.due_in q) prefix ≡ false → DecidesTables (Tell q prefix) places t Refused t
  tell_nothing none = refused t t places k (Tell q prefix) refl
      (λ gave after row. let e : false ≡ true = sym none ∙ row.due in let b : ⊥ = cc in b)

  pub tell_dirty : has t.rib.dirty prefix ≡ true → DecidesTables (Tell q prefix) places t Refused t
  tell_dirty dirty = refused t t places k (Tell q prefix) refl
      (λ gave after row. let e : true ≡ false = sym dirty ∙ row.clean in let b : ⊥ = cc in b)

  pub tell_made : has (table_at t.due_in q) prefix ≡ true → has t.rib.dirty prefix ≡ false
      → (route : Option Route) → route ≡ tell_in (map.get t.rib.best prefix) → (due_in : List Prefixes) → length due_in ≡ length t.due_in
      → table_at due_in ≡ at (table_at t.due_in) q (map.remove (table_at t.due_in q) prefix)
      → DecidesTables (Tell q prefix) places t (Sends q (items.Told prefix route)) (record t { due_in = due_in })
  tell_made due clean route is due_in size drops = record {
    rules = record {
      gave = MeshTo q (Told prefix route) ∷ [];
      row = record {
        due = due;
        clean = clean;
        takes = refl;
        sends = ap (λ (r : Option Route). MeshTo q (Told prefix r) ∷ []) is;
        effect = ap (λ (d : ℕ → Prefixes). let x : RouterPart = record (part_with places t) { due_in = d } in x) drops;
      };
      is_sent = refl;
      there = (known, tt);
      fit = ((Router q, there t.known.setup (Router q) known, tt), tt);
    };
    keeps = keeps_then t (record t { due_in = due_in }) k refl
        (record { due_in = size; due_out = refl; pending = refl; config = refl; behind = k.none_behind });
  }
    where
      known : q < routers_in t.known.setup
      known = omega (arith, due_within t.due_in q prefix due, k.due_in)

-- ---- what another router tells

no_segment : (way : Way) (segment : PlacedSegment) (q : ℕ) (taken : RouterTaken) → router_takes (Router q) (segment_thing way segment) ≡ Some taken → ⊥
no_segment Home segment q taken e = no_some None taken refl e
no_segment Remote segment q taken e = no_some None taken refl e

-- a row hears what is told
abbrev mesh_in : Option RouterTaken → Option Mesh
mesh_in (Some (MeshIn q item)) = Some item
mesh_in taken = None

abbrev is_told : Option Mesh → Bool
is_told (Some (Told prefix route)) = true
is_told item = false

taken_telling : (setup : Setup) (q : ℕ) (item : Parcel) (prefix : PrefixValue) (route : Option Route)
    → router_takes (Router q) (thing_of carried setup item) ≡ Some (MeshIn q (Told prefix route)) → is_telling (Some item) ≡ true
taken_telling setup q (items.Seg g) prefix route e = absurd (no_segment g.way (segment_of setup g) q (MeshIn q (Told prefix route)) e)
taken_telling setup q (items.PointAt k) prefix route e = absurd (no_some None (MeshIn q (Told prefix route)) refl e)
taken_telling setup q (items.Told p r) prefix route e = refl
taken_telling setup q (items.Moved k capsule) prefix route e = ap (λ (x : Option RouterTaken). is_told (mesh_in x)) e
taken_telling setup q (items.Back k capsule refusal) prefix route e = ap (λ (x : Option RouterTaken). is_told (mesh_in x)) e
taken_telling setup q (items.Asked k peering) prefix route e = ap (λ (x : Option RouterTaken). is_told (mesh_in x)) e
taken_telling setup q (items.Answered k peering) prefix route e = ap (λ (x : Option RouterTaken). is_told (mesh_in x)) e
taken_telling setup q (items.Done k peering) prefix route e = ap (λ (x : Option RouterTaken). is_told (mesh_in x)) e
taken_telling setup q (items.GraftOrder k peering target) prefix route e = absurd (no_some None (MeshIn q (Told prefix route)) refl e)
taken_telling setup q (items.Report k outcome) prefix route e = absurd (no_some None (MeshIn q (Told prefix route)) refl e)
taken_telling setup q (items.SayOrder step) prefix route e = absurd (no_some None (MeshIn q (Told prefix route)) refl e)

-- another item tells nothing
pub no_telling : (item : Parcel) → ((prefix : PrefixValue) (route : Option Route) → item ≡ items.Told prefix route → ⊥) → is_telling (Some item) ≡ false
no_telling (items.Told prefix route) other = absurd (other prefix route refl)
no_telling item other = refl

module _ (t : Tables) (k : TablesInvariant t) (places : ℕ → Place) (q : ℕ) (channel rest : List Parcel) where
  pub hear_nothing : is_telling (slice_get channel 0) ≡ false → rest ≡ channel → DecidesTablesTaking (Hear q) (Router q) places t channel Refused t rest
  hear_nothing none stays = record {
    rules = (
      refl,
      stays,
      λ item more is gave after row. (
          let e : false ≡ true = sym none ∙ ap (λ (xs : List Parcel). is_telling (slice_get xs 0)) is
          ∙ taken_telling t.known.setup q item row.prefix row.route row.takes in
          let b : ⊥ = cc in
          b),
    );
    keeps = keeps_itself t k;
  }

  pub hear_made : (prefix : PrefixValue) (route : Option Route) (rib : RibStore) → q < routers_in t.known.setup
      → channel ≡ items.Told prefix route ∷ rest → SetsTelling (rib_of t.rib) q prefix route (rib_of rib)
      → DecidesTablesTaking (Hear q) (Router q) places t channel Silent (record t { rib = rib }) rest
  hear_made prefix route rib known first sets = record {
    rules = record {
      item = items.Told prefix route;
      first = first;
      holds = record {
        gave = [];
        row = record {
          prefix = prefix;
          route = route;
          takes = refl;
          sends = refl;
          dirty = sets.dirty;
          effect = ap (λ (v : RibValue). let x : RouterPart = record (part_with places t) {
            entries = v.entries;
            tellings = v.tellings;
            best = v.best;
            dirty = v.dirty;
          } in x) sets.effect;
        };
        is_sent = refl;
        there = tt;
        fit = tt;
      };
    };
    keeps = keeps_then t (record t { rib = rib }) k refl (record {
      due_in = refl;
      due_out = refl;
      pending = refl;
      config = ap (λ (v : RibValue). v.config) sets.effect;
      behind = λ x. record {
        entries = λ p from. ap (λ (v : RibValue). map.get (v.entries p) x) sets.effect ∙ (k.none_behind x).entries p from;
        tellings = λ n from. ap (λ (v : RibValue). map.get (v.tellings n) x) sets.effect
            ∙ ap (λ (ts : Tellings). map.get ts x) (at_else (rib_of t.rib).tellings q (with_value ((rib_of t.rib).tellings q) prefix route) n
            (λ e. let b : ⊥ = omega (arith, e, from, known) in b))
            ∙ (k.none_behind x).tellings n from;
      };
    });
  }

-- once nothing is known of what is to be told
pub forgotten_hears : (t f : Tables) → TablesInvariant t → f ≡ record t { pending = f.pending } → length f.pending.items ≡ length t.pending.items
    → (places : ℕ → Place) (q : ℕ) (channel rest : List Parcel) (prefix : PrefixValue) (route : Option Route) (rib : RibStore)
    → q < routers_in t.known.setup → channel ≡ items.Told prefix route ∷ rest → SetsTelling (rib_of f.rib) q prefix route (rib_of rib)
    → DecidesTablesTaking (Hear q) (Router q) places t channel Silent (record f { rib = rib }) rest
forgotten_hears t f k forgot count places q channel rest prefix route rib known first sets =
    let kept = keeps_pending t f forgot count k in
    forgotten_takes t f forgot (Hear q) places Silent (record f { rib = rib }) (Router q) channel rest
    (hear_made f kept.sound places q channel rest prefix route rib (omega (arith, known, ap routers_in kept.setup)) first sets)
