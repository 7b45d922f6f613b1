-- How a router's tables follow a session that read a message, or on which a round has passed.
use Rattle.std.proofs.Common.{◌≡◌, ◌≢◌, ℕ, ◌<◌, List, length, true, false, Option, None, refl, sym, ap, ◌∙◌, subst, ◌⊎◌, inl, inr}
use Rattle.std.specs.Prelude.{Err, IfOk, Ok, Result, slice_get, slice_set}
use Rattle.std.proofs.lemmas.List.{length-set}
use Rattle.std.specs.FinMap as map
use Rattle.std.specs.List.{list_any}
use Rattle.bgp_types.specs.Prefixes.{PrefixValue, same_prefix}
use Rattle.bgp_session.specs.Steps.{TellsRead, TellsRound}
use Rattle.bgp_session.specs.declared.answers.ReadStep.{ReadStep}
use Rattle.bgp_session.specs.declared.answers.TickStep.{TickStep}
use Rattle.bgp_session.specs.declared.answers.ReadStep.TheVariants.{Opened, Established, Changed, Closed}
use Rattle.route_policy.specs.declared.entry.Entry.{Entry}
use Rattle.rib_stages.specs.Choosing.{NoneBehind}
use Rattle.rib_stages.specs.Values.{rib_of}
use Rattle.session_value.specs.Cases.{GetsFrame, PassesRound}
use Rattle.session_value.specs.Sessions.{SessionValue, state}
use Rattle.session_value.specs.Sets.{BestRoutes, Entries, Marks, Prefixes}
use Rattle.graft_model.specs.Decisions.{entry_of}
use Rattle.graft_model.specs.Parts.{Place, RouterPart, Vacant}
use Rattle.graft_model.specs.Points.{at}
use Rattle.graft_model.specs.RouterRows.{DueThen, FollowsHeard}
use Rattle.graft_model.specs.Setups.{peerings_in, routers_in}
use Rattle.router_tables.specs.Dues.{IsDueBest}
use Rattle.router_tables.specs.Entering.{entry_here}
use Rattle.router_tables.specs.Reads.{DueBy, followed, prefixes_in}
use Rattle.router_tables.proofs.EnterSteps.{enters_none, entry_at}
use Rattle.router_tables.proofs.Points.{at_is}
use Rattle.router_tables.proofs.ReadSteps.{due_then, follows_heard}
use Rattle.router_tables.proofs.Rounds.{due_round, follows_round}
use Rattle.audit_tables.specs.Changes.{ChangesDue, EntersHere, KeepsTables}
use Rattle.audit_tables.specs.Parts.{IsForgotten, NothingIsKnown, TablesInvariant, due_at, entries_at, part_with, pending_at}
use Rattle.audit_tables.specs.declared.tables.Tables.{Tables}
use Rattle.audit_tables.proofs.Changes.{forgotten, get_set_other}
use Rattle.audit_tables.proofs.Keeping.{keeps_then}
use Rattle.audit_router.specs.Followed.{IsFollowed}

-- ---- what two clauses say of one result

pub both_ok : {A E : Type 0} (r : Result A E) {P Q R : A → Type 0} → ((x : A) → P x → Q x → R x) → IfOk r P → IfOk r Q → IfOk r R
both_ok (Ok x) f p q = f x p q
both_ok (Err e) f p q = tt

-- ---- what is kept

pub keeps_more : (t u v : Tables) → KeepsTables t u → KeepsTables u v → KeepsTables t v
keeps_more t u v one other = record { setup = other.setup ∙ one.setup; number = other.number ∙ one.number; sound = other.sound }

-- ---- the part of a router

nowhere : ℕ → Place
nowhere p = Vacant

-- a function is itself with its own value at a place
itself_at : {A : Type 0} (f : ℕ → A) (p : ℕ) (x : A) → f p ≡ x → f ≡ at f p x
itself_at f p x own = at_is f f p x own (λ q not. refl)

module _ (old : Tables) (k : TablesInvariant old) (p : ℕ) (session : SessionValue) where
  -- what the session brings in, as the laboratory has it
  brings : (x : PrefixValue) → entry_here old.home_as old.policies session x ≡ entry_of old.known.setup old.number.0 session x
  brings x = entry_at old.known.setup old.number.0 old.home_as old.policies session x k.home_as k.policies

  pub opened : (new : Tables) → p < length old.pending.items
      → new ≡ record old { pending = new.pending } → new.pending.items ≡ slice_set old.pending.items p None → IsFollowed Opened p session old new
  opened new there same holds = record {
    each = λ x e. absurd (let b : ⊥ = cc in b);
    others = λ x e. ap (λ (t : Tables). map.get (entries_at t p) x) same;
    dirty = subst (λ (t : Tables). Marks old.rib.dirty (entries_at old p) (entries_at t p) t.rib.dirty) (sym same)
        (enters_none (rib_of old.rib) p (entry_here old.home_as old.policies session)).dirty;
    due = ap (λ (t : Tables). due_at t p) same;
    effect = λ places. ap (part_with places) same ∙ (λ i. record (part_with places old) {
      entries = itself_at (part_with places old).entries p (entries_at new p) (sym (ap (λ (t : Tables). entries_at t p) same)) i;
      dirty = ap (λ (t : Tables). t.rib.dirty) (sym same) i;
      due_out = itself_at (part_with places old).due_out p (due_at new p) (sym (ap (λ (t : Tables). due_at t p) same)) i;
    });
    keeps = keeps_then old new k
        (subst (λ (x : Tables). x ≡ record old { rib = x.rib; due_in = x.due_in; due_out = x.due_out; pending = x.pending }) (sym same) refl)
        (record {
          due_in = ap (λ (x : Tables). length x.due_in) same;
          due_out = ap (λ (x : Tables). length x.due_out) same;
          pending = ap length holds ∙ length-set old.pending.items p None;
          config = ap (λ (x : Tables). x.rib.config) same;
          behind = λ x. subst (λ (t : Tables). NoneBehind (peerings_in old.known.setup) (routers_in old.known.setup) (rib_of t.rib) x) (sym same)
              (k.none_behind x);
        });
    forgets = forgotten old new p there holds;
    peerings = inr (
      ap (λ (x : Tables). x.rib.dirty) same,
      λ q not. ap (λ xs. slice_get xs q) holds ∙ get_set_other old.pending.items p q None not,
    );
  }

  module _ (new : Tables) where
    pub established : IsDueBest old.rib.best (due_at new p) → ChangesDue p old new → IsForgotten p new → IsFollowed Established p session old new
    established due changes forgets = record {
      each = λ x e. absurd (let b : ⊥ = cc in b);
      others = λ x e. ap (λ (es : Entries). map.get es x) entries;
      dirty = subst (λ (d : Prefixes). Marks old.rib.dirty (entries_at old p) (entries_at new p) d) (sym dirty)
          (subst (λ (es : Entries). Marks old.rib.dirty (entries_at old p) es old.rib.dirty) (sym entries)
          (enters_none (rib_of old.rib) p (entry_here old.home_as old.policies session)).dirty);
      due = due;
      effect = λ places. changes.effect places ∙ (λ i. record (part_with places old) {
        entries = itself_at (part_with places old).entries p (entries_at new p) (sym entries) i;
        dirty = sym dirty i;
        due_out = at (part_with places old).due_out p (due_at new p);
      });
      keeps = changes.keeps;
      forgets = forgets;
      peerings = inr (dirty, changes.others);
    }
      where
        entries : entries_at new p ≡ entries_at old p
        entries = ap (λ (part : RouterPart). part.entries p) (changes.effect nowhere)

        dirty : new.rib.dirty ≡ old.rib.dirty
        dirty = ap (λ (part : RouterPart). part.dirty) (changes.effect nowhere)

    pub changed : (prefixes : List PrefixValue) → EntersHere p (entry_here old.home_as old.policies session) prefixes old new
        → IsFollowed (Changed prefixes) p session old new
    changed prefixes enters = record {
      each = λ x e. enters.entered.each x e ∙ brings x;
      others = enters.entered.others;
      dirty = enters.entered.dirty;
      due = due;
      effect = λ places. enters.changes.effect places ∙ (λ i. record (part_with places old) {
        entries = at (part_with places old).entries p (entries_at new p);
        dirty = new.rib.dirty;
        due_out = itself_at (part_with places old).due_out p (due_at new p) (sym due) i;
      });
      keeps = enters.changes.keeps;
      forgets = enters.changes.unknown.none p;
      peerings = inl enters.changes.unknown;
    }
      where
        due : due_at new p ≡ due_at old p
        due = ap (λ (part : RouterPart). part.due_out p) (enters.changes.effect nowhere)

    pub closed : (mid : Tables) (prefixes : List PrefixValue) → due_at mid p ≡ map.empty → ChangesDue p old mid
        → EntersHere p (entry_here mid.home_as mid.policies session) prefixes mid new → IsFollowed (Closed prefixes) p session old new
    closed mid prefixes none clears enters = record {
      each = λ x e. enters.entered.each x e
          ∙ entry_at mid.known.setup mid.number.0 mid.home_as mid.policies session x clears.keeps.sound.home_as clears.keeps.sound.policies
          ∙ (λ i. entry_of (clears.keeps.setup i) (clears.keeps.number i).0 session x);
      others = λ x e. enters.entered.others x e ∙ ap (λ (es : Entries). map.get es x) entries;
      dirty = subst (λ (es : Entries). Marks old.rib.dirty es (entries_at new p) new.rib.dirty) entries
          (subst (λ (d : Prefixes). Marks d (entries_at mid p) (entries_at new p) new.rib.dirty) dirty enters.entered.dirty);
      due = due ∙ none;
      effect = λ places. enters.changes.effect places ∙ (λ i. record (clears.effect places i) {
        entries = at (clears.effect places i).entries p (entries_at new p);
        dirty = new.rib.dirty;
      }) ∙ (λ i. record (part_with places old) {
        entries = at (part_with places old).entries p (entries_at new p);
        dirty = new.rib.dirty;
        due_out = at (part_with places old).due_out p (sym due i);
      });
      keeps = keeps_more old mid new clears.keeps enters.changes.keeps;
      forgets = enters.changes.unknown.none p;
      peerings = inl enters.changes.unknown;
    }
      where
        entries : entries_at mid p ≡ entries_at old p
        entries = ap (λ (part : RouterPart). part.entries p) (clears.effect nowhere)

        dirty : mid.rib.dirty ≡ old.rib.dirty
        dirty = ap (λ (part : RouterPart). part.dirty) (clears.effect nowhere)

        due : due_at new p ≡ due_at mid p
        due = ap (λ (part : RouterPart). part.due_out p) (enters.changes.effect nowhere)

-- ---- the session

-- The tables follow a session of this peering that changed by itself.
pub record FollowsIn (p : ℕ) (before next : SessionValue) (old new : Tables) : Type 0 where
  pub entries : (x : PrefixValue) → FollowsHeard old.known.setup old.number.0 before next (entries_at old p) (entries_at new p) x
  pub dirty : Marks old.rib.dirty (entries_at old p) (entries_at new p) new.rib.dirty
  pub due : DueThen (state before) (state next) old.rib.best (due_at old p) (due_at new p)
  pub effect : (places : ℕ → Place) → part_with places new ≡ record (part_with places old) {
    entries = at (part_with places old).entries p (entries_at new p);
    dirty = new.rib.dirty;
    due_out = at (part_with places old).due_out p (due_at new p);
  }
  pub keeps : KeepsTables old new
  -- What was known to be to tell on the peering is forgotten; that of the others too, unless no prefix became dirty.
  pub forgets : IsForgotten p new
  pub others : NothingIsKnown new ⊎ ((new.rib.dirty ≡ old.rib.dirty) × ((q : ℕ) → q ≢ p → pending_at new q ≡ pending_at old q))

-- where another route is heard than before, the entry is what the step brings in
abbrev pub HearsBy : ReadStep → SessionValue → SessionValue → Type 0
HearsBy step s u = (entry : PrefixValue → Option Entry) (before after : Entries)
    → ((x : PrefixValue) → list_any (same_prefix x) (prefixes_in step) ≡ true → map.get after x ≡ entry x)
    → ((x : PrefixValue) → list_any (same_prefix x) (prefixes_in step) ≡ false → map.get after x ≡ map.get before x) → (x : PrefixValue)
    → ((map.get u.adj_rib_in x ≡ map.get s.adj_rib_in x) × (map.get after x ≡ map.get before x))
    ⊎ ((map.get u.adj_rib_in x ≢ map.get s.adj_rib_in x) × (map.get after x ≡ entry x))

-- what is due then
abbrev pub LetsDue : ReadStep → SessionValue → SessionValue → Type 0
LetsDue step s u = (best : BestRoutes) (before after : Prefixes) → DueBy step best before after → DueThen (state s) (state u) best before after

pub follows : (step : ReadStep) (p : ℕ) (s u : SessionValue) (old new : Tables) → HearsBy step s u → LetsDue step s u → IsFollowed step p u old new
    → FollowsIn p s u old new
follows step p s u old new hears lets is = record {
  entries = hears (entry_of old.known.setup old.number.0 u) (entries_at old p) (entries_at new p) is.each is.others;
  dirty = is.dirty;
  due = lets old.rib.best (due_at old p) (due_at new p) is.due;
  effect = is.effect;
  keeps = is.keeps;
  forgets = is.forgets;
  others = is.peerings;
}

-- a session that read a message
pub follows_read : (step : ReadStep) (p : ℕ) (s u : SessionValue) (bytes : List ℕ) → GetsFrame s bytes u → TellsRead step s u → (old new : Tables)
    → IsFollowed step p u old new → FollowsIn p s u old new
follows_read step p s u bytes gets tells old new is = follows step p s u old new
    (λ entry before after. follows_heard s u bytes gets entry before after step tells)
    (λ best before after. due_then s u bytes gets best before after step tells) is

-- one on which a round has passed
pub follows_tick : (step : TickStep) (p : ℕ) (s u : SessionValue) (round : ℕ) → PassesRound s round u → TellsRound step s round u → (old new : Tables)
    → IsFollowed (followed step) p u old new → FollowsIn p s u old new
follows_tick step p s u round passes tells old new is = follows (followed step) p s u old new
    (λ entry before after. follows_round s u round passes entry before after step tells)
    (λ best before after. due_round s u round passes best before after step tells) is
