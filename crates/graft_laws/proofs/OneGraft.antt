-- Each graft that was ordered and has no outcome is under way in one phase, and a report at the head of a channel is of such a one.
use Rattle.std.proofs.Common.{◌≡◌, ◌==◌, cond, ℕ, ◌<◌, ◌≤◌, Bool, true, false, List, [], ◌∷◌, ◌++◌}
use Rattle.std.proofs.Common.{Option, Some, None, refl, sym, ap, ◌∙◌, subst, arith, inl, inr}
use Rattle.std.proofs.lemmas.Bool.Decides.{nat_tests}
use Rattle.std.specs.Prelude.{◌≢◌, ◌⊎◌, IsSome}
use Rattle.std.specs.List.{AllByRecursion}
use Rattle.graft_steps.specs.declared.refusal.Outcome.{Outcome}
use Rattle.graft_steps.specs.declared.refusal.Outcome.TheVariants.{Accepted, Refused}
use Rattle.session_value.specs.Sessions.{SessionValue}
use Rattle.graft_model.specs.Setups.{Setup, IsSetup, ScriptGraft, peerings_in, graft_at}
use Rattle.graft_model.specs.Parts.{Place, Vacant, Live, Frozen, Shadow, Leaving, Owing, Asking as ToAnswer}
use Rattle.graft_model.specs.Parts.{OperatorPart, Told, Moved, Back, Asked, Answered, Done, Report, World}
use Rattle.graft_model.specs.RouterRows.{RouterTaken, OrderIn, SegmentIn, MeshIn}
use Rattle.graft_model.specs.Taking.{RouterMayTake, OperatorMayTake}
use Rattle.graft_model.specs.Placements.{target_in, placement}
use Rattle.graft_model.specs.OperatorRows.{OperatorTaken, ReportIn}
use Rattle.graft_model.specs.Laws.{HasGraft, HasOnce}
use Rattle.graft_model.specs.Steps.{Heads}
use Rattle.graft_laws.specs.Phases.{Stage, Ordered, Stored, Halted, Moving, Landed, Asking, Confirmed, Returning}
use Rattle.graft_laws.specs.Phases.{Declined, Cleared, Phase, Idle, Busy, source_of, place_by}
use Rattle.graft_laws.specs.Log.{grafts_of, is_peering, is_graft_on, HasEnded, AwaitsOrder, IsBehind, GoesOnIn, LogSays}
use Rattle.graft_laws.specs.Owned.{reports_of, Stands, Owned}
use Rattle.graft_laws.specs.Facts.{IsUnderWay}
use Rattle.graft_laws.specs.Moves.{RouterHeads, OperatorHeads}
use Rattle.graft_laws.proofs.Lists.{all_map, all_join}
use Rattle.graft_laws.proofs.Phases.{refusal_in, success_in}
use Rattle.graft_laws.proofs.Numbers.{one_peering, of_all}
use Rattle.graft_laws.proofs.GraftBounds.{graft_within}
use Rattle.graft_laws.proofs.Logs.{own_known}
use Rattle.graft_laws.proofs.Following.{own_head}
use Rattle.graft_laws.proofs.Deeds.{below_or}
use Rattle.graft_laws.proofs.Heads.{one_phase, may_store, vacant_at, shadow_back, shadow_done}

-- a graft of the script is one of a peering of the setup
pub known_graft : (setup : Setup) (k : ℕ) → IsSetup setup → IsSome (graft_at setup k) → (p : ℕ) × (p < peerings_in setup) × (is_graft_on setup p k ≡ true)
known_graft setup k ok some = by_value (graft_at setup k) refl some where
  by_value : (o : Option ScriptGraft) → graft_at setup k ≡ o → IsSome o → (p : ℕ) × (p < peerings_in setup) × (is_graft_on setup p k ≡ true)
  by_value None e there = absurd cc
  by_value (Some g) e there = (g.peering, graft_within setup k g ok e, ap (is_peering g.peering) e ∙ grind (arith, nat_tests))

-- ---- reports

report_goes_on : (setup : Setup) (w : World) (p r k : ℕ) (outcome : Outcome) (phase : Phase) (s : SessionValue) (rest : List Report)
    → record { graft = k; outcome = outcome } ∷ rest ≡ reports_of setup p (w.reports r)
    → Stands setup w p phase s → (w.operator.source k ≢ None) × (w.operator.outcome k ≡ None)
report_goes_on setup w p r k (Refused refusal) phase s rest e b =
    let f = refusal_in phase r k refusal rest (e ∙ b.reports r) in
    let o : Stands setup w p (Busy r k f.0 (Declined refusal)) s = subst (λ (x : Phase). Stands setup w p x s) f.1 b in
    ((λ (none : w.operator.source k ≡ None). (let g : Some r ≡ None = sym o.log.goes_on.ordered ∙ none in absurd cc)), o.log.goes_on.unended)
report_goes_on setup w p r k Accepted phase s rest e b =
    let f = success_in phase r k rest (e ∙ b.reports r) in
    let o : Stands setup w p (Busy r k f.0 Cleared) s = subst (λ (x : Phase). Stands setup w p x s) f.1 b in
    ((λ (none : w.operator.source k ≡ None). (let g : Some r ≡ None = sym o.log.goes_on.ordered ∙ none in absurd cc)), o.log.goes_on.unended)

module _ (setup : Setup) (w : World) (ok : IsSetup setup) (owned : Owned setup w) where
  report_at : (r : ℕ) (o : Report) → Heads (w.reports r) o → (w.operator.source o.graft ≢ None) × (w.operator.outcome o.graft ≡ None)
  report_at r o h =
      let all : AllByRecursion (λ (x : Report). IsSome (graft_at setup x.graft)) (o ∷ h.rest) =
      subst (λ (x : List Report). AllByRecursion (λ (y : Report). IsSome (graft_at setup y.graft)) x) h.is (owned.reports r) in
      let known = known_graft setup o.graft ok all.0 in
      let held = owned.peerings known.0 known.1 in
      report_goes_on setup w known.0 r o.graft o.outcome held.phase held.session (reports_of setup known.0 h.rest)
      (own_head (λ (x : Report). is_graft_on setup known.0 x.graft) (w.reports r) h.rest o h.is known.2) held.stands

  pub router_may : (r : ℕ) (taken : RouterTaken) → RouterHeads w r (Some taken) → RouterMayTake setup (w.router r) taken
  router_may r (OrderIn order) h = may_store setup w owned r order h
  router_may r (SegmentIn p segment) h = tt
  router_may r (MeshIn q (Told prefix route)) h = tt
  router_may r (MeshIn q (Moved k p s)) h = vacant_at setup w owned q r k p s h
  router_may r (MeshIn q (Back k p s refusal)) h = shadow_back setup w owned q r k p s refusal h
  router_may r (MeshIn q (Asked k p)) h = tt
  router_may r (MeshIn q (Answered k p)) h = tt
  router_may r (MeshIn q (Done k p)) h = shadow_done setup w owned q r k p h

  pub operator_may : (taken : OperatorTaken) → OperatorHeads w (Some taken) → OperatorMayTake w.operator taken
  operator_may (ReportIn r report) h = report_at r report h

-- ---- a graft of the log's three parts

abbrev IsPart : OperatorPart → List ScriptGraft → ScriptGraft → Type 0
IsPart operator now g = HasEnded operator g ⊎ ((g ∷ [] ≡ now) ⊎ AwaitsOrder operator g)

behind_part : (setup : Setup) (operator : OperatorPart) (now : List ScriptGraft) (g : ScriptGraft)
    → HasEnded operator g ⊎ (AwaitsOrder operator g × (target_in setup operator g ≡ None)) → IsPart operator now g
behind_part setup operator now g (inl ended) = inl ended
behind_part setup operator now g (inr (waits, none)) = inr (inr waits)

now_parts : (setup : Setup) (operator : OperatorPart) (p : ℕ) (phase : Phase) (now : List ScriptGraft) → GoesOnIn setup operator p phase now
    → AllByRecursion (IsPart operator now) now
now_parts setup operator p (Idle q) now none = subst (λ (x : List ScriptGraft). AllByRecursion (IsPart operator x) x) (sym none) tt
now_parts setup operator p (Busy q k t stage) now on = subst (λ (x : List ScriptGraft). AllByRecursion (IsPart operator x) x) (sym on.is) (inr (inl refl), tt)

parts : (setup : Setup) (operator : OperatorPart) (p : ℕ) (phase : Phase) (log : LogSays setup operator p phase)
    → AllByRecursion (IsPart operator log.now) (grafts_of setup p)
parts setup operator p phase log = subst (λ (x : List ScriptGraft). AllByRecursion (IsPart operator log.now) x) (sym log.grafts)
    (all_join (IsPart operator log.now) log.past (log.now ++ log.later)
    (all_map (IsBehind setup operator) (IsPart operator log.now) log.past (λ g b. behind_part setup operator log.now g b.over) log.are_behind)
    (all_join (IsPart operator log.now) log.now log.later (now_parts setup operator p phase log.now log.goes_on)
    (all_map (AwaitsOrder operator) (IsPart operator log.now) log.later (λ g x. inr (inr x)) log.wait)))

-- the graft is under way: from where it was ordered to its target, in one stage
record IsGoing (setup : Setup) (operator : OperatorPart) (g : ScriptGraft) (phase : Phase) : Type 0 where
  target : ℕ
  aims : target_in setup operator g ≡ Some target
  source : operator.source g.graft ≡ Some (source_of phase)
  stage : Stage
  is : phase ≡ Busy (source_of phase) g.graft target stage

going_now : (setup : Setup) (operator : OperatorPart) (g : ScriptGraft) (p : ℕ) (phase : Phase) (now : List ScriptGraft) → g ∷ [] ≡ now
    → GoesOnIn setup operator p phase now → IsGoing setup operator g phase
going_now setup operator g p (Idle q) now here none = let e : g ∷ [] ≡ [] = here ∙ none in absurd cc
going_now setup operator g p (Busy q k t stage) now here on =
    let it : ScriptGraft = record { graft = k; peering = p; step = on.step } in
    let same : g ≡ it = only_one g it (here ∙ on.is) in
    record {
      target = t;
      aims = ap (target_in setup operator) same ∙ on.aims;
      source = ap (λ (x : ScriptGraft). operator.source x.graft) same ∙ on.ordered;
      stage = stage;
      is = ap (λ (x : ScriptGraft). Busy q x.graft t stage) (sym same);
    }
  where
    only_one : (x y : ScriptGraft) → x ∷ [] ≡ y ∷ [] → x ≡ y
    only_one x y e = cc

goes_on_is : (setup : Setup) (operator : OperatorPart) (g : ScriptGraft) (phase : Phase) → graft_at setup g.graft ≡ Some g
    → operator.source g.graft ≢ None → operator.outcome g.graft ≡ None
    → LogSays setup operator g.peering phase → IsGoing setup operator g phase
goes_on_is setup operator g phase known ordered unended log =
    by_part (of_all setup g.peering g (IsPart operator log.now) (known, refl) (parts setup operator g.peering phase log))
  where
    by_part : IsPart operator log.now g → IsGoing setup operator g phase
    by_part (inl ended) = absurd (ended.ended unended)
    by_part (inr (inl here)) = going_now setup operator g g.peering phase log.now here log.goes_on
    by_part (inr (inr waits)) = absurd (ordered waits.unordered)

-- ---- in the world

one_peering_of : (setup : Setup) (w : World) (x p q u k t v : ℕ) (one other : Stage) (s z : SessionValue) → Stands setup w x (Busy q k t one) s
    → Stands setup w p (Busy u k v other) z → x ≡ p
one_peering_of setup w x p q u k t v one other s z b o =
    one_peering setup x p k (own_known setup x k b.log.goes_on.known) (own_known setup p k o.log.goes_on.known)

pub under_way_once : (setup : Setup) (w : World) (g : ScriptGraft) → IsSetup setup → Owned setup w → graft_at setup g.graft ≡ Some g
    → w.operator.source g.graft ≢ None → w.operator.outcome g.graft ≡ None
    → (target : ℕ) × (target_in setup w.operator g ≡ Some target) × (w.operator.source g.graft ≡ Some (placement setup w.operator g.peering))
    × IsUnderWay setup w g.peering (placement setup w.operator g.peering) g.graft target
under_way_once setup w g ok owned known ordered unended =
    let p : ℕ = g.peering in
    let k : ℕ = g.graft in
    let q : ℕ = placement setup w.operator p in
    let held = owned.peerings p (graft_within setup k g ok known) in
    let on = goes_on_is setup w.operator g held.phase known ordered unended held.stands.log in
    let placed : source_of held.phase ≡ q = sym held.stands.log.placed in
    let is : held.phase ≡ Busy q k on.target on.stage = on.is ∙ ap (λ x. Busy x k on.target on.stage) placed in
    let b : Stands setup w p (Busy q k on.target on.stage) held.session = subst (λ (x : Phase). Stands setup w p x held.session) is held.stands in (
      on.target,
      on.aims,
      on.source ∙ ap Some placed,
      record {
        stage = on.stage;
        session = held.session;
        stands = b;
        one = λ x r u other s o. (let same : x ≡ p = one_peering_of setup w x p r q k u on.target other on.stage s held.session o b in (
          same,
          one_phase setup w p (Busy r k u other) (Busy q k on.target on.stage) s held.session
              (subst (λ (y : ℕ). Stands setup w y (Busy r k u other) s) same o) b,
        ));
      },
    )

-- a graft that wasn't ordered is in no phase
pub nowhere_unordered : (setup : Setup) (w : World) (k x q t : ℕ) (stage : Stage) (s : SessionValue) → w.operator.source k ≡ None
    → Stands setup w x (Busy q k t stage) s → ⊥
nowhere_unordered setup w k x q t stage s unordered b = let e : None ≡ Some q = sym unordered ∙ b.log.goes_on.ordered in absurd cc

-- ---- a graft is at one place of a router

no_live : (b : Bool) (s : SessionValue) (k : ℕ) → HasGraft k (cond b (Live s None) Vacant) → ⊥
no_live true s k h = h
no_live false s k h = h

no_shadow : (b : Bool) (l k : ℕ) → HasGraft k (cond b (Shadow l) Vacant) → ⊥
no_shadow true l k h = h
no_shadow false l k h = h

has_graft_busy : (phase : Phase) (s : SessionValue) (r k : ℕ) (place : Place) → place ≡ place_by phase s r → HasGraft k place
    → (q : ℕ) × (t : ℕ) × (stage : Stage) × (phase ≡ Busy q k t stage)
has_graft_busy (Busy q l t Stored) s r k place e has = by_test (r == q) (subst (HasGraft k) e has) where
  by_test : (b : Bool) → HasGraft k (cond b (Live s (Some (Leaving (record { graft = l; target = t })))) Vacant)
      → (q' : ℕ) × (t' : ℕ) × (stage : Stage) × (Busy q l t Stored ≡ Busy q' k t' stage)
  by_test true h = (q, t, Stored, ap (λ x. Busy q x t Stored) h)
  by_test false h = absurd h
has_graft_busy (Busy q l t Halted) s r k place e has = by_test (r == q) (subst (HasGraft k) e has) where
  by_test : (b : Bool) → HasGraft k (cond b (Frozen s (record { graft = l; target = t })) Vacant)
      → (q' : ℕ) × (t' : ℕ) × (stage : Stage) × (Busy q l t Halted ≡ Busy q' k t' stage)
  by_test true h = (q, t, Halted, ap (λ x. Busy q x t Halted) h)
  by_test false h = absurd h
has_graft_busy (Busy q l t (Landed n)) s r k place e has = by_tests (r == t) (r == q) (subst (HasGraft k) e has) where
  by_tests : (a b : Bool) → HasGraft k (cond a (Live s (Some (Owing (record { graft = l; source = q; next = n })))) (cond b (Shadow l) Vacant))
      → (q' : ℕ) × (t' : ℕ) × (stage : Stage) × (Busy q l t (Landed n) ≡ Busy q' k t' stage)
  by_tests true b h = (q, t, Landed n, ap (λ x. Busy q x t (Landed n)) h)
  by_tests false true h = absurd h
  by_tests false false h = absurd h
has_graft_busy (Busy q l t (Asking n)) s r k place e has = by_tests (r == t) (r == q) (subst (HasGraft k) e has) where
  by_tests : (a b : Bool) → HasGraft k (cond a (Live s (Some (ToAnswer (record { graft = l; source = q; next = n })))) (cond b (Shadow l) Vacant))
      → (q' : ℕ) × (t' : ℕ) × (stage : Stage) × (Busy q l t (Asking n) ≡ Busy q' k t' stage)
  by_tests true b h = (q, t, Asking n, ap (λ x. Busy q x t (Asking n)) h)
  by_tests false true h = absurd h
  by_tests false false h = absurd h
has_graft_busy (Busy q l t Confirmed) s r k place e has = absurd (by_tests (r == t) (r == q) (subst (HasGraft k) e has)) where
  by_tests : (a b : Bool) → HasGraft k (cond a (Live s None) (cond b (Shadow l) Vacant)) → ⊥
  by_tests true b h = h
  by_tests false true h = h
  by_tests false false h = h
has_graft_busy (Busy q l t Moving) s r k place e has = absurd (no_shadow (r == q) l k (subst (HasGraft k) e has))
has_graft_busy (Busy q l t (Returning refusal)) s r k place e has = absurd (no_shadow (r == q) l k (subst (HasGraft k) e has))
has_graft_busy (Busy q l t Ordered) s r k place e has = absurd (no_live (r == q) s k (subst (HasGraft k) e has))
has_graft_busy (Busy q l t (Declined refusal)) s r k place e has = absurd (no_live (r == q) s k (subst (HasGraft k) e has))
has_graft_busy (Busy q l t Cleared) s r k place e has = absurd (no_live (r == t) s k (subst (HasGraft k) e has))
has_graft_busy (Idle q) s r k place e has = absurd (no_live (r == q) s k (subst (HasGraft k) e has))

-- the peering at whose place a graft is
graft_is_of : (setup : Setup) (w : World) (r p k : ℕ) → Owned setup w → HasGraft k ((w.router r).places p) → is_graft_on setup p k ≡ true
graft_is_of setup w r p k owned has = by_bound (below_or p (peerings_in setup)) where
  of_vacant : (place : Place) → place ≡ Vacant → HasGraft k place → ⊥
  of_vacant place e h = subst (HasGraft k) e h

  by_bound : (p < peerings_in setup) ⊎ (peerings_in setup ≤ p) → is_graft_on setup p k ≡ true
  by_bound (inr past) = absurd (of_vacant ((w.router r).places p) ((owned.no_others p past).places r) has)
  by_bound (inl l) =
      let held = owned.peerings p l in
      let f = has_graft_busy held.phase held.session r k ((w.router r).places p) (held.stands.places r) has in
      let b : Stands setup w p (Busy f.0 k f.1 f.2) held.session = subst (λ (x : Phase). Stands setup w p x held.session) f.3 held.stands in
      own_known setup p k b.log.goes_on.known

pub at_one_place : (setup : Setup) (w : World) (r k : ℕ) → Owned setup w → HasOnce k (w.router r)
at_one_place setup w r k owned p q a b = one_peering setup p q k (graft_is_of setup w r p k owned a) (graft_is_of setup w r q k owned b)
