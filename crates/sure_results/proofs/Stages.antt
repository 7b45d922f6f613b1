-- What becomes of a graft shows in its phase: where its session was refused, and where it landed, that is the result which the script has for it.
use Rattle.std.proofs.Common.{◌≡◌, ◌≢◌, ◌==◌, cond, ℕ, zero, suc, ◌+◌, ◌<◌, ◌≤◌, Bool, true, false, List, ◌∷◌, length, Option, Some, None, refl, sym, ap, ◌∙◌}
use Rattle.std.proofs.Common.{subst, arith}
use Rattle.std.proofs.lemmas.Bool.Decides.{nat_tests}
use Rattle.std.proofs.lemmas.Option.{same_Some}
use Rattle.std.specs.Prelude.{filter, nat_le}
use Rattle.std.specs.List.{range_with_len}
use Rattle.std.specs.Option.{option_map}
use Rattle.bgp_types.specs.declared.message.SessionState.{SessionState}
use Rattle.bgp_types.specs.declared.message.SessionState.TheVariants.{Established}
use Rattle.graft_steps.specs.Refusals.{freeze_refusal, session_refusal, admit_refusal}
use Rattle.graft_steps.specs.declared.refusal.Outcome.TheVariants.{Accepted, Refused}
use Rattle.graft_steps.specs.declared.refusal.Refusal.{Refusal}
use Rattle.graft_steps.specs.declared.refusal.Refusal.TheVariants.{SameRouter, RouterFull, PolicyMissing}
use Rattle.session_value.specs.Sessions.{SessionValue, state, hold_time}
use Rattle.session_value.specs.declared.config.SessionConfig.{SessionConfig}
use Rattle.graft_model.specs.Setups.{Setup, IsSetup, peerings_in, room_of, config_of, missing_policy}
use Rattle.graft_model.specs.Parts.{Vacant, Shadow, RouterPart, World}
use Rattle.graft_model.specs.GraftRows.{is_taken, taken_in, refusal_of}
use Rattle.graft_laws.specs.Configs.{HasOwnConfig}
use Rattle.graft_laws.specs.Keeps.{Reached, IsInvariant}
use Rattle.graft_laws.specs.Life.{Change, Rests, Grafts, Lands, Clears, Acts, Strays, IsToSay, FarActs, GraftMove, Begins, Admits, Refuses, Freezes, Leaves}
use Rattle.graft_laws.specs.Life.{TurnsBack, Returns, Asks, Counts, Confirms, NotesRefusal, NotesSuccess}
use Rattle.graft_laws.specs.Owned.{Stands}
use Rattle.graft_laws.specs.Phases.{Stage, Stored, Moving, Landed, Asking, Confirmed, Returning, Declined, Cleared, Phase, Busy}
use Rattle.graft_laws.proofs.Configs.{always_own}
use Rattle.graft_laws.proofs.Runs.{always_has}
use Rattle.graft_laws.proofs.Solves.{has_at}
use Rattle.sure_results.specs.Results.{by_policies, result_at, IsSure}

-- what the script has for the graft that is under way, once something became of it
abbrev pub IsResult : Setup → SessionConfig → Phase → Type 0
IsResult setup config (Busy q k t (Landed n)) = result_at setup config q t ≡ Accepted
IsResult setup config (Busy q k t (Asking n)) = result_at setup config q t ≡ Accepted
IsResult setup config (Busy q k t Confirmed) = result_at setup config q t ≡ Accepted
IsResult setup config (Busy q k t Cleared) = result_at setup config q t ≡ Accepted
IsResult setup config (Busy q k t (Returning refusal)) = result_at setup config q t ≡ Refused refusal
IsResult setup config (Busy q k t (Declined refusal)) = result_at setup config q t ≡ Refused refusal
IsResult setup config phase = Unit {0}

-- ---- at the source

-- An established session on which no hold time runs is refused only where it is already.
source_refuses : (setup : Setup) (config : SessionConfig) (q t : ℕ) (st : SessionState) (hold : ℕ) (refusal : Refusal) → st ≡ Established → hold ≡ 0
    → freeze_refusal (record { 0 = q }) (record { 0 = t }) st hold ≡ Some refusal → result_at setup config q t ≡ Refused refusal
source_refuses setup config q t st hold refusal up none cause =
    by_test (t == q) (ap (λ (x : SessionState). freeze_refusal (record { 0 = q }) (record { 0 = t }) x 0) (sym up)
    ∙ ap (λ (n : ℕ). freeze_refusal (record { 0 = q }) (record { 0 = t }) st n) (sym none) ∙ cause)
  where
    by_test : (b : Bool) → cond b (Some SameRouter) (session_refusal Established 0) ≡ Some refusal
        → cond b (Refused SameRouter) (by_policies (missing_policy setup t config)) ≡ Refused refusal
    by_test true e = ap Refused (same_Some SameRouter refusal e)
    by_test false e = absurd cc

-- ---- at the target

-- at two routers the policies alone decide
by_target : (setup : Setup) (config : SessionConfig) (q t : ℕ) → t ≢ q → result_at setup config q t ≡ by_policies (missing_policy setup t config)
by_target setup config q t apart =
    let e : (t == q) ≡ false = grind (arith, nat_tests) in
    ap (λ (b : Bool). cond b (Refused SameRouter) (by_policies (missing_policy setup t config))) e

with_room : (held room : ℕ) (missing : Option (List ℕ)) → held < room → admit_refusal held room missing ≡ option_map PolicyMissing missing
with_room held room missing l =
    let e : nat_le room held ≡ false = grind (arith, nat_tests) in
    ap (λ (b : Bool). cond b (Some (RouterFull room)) (option_map PolicyMissing missing)) e

target_refuses : (missing : Option (List ℕ)) (refusal : Refusal) → option_map PolicyMissing missing ≡ Some refusal → by_policies missing ≡ Refused refusal
target_refuses None refusal e = absurd cc
target_refuses (Some name) refusal e = ap Refused (same_Some (PolicyMissing name) refusal e)

target_admits : (missing : Option (List ℕ)) → option_map PolicyMissing missing ≡ None → by_policies missing ≡ Accepted
target_admits None e = refl
target_admits (Some name) e = absurd cc

-- ---- room

passed_step : (test : ℕ → Bool) (a : ℕ) (xs : List ℕ) (n : ℕ) → length (filter test xs) ≤ n → length (filter test (a ∷ xs)) ≤ suc n
passed_step test a xs n rest = by_test (test a) where
  by_test : (b : Bool) → length (cond b (a ∷ filter test xs) (filter test xs)) ≤ suc n
  by_test true = omega (arith, rest)
  by_test false = omega (arith, rest)

passed_most : (test : ℕ → Bool) (a n : ℕ) → length (filter test (range_with_len a n)) ≤ n
passed_most test a zero = omega arith
passed_most test a (suc n) = passed_step test a (range_with_len (a + 1) n) n (passed_most test (a + 1) n)

-- where one of n numbers fails a test, fewer than n pass it
passed_fewer : (test : ℕ → Bool) (a n q : ℕ) → a ≤ q → q < a + n → test q ≡ false → length (filter test (range_with_len a n)) < n
passed_fewer test a zero q l m fails = absurd (omega (arith, l, m))
passed_fewer test a (suc n) q l m fails = by_first (a == q) refl (λ below. passed_fewer test (a + 1) n q below (omega (arith, m)) fails) where
  by_first : (b : Bool) → (a == q) ≡ b → (a + 1 ≤ q → length (filter test (range_with_len (a + 1) n)) < n)
      → length (filter test (a ∷ range_with_len (a + 1) n)) < suc n
  by_first true is later =
      let same : a ≡ q = grind (arith, nat_tests) in
      let none : test a ≡ false = ap test same ∙ fails in
      let most : length (filter test (range_with_len (a + 1) n)) ≤ n = passed_most test (a + 1) n in
      subst (λ (b : Bool). length (cond b (a ∷ filter test (range_with_len (a + 1) n)) (filter test (range_with_len (a + 1) n))) < suc n) (sym none)
      (omega (arith, most))
  by_first false is later =
      let differs : a ≢ q = grind (arith, nat_tests) in
      let fewer = later (omega (arith, l, differs)) in
      let step : length (filter test (a ∷ range_with_len (a + 1) n)) ≤ suc (length (filter test (range_with_len (a + 1) n))) =
      passed_step test a (range_with_len (a + 1) n) (length (filter test (range_with_len (a + 1) n))) (omega arith) in
      omega (arith, fewer, step)

-- a router where nothing of one peering is has room for its session, where it has room for all
room_for : (setup : Setup) (part : RouterPart) (p room : ℕ) → p < peerings_in setup → part.places p ≡ Vacant → peerings_in setup ≤ room
    → taken_in setup part < room
room_for setup part p room below vacant all =
    let fewer : taken_in setup part < peerings_in setup = passed_fewer (λ x. is_taken (part.places x)) 0 (peerings_in setup) p (omega arith)
    (omega (arith, below)) (ap is_taken vacant) in
    omega (arith, fewer, all)

-- ---- along runs

-- a session for which a graft is under way is established, and no hold time runs on it
abbrev pub StaysUpBusy : Setup → Type 0
StaysUpBusy setup = (w : World) (p q k t : ℕ) (stage : Stage) (s : SessionValue) → Reached setup w → p < peerings_in setup
    → Stands setup w p (Busy q k t stage) s
    → (state s ≡ Established) × (hold_time s ≡ 0)

abbrev ShowsResult : Setup → World → ℕ → Phase → SessionValue → Type 0
ShowsResult setup w p phase s = (config : SessionConfig) → config_of setup p ≡ Some config → IsResult setup config phase

module _ (setup : Setup) (ok : IsSetup setup) (sure : IsSure setup) (up : StaysUpBusy setup) where
  own_config : (w : World) (p : ℕ) (phase : Phase) (s : SessionValue) (config : SessionConfig) → Reached setup w → p < peerings_in setup
      → Stands setup w p phase s
      → config_of setup p ≡ Some config → s.config ≡ config
  own_config w p phase s config reached below stands known =
      same_Some s.config config (sym (has_at setup (HasOwnConfig setup) w p phase s (always_own setup ok w reached p below) stands).config ∙ known)

  -- the router that a session moves to has room for it, and nothing but a missing policy makes it turn the session back
  module _ (w : World) (p q k t : ℕ) (s : SessionValue) (config : SessionConfig) (reached : Reached setup w) (below : p < peerings_in setup)
      (stands : Stands setup w p (Busy q k t Moving) s) (known : config_of setup p ≡ Some config) where
    apart : t ≢ q
    apart = stands.bounds.2

    vacant : (w.router t).places p ≡ Vacant
    vacant =
        let e : (t == q) ≡ false = grind (arith, nat_tests) in
        stands.places t ∙ ap (λ (b : Bool). cond b (Shadow k) Vacant) e

    refuses_by_policy : refusal_of setup t (w.router t) s ≡ option_map PolicyMissing (missing_policy setup t config)
    refuses_by_policy =
        with_room (taken_in setup (w.router t)) (room_of setup t) (missing_policy setup t s.config)
        (room_for setup (w.router t) p (room_of setup t) below vacant (sure.room t stands.bounds.1))
        ∙ ap (λ (c : SessionConfig). option_map PolicyMissing (missing_policy setup t c))
        (own_config w p (Busy q k t Moving) s config reached below stands known)

    turns_back : (refusal : Refusal) → refusal_of setup t (w.router t) s ≡ Some refusal → result_at setup config q t ≡ Refused refusal
    turns_back refusal cause = by_target setup config q t apart ∙ target_refuses (missing_policy setup t config) refusal (sym refuses_by_policy ∙ cause)

    lands : refusal_of setup t (w.router t) s ≡ None → result_at setup config q t ≡ Accepted
    lands admitted = by_target setup config q t apart ∙ target_admits (missing_policy setup t config) (sym refuses_by_policy ∙ admitted)

  module _ (w : World) (p : ℕ) (config : SessionConfig) (reached : Reached setup w) (below : p < peerings_in setup)
      (known : config_of setup p ≡ Some config) where
    moves_on : (phase next : Phase) (s : SessionValue) → GraftMove setup w phase s next → Stands setup w p phase s → IsResult setup config phase
        → IsResult setup config next
    moves_on _ _ s Begins stands is = tt
    moves_on _ _ s Admits stands is = tt
    moves_on _ _ s (Refuses {q = q} {k = k} {t = t} {refusal = refusal} cause) stands is =
        let e = up w p q k t Stored s reached below stands in
        source_refuses setup config q t (state s) (hold_time s) refusal e.0 e.1 cause
    moves_on _ _ s (Freezes no_cause) stands is = tt
    moves_on _ _ s Leaves stands is = tt
    moves_on _ _ s (TurnsBack {q = q} {k = k} {t = t} {refusal = refusal} cause) stands is =
        turns_back w p q k t s config reached below stands known refusal cause
    moves_on _ _ s Returns stands is = is
    moves_on _ _ s Asks stands is = is
    moves_on _ _ s Counts stands is = is
    moves_on _ _ s Confirms stands is = is
    moves_on _ _ s NotesRefusal stands is = tt
    moves_on _ _ s NotesSuccess stands is = tt

    changes : (v : World) (phase next : Phase) (s z : SessionValue) → Change setup w v p phase s next z → Stands setup w p phase s
        → IsResult setup config phase → IsResult setup config next
    changes v phase next s _ (Grafts move line entries) stands is = moves_on phase next s move stands is
    changes v _ _ s _ (Lands {q = q} {k = k} {t = t} admitted line entries) stands is = lands w p q k t s config reached below stands known admitted
    changes v _ _ s _ (Clears line entries) stands is = is
    changes v phase _ s next (Acts r errand live act) stands is = is
    changes v phase _ s _ (Rests line entries) stands is = is
    changes v phase _ s _ (Strays r segment line entries) stands is = is
    changes v phase _ s _ (IsToSay step line entries) stands is = is
    changes v phase _ s _ (FarActs event taken sent part row moves entries) stands is = is

  keeps_results : IsInvariant setup (ShowsResult setup)
  keeps_results = record {
    first = λ p config is other known. tt;
    step = λ before after p phase next s t reached below stands then change is config known.
        changes before p config reached below known after phase next s t change stands (is config known);
  }

  pub always_shows : (w : World) (p : ℕ) (phase : Phase) (s : SessionValue) (config : SessionConfig) → Reached setup w → p < peerings_in setup
      → Stands setup w p phase s
      → config_of setup p ≡ Some config → IsResult setup config phase
  always_shows w p phase s config reached below stands known =
      has_at setup (ShowsResult setup) w p phase s (always_has setup (ShowsResult setup) ok keeps_results w reached p below) stands config known
