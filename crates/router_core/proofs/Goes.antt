-- What the events of a router are that tallies count: those of a take, old segments that are sent again, or the work of a turn.
use Rattle.std.proofs.Common.{◌≡◌, ℕ, zero, suc, ◌+◌, ◌≤◌, List, [], ◌∷◌, Option, Bool, true, false, inl, inr, refl, sym, ap, subst, ◌∙◌, arith}
use Rattle.std.specs.Prelude.{◌==◌, nat_lt, if◌then◌else◌}
use Rattle.std.proofs.lemmas.Bool.{eq-eqb}
use Rattle.tcp_seq.specs.Endpoint.{Endpoint}
use Rattle.session_value.specs.Sessions.{SessionValue}
use Rattle.graft_model.specs.Points.{at}
use Rattle.graft_model.specs.Setups.{Setup}
use Rattle.graft_model.specs.Parts.{Place, Vacant, Live, Frozen, Shadow, Errand, RouterPart}
use Rattle.graft_model.specs.RouterRows.{IsLive}
use Rattle.graft_model.specs.declared.event.RouterEvent.{RouterEvent}
use Rattle.graft_model.specs.declared.event.RouterEvent.TheVariants.{Put, Emit}
use Rattle.graft_actors.specs.Emissions.{IsOld, IsCareful, Tally, tallied}
use Rattle.graft_actors.proofs.Careful.{counted_again, counted_next}
use Rattle.router_tables.proofs.Points.{one_or_other, at_here, at_else}
use Rattle.router_core.specs.Rounds.{CarefulRouter, IsNewOrOwed, RouterRetransmits, IsNewWork, RouterGoes, tally_at, router_tally, RouterRound}
use Rattle.router_core.specs.Turned.{AreAt, IsRouterTake, stage_of, is_emit_on, emits_on}
use Rattle.router_core.proofs.RoundLists.{emits_on-cons}

-- the events lead there through some parts
abbrev pub GoesThrough : Setup → ℕ → (RouterPart → RouterEvent → Type 0) → RouterPart → List RouterEvent → RouterPart → Type 0
GoesThrough setup r Allowed a es b = (parts : List RouterPart) × RouterGoes setup r Allowed a es parts b

-- ---- how far tallies rise

-- how many of an event are emitted on a peering: one, or none
abbrev one_on : ℕ → RouterEvent → ℕ
one_on p e = if is_emit_on p e then 1 else 0

-- a tally never falls, and rises by so many at most
abbrev Rises : ℕ → Tally → Tally → Type 0
Rises n t u = (t.again ≤ u.again) × (u.again ≤ t.again + n)

counted_rises : (e : Endpoint) (from len : ℕ) (t : Tally) → Rises 1 t (tallied e from len t)
counted_rises e from zero t = (omega arith, omega arith)
counted_rises e from (suc n) t = by_flag (nat_lt from e.emitted)
  where
    by_flag : (b : Bool) → Rises 1 t (if b then record t { again = t.again + 1 } else t)
    by_flag true = (omega arith, omega arith)
    by_flag false = (omega arith, omega arith)

tally_rises : (place : Place) (from len : ℕ) (t : Tally) → Rises 1 t (tally_at place from len t)
tally_rises (Live session errand) from len t = counted_rises session.end from len t
tally_rises Vacant from len t = (omega arith, omega arith)
tally_rises (Frozen session order) from len t = (omega arith, omega arith)
tally_rises (Shadow graft) from len t = (omega arith, omega arith)

event_rises : (a : RouterPart) (e : RouterEvent) (t : ℕ → Tally) (p : ℕ) → Rises (one_on p e) (t p) (router_tally a e t p)
event_rises a (Emit q from len) t p =
    let now : Tally = tally_at (a.places q) from len (t q) in
    elim (one_or_other q p) [
      | inl e ↦
          subst (λ (u : Tally). Rises (if q == p then 1 else 0) (t p) u) (sym (at_here t q now p e))
          (subst (λ (b : Bool). Rises (if b then 1 else 0) (t p) now) (sym (eq-eqb q p (sym e)))
          (subst (λ (n : ℕ). Rises 1 (t n) now) (sym e) (tally_rises (a.places q) from len (t q))))
      | inr not ↦ subst (λ (u : Tally). Rises (if q == p then 1 else 0) (t p) u) (sym (at_else t q now p not)) (omega arith, omega arith)
    ]
event_rises a _ t p = (omega arith, omega arith)

-- what the tally of a live session is once it emitted
live_tally : (a : RouterPart) (p from len : ℕ) (s : SessionValue) (o : Option Errand) (t : ℕ → Tally) → IsLive a p s o
    → router_tally a (Emit p from len) t p ≡ tallied s.end from len (t p)
live_tally a p from len s o t live = at_here t p (tally_at (a.places p) from len (t p)) p refl ∙ ap (λ (x : Place). tally_at x from len (t p)) live.is

-- what a tally counts is old
is_old : (e : Endpoint) (from len : ℕ) (t : Tally) → IsCareful e from len → (tallied e from len t).again ≡ t.again + 1 → IsOld e from len
is_old e from zero t careful one = absurd (omega (arith, one))
is_old e from (suc n) t (inl old) one = old
is_old e from (suc n) t (inr new) one =
    let not : (tallied e from (suc n) t).again ≡ t.again =
    ap (λ (m : ℕ). (tallied e m (suc n) t).again) new.next ∙ ap (λ (u : Tally). u.again) (counted_next e (suc n) t (omega arith)) in
    absurd (omega (arith, one, not))

-- and what it doesn't count is new, or an answer that is owed
is_new_or_owed : (e : Endpoint) (from len : ℕ) (t : Tally) → IsCareful e from len → (tallied e from len t).again ≡ t.again → IsNewOrOwed e from len
is_new_or_owed e from zero t careful none = careful
is_new_or_owed e from (suc n) t (inl old) none =
    let one : (tallied e from (suc n) t).again ≡ t.again + 1 =
    ap (λ (m : ℕ). (tallied e m (suc n) t).again) old.first
    ∙ ap (λ (u : Tally). u.again) (counted_again e (suc n) t (omega arith) (omega (arith, old.first, old.out))) in
    absurd (omega (arith, one, none))
is_new_or_owed e from (suc n) t (inr new) none = new

-- ---- what each stage allows

module _ (setup : Setup) (r : ℕ) where
  -- an event that adds all that it can
  sends_old : (a : RouterPart) (e : RouterEvent) (t : ℕ → Tally) → stage_of e ≡ 7 → CarefulRouter setup r a e
      → ((p : ℕ) → (router_tally a e t p).again ≡ (t p).again + one_on p e) → RouterRetransmits a e
  sends_old a (Emit p from len) t at careful all =
      let one : (tallied careful.session.end from len (t p)).again ≡ (t p).again + 1 =
      sym (ap (λ (u : Tally). u.again) (live_tally a p from len careful.session careful.errand t careful.live)) ∙ all p
      ∙ ap (λ (b : Bool). let n : ℕ = (t p).again + (if b then 1 else 0) in n) (eq-eqb p p refl) in
      record {
        session = careful.session;
        errand = careful.errand;
        live = careful.live;
        kind = is_old careful.session.end from len (t p) careful.careful one;
      }
  sends_old a _ t at careful all = omega (arith, at)

  -- one that adds nothing
  works : (a : RouterPart) (e : RouterEvent) (t : ℕ → Tally) → CarefulRouter setup r a e → ((p : ℕ) → (router_tally a e t p).again ≡ (t p).again)
      → IsNewWork setup r a e
  works a (Emit p from len) t careful none =
      let no : (tallied careful.session.end from len (t p)).again ≡ (t p).again =
      sym (ap (λ (u : Tally). u.again) (live_tally a p from len careful.session careful.errand t careful.live)) ∙ none p in
      record {
        session = careful.session;
        errand = careful.errand;
        live = careful.live;
        kind = is_new_or_owed careful.session.end from len (t p) careful.careful no;
      }
  works a (Put p zero) t careful none = tt
  works a (Put p (suc n)) t careful none = careful
  works a _ t careful none = tt

-- ---- events one after another

module _ (setup : Setup) (r : ℕ) where
  round_rises : (a b : RouterPart) (t u : ℕ → Tally) (es : List RouterEvent) → RouterRound setup r a t es b u → (p : ℕ) → Rises (emits_on p es) (t p) (u p)
  round_rises a b t u [] h p = subst (λ (v : ℕ → Tally). Rises 0 (t p) (v p)) (sym h.1) (omega arith, omega arith)
  round_rises a b t u (e ∷ es) (taken, sent, m, row, careful, rest) p =
      let first : Rises (one_on p e) (t p) (router_tally a e t p) = event_rises a e t p in
      let later : Rises (emits_on p es) (router_tally a e t p) (u p) = round_rises m b (router_tally a e t) u es rest p in
      (omega (arith, first.0, later.0), omega (arith, first.1, later.1, emits_on-cons p e es))

  -- those of a take
  pub goes_taking : (a b : RouterPart) (t u : ℕ → Tally) (es : List RouterEvent) → RouterRound setup r a t es b u → AreAt 0 es
      → GoesThrough setup r IsRouterTake a es b
  goes_taking a b t u [] h at = ([], h.0)
  goes_taking a b t u (e ∷ es) (taken, sent, m, row, careful, rest) at =
      let more = goes_taking m b (router_tally a e t) u es rest at.1 in (m ∷ more.0, (taken, sent, row, at.0, more.1))

  -- segments, each of which is counted
  pub goes_again : (a b : RouterPart) (t u : ℕ → Tally) (es : List RouterEvent) → RouterRound setup r a t es b u → AreAt 7 es
      → ((p : ℕ) → (u p).again ≡ (t p).again + emits_on p es) → GoesThrough setup r RouterRetransmits a es b
  goes_again a b t u [] h at all = ([], h.0)
  goes_again a b t u (e ∷ es) (taken, sent, m, row, careful, rest) at all =
      let more = goes_again m b (router_tally a e t) u es rest at.1 later in
      (m ∷ more.0, (taken, sent, row, sends_old setup r a e t at.0 careful first, more.1))
    where
      first : (p : ℕ) → (router_tally a e t p).again ≡ (t p).again + one_on p e
      first p =
          let one : Rises (one_on p e) (t p) (router_tally a e t p) = event_rises a e t p in
          let rest_rises : Rises (emits_on p es) (router_tally a e t p) (u p) = round_rises m b (router_tally a e t) u es rest p in
          omega (arith, one.1, rest_rises.1, all p, emits_on-cons p e es)

      later : (p : ℕ) → (u p).again ≡ (router_tally a e t p).again + emits_on p es
      later p = omega (arith, first p, all p, emits_on-cons p e es)

  -- events, none of which is counted among old segments
  pub goes_working : (a b : RouterPart) (t u : ℕ → Tally) (es : List RouterEvent) → RouterRound setup r a t es b u → ((p : ℕ) → (u p).again ≡ (t p).again)
      → GoesThrough setup r (IsNewWork setup r) a es b
  goes_working a b t u [] h none = ([], h.0)
  goes_working a b t u (e ∷ es) (taken, sent, m, row, careful, rest) none =
      let more = goes_working m b (router_tally a e t) u es rest later in (m ∷ more.0, (taken, sent, row, works setup r a e t careful first, more.1))
    where
      first : (p : ℕ) → (router_tally a e t p).again ≡ (t p).again
      first p =
          let one : Rises (one_on p e) (t p) (router_tally a e t p) = event_rises a e t p in
          let rest_rises : Rises (emits_on p es) (router_tally a e t p) (u p) = round_rises m b (router_tally a e t) u es rest p in
          omega (arith, one.0, rest_rises.0, none p)

      later : (p : ℕ) → (u p).again ≡ (router_tally a e t p).again
      later p = omega (arith, first p, none p)
