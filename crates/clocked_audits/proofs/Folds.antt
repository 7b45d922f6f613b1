-- The clocked events of a run: of one that is an event longer, of one that goes on, and of two runs with the same entries.
use Rattle.std.proofs.Common.{◌≡◌, List, [], ◌∷◌, ◌++◌, refl, sym, ap, ◌∙◌, subst, append_assoc, append-nil, inl, inr}
use Rattle.ring_net.specs.declared.entry.JournalEntry.{JournalEntry}
use Rattle.graft_model.specs.Setups.{Setup, IsSetup}
use Rattle.graft_model.specs.Parts.{World}
use Rattle.graft_model.specs.Steps.{Event, Step, Run}
use Rattle.graft_laws.specs.Keeps.{Reached}
use Rattle.graft_laws.proofs.Lists.{alone, stands_in}
use Rattle.graft_laws.proofs.OneWorld.{one_run}
use Rattle.graft_laws.proofs.Runs.{reached_more}
use Rattle.graft_actors.specs.Laws.{AreEntriesOf, OneListHasTheEntries}
use Rattle.run_clocks.specs.Clocks.{AreClocked, ClockedEvent, FollowsClocks, clocked, clocked_in}

-- ---- events that are clocked

-- one more is, if its clock follows from those before it
pub clocked_more : (events : List ClockedEvent) (e : ClockedEvent) → AreClocked events → FollowsClocks events e → AreClocked (events ++ e ∷ [])
clocked_more events e all follows earlier later f is = elim (stands_in events (e ∷ []) earlier later f is) [
  | inl (rest, within) ↦ all earlier rest f within
  | inr (rest, behind, last) ↦
      (let own = alone e f rest later last in
      let front : earlier ≡ events = behind ∙ (ap (λ (es : List ClockedEvent). events ++ es) own.0 ∙ append-nil events) in
      subst (λ (es : List ClockedEvent). FollowsClocks es f) (sym front) (subst (FollowsClocks events) own.1 follows))
]

-- those in front are
pub clocked_front : (front back : List ClockedEvent) → AreClocked (front ++ back) → AreClocked front
clocked_front front back all earlier later f is = all earlier (later ++ back) f
    (ap (λ (es : List ClockedEvent). es ++ back) is ∙ append_assoc earlier (f ∷ later) back)

-- ---- runs

module _ (setup : Setup) where
  -- a run is an event longer
  pub run_longer : (events : List Event) (entries : List JournalEntry) (event : Event) (entry : JournalEntry) (w u v : World)
      → AreEntriesOf setup events entries → (run : Run setup w events u) → Step setup event u v
      → (longer : Run setup w (events ++ event ∷ []) v) × (clocked_in setup w (events ++ event ∷ []) (entries ++ entry ∷ []) v longer
      ≡ clocked_in setup w events entries u run ++ clocked event entry u v ∷ [])
  run_longer [] [] event entry w u v are is step =
      ((v, subst (λ (x : World). Step setup event x v) is step, refl), ap (λ (x : World). clocked event entry x v ∷ []) (sym is))
  run_longer [] (e ∷ entries) event entry w u v are is step = absurd are
  run_longer (d ∷ events) [] event entry w u v are run step = absurd are
  run_longer (d ∷ events) (e ∷ entries) event entry w u v are (next, first, run) step =
      let rest = run_longer events entries event entry next u v are.1 run step in
      ((next, first, rest.0), ap (λ (es : List ClockedEvent). clocked d e w next ∷ es) rest.1)

  module _ (sound : IsSetup setup) where
    -- a run that goes on
    pub run_goes_on : (events : List Event) (entries : List JournalEntry) (event : Event) (entry : JournalEntry) (later : List Event)
        (rest : List JournalEntry) (w u v last : World) → Reached setup w → AreEntriesOf setup events entries → (run : Run setup w events u)
        → Step setup event u v → (whole : Run setup w (events ++ event ∷ later) last)
        → (more : List ClockedEvent) × (clocked_in setup w (events ++ event ∷ later) (entries ++ entry ∷ rest) last whole
        ≡ clocked_in setup w events entries u run ++ clocked event entry u v ∷ more)
    run_goes_on [] [] event entry later rest w u v last reached are is step (next, first, whole) =
        let same : next ≡ v = sym (one_run setup (event ∷ []) w next v sound reached (next, first, refl)
        (v, subst (λ (x : World). Step setup event x v) is step, refl)) in
        (clocked_in setup next later rest last whole, (λ i. clocked event entry (sym is i) (same i) ∷ clocked_in setup next later rest last whole))
    run_goes_on [] (e ∷ entries) event entry later rest w u v last reached are is step whole = absurd are
    run_goes_on (d ∷ events) [] event entry later rest w u v last reached are run step whole = absurd are
    run_goes_on (d ∷ events) (e ∷ entries) event entry later rest w u v last reached are (next, first, run) step (other, leads, whole) =
        let same : next ≡ other = sym (one_run setup (d ∷ []) w next other sound reached (next, first, refl) (other, leads, refl)) in
        let behind = subst (λ (x : World). (on : Run setup x (events ++ event ∷ later) last) → (more : List ClockedEvent)
        × (clocked_in setup x (events ++ event ∷ later) (entries ++ entry ∷ rest) last on
        ≡ clocked_in setup next events entries u run ++ clocked event entry u v ∷ more)) same
        (run_goes_on events entries event entry later rest next u v last (reached_more setup d w next reached first) are.1 run step) whole in
        (behind.0, (λ i. clocked d e w (sym same i) ∷ behind.1 i))

    -- two runs with the same events
    run_twice : (events : List Event) (entries : List JournalEntry) (w u v : World) → Reached setup w → (run : Run setup w events u)
        → (other : Run setup w events v) → clocked_in setup w events entries u run ≡ clocked_in setup w events entries v other
    run_twice [] entries w u v reached run other = refl
    run_twice (event ∷ events) [] w u v reached run other = refl
    run_twice (event ∷ events) (entry ∷ entries) w u v reached (next, step, run) (after, leads, other) =
        let same : next ≡ after = sym (one_run setup (event ∷ []) w next after sound reached (next, step, refl) (after, leads, refl)) in
        let rest = subst (λ (x : World). (on : Run setup x events v) → clocked_in setup next events entries u run ≡ clocked_in setup x events entries v on) same
        (run_twice events entries next u v (reached_more setup event w next reached step) run) other in
        λ i. clocked event entry w (same i) ∷ rest i

    -- and with the same entries
    pub one_clocked : OneListHasTheEntries → (events others : List Event) (entries : List JournalEntry) (w u v : World) → Reached setup w
        → AreEntriesOf setup events entries → AreEntriesOf setup others entries → (run : Run setup w events u) → (other : Run setup w others v)
        → clocked_in setup w events entries u run ≡ clocked_in setup w others entries v other
    one_clocked one_list events others entries w u v reached are are_too run other =
        subst (λ (es : List Event). (on : Run setup w es v) → clocked_in setup w events entries u run ≡ clocked_in setup w es entries v on)
        (one_list setup events others entries are are_too) (run_twice events entries w u v reached run) other
