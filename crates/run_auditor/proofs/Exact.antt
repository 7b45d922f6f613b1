-- An audit has one answer, and it is Yes exactly where the journal is that of a run.
use Rattle.std.proofs.Common.{◌≡◌, ℕ, ◌<◌, Bool, true, false, List, [], ◌∷◌, ◌++◌, length, refl, sym, ap, ◌∙◌, subst, inl, inr, arith}
use Rattle.std.specs.Prelude.{◌↔◌}
use Rattle.std.proofs.lemmas.Bool.{cases_lt}
use Rattle.ring_net.specs.declared.entry.JournalEntry.{JournalEntry}
use Rattle.journal_merge.specs.Merges.{AreSorted, IsBefore}
use Rattle.graft_model.specs.Setups.{Setup, IsSetup}
use Rattle.graft_model.specs.Parts.{World}
use Rattle.graft_model.specs.First.{first_world}
use Rattle.graft_model.specs.Quiet.{Quiet}
use Rattle.graft_model.specs.Steps.{Event, Step, Run}
use Rattle.graft_laws.specs.Ranges.{IsInRange}
use Rattle.graft_laws.proofs.Runs.{reached_first}
use Rattle.graft_actors.specs.Laws.{AreEntriesOf, IsEntryOf, OneEventHasTheEntry, OneListHasTheEntries}
use Rattle.spelled_events.specs.Spelled.{PrefixesAreSpelled}
use Rattle.run_clocks.specs.Clocks.{AreClocked, clocked, clocked_in}
use Rattle.clocked_audits.proofs.Folds.{run_goes_on}
use Rattle.run_auditor.specs.Audits.{IsAudit, IsFault, IsFirstFault, IsInOrder, IsRunTo}
use Rattle.run_auditor.specs.Steps.{LeadsNowhere, LeadsOn}
use Rattle.run_auditor.specs.declared.audit.Audit.{Audit}
use Rattle.run_auditor.specs.declared.audit.Audit.TheVariants.{Yes, No}
use Rattle.run_auditor.specs.declared.audit.Why.{Why}
use Rattle.run_auditor.specs.declared.audit.Why.TheVariants.{Order, Kind, Condition, Clock}

-- ---- a run up to an entry

record SplitAt (setup : Setup) (before : List JournalEntry) (entry : JournalEntry) (events : List Event) : Type 0 where
  first : List Event
  event : Event
  later : List Event
  is : events ≡ first ++ event ∷ later
  entries_before : AreEntriesOf setup first before
  own : IsEntryOf setup event entry

split_at : (setup : Setup) (before : List JournalEntry) (entry : JournalEntry) (rest : List JournalEntry) (events : List Event)
    → AreEntriesOf setup events (before ++ entry ∷ rest) → SplitAt setup before entry events
split_at setup [] entry rest [] are = absurd are
split_at setup [] entry rest (event ∷ events) are =
    record { first = []; event = event; later = events; is = refl; entries_before = tt; own = are.0 }
split_at setup (x ∷ before) entry rest [] are = absurd are
split_at setup (x ∷ before) entry rest (event ∷ events) are = let s = split_at setup before entry rest events are.1 in record {
  first = event ∷ s.first;
  event = s.event;
  later = s.later;
  is = ap (λ (es : List Event). event ∷ es) s.is;
  entries_before = (are.0, s.entries_before);
  own = s.own;
}

-- the world before an event of a run, and the one after it
record PassesBy (setup : Setup) (w : World) (first : List Event) (event : Event) : Type 0 where
  before : World
  run : Run setup w first before
  after : World
  step : Step setup event before after

passes_by : (setup : Setup) (w v : World) (first : List Event) (event : Event) (later : List Event) → Run setup w (first ++ event ∷ later) v
    → PassesBy setup w first event
passes_by setup w v [] event later (u, step, run) = record { before = w; run = refl; after = u; step = step }
passes_by setup w v (e ∷ first) event later (u, step, run) =
    let p = passes_by setup u v first event later run in record { before = p.before; run = (u, step, p.run); after = p.after; step = p.step }

last_before : (front : List JournalEntry) (last entry : JournalEntry) (rest : List JournalEntry) → AreSorted ((front ++ last ∷ []) ++ entry ∷ rest)
    → IsBefore last entry
last_before [] last entry rest sorted = sorted.0.0
last_before (x ∷ front) last entry rest sorted = last_before front last entry rest sorted.1

in_order : (before : List JournalEntry) (entry : JournalEntry) (rest : List JournalEntry) → AreSorted (before ++ entry ∷ rest) → IsInOrder before entry
in_order before entry rest sorted front last is =
    last_before front last entry rest (subst (λ (xs : List JournalEntry). AreSorted (xs ++ entry ∷ rest)) is sorted)

-- ---- two lists that are one

longer : (a b r s : List JournalEntry) (x y : JournalEntry) → a ++ x ∷ r ≡ b ++ y ∷ s → length a < length b
    → (middle : List JournalEntry) × (b ≡ a ++ x ∷ middle)
longer [] [] r s x y is less = absurd (omega (arith, less))
longer [] (z ∷ b) r s x y is less = let same : z ≡ x = cc in (b, ap (λ (e : JournalEntry). e ∷ b) same)
longer (z ∷ a) [] r s x y is less = absurd (omega (arith, less))
longer (z ∷ a) (u ∷ b) r s x y is less =
    let head : u ≡ z = cc in
    let tail : a ++ x ∷ r ≡ b ++ y ∷ s = cc in
    let m = longer a b r s x y tail (omega (arith, less)) in
    (m.0, ap (λ (e : JournalEntry). e ∷ b) head ∙ ap (λ (es : List JournalEntry). z ∷ es) m.1)

same_place : (a b r s : List JournalEntry) (x y : JournalEntry) → a ++ x ∷ r ≡ b ++ y ∷ s → length a ≡ length b → (a ≡ b) × (x ≡ y)
same_place [] [] r s x y is e = (refl, cc)
same_place [] (z ∷ b) r s x y is e = absurd (omega (arith, e))
same_place (z ∷ a) [] r s x y is e = absurd (omega (arith, e))
same_place (z ∷ a) (u ∷ b) r s x y is e =
    let head : z ≡ u = cc in
    let tail : a ++ x ∷ r ≡ b ++ y ∷ s = cc in
    let m = same_place a b r s x y tail (omega (arith, e)) in
    (ap (λ (v : JournalEntry). v ∷ a) head ∙ ap (λ (es : List JournalEntry). u ∷ es) m.0, m.1)

-- ---- the laws

module _ (one_event : OneEventHasTheEntry) (one_list : OneListHasTheEntries) (spelled : PrefixesAreSpelled)
    (one_world : (setup : Setup) (events : List Event) (u v : World) → IsSetup setup → Run setup (first_world setup) events u
    → Run setup (first_world setup) events v → v ≡ u)
    (setup : Setup) (sound : IsSetup setup) (ranges : IsInRange setup) where
  -- entries lead to one world
  leads_to_one : (entries : List JournalEntry) (u v : World) → IsRunTo setup entries u → IsRunTo setup entries v → v ≡ u
  leads_to_one entries u v one other = one_world setup one.events u v sound one.run
      (subst (λ (es : List Event). Run setup (first_world setup) es v) (one_list setup other.events one.events entries other.entries_of one.entries_of) other.run)

  pub no_run : (journal : List JournalEntry) (index : ℕ) (why : Why) (w : World) → IsFirstFault setup journal index why → ¬ IsRunTo setup journal w
  no_run journal index why w f r = by_why why f.fault where
    whole : IsRunTo setup (f.before ++ f.entry ∷ f.rest) w
    whole = subst (λ (es : List JournalEntry). IsRunTo setup es w) f.is r

    s : SplitAt setup f.before f.entry whole.events
    s = split_at setup f.before f.entry f.rest whole.events whole.entries_of

    p : PassesBy setup (first_world setup) s.first s.event
    p = passes_by setup (first_world setup) w s.first s.event s.later
        (subst (λ (es : List Event). Run setup (first_world setup) es w) s.is whole.run)

    same_events : s.first ≡ f.run.events
    same_events = one_list setup s.first f.run.events f.before s.entries_before f.run.entries_of

    same_world : p.before ≡ f.world
    same_world = one_world setup f.run.events f.world p.before sound f.run.run
        (subst (λ (es : List Event). Run setup (first_world setup) es p.before) same_events p.run)

    by_why : (y : Why) → IsFault y setup f.before f.entry f.world f.run → ⊥
    by_why Order fault = fault (in_order f.before f.entry f.rest whole.sorted)
    by_why Kind (ordered, none) =
        none s.event (spelled setup p.before s.event p.after sound ranges (record { events = s.first; run = p.run }) p.step) s.own
    by_why Condition (ordered, nowhere) =
        nowhere.none p.after (subst (λ (u : World). Step setup nowhere.event u p.after) same_world
        (subst (λ (e : Event). Step setup e p.before p.after) (one_event setup s.event nowhere.event f.entry s.own nowhere.entry_of) p.step))
    by_why Clock (ordered, fault) =
        let events : whole.events ≡ f.run.events ++ fault.leads.event ∷ s.later =
        s.is ∙ (λ i. same_events i ++ one_event setup s.event fault.leads.event f.entry s.own fault.leads.entry_of i ∷ s.later) in
        let moved : (run : Run setup (first_world setup) (f.run.events ++ fault.leads.event ∷ s.later) w) × AreClocked (clocked_in setup (first_world setup)
        (f.run.events ++ fault.leads.event ∷ s.later) (f.before ++ f.entry ∷ f.rest) w run) =
        subst (λ (es : List Event). (run : Run setup (first_world setup) es w)
        × AreClocked (clocked_in setup (first_world setup) es (f.before ++ f.entry ∷ f.rest) w run)) events (whole.run, whole.clocks) in
        let front = run_goes_on setup sound f.run.events f.before fault.leads.event f.entry s.later f.rest (first_world setup) f.world fault.after w
        (reached_first setup) f.run.entries_of f.run.run fault.leads.step moved.0 in
        fault.off (moved.1 (clocked_in setup (first_world setup) f.run.events f.before f.world f.run.run) front.0
        (clocked fault.leads.event f.entry f.world fault.after) front.1)

  -- an entry leads on or nowhere
  not_both : (entry : JournalEntry) (w : World) → LeadsNowhere setup entry w → (after : World) → LeadsOn setup entry w after → ⊥
  not_both entry w nowhere after leads = nowhere.none after (subst (λ (e : Event). Step setup e w after)
      (one_event setup leads.event nowhere.event entry leads.entry_of nowhere.entry_of) leads.step)

  -- an entry has one first fault, whatever run led to it
  one_fault : (before : List JournalEntry) (entry : JournalEntry) (w : World) (r s : IsRunTo setup before w) (x y : Why) → IsFault x setup before entry w r
      → IsFault y setup before entry w s → x ≡ y
  one_fault before entry w r s Order Order a b = refl
  one_fault before entry w r s Order Kind a b = absurd (a b.0)
  one_fault before entry w r s Order Condition a b = absurd (a b.0)
  one_fault before entry w r s Order Clock a b = absurd (a b.0)
  one_fault before entry w r s Kind Order a b = absurd (b a.0)
  one_fault before entry w r s Kind Kind a b = refl
  one_fault before entry w r s Kind Condition a b = absurd (a.1 b.1.event b.1.spelled b.1.entry_of)
  one_fault before entry w r s Kind Clock a b = absurd (a.1 b.1.leads.event b.1.leads.spelled b.1.leads.entry_of)
  one_fault before entry w r s Condition Order a b = absurd (b a.0)
  one_fault before entry w r s Condition Kind a b = absurd (b.1 a.1.event a.1.spelled a.1.entry_of)
  one_fault before entry w r s Condition Condition a b = refl
  one_fault before entry w r s Condition Clock a b = absurd (not_both entry w a.1 b.1.after b.1.leads)
  one_fault before entry w r s Clock Order a b = absurd (b a.0)
  one_fault before entry w r s Clock Kind a b = absurd (b.1 a.1.leads.event a.1.leads.spelled a.1.leads.entry_of)
  one_fault before entry w r s Clock Condition a b = absurd (not_both entry w b.1 a.1.after a.1.leads)
  one_fault before entry w r s Clock Clock a b = refl

  -- no fault comes before the first one
  not_before : (journal : List JournalEntry) (i j : ℕ) (x y : Why) (f : IsFirstFault setup journal i x) (g : IsFirstFault setup journal j y)
      → length f.before < length g.before → ⊥
  not_before journal i j x y f g less =
      let m = longer f.before g.before f.rest g.rest f.entry g.entry (sym f.is ∙ g.is) less in
      no_run g.before i x g.world (record {
        before = f.before;
        entry = f.entry;
        rest = m.0;
        is = m.1;
        at = f.at;
        world = f.world;
        run = f.run;
        fault = f.fault;
      }) g.run

  same_fault : (journal : List JournalEntry) (i j : ℕ) (x y : Why) → IsFirstFault setup journal i x → IsFirstFault setup journal j y → No i x ≡ No j y
  same_fault journal i j x y f g = elim (cases_lt (length f.before) (length g.before)) [
    | inl less ↦ absurd (not_before journal i j x y f g less)
    | inr least ↦ elim (cases_lt (length g.before) (length f.before)) [
      | inl less ↦ absurd (not_before journal j i y x g f less)
      | inr most ↦ at_one (omega (arith, least, most))
    ]
  ]
    where
      at_one : length f.before ≡ length g.before → No i x ≡ No j y
      at_one e =
          let m = same_place f.before g.before f.rest g.rest f.entry g.entry (sym f.is ∙ g.is) e in
          let placed : (run : IsRunTo setup f.before g.world) × IsFault y setup f.before g.entry g.world run =
          subst (λ (es : List JournalEntry). (run : IsRunTo setup es g.world) × IsFault y setup es g.entry g.world run) (sym m.0) (g.run, g.fault) in
          let fault : IsFault y setup f.before f.entry g.world placed.0 =
          subst (λ (entry : JournalEntry). IsFault y setup f.before entry g.world placed.0) (sym m.1) placed.1 in
          let here : (run : IsRunTo setup f.before f.world) × IsFault y setup f.before f.entry f.world run =
          subst (λ (w : World). (run : IsRunTo setup f.before w) × IsFault y setup f.before f.entry w run)
          (leads_to_one f.before f.world g.world f.run placed.0) (placed.0, fault) in
          let index : i ≡ j = sym f.at ∙ e ∙ g.at in
          ap (λ (n : ℕ). No n x) index ∙ ap (λ (z : Why). No j z) (one_fault f.before f.entry f.world f.run here.0 x y f.fault here.1)

  same_settled : (p q : Bool) (P : Type 0) → (p ≡ true) ↔ P → (q ≡ true) ↔ P → p ≡ q
  same_settled true true P a b = refl
  same_settled true false P a b = let e : false ≡ true = b.1 (a.0 refl) in absurd cc
  same_settled false true P a b = let e : false ≡ true = a.1 (b.0 refl) in absurd cc
  same_settled false false P a b = refl

  pub one_answer : (journal : List JournalEntry) (one other : Audit) → IsAudit setup journal one → IsAudit setup journal other → one ≡ other
  one_answer journal (Yes n p) (Yes m q) a b =
      let settled : (q ≡ true) ↔ Quiet setup a.world =
      subst (λ (w : World). (q ≡ true) ↔ Quiet setup w) (leads_to_one journal a.world b.world a.run b.run) b.settled in
      let count : n ≡ m = a.counted ∙ sym b.counted in
      ap (λ (k : ℕ). Yes k p) count ∙ ap (λ (t : Bool). Yes m t) (same_settled p q (Quiet setup a.world) a.settled settled)
  one_answer journal (Yes n p) (No j y) a b = absurd (no_run journal j y a.world b a.run)
  one_answer journal (No i x) (Yes m q) a b = absurd (no_run journal i x b.world a b.run)
  one_answer journal (No i x) (No j y) a b = same_fault journal i j x y a b
