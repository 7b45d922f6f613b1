-- The packets that are tapped along a run.
use Rattle.std.proofs.Common.{◌≡◌, ℕ, suc, ◌+◌, ◌<◌, ◌≤◌, ◌==◌, List, [], ◌∷◌, ◌++◌, length, take}
use Rattle.std.proofs.Common.{get_or, count_by, Option, Some, None, refl, sym, ap, ◌∙◌, subst, append_assoc, append-nil, arith}
use Rattle.std.specs.List.{enumerate_from, flat_map}
use Rattle.std.proofs.lemmas.List.{length-take-le, take_all, take_more}
use Rattle.ring_net.specs.declared.entry.JournalEntry.{JournalEntry}
use Rattle.graft_model.specs.Setups.{Setup, IsSetup}
use Rattle.graft_model.specs.Parts.{World}
use Rattle.graft_model.specs.First.{first_world}
use Rattle.graft_model.specs.Steps.{Event, Step, Run}
use Rattle.graft_laws.specs.Ranges.{IsInRange}
use Rattle.graft_laws.specs.Keeps.{Reached}
use Rattle.graft_laws.proofs.OneWorld.{one_run}
use Rattle.graft_actors.specs.Laws.{AreEntriesOf, IsEntryOf, OneEventHasTheEntry}
use Rattle.spelled_events.specs.Spelled.{PrefixesAreSpelled}
use Rattle.lab_tables.specs.declared.input.LabInput.{LabInput}
use Rattle.lab_setup.specs.Setups.{setup_of}
use Rattle.run_auditor.specs.States.{StandsFor}
use Rattle.run_auditor.specs.Steps.{AnswersEntry}
use Rattle.run_auditor.specs.declared.auditor.Auditor.{Auditor}
use Rattle.run_auditor.specs.declared.step.Step.{Step as Answer}
use Rattle.run_auditor.specs.declared.step.Step.TheVariants.{Made, Kind, Condition}
use Rattle.lab_capture.specs.Taps.{tapped, tapped_along}
use Rattle.lab_capture.specs.Captures.{timed, timed_at}
use Rattle.lab_capture.specs.Places.{ArePlaces, timed_if}
use Rattle.lab_capture.specs.Tapping.{AreOfRun, IsTapped, StandsBehind}
use Rattle.lab_capture.specs.declared.timed.Timed.{Timed}

-- ---- the last event of a run

record EndsWith (input : LabInput) (setup : Setup) (front : List JournalEntry) (entry : JournalEntry) (events : List Event) (w v : World)
    (run : Run setup w events v) : Type 0 where
  earlier : List Event
  event : Event
  before : World
  run_before : Run setup w earlier before
  entries_before : AreEntriesOf setup earlier front
  own : IsEntryOf setup event entry
  step : Step setup event before v
  taps : tapped_along input setup w events v run ≡ tapped_along input setup w earlier before run_before ++ tapped input event before v ∷ []

ends_with : (input : LabInput) (setup : Setup) (front : List JournalEntry) (entry : JournalEntry) (events : List Event) (w v : World)
    (run : Run setup w events v) → AreEntriesOf setup events (front ++ entry ∷ []) → EndsWith input setup front entry events w v run
ends_with input setup [] entry [] w v run are = absurd are
ends_with input setup [] entry (event ∷ []) w v (u, step, same) are = record {
  earlier = [];
  event = event;
  before = w;
  run_before = refl;
  entries_before = tt;
  own = are.0;
  step = subst (λ (x : World). Step setup event w x) (sym same) step;
  taps = ap (λ (x : World). tapped input event w x ∷ []) (sym same);
}
ends_with input setup [] entry (event ∷ e ∷ events) w v run are = absurd are.1
ends_with input setup (x ∷ front) entry [] w v run are = absurd are
ends_with input setup (x ∷ front) entry (event ∷ events) w v (u, step, run) are = let rest = ends_with input setup front entry events u v run are.1 in record {
  earlier = event ∷ rest.earlier;
  event = rest.event;
  before = rest.before;
  run_before = (u, step, rest.run_before);
  entries_before = (are.0, rest.entries_before);
  own = rest.own;
  step = rest.step;
  taps = ap (λ (taps : List (Option (List ℕ))). tapped input event w u ∷ taps) rest.taps;
}

-- as many taps as entries
many : (input : LabInput) (setup : Setup) (entries : List JournalEntry) (events : List Event) (w v : World) (run : Run setup w events v)
    → AreEntriesOf setup events entries → length (tapped_along input setup w events v run) ≡ length entries
many input setup [] [] w v run are = refl
many input setup [] (event ∷ events) w v run are = absurd are
many input setup (entry ∷ entries) [] w v run are = absurd are
many input setup (entry ∷ entries) (event ∷ events) w v (u, step, run) are = ap (λ (n : ℕ). suc n) (many input setup entries events u v run are.1)

-- ---- the world behind an entry

module _ (one_event : OneEventHasTheEntry) (spelled : PrefixesAreSpelled) (setup : Setup) (sound : IsSetup setup) (ranges : IsInRange setup) where
  stands_behind : (answer : Answer) (entry : JournalEntry) (event : Event) (w v : World) (new : Auditor) → Reached setup w → IsEntryOf setup event entry
      → Step setup event w v → AnswersEntry answer setup entry w new → StandsFor new v
  stands_behind (Made from to) entry event w v new reached own step made =
      let same : Step setup event w made.after =
      subst (λ (e : Event). Step setup e w made.after) (one_event setup made.leads.event event entry made.leads.entry_of own) made.leads.step in
      subst (λ (x : World). StandsFor new x)
      (sym (one_run setup (event ∷ []) w made.after v sound reached (made.after, same, refl) (v, step, refl))) made.stands
  stands_behind Kind entry event w v new reached own step none = absurd (none.0 event (spelled setup w event v sound ranges reached step) own)
  stands_behind Condition entry event w v new reached own step nowhere = absurd (nowhere.0.none v
      (subst (λ (e : Event). Step setup e w v) (one_event setup event nowhere.0.event entry own nowhere.0.entry_of) step))

-- ---- packets with their rounds and places

timed_as : (rounds : List ℕ) (k : ℕ) (packet : Option (List ℕ))
    → timed_at rounds (k, packet) ≡ timed_if (get_or rounds k 0) (count_by (λ r. r == get_or rounds k 0) (take k rounds)) packet
timed_as rounds k None = refl
timed_as rounds k (Some octets) = refl

timed_from : (rounds : List ℕ) (n : ℕ) (taps : List (Option (List ℕ))) (tap : Option (List ℕ))
    → flat_map (timed_at rounds) (enumerate_from n (taps ++ tap ∷ []))
    ≡ flat_map (timed_at rounds) (enumerate_from n taps) ++ timed_at rounds (n + length taps, tap)
timed_from rounds n [] tap = let same : n ≡ n + 0 = omega arith in append-nil (timed_at rounds (n, tap)) ∙ ap (λ (k : ℕ). timed_at rounds (k, tap)) same
timed_from rounds n (x ∷ taps) tap =
    let same : n + 1 + length taps ≡ n + length (x ∷ taps) = omega arith in
    ap (λ (l : List Timed). timed_at rounds (n, x) ++ l)
    (timed_from rounds (n + 1) taps tap
    ∙ ap (λ (k : ℕ). flat_map (timed_at rounds) (enumerate_from (n + 1) taps) ++ timed_at rounds (k, tap)) same)
    ∙ sym (append_assoc (timed_at rounds (n, x)) (flat_map (timed_at rounds) (enumerate_from (n + 1) taps)) (timed_at rounds (n + length (x ∷ taps), tap)))

timed_more : (rounds : List ℕ) (taps : List (Option (List ℕ))) (tap : Option (List ℕ)) (k : ℕ) → length taps ≡ k → timed rounds (taps ++ tap ∷ [])
    ≡ timed rounds taps ++ timed_if (get_or rounds k 0) (count_by (λ r. r == get_or rounds k 0) (take k rounds)) tap
timed_more rounds taps tap k size =
    let at : 0 + length taps ≡ k = omega (arith, size) in
    timed_from rounds 0 taps tap ∙ ap (λ (l : List Timed). timed rounds taps ++ l)
    (ap (λ (n : ℕ). timed_at rounds (n, tap)) at ∙ timed_as rounds k tap)

-- ---- one entry more

module _ (one_event : OneEventHasTheEntry) (spelled : PrefixesAreSpelled) (input : LabInput) (sound : IsSetup (setup_of input))
    (ranges : IsInRange (setup_of input)) (rounds : List ℕ) (front : List JournalEntry) (entry : JournalEntry) (old new : Auditor) where
  module _ (known : old.known.setup ≡ setup_of input) (stood : StandsBehind input front old) (packet : Option (List ℕ))
      (tap : IsTapped input entry old packet new)
      (events : List Event) (w : World) (run : Run (setup_of input) (first_world (setup_of input)) events w)
      (are : AreEntriesOf (setup_of input) events (front ++ entry ∷ [])) where
    abbrev ends : EndsWith input (setup_of input) front entry events (first_world (setup_of input)) w run
    ends = ends_with input (setup_of input) front entry events (first_world (setup_of input)) w run are

    before : StandsFor old ends.before
    before = stood ends.earlier ends.before ends.run_before ends.entries_before

    pub stands_more : StandsFor new w
    stands_more = stands_behind one_event spelled (setup_of input) sound ranges tap.answer entry ends.event ends.before w new
        (record { events = ends.earlier; run = ends.run_before }) ends.own ends.step
        (subst (λ (s : Setup). AnswersEntry tap.answer s entry ends.before new) known (tap.takes.answers ends.before before))

    pub tapped_more : (packets more : List Timed) (round place : ℕ) → AreOfRun input rounds front packets → round ≡ get_or rounds (length front) 0
        → place ≡ count_by (λ r. r == get_or rounds (length front) 0) (take (length front) rounds) → more ≡ packets ++ timed_if round place packet
        → more ≡ timed rounds (tapped_along input (setup_of input) (first_world (setup_of input)) events w run)
    tapped_more packets more round place so_far round_is place_is added =
        let packet_is = tap.packet_is ends.event ends.before w ends.own before stands_more in
        let taps : List (Option (List ℕ)) =
        tapped_along input (setup_of input) (first_world (setup_of input)) ends.earlier ends.before ends.run_before in
        let packets_are : packets ≡ timed rounds taps = so_far ends.earlier ends.before ends.run_before ends.entries_before in
        added ∙ ((λ i. packets_are i ++ timed_if (round_is i) (place_is i) (packet_is i))
        ∙ (sym (timed_more rounds taps (tapped input ends.event ends.before w) (length front)
        (many input (setup_of input) front ends.earlier (first_world (setup_of input)) ends.before ends.run_before ends.entries_before))
        ∙ ap (λ (all : List (Option (List ℕ))). timed rounds all) (sym ends.taps)))

-- ---- the entries of a journal up to an index

pub none_stands : (input : LabInput) (auditor : Auditor) → StandsFor auditor (first_world (setup_of input)) → StandsBehind input [] auditor
none_stands input auditor stands [] w run are = subst (λ (x : World). StandsFor auditor x) (sym run) stands
none_stands input auditor stands (event ∷ events) w run are = absurd are

pub none_tapped : (input : LabInput) (rounds : List ℕ) → AreOfRun input rounds [] []
none_tapped input rounds [] w run are = refl
none_tapped input rounds (event ∷ events) w run are = absurd are

module _ (one_event : OneEventHasTheEntry) (spelled : PrefixesAreSpelled) (input : LabInput) (sound : IsSetup (setup_of input))
    (ranges : IsInRange (setup_of input)) (rounds : List ℕ) (journal : List JournalEntry) (i : ℕ) (below : i < length journal) (entry : JournalEntry)
    (is : entry ≡ get_or journal i entry) (old new : Auditor) (known : old.known.setup ≡ setup_of input) (stood : StandsBehind input (take i journal) old)
    (packet : Option (List ℕ)) (tap : IsTapped input entry old packet new) where
  further : take i journal ++ entry ∷ [] ≡ take (i + 1) journal
  further = sym (take_more journal i entry below ∙ ap (λ (e : JournalEntry). take i journal ++ e ∷ []) (sym is))

  pub stands_next : StandsBehind input (take (i + 1) journal) new
  stands_next = subst (λ (es : List JournalEntry). StandsBehind input es new) further
      (stands_more one_event spelled input sound ranges rounds (take i journal) entry old new known stood packet tap)

  pub tapped_next : (places : List ℕ) → ArePlaces rounds places → length rounds ≡ length journal → (packets more : List Timed) (round place : ℕ)
      → AreOfRun input rounds (take i journal) packets → round ≡ get_or rounds i 0 → place ≡ get_or places i 0 → more ≡ packets ++ timed_if round place packet
      → AreOfRun input rounds (take (i + 1) journal) more
  tapped_next places are_places all packets more round place so_far round_is place_is added =
      subst (λ (es : List JournalEntry). AreOfRun input rounds es more) further (λ events w run are.
      tapped_more one_event spelled input sound ranges rounds (take i journal) entry old new known stood packet tap events w run are packets more round place
      so_far (round_is ∙ ap (λ (k : ℕ). get_or rounds k 0) (sym here))
      (place_is ∙ (are_places.each i (omega (arith, all, below)) ∙ ap (λ (k : ℕ). count_by (λ r. r == get_or rounds k 0) (take k rounds)) (sym here))) added)
    where
      here : length (take i journal) ≡ i
      here = length-take-le i journal (omega (arith, below))

pub all_tapped : (input : LabInput) (rounds : List ℕ) (journal : List JournalEntry) (n : ℕ) (packets : List Timed)
    → length journal ≤ n → AreOfRun input rounds (take n journal) packets → AreOfRun input rounds journal packets
all_tapped input rounds journal n packets all so_far =
    subst (λ (es : List JournalEntry). AreOfRun input rounds es packets) (take_all n journal (omega (arith, all))) so_far
