-- Entries replayed one after another.
use Rattle.std.proofs.Common.{◌≡◌, ℕ, ◌<◌, ◌≤◌, ◌+◌, Bool, true, false, List, [], ◌∷◌, ◌++◌, length, take, drop, get_or, Option, Some, None, refl, sym, ap, ◌∙◌, subst, ◌⊎◌, inl, inr, arith}
use Rattle.std.specs.Prelude.{◌↔◌, IfSome, if◌then◌else◌, max}
use Rattle.std.proofs.lemmas.Bool.{false≢true}
use Rattle.std.specs.List.{AllByRecursion, last_or}
use Rattle.std.proofs.lemmas.List.{drop_more, length-take-le, take-append-drop, take_all, take_more}
use Rattle.std.proofs.lemmas.Option.{same_Some}
use Rattle.ring_net.specs.declared.entry.JournalEntry.{JournalEntry}
use Rattle.journal_merge.specs.Merges.{AreSorted, IsBefore}
use Rattle.graft_model.specs.Setups.{Setup}
use Rattle.graft_model.specs.Parts.{World}
use Rattle.graft_model.specs.First.{first_world}
use Rattle.graft_model.specs.Quiet.{Quiet}
use Rattle.graft_model.specs.Steps.{Event}
use Rattle.graft_laws.proofs.Lists.{all_join, last_end, none_stands}
use Rattle.graft_actors.specs.Laws.{AreEntriesOf, IsEntryOf, maker_of}
use Rattle.graft_actors.specs.Actors.{ActorName}
use Rattle.world_runs.specs.Labs.{actors_in}
use Rattle.world_runs.specs.Marks.{is_go}
use Rattle.run_clocks.specs.Clocks.{AreClocked, ClockedEvent, FollowsClocks, clocked, clocked_in, greatest}
use Rattle.audit_clocks.specs.Clocks.{HasPassed, clock_of, clocks_of, stamps_of}
use Rattle.audit_clocks.specs.Stamps.{next_stamp}
use Rattle.audit_clocks.specs.declared.clocks.Clocks.{Clocks}
use Rattle.clocked_audits.specs.Laws.{ClocksDecide, ClocksLevel, ClocksPass}
use Rattle.clocked_audits.specs.Timed.{AreKnown, IsTimed, MovesItems, due_clock, named_number}
use Rattle.clocked_audits.proofs.Folds.{clocked_more, run_longer}
use Rattle.run_auditor.specs.Audits.{IsFault, IsFirstFault, IsInOrder, IsRunTo, IsWhole}
use Rattle.run_auditor.specs.Clocks.{PassesClocks, clock_due}
use Rattle.run_auditor.specs.Replays.{IsAbove, IsReplayed, Replays, ReplaysEntry}
use Rattle.run_auditor.specs.Sound.{AuditorInvariant}
use Rattle.run_auditor.specs.States.{StandsFor}
use Rattle.run_auditor.specs.Steps.{IsMade, IsOffTime, TakesEntry}
use Rattle.run_auditor.specs.declared.audit.Why.{Why}
use Rattle.run_auditor.specs.declared.audit.Why.TheVariants.{Order, Kind, Condition, Clock}
use Rattle.run_auditor.specs.declared.auditor.Auditor.{Auditor}
use Rattle.run_auditor.specs.declared.step.Step.TheVariants as steps
use Rattle.run_auditor.specs.declared.step.Step.TheVariants.{Made}
use Rattle.run_auditor.proofs.Made.{number_below}

-- ---- order

before_then : (e f g : JournalEntry) → IsBefore e f → IsBefore f g → IsBefore e g
before_then e f g (inl a) (inl b) = inl (omega (arith, a, b))
before_then e f g (inl a) (inr b) = inl (omega (arith, a, b.0))
before_then e f g (inr a) (inl b) = inl (omega (arith, a.0, b))
before_then e f g (inr a) (inr b) = inr (a.0 ∙ b.0, omega (arith, a.1, b.1))

first_before : (y : JournalEntry) (done : List JournalEntry) (entry : JournalEntry) → AreSorted (y ∷ done) → IsInOrder (y ∷ done) entry → IsBefore y entry
first_before y [] entry sorted ordered = ordered [] y refl
first_before y (z ∷ done) entry sorted ordered = before_then y z entry sorted.0.0
    (first_before z done entry sorted.1 (λ front last is. ordered (y ∷ front) last (ap (λ (es : List JournalEntry). y ∷ es) is)))

sorted_more : (done : List JournalEntry) (entry : JournalEntry) → AreSorted done → IsInOrder done entry → AreSorted (done ++ entry ∷ [])
sorted_more [] entry sorted ordered = (tt, tt)
sorted_more (y ∷ done) entry sorted ordered = (
  all_join (IsBefore y) done (entry ∷ []) sorted.0 (first_before y done entry sorted ordered, tt),
  sorted_more done entry sorted.1 (λ front last is. ordered (y ∷ front) last (ap (λ (es : List JournalEntry). y ∷ es) is)),
)

-- ---- entries of events

are_more : (setup : Setup) (events : List Event) (entries : List JournalEntry) (event : Event) (entry : JournalEntry) → AreEntriesOf setup events entries
    → IsEntryOf setup event entry → AreEntriesOf setup (events ++ event ∷ []) (entries ++ entry ∷ [])
are_more setup [] [] event entry are own = (own, tt)
are_more setup [] (x ∷ entries) event entry are own = absurd are
are_more setup (e ∷ events) [] event entry are own = absurd are
are_more setup (e ∷ events) (x ∷ entries) event entry are own = (are.0, are_more setup events entries event entry are.1 own)

-- ---- replayed

-- These entries are those of a run to a world for which the auditor stands, with the clocks that are behind them, and this is the last one, if there
-- is one.
pub record Replayed (setup : Setup) (done : List JournalEntry) (last : Option JournalEntry) (auditor : Auditor) (clocks : Clocks) : Type 0 where
  pub setup_is : auditor.known.setup ≡ setup
  pub world : World
  pub run : IsRunTo setup done world
  pub stands : StandsFor auditor world
  pub timed : IsTimed setup world (clocked_in setup (first_world setup) run.events done world run.run) clocks
  pub last_is : last ≡ last_or None done

by_end : (xs : List JournalEntry) → (xs ≡ []) ⊎ ((front : List JournalEntry) × (last : JournalEntry) × (xs ≡ front ++ last ∷ []))
by_end [] = inl refl
by_end (x ∷ xs) = elim (by_end xs) [
  | inl none ↦ inr ([], x, ap (λ (es : List JournalEntry). x ∷ es) none)
  | inr some ↦ inr (x ∷ some.0, some.1, ap (λ (es : List JournalEntry). x ∷ es) some.2)
]

module _ (setup : Setup) (done : List JournalEntry) (last : Option JournalEntry) (auditor : Auditor) (clocks : Clocks)
    (r : Replayed setup done last auditor clocks) (entry : JournalEntry) where
  last_of : (front : List JournalEntry) (x : JournalEntry) → done ≡ front ++ x ∷ [] → last ≡ Some x
  last_of front x is = r.last_is ∙ (ap (λ (es : List JournalEntry). last_or None es) is ∙ last_end None front x)

  ordered : IsAbove last entry → IsInOrder done entry
  ordered above front x is = subst (λ (o : Option JournalEntry). IsAbove o entry) (last_of front x is) above

  above : IsInOrder done entry → IsAbove last entry
  above in_order = elim (by_end done) [
    | inl none ↦ subst (λ (o : Option JournalEntry). IsAbove o entry) (sym (r.last_is ∙ ap (λ (es : List JournalEntry). last_or None es) none)) tt
    | inr some ↦ subst (λ (o : Option JournalEntry). IsAbove o entry) (sym (last_of some.0 some.1 some.2)) (in_order some.0 some.1 some.2)
  ]

  -- its events so far
  abbrev earlier : List ClockedEvent
  earlier = clocked_in setup (first_world setup) r.run.events done r.world r.run.run

  -- without a fault
  pub replayed_more : (new : Auditor) (after : Clocks) → new.known.setup ≡ setup → IsAbove last entry → IsReplayed setup entry r.world earlier new after
      → Replayed setup (done ++ entry ∷ []) (Some entry) new after
  replayed_more new after setup_is is_above on =
      let more = run_longer setup r.run.events done on.leads.event entry (first_world setup) r.world on.after r.run.entries_of r.run.run on.leads.step in
      record {
        setup_is = setup_is;
        world = on.after;
        run = record {
          sorted = sorted_more done entry r.run.sorted (ordered is_above);
          events = r.run.events ++ on.leads.event ∷ [];
          entries_of = are_more setup r.run.events done on.leads.event entry r.run.entries_of on.leads.entry_of;
          run = more.0;
          clocks = subst AreClocked (sym more.1)
              (clocked_more earlier (clocked on.leads.event entry r.world on.after) r.run.clocks on.follows);
        };
        stands = on.stands;
        timed = subst (λ (es : List ClockedEvent). IsTimed setup on.after es after) (sym more.1) on.timed;
        last_is = sym (last_end None done entry);
      }

  -- the first fault
  pub fault_found : (journal rest : List JournalEntry) (index : ℕ) (why : Why) (new : Auditor) (after : Clocks) → journal ≡ done ++ entry ∷ rest
      → length done ≡ index → ReplaysEntry setup last entry r.world earlier (Some why) new after → IsFirstFault setup journal index why
  fault_found journal rest index why new after is at found = record {
    before = done;
    entry = entry;
    rest = rest;
    is = is;
    at = at;
    world = r.world;
    run = r.run;
    fault = by_why why found;
  }
    where
      by_why : (y : Why) → ReplaysEntry setup last entry r.world earlier (Some y) new after → IsFault y setup done entry r.world r.run
      by_why Order unlike = λ in_order. unlike (above in_order)
      by_why Kind (is_above, none) = (ordered is_above, none)
      by_why Condition (is_above, nowhere) = (ordered is_above, nowhere)
      by_why Clock (is_above, off) = (ordered is_above, off)

-- ---- the entry at an index of a journal

module _ (setup : Setup) (journal : List JournalEntry) (i : ℕ) (entry : JournalEntry) (below : i < length journal) (is : entry ≡ get_or journal i entry)
    (last : Option JournalEntry) (auditor new : Auditor) (clocks after : Clocks) (r : Replayed setup (take i journal) last auditor clocks) where
  replays_here : (fault : Option Why) → Replays last entry auditor clocks fault new after
      → ReplaysEntry setup last entry r.world (clocked_in setup (first_world setup) r.run.events (take i journal) r.world r.run.run) fault new after
  replays_here fault replayed =
      let events : List ClockedEvent = clocked_in setup (first_world setup) r.run.events (take i journal) r.world r.run.run in
      subst (λ (s : Setup). ReplaysEntry s last entry r.world events fault new after) r.setup_is
      (replayed.replays r.world events r.stands (subst (λ (s : Setup). IsTimed s r.world events clocks) (sym r.setup_is) r.timed))

  pub replayed_here : Replays last entry auditor clocks None new after → Replayed setup (take (i + 1) journal) (Some entry) new after
  replayed_here replayed =
      let h = replays_here None replayed in
      let further : take (i + 1) journal ≡ take i journal ++ entry ∷ [] =
      take_more journal i entry below ∙ ap (λ (e : JournalEntry). take i journal ++ e ∷ []) (sym is) in
      subst (λ (es : List JournalEntry). Replayed setup es (Some entry) new after) (sym further)
      (replayed_more setup (take i journal) last auditor clocks r entry new after (replayed.setup ∙ r.setup_is) h.0 h.1)

  pub fault_here : (why : Why) → Replays last entry auditor clocks (Some why) new after → IsFirstFault setup journal i why
  fault_here why replayed =
      let left : drop i journal ≡ entry ∷ drop (i + 1) journal =
      drop_more journal i entry below ∙ ap (λ (e : JournalEntry). e ∷ drop (i + 1) journal) (sym is) in
      let split : journal ≡ take i journal ++ entry ∷ drop (i + 1) journal =
      sym (take-append-drop i journal) ∙ ap (λ (es : List JournalEntry). take i journal ++ es) left in
      fault_found setup (take i journal) last auditor clocks r entry journal (drop (i + 1) journal) i why new after split
      (length-take-le i journal (omega (arith, below))) (replays_here (Some why) replayed)

-- all entries are those of a run
pub all_replayed : (setup : Setup) (journal : List JournalEntry) (n : ℕ) (last : Option JournalEntry) (auditor : Auditor) (clocks : Clocks) (events : ℕ)
    (quiet : Bool) → Replayed setup (take n journal) last auditor clocks → length journal ≤ n → events ≡ length journal
    → ((w : World) → StandsFor auditor w → (quiet ≡ true) ↔ Quiet auditor.known.setup w) → IsWhole setup journal events quiet
all_replayed setup journal n last auditor clocks events quiet so_far all counted settled =
    let r : Replayed setup journal last auditor clocks =
    subst (λ (es : List JournalEntry). Replayed setup es last auditor clocks) (take_all n journal (omega (arith, all))) so_far in
    record {
      counted = counted;
      world = r.world;
      run = r.run;
      settled = subst (λ (s : Setup). (quiet ≡ true) ↔ Quiet s r.world) r.setup_is (settled r.world r.stands);
    }

-- before the first entry
pub none_replayed : (setup : Setup) (auditor : Auditor) (clocks : Clocks) → auditor.known.setup ≡ setup → StandsFor auditor (first_world setup)
    → IsTimed setup (first_world setup) [] clocks → Replayed setup [] None auditor clocks
none_replayed setup auditor clocks setup_is stands timed = record {
  setup_is = setup_is;
  world = first_world setup;
  run = record { sorted = tt; events = []; entries_of = tt; run = refl; clocks = λ earlier later e is. absurd (none_stands e earlier later is) };
  stands = stands;
  timed = timed;
  last_is = refl;
}

-- ---- the answer to an entry, as its fault

pub not_above : (before : Option JournalEntry) (entry : JournalEntry) (old : Auditor) (clocks : Clocks) → AuditorInvariant old → ¬ IsAbove before entry
    → Replays before entry old clocks (Some Order) old clocks
not_above before entry old clocks inv not = record { setup = refl; replays = λ w earlier stands timed. not; sound = inv }

module _ (before : Option JournalEntry) (entry : JournalEntry) (old : Auditor) (clocks : Clocks) (new : Auditor) (above_it : IsAbove before entry) where
  pub no_event : TakesEntry entry old steps.Kind new → Replays before entry old clocks (Some Kind) new clocks
  no_event t = record { setup = t.setup; replays = λ w earlier stands timed. (above_it, (t.answers w stands).0); sound = t.sound }

  pub no_world : TakesEntry entry old steps.Condition new → Replays before entry old clocks (Some Condition) new clocks
  no_world t = record { setup = t.setup; replays = λ w earlier stands timed. (above_it, (t.answers w stands).0); sound = t.sound }

-- ---- clocks

-- the actors that an entry names exist
named_below : (setup : Setup) (name : Option ActorName) → AreKnown setup name → IfSome (named_number setup name) (λ n. n < actors_in setup)
named_below setup None known = tt
named_below setup (Some x) known = number_below setup x (known x refl)

module _ (setup : Setup) (entry : JournalEntry) (w : World) (from to : Option ℕ) (new : Auditor) (made : IsMade setup entry w from to new) where
  pub actor_below : entry.actor < actors_in setup
  actor_below = subst (λ (n : ℕ). n < actors_in setup) (sym made.leads.entry_of.maker)
      (number_below setup (maker_of made.leads.event) made.leads.entry_of.there)

  pub from_below : IfSome from (λ n. n < actors_in setup)
  from_below = subst (λ (o : Option ℕ). IfSome o (λ n. n < actors_in setup)) made.moves.sender_is
      (named_below setup made.moves.sender made.moves.named.from_known)

  pub to_below : IfSome to (λ n. n < actors_in setup)
  to_below = subst (λ (o : Option ℕ). IfSome o (λ n. n < actors_in setup)) made.moves.receiver_is
      (named_below setup made.moves.receiver made.moves.named.to_known)

module _ (decide : ClocksDecide) (pass : ClocksPass) (level : ClocksLevel) (setup : Setup) (entry : JournalEntry) (w : World) (earlier : List ClockedEvent)
    (clocks : Clocks) (timed : IsTimed setup w earlier clocks) (from to : Option ℕ) (new : Auditor) (made : IsMade setup entry w from to new) (after : Clocks) where
  abbrev event : Event
  event = made.leads.event

  due_is : clock_due clocks entry from ≡ due_clock setup clocks entry (maker_of event) from
  due_is = ap (λ (n : ℕ). (if is_go entry then greatest (clocks_of clocks) else max (clock_of clocks n) (next_stamp (stamps_of clocks) from n)) + 1)
      made.leads.entry_of.maker

  decided : FollowsClocks earlier (clocked event entry w made.after) ↔ (entry.clock ≡ due_clock setup clocks entry (maker_of event) from)
  decided = decide setup w made.after event entry earlier clocks from to timed made.moves

  -- an entry that doesn't pass has another clock than the one that follows
  off_time : PassesClocks entry from to clocks false after → IsOffTime setup earlier entry w
  off_time p = record {
    after = made.after;
    leads = made.leads;
    off = λ follows. false≢true (p.due.1 (decided.0 follows ∙ sym due_is));
  }

  -- one that passes leads on
  on_time : PassesClocks entry from to clocks true after → IsReplayed setup entry w earlier new after
  on_time p = record { after = made.after; leads = made.leads; stands = made.stands; follows = follows; timed = by_kind (is_go entry) refl }
    where
      follows : FollowsClocks earlier (clocked event entry w made.after)
      follows = decided.1 (p.due.0 refl ∙ due_is)

      by_kind : (t : Bool) → is_go entry ≡ t → IsTimed setup made.after (earlier ++ clocked event entry w made.after ∷ []) after
      by_kind true e =
          let none : MovesItems setup w made.after (maker_of event) None None =
          subst (λ (x : Option ℕ × Option ℕ). MovesItems setup w made.after (maker_of event) x.0 x.1)
          (λ i. ((made.at_go e).0 i, (made.at_go e).1 i)) made.moves in
          level setup w made.after event entry earlier clocks after timed none e follows (p.levels refl e)
      by_kind false e = pass setup w made.after event entry earlier clocks after from to timed made.moves e follows
          (subst (λ (n : ℕ). HasPassed clocks n from to entry.clock after) made.leads.entry_of.maker (p.moves refl e))

module _ (decide : ClocksDecide) (pass : ClocksPass) (level : ClocksLevel) (before : Option JournalEntry) (entry : JournalEntry) (old : Auditor)
    (clocks : Clocks) (new : Auditor) (after : Clocks) (above_it : IsAbove before entry) (from to : Option ℕ) (t : TakesEntry entry old (Made from to) new) where
  pub not_timely : PassesClocks entry from to clocks false after → Replays before entry old clocks (Some Clock) new after
  not_timely p = record {
    setup = t.setup;
    replays = λ w earlier stands timed.
        (above_it, off_time decide pass level old.known.setup entry w earlier clocks timed from to new (t.answers w stands) after p);
    sound = t.sound;
  }

  pub timely : PassesClocks entry from to clocks true after → Replays before entry old clocks None new after
  timely p = record {
    setup = t.setup;
    replays = λ w earlier stands timed.
        (above_it, on_time decide pass level old.known.setup entry w earlier clocks timed from to new (t.answers w stands) after p);
    sound = t.sound;
  }
