-- The Ticks of a session that is live at a mark have the numbers of rounds before it.
use Rattle.std.proofs.Common.{◌≡◌, ◌≤◌, ◌<◌, ◌+◌, ◌∙◌, ℕ, zero, suc, Bool, true, false, List, [], ◌∷◌, ◌++◌, refl, ap, sym, subst, arith, if◌then◌else◌}
use Rattle.std.specs.Prelude.{◌==◌}
use Rattle.std.specs.List.{AllByRecursion}
use Rattle.std.proofs.Math.Path.{subst⁻¹}
use Rattle.std.proofs.lemmas.Bool.Decides.{nat_tests}
use Rattle.link_bag.specs.declared.plan.Fault.{Fault}
use Rattle.ring_net.specs.declared.entry.JournalEntry.{JournalEntry}
use Rattle.ring_net.specs.Deeds.{Deed, entries_of}
use Rattle.ring_net.specs.Phases.{View}
use Rattle.ring_net.proofs.Replays.{all-append}
use Rattle.journal_merge.specs.Merges.{Interleaves, entries_by, upto}
use Rattle.graft_model.specs.Codes.{router_code}
use Rattle.graft_model.specs.First.{first_world}
use Rattle.graft_model.specs.Setups.{Setup, routers_in}
use Rattle.graft_model.specs.declared.event.RouterEvent.{RouterEvent}
use Rattle.graft_model.specs.declared.event.RouterEvent.TheVariants.{Tick}
use Rattle.graft_model.specs.Steps.{Event, ByRouter, ByFar, ByOperator}
use Rattle.graft_actors.specs.Laws.{IsEntryOf, AreEntriesOf}
use Rattle.bgp_session.specs.Running.{carried}
use Rattle.router_core.specs.Turned.{round_on, rounds_on}
use Rattle.world_runs.specs.Marks.{before, MarksStandForWorlds}
use Rattle.world_runs.proofs.Marks.{up_to_mark}
use Rattle.world_runs.specs.Runs.{Ran}
use Rattle.world_runs.specs.Laws.{NothingWasDropped}
use Rattle.world_nodes.specs.Fresh.{IsFresh}
use Rattle.world_nodes.specs.Nodes.{Mail, own}
use Rattle.world_nodes.specs.Ways.{Stand, IsFirstStand}
use Rattle.world_nodes.specs.declared.node.Node.{Node}
use Rattle.real_rounds.proofs.Calls.{CallsSay}
use Rattle.real_rounds.proofs.Leading as leading
use Rattle.real_rounds.proofs.Leading.{next_is}
use Rattle.real_rounds.proofs.LegActors as actors
use Rattle.real_rounds.proofs.LegActors.{TicksAreEarlier}
use Rattle.real_rounds.proofs.Legs.{Legs}
use Rattle.real_rounds.proofs.RouterRounds as router_proofs
use Rattle.real_rounds.proofs.Lists.{all_back}
use Rattle.real_rounds.proofs.Slices.{entries_in_deeds}
use Rattle.real_rounds.proofs.TickLaws.{EarlyPlace, NotLate, NotLateEvent, early_run, early_first}
use Rattle.graft_actors.specs.Makes.{AreCoded, AreDeeds}

-- ---- entries

-- if it is that of a Tick, the Tick has a number below this one
abbrev TickBelow : ℕ → JournalEntry → Type 0
TickBelow n entry = entry.kind ≡ (router_code (Tick 0 0)).kind → entry.b < n

abbrev IsTick : RouterEvent → Type 0
IsTick event = (p : ℕ) × (round : ℕ) × (event ≡ Tick p round)

tick_of : (event : RouterEvent) → (router_code event).kind ≡ (router_code (Tick 0 0)).kind → IsTick event
tick_of (Tick p round) e = (p, round, refl)
tick_of _ e = absurd (omega (arith, e))

itself : (n : ℕ) → (n == n) ≡ true
itself n = grind (arith, nat_tests)

first_is : (m p round : ℕ) (rest : List ℕ) → AllByRecursion (λ i. i ≡ m) (round_on p (Tick p round) ++ rest) → round ≡ m
first_is m p round rest all =
    (subst (λ (xs : List ℕ). AllByRecursion (λ i. i ≡ m) (xs ++ rest)) (let h : round_on p (Tick p round) ≡ round ∷ [] = rw (itself p) refl in h) all).0

coded_below : (m : ℕ) (events : List RouterEvent) (entries : List JournalEntry) → AreCoded router_code events entries
    → ((p : ℕ) → AllByRecursion (λ i. i ≡ m) (rounds_on p events)) → AllByRecursion (TickBelow (m + 1)) entries
coded_below m [] [] coded all = tt
coded_below m [] (x ∷ xs) coded all = absurd coded
coded_below m (e ∷ es) [] coded all = absurd coded
coded_below m (e ∷ es) (x ∷ xs) coded all = (
  λ kind. (
      let tick = tick_of e (sym coded.0.kind ∙ kind) in
      let b_is : x.b ≡ tick.1 = coded.0.b ∙ ap (λ (event : RouterEvent). (router_code event).b) tick.2 in
      let m_is : tick.1 ≡ m = first_is m tick.0 tick.1 (rounds_on tick.0 es)
      (subst (λ (event : RouterEvent). AllByRecursion (λ i. i ≡ m) (round_on tick.0 event ++ rounds_on tick.0 es)) tick.2 (all tick.0)) in
      omega (arith, b_is, m_is)),
  coded_below m es xs coded.1 (λ p. all_back (λ i. i ≡ m) (round_on p e) (rounds_on p es) (all p)),
)

below_more : (m n : ℕ) (entries : List JournalEntry) → m ≤ n → AllByRecursion (TickBelow m) entries → AllByRecursion (TickBelow n) entries
below_more m n [] le all = tt
below_more m n (x ∷ xs) le all = (λ kind. (let h : x.b < m = all.0 kind in omega (arith, h, le)), below_more m n xs le all.1)

-- what holds of each router's entries holds of the merged ones
merged_all : (P : JournalEntry → Type 0) (routers : ℕ) (merged : List JournalEntry)
    → ((r : ℕ) → r < routers → AllByRecursion P (entries_by r merged)) → AllByRecursion (λ e. e.actor < routers → P e) merged
merged_all P routers [] each = tt
merged_all P routers (x ∷ xs) each = (
  λ there. (subst (λ (es : List JournalEntry). AllByRecursion P es)
      (let h : entries_by x.actor (x ∷ xs) ≡ x ∷ entries_by x.actor xs = rw (itself x.actor) refl in h) (each x.actor there)).0,
  merged_all P routers xs (λ r r_in. rest (x.actor == r) (entries_by r xs) (each r r_in)),
)
  where
    rest : (b : Bool) (es : List JournalEntry) → AllByRecursion P (if b then x ∷ es else es) → AllByRecursion P es
    rest true es all = all.1
    rest false es all = all

not_late : (n : ℕ) (event : RouterEvent) → ((p round : ℕ) → event ≡ Tick p round → round < n) → NotLate n event
not_late n (Tick p round) h = h p round refl
not_late n _ h = tt

event_not_late : (setup : Setup) (n : ℕ) (event : Event) (entry : JournalEntry) → IsEntryOf setup event entry
    → (entry.actor < routers_in setup → TickBelow n entry) → NotLateEvent n event
event_not_late setup n (ByRouter r event) entry is below = not_late n event (λ p round e. (
    let kind : entry.kind ≡ (router_code (Tick 0 0)).kind = is.coded.kind ∙ ap (λ (x : RouterEvent). (router_code x).kind) e in
    let b_is : entry.b ≡ round = is.coded.b ∙ ap (λ (x : RouterEvent). (router_code x).b) e in
    let l : entry.b < n = below (let r_in = is.there in let maker = is.maker in omega (arith, r_in, maker)) kind in
    omega (arith, l, b_is)))
event_not_late setup n (ByFar p event) entry is below = tt
event_not_late setup n (ByOperator event) entry is below = tt

events_not_late : (setup : Setup) (n : ℕ) (events : List Event) (entries : List JournalEntry) → AreEntriesOf setup events entries
    → AllByRecursion (λ e. e.actor < routers_in setup → TickBelow n e) entries → AllByRecursion (NotLateEvent n) events
events_not_late setup n [] [] are all = tt
events_not_late setup n [] (x ∷ xs) are all = absurd are
events_not_late setup n (e ∷ es) [] are all = absurd are
events_not_late setup n (e ∷ es) (x ∷ xs) are all = (event_not_late setup n e x are.0 all.0, events_not_late setup n es xs are.1 all.1)

-- ---- at a mark

module _ (law : CallsSay) (setup : Setup) (faults : List Fault) (a b : Stand)
    (begins : IsFirstStand setup a) (fresh : AllByRecursion (IsFresh setup faults) begins.actors) (d : Node)
    (d_fresh : IsFresh setup faults d) (legs : Legs setup a b) (journal : List JournalEntry)
    (merge : Interleaves b.view.journal journal) (b_ran : Ran own carried setup b.view) (worlds : MarksStandForWorlds own carried)
    (dropped : NothingWasDropped) where
  ticks_below : (k : ℕ) → k ≤ legs.made → (r : ℕ) → r < routers_in setup → AllByRecursion (TickBelow (k + 1)) ((legs.at k).journal r)
  ticks_below zero k_in r r_in = subst⁻¹ (λ (es : List JournalEntry). AllByRecursion (TickBelow (0 + 1)) es)
      (ap (λ (v : View Node Mail). v.journal r) legs.first ∙ begins.new.journals r) tt
  ticks_below (suc k) k_in r r_in =
      let in_leg : k < legs.made = omega (arith, k_in) in
      let (x, x_is) = actors.router_at law setup faults a b begins fresh d d_fresh legs journal merge b_ran worlds dropped k (omega (arith, k_in)) r r_in in
      let (c, c_is, ph) = actors.router_leg law setup faults a b begins fresh d d_fresh legs journal merge b_ran worlds dropped k in_leg r r_in x x_is in
      let at = actors.router_level law setup faults a b begins fresh d d_fresh legs journal merge b_ran worlds dropped k (omega (arith, k_in)) r r_in x x_is in
      let events : List RouterEvent = ph.takes.events ++ (ph.turns.again ++ ph.turns.work) in
      let coded : AreCoded router_code events (entries_of ((legs.phase k in_leg).notes r)) =
      subst (λ (es : List JournalEntry). AreCoded router_code events es) (entries_in_deeds ((legs.phase k in_leg).notes r))
      (subst⁻¹ (λ (ds : List (Deed Mail)). AreDeeds router_code events ds) ph.split
      (router_proofs.router_coded law.turns x.fields ph.mid c.fields ph.first ph.second ph.takes ph.turns ph.calm k at)) in
      let new : AllByRecursion (TickBelow ((k + 1) + 1)) (entries_of ((legs.phase k in_leg).notes r)) =
      coded_below (k + 1) events (entries_of ((legs.phase k in_leg).notes r)) coded
      (router_proofs.all_numbered law.turns x.fields ph.mid c.fields ph.first ph.second ph.takes ph.turns ph.calm k at) in
      let old : AllByRecursion (TickBelow ((k + 1) + 1)) ((legs.from k).journal r) =
      subst⁻¹ (λ (es : List JournalEntry). AllByRecursion (TickBelow ((k + 1) + 1)) es)
      ((legs.pause k in_leg).journals r (λ e. absurd (omega (arith, r_in, e))))
      (below_more (k + 1) ((k + 1) + 1) ((legs.at k).journal r) (omega arith) (ticks_below k (omega (arith, k_in)) r r_in)) in
      subst (λ (i : ℕ). AllByRecursion (TickBelow (i + 1)) ((legs.at i).journal r)) (next_is k)
      (subst⁻¹ (λ (es : List JournalEntry). AllByRecursion (TickBelow ((k + 1) + 1)) es) ((legs.phase k in_leg).journals r)
      (all-append (TickBelow ((k + 1) + 1)) ((legs.from k).journal r) (entries_of ((legs.phase k in_leg).notes r)) old new))

  pub ticks_earlier : TicksAreEarlier law setup faults a b begins fresh d d_fresh legs journal merge b_ran worlds dropped
  ticks_earlier k k_in r p s o is =
      let here = leading.world_at setup a b begins legs journal merge b_ran worlds dropped k in
      let cut : Interleaves (legs.at k).journal (upto (before (legs.mark k)) journal) =
      up_to_mark (legs.at k) b.view (legs.mark k) journal (legs.is_mark k) merge in
      let all = merged_all (TickBelow (k + 1)) (routers_in setup) (upto (before (legs.mark k)) journal)
      (λ q q_in. subst⁻¹ (λ (es : List JournalEntry). AllByRecursion (TickBelow (k + 1)) es) (cut.each q) (ticks_below k k_in q q_in)) in
      let early = early_run (k + 1) setup here.1.events (first_world setup) here.0 here.1.run
      (events_not_late setup (k + 1) here.1.events (upto (before (legs.mark k)) journal) here.1.entries_of all) (early_first (k + 1) setup) in
      subst (EarlyPlace (k + 1)) is (early.places r p)
