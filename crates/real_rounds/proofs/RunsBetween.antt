-- What a net did at a mark, and in a round, is a run of the world, from whichever it was seen as.
use Rattle.std.proofs.Common.{◌≡◌, ◌≢◌, ◌≤◌, ◌<◌, ◌-◌, ◌∙◌, ℕ, zero, suc, Bool, true, false, List, [], ◌∷◌, ◌++◌, ◌==◌}
use Rattle.std.proofs.Common.{if◌then◌else◌, length, map, take, drop, refl, ap, sym, subst, inl, inr, arith, take_at}
use Rattle.std.specs.Prelude.{◌⊎◌, Some}
use Rattle.std.specs.List.{AllByRecursion}
use Rattle.std.proofs.Math.Path.{subst⁻¹}
use Rattle.std.proofs.Math.Seq.{drop-append_seam}
use Rattle.std.proofs.lemmas.Bool.Decides.{nat_tests}
use Rattle.std.proofs.lemmas.List.{length-map}
use Rattle.ring_net.specs.declared.entry.JournalEntry.{JournalEntry}
use Rattle.ring_net.specs.Deeds.{Deed, Noted, IsDeedOf, deeds, noted, entries_of}
use Rattle.ring_net.specs.Phases.{View, NetPhase, Between}
use Rattle.journal_merge.specs.Worlds as worlds
use Rattle.journal_merge.specs.Growth.{Grew, RunsTo}
use Rattle.journal_merge.specs.Laws.{at_mark}
use Rattle.journal_merge.specs.Merges.{IsBefore, AreSorted, Interleaves, entries_by, less_at, upto}
use Rattle.journal_merge.proofs.Orders.{equal_or_not, by_here, by_else, merged_upto}
use Rattle.journal_merge.proofs.Pieces.{phase_grows, level_grows, between_grows, grows_on, merge_runs}
use Rattle.graft_model.specs.Setups.{Setup, IsSetup}
use Rattle.graft_model.specs.Parts.{World}
use Rattle.graft_model.specs.Quiet.{Quiet}
use Rattle.graft_model.specs.Steps.{Event, Run}
use Rattle.graft_laws.specs.Keeps.{Reached}
use Rattle.graft_laws.proofs.Runs.{reached_more, reached_run}
use Rattle.graft_actors.specs.Actors as names
use Rattle.graft_actors.specs.Laws.{IsGo, AreEntriesOf}
use Rattle.graft_actors.proofs.Numbers.{at_operator}
use Rattle.graft_actors.specs.Acts.{OwnPart, acts}
use Rattle.bgp_session.specs.Running.{carried}
use Rattle.world_runs.specs.Marks.{operator_number}
use Rattle.world_runs.specs.Labs.{actors_in, IsLab}
use Rattle.world_runs.specs.Runs.{IsStepOfLab, IsRunOfLab, IsSeenAs, QuietAt}
use Rattle.world_runs.specs.Laws.{IsNoGo, AnActIsAStep, ActsAreARun}
use Rattle.world_nodes.specs.Nodes.{Mail, own, took, turned, paused}
use Rattle.world_nodes.specs.Ways.{Stand, Pause}
use Rattle.world_nodes.specs.declared.node.Node.{Node}
use Rattle.world_nodes.proofs.WayRuns.{round_no_go, pause_few}
use Rattle.real_rounds.proofs.Chain.{run_join}
use Rattle.real_rounds.proofs.Joins.{below_or_past, IsAhead, all_each, merge_join}
use Rattle.real_rounds.proofs.Slices.{entries_in_deeds}

-- ---- entries behind a mark

-- all entries but the first ones of each actor, as many as the mark says
abbrev behind : (ℕ → ℕ) → List JournalEntry → List JournalEntry
behind mark [] = []
behind mark (e ∷ es) = if mark e.actor == 0 then e ∷ behind mark es else behind (less_at mark e.actor) es

kept : (mark : ℕ → ℕ) (e : JournalEntry) (es : List JournalEntry) → mark e.actor ≡ 0 → behind mark (e ∷ es) ≡ e ∷ behind mark es
kept mark e es z = grind (arith, nat_tests)

skipped : (mark : ℕ → ℕ) (e : JournalEntry) (es : List JournalEntry) → mark e.actor ≢ 0 → behind mark (e ∷ es) ≡ behind (less_at mark e.actor) es
skipped mark e es nz = grind (arith, nat_tests)

less_here : (mark : ℕ → ℕ) (m k : ℕ) → m ≡ k → less_at mark m k ≡ mark k - 1
less_here mark m k s = grind (arith, nat_tests)

less_else : (mark : ℕ → ℕ) (m k : ℕ) → m ≢ k → less_at mark m k ≡ mark k
less_else mark m k ne = grind (arith, nat_tests)

drop_nil : {A : Type 0} (n : ℕ) → ◌≡◌ {A = List A} (drop n []) []
drop_nil zero = refl
drop_nil (suc n) = refl

drop_none : {A : Type 0} (n : ℕ) (xs : List A) → n ≡ 0 → drop n xs ≡ xs
drop_none n xs z = rw z refl

drop_one : {A : Type 0} (n : ℕ) (x : A) (xs : List A) → n ≢ 0 → drop n (x ∷ xs) ≡ drop (n - 1) xs
drop_one zero x xs nz = absurd (nz refl)
drop_one (suc n) x xs nz = ap (λ j. drop j xs) (omega arith)

behind_step : (mark : ℕ → ℕ) (e : JournalEntry) (es : List JournalEntry) (k : ℕ) → (mark e.actor ≡ 0) ⊎ (mark e.actor ≢ 0) → (e.actor ≡ k) ⊎ (e.actor ≢ k)
    → entries_by k (behind mark es) ≡ drop (mark k) (entries_by k es)
    → entries_by k (behind (less_at mark e.actor) es) ≡ drop (less_at mark e.actor k) (entries_by k es)
    → entries_by k (behind mark (e ∷ es)) ≡ drop (mark k) (entries_by k (e ∷ es))
behind_step mark e es k (inl z) (inl s) h g =
    let none : mark k ≡ 0 = ap mark (sym s) ∙ z in
    rw (kept mark e es z) (rw (by_here k e es s) (by_here k e (behind mark es) s
    ∙ ap (λ xs. e ∷ xs) (h ∙ drop_none (mark k) (entries_by k es) none) ∙ sym (drop_none (mark k) (e ∷ entries_by k es) none)))
behind_step mark e es k (inl z) (inr ne) h g = rw (kept mark e es z) (rw (by_else k e es ne) (by_else k e (behind mark es) ne ∙ h))
behind_step mark e es k (inr nz) (inl s) h g =
    rw (skipped mark e es nz) (rw (by_here k e es s) (g ∙ ap (λ j. drop j (entries_by k es)) (less_here mark e.actor k s)
    ∙ sym (drop_one (mark k) e (entries_by k es) (λ z. nz (ap mark s ∙ z)))))
behind_step mark e es k (inr nz) (inr ne) h g =
    rw (skipped mark e es nz) (rw (by_else k e es ne) (g ∙ ap (λ j. drop j (entries_by k es)) (less_else mark e.actor k ne)))

by_behind : (mark : ℕ → ℕ) (es : List JournalEntry) (k : ℕ) → entries_by k (behind mark es) ≡ drop (mark k) (entries_by k es)
by_behind mark [] k = sym (drop_nil (mark k))
by_behind mark (e ∷ es) k =
    behind_step mark e es k (equal_or_not (mark e.actor) 0) (equal_or_not e.actor k) (by_behind mark es k) (by_behind (less_at mark e.actor) es k)

one_of : {A : Type 0} (P : A → Type 0) (t : Bool) (x y : A) → P x → P y → P (if t then x else y)
one_of P true x y h k = h
one_of P false x y h k = k

all_behind : (P : JournalEntry → Type 0) (mark : ℕ → ℕ) (es : List JournalEntry) → AllByRecursion P es → AllByRecursion P (behind mark es)
all_behind P mark [] all = tt
all_behind P mark (e ∷ es) all =
    one_of (λ xs. AllByRecursion P xs) (mark e.actor == 0) (e ∷ behind mark es) (behind (less_at mark e.actor) es)
    (all.0, all_behind P mark es all.1) (all_behind P (less_at mark e.actor) es all.1)

sorted_behind : (mark : ℕ → ℕ) (es : List JournalEntry) → AreSorted es → AreSorted (behind mark es)
sorted_behind mark [] sorted = tt
sorted_behind mark (e ∷ es) sorted = one_of (λ xs. AreSorted xs) (mark e.actor == 0) (e ∷ behind mark es) (behind (less_at mark e.actor) es)
    (all_behind (IsBefore e) mark es sorted.0, sorted_behind mark es sorted.1) (sorted_behind (less_at mark e.actor) es sorted.1)

-- what journals got between two moments has a merge, where all that they hold has one
pub merge_between : (journals first new last : ℕ → List JournalEntry) (merged : List JournalEntry) → Interleaves journals merged
    → ((k : ℕ) → journals k ≡ (first k ++ new k) ++ last k) → (es : List JournalEntry) × Interleaves new es
merge_between journals first new last merged merge whole = (
  behind (λ k. length (first k)) (upto (λ k. length (first k ++ new k)) merged),
  record {
    each = λ k. by_behind (λ j. length (first j)) (upto (λ j. length (first j ++ new j)) merged) k
        ∙ ap (λ es. drop (length (first k)) es)
        (ahead.each k ∙ ap (λ es. take (length (first k ++ new k)) es) (whole k) ∙ take_at (first k ++ new k) (last k) (length (first k ++ new k)) refl)
        ∙ drop-append_seam (first k) (new k);
    sorted = sorted_behind (λ k. length (first k)) (upto (λ k. length (first k ++ new k)) merged) ahead.sorted;
  },
)
  where
    ahead : Interleaves (λ k. take (length (first k ++ new k)) (journals k)) (upto (λ k. length (first k ++ new k)) merged)
    ahead = merged_upto journals merged (λ k. length (first k ++ new k)) merge

-- ---- runs from a world that a net is seen as

-- What a net did between two moments, in which its journals got these entries, is a run from
-- this world to one that it is seen as then: its events are those of the merged entries.
pub record RunFrom (setup : Setup) (w : World) (v : View Node Mail) (new : ℕ → List JournalEntry) : Type 0 where
  pub events : List Event
  pub entries : List JournalEntry
  pub merged : Interleaves new entries
  pub entries_of : AreEntriesOf setup events entries
  pub after : World
  pub run : Run setup w events after
  pub seen : IsSeenAs own carried setup v after

-- the same from each world that it was seen as
abbrev pub HasRuns : Setup → View Node Mail → View Node Mail → (ℕ → List JournalEntry) → Type 0
HasRuns setup u v new = (w : World) → length u.actors ≡ actors_in setup → Reached setup w → IsSeenAs own carried setup u w → RunFrom setup w v new

pub stays : (setup : Setup) (v : View Node Mail) → HasRuns setup v v (λ k. [])
stays setup v w size reached seen =
    record { events = []; entries = []; merged = record { each = λ k. refl; sorted = tt }; entries_of = tt; after = w; run = refl; seen = seen }

entries_join : (setup : Setup) (first second : List Event) (xs ys : List JournalEntry) → AreEntriesOf setup first xs → AreEntriesOf setup second ys
    → AreEntriesOf setup (first ++ second) (xs ++ ys)
entries_join setup [] second [] ys are more = more
entries_join setup [] second (x ∷ xs) ys are more = absurd are
entries_join setup (event ∷ first) second [] ys are more = absurd are
entries_join setup (event ∷ first) second (x ∷ xs) ys are more = (are.0, entries_join setup first second xs ys are.1 more)

pub run_then : (setup : Setup) (w : World) (v t : View Node Mail) (first second : ℕ → List JournalEntry) → IsAhead first second
    → (x : RunFrom setup w v first) → RunFrom setup x.after t second → RunFrom setup w t (λ k. first k ++ second k)
run_then setup w v t first second ahead x y = record {
  events = x.events ++ y.events;
  entries = x.entries ++ y.entries;
  merged = merge_join first second x.entries y.entries ahead x.merged y.merged;
  entries_of = entries_join setup x.events y.events x.entries y.entries x.entries_of y.entries_of;
  after = y.after;
  run = run_join setup w x.after y.after x.events y.events x.run y.run;
  seen = y.seen;
}

pub runs_then : (setup : Setup) (u v t : View Node Mail) (first second : ℕ → List JournalEntry) → IsAhead first second
    → length v.actors ≡ length u.actors → HasRuns setup u v first → HasRuns setup v t second → HasRuns setup u t (λ k. first k ++ second k)
runs_then setup u v t first second ahead same x y w size reached seen =
    let before : RunFrom setup w v first = x w size reached seen in
    run_then setup w v t first second ahead before
    (y before.after (same ∙ size) (reached_run setup before.events w before.after reached before.run) before.seen)

-- ---- a piece of what a net did

module _ (setup : Setup) (u v : View Node Mail) (levels : List ℕ) (notes : ℕ → List (Noted Mail))
    (grew : Grew own (acts carried) u v levels notes) (entries : List JournalEntry) (merge : Interleaves (λ k. entries_of (notes k)) entries)
    (w : World) (seen : IsSeenAs own carried setup u w) where
  piece : RunsTo own (acts carried) u seen.lab levels notes entries v
  piece = merge_runs own (acts carried) u v levels notes entries seen.lab grew merge seen.is

  piece_entries : map (λ (d : Deed Mail). d.entry) (deeds piece.events) ≡ entries
  piece_entries = entries_in_deeds piece.events ∙ piece.same

  run_of_piece : IsRunOfLab carried setup w (map (λ (d : Deed Mail). d.entry) (deeds piece.events)) piece.last → RunFrom setup w v (λ k. entries_of (notes k))
  run_of_piece r = record {
    events = r.events;
    entries = entries;
    merged = merge;
    entries_of = subst (AreEntriesOf setup r.events) piece_entries r.entries_of;
    after = r.after;
    run = r.run;
    seen = record { lab = piece.last; is = piece.is; sees = r.lab };
  }

-- ---- a round

-- an entry of one of the actors, that isn't of a Go
abbrev IsInRound : Setup → JournalEntry → Type 0
IsInRound setup e = (e.actor < actors_in setup) × (IsGo e → ⊥)

in_round : (setup : Setup) (k : ℕ) (ds : List (Deed Mail)) → k < actors_in setup → AllByRecursion (IsDeedOf k) ds → AllByRecursion IsNoGo ds
    → AllByRecursion (IsInRound setup) (map (λ (d : Deed Mail). d.entry) ds)
in_round setup k [] l owned none = tt
in_round setup k (d ∷ ds) l owned none = ((omega (arith, l, owned.0), none.0), in_round setup k ds l owned.1 none.1)

deeds_in_round : (setup : Setup) (ds : List (Deed Mail)) → AllByRecursion (IsInRound setup) (map (λ (d : Deed Mail). d.entry) ds)
    → AllByRecursion (λ (d : Deed Mail). d.entry.actor < actors_in setup) ds × AllByRecursion IsNoGo ds
deeds_in_round setup [] all = (tt, tt)
deeds_in_round setup (d ∷ ds) all = let rest = deeds_in_round setup ds all.1 in ((all.0.0, rest.0), (all.0.1, rest.1))

-- what a round did is a run, by the merge of its entries
pub phase_runs : (setup : Setup) → IsSetup setup → ActsAreARun carried
    → (d : Node) (u v : View Node Mail) (phase : NetPhase own (acts carried) took turned u v) (entries : List JournalEntry)
    → Interleaves (λ k. entries_of (phase.notes k)) entries
    → HasRuns setup u v (λ k. entries_of (phase.notes k))
phase_runs setup sound law d u v phase entries merge w size reached seen =
    run_of_piece setup u v [] phase.notes grew entries merge w seen
    (law setup seen.lab done.last (deeds done.events) w sound reached seen.sees alone.0 alone.1 done.run)
  where
    grew : Grew own (acts carried) u v [] phase.notes
    grew = phase_grows own (acts carried) took turned u v phase

    done : RunsTo own (acts carried) u seen.lab [] phase.notes entries v
    done = piece setup u v [] phase.notes grew entries merge w seen

    of_actor : (k : ℕ) → AllByRecursion (IsInRound setup) (entries_of (phase.notes k))
    of_actor k = elim (below_or_past k (length u.actors)) [
      | inl k_in ↦ subst (λ (es : List JournalEntry). AllByRecursion (IsInRound setup) es) (entries_in_deeds (phase.notes k))
          (in_round setup k (deeds (phase.notes k)) (omega (arith, k_in, size)) (grew.own k) (round_no_go k _ _ _ _ (phase.notes k) (phase.actors k d k_in)))
      | inr past ↦ rw (phase.none k past) tt
    ]

    all : AllByRecursion (IsInRound setup) entries
    all = all_each (IsInRound setup) entries (λ k. subst⁻¹ (λ (es : List JournalEntry). AllByRecursion (IsInRound setup) es) (merge.each k) (of_actor k))

    alone : AllByRecursion (λ (x : Deed Mail). x.entry.actor < actors_in setup) (deeds done.events) × AllByRecursion IsNoGo (deeds done.events)
    alone = deeds_in_round setup (deeds done.events)
        (subst⁻¹ (λ (es : List JournalEntry). AllByRecursion (IsInRound setup) es) (piece_entries setup u v [] phase.notes grew entries merge w seen) all)

-- ---- a mark

-- what one actor did at a mark is its own merge
merge_at_mark : (n : ℕ) (ds : List (Deed Mail)) → AllByRecursion (IsDeedOf n) ds → length ds ≤ 1
    → Interleaves (λ k. entries_of (at_mark own (acts carried) n ds k)) (map (λ (d : Deed Mail). d.entry) ds)
merge_at_mark n [] owned few = record { each = λ k. nobody (k == n); sorted = tt }
  where
    nobody : (t : Bool) → ◌≡◌ {A = List JournalEntry} [] (entries_of {I = Mail} (if t then [] else []))
    nobody true = refl
    nobody false = refl
merge_at_mark n (d ∷ []) owned few = record { each = each; sorted = (tt, tt) }
  where
    each : (k : ℕ) → entries_by k (d.entry ∷ []) ≡ entries_of (at_mark own (acts carried) n (d ∷ []) k)
    each k = elim (equal_or_not k n) [
      | inl s ↦ (let here : at_mark own (acts carried) n (d ∷ []) k ≡ noted 0 (d ∷ []) = grind (arith, nat_tests) in
          by_here k d.entry [] (owned.0 ∙ sym s) ∙ ap (λ ns. entries_of ns) (sym here))
      | inr ne ↦
          let none : at_mark own (acts carried) n (d ∷ []) k ≡ [] = grind (arith, nat_tests) in
          by_else k d.entry [] (λ s. ne (sym s ∙ owned.0)) ∙ ap (λ ns. entries_of ns) (sym none)
    ]
merge_at_mark n (d ∷ other ∷ ds) owned few = absurd (omega (arith, few))

entries_own : (n : ℕ) (ds : List (Deed Mail)) → AllByRecursion (IsDeedOf n) ds
    → AllByRecursion (λ (e : JournalEntry). e.actor ≡ n) (map (λ (d : Deed Mail). d.entry) ds)
entries_own n [] owned = tt
entries_own n (d ∷ ds) owned = (owned.0, entries_own n ds owned.1)

-- one deed at most, in a quiet world
few_run : (setup : Setup) → IsSetup setup → AnActIsAStep carried → ActsAreARun carried → (n : ℕ) (x : names.ActorName)
    → names.actor_at setup n ≡ Some x → (lab last : worlds.DeedWorld OwnPart _) (ds : List (Deed Mail)) (w : World) → Reached setup w
    → IsLab carried setup lab w → Quiet setup w → AllByRecursion (λ (e : JournalEntry). e.actor ≡ n) (map (λ (d : Deed Mail). d.entry) ds)
    → length ds ≤ 1 → worlds.DeedRun (acts carried) lab ds last
    → IsRunOfLab carried setup w (map (λ (d : Deed Mail). d.entry) ds) last
few_run setup sound step law n x is lab last [] w reached is_lab quiet owned few run = law setup lab last [] w sound reached is_lab tt tt run
few_run setup sound step law n x is lab last (d ∷ []) w reached is_lab quiet owned few (mid, made, same) =
    let s : IsStepOfLab carried setup w d.entry mid =
    step setup lab mid d w x sound reached is_lab (ap (names.actor_at setup) owned.0 ∙ is) made (λ go. quiet) in
    let r : IsRunOfLab carried setup s.after [] last =
    law setup mid last [] s.after sound (reached_more setup s.event w s.after reached s.step) s.lab tt tt same in
    record { events = s.event ∷ r.events; entries_of = (s.entry_of, r.entries_of); after = r.after; run = (s.after, s.step, r.run); lab = r.lab }
few_run setup sound step law n x is lab last (d ∷ other ∷ ds) w reached is_lab quiet owned few run = absurd (omega (arith, few))

-- at a mark all clocks are level, and then at that of what the operator did
abbrev pub pause_levels : (setup : Setup) (b c : Stand) → Pause (operator_number setup) b c true → List ℕ
pause_levels setup b c pause = pause.levelled.clock ∷ pause.between.from ∷ pause.between.to ∷ []

abbrev pub pause_notes : (setup : Setup) (b c : Stand) → Pause (operator_number setup) b c true → ℕ → List (Noted Mail)
pause_notes setup b c pause = at_mark own (acts carried) (operator_number setup) pause.between.deeds

pub pause_grew : (setup : Setup) (b c : Stand) (pause : Pause (operator_number setup) b c true) → length b.view.actors ≡ actors_in setup
    → Grew own (acts carried) b.view c.view (pause_levels setup b c pause) (pause_notes setup b c pause)
pause_grew setup b c pause size = grows_on own (acts carried) b.view pause.level c.view (pause.levelled.clock ∷ [])
    (pause.between.from ∷ pause.between.to ∷ []) (λ k. []) (pause_notes setup b c pause)
    (level_grows own (acts carried) b.view pause.level pause.levelled)
    (between_grows own (acts carried) paused pause.level c.view (operator_number setup) true
    (omega (arith, size, ap (λ (xs : List Node). length xs) pause.levelled.only.actors)) pause.between)

-- what the operator did at a mark, in a quiet world, is a run
pub pause_runs : (setup : Setup) → IsSetup setup → AnActIsAStep carried → ActsAreARun carried → (d : Node) (b c : Stand)
    → QuietAt own carried setup b.view → (pause : Pause (operator_number setup) b c true)
    → HasRuns setup b.view c.view (λ k. entries_of (pause_notes setup b c pause k))
pause_runs setup sound step law d b c quiet pause w size reached seen =
    run_of_piece setup b.view c.view levels notes grew entries merge w seen
    (few_run setup sound step law (operator_number setup) names.Operator
    (at_operator setup) seen.lab done.last (deeds done.events) w reached seen.sees (quiet w seen reached)
    (subst⁻¹ (λ (es : List JournalEntry). AllByRecursion (λ (e : JournalEntry). e.actor ≡ operator_number setup) es) same
    (entries_own (operator_number setup) did.deeds did.own))
    (omega (
      arith,
      few,
      ap (λ (es : List JournalEntry). length es) same,
      length-map (deeds done.events) (λ (x : Deed Mail). x.entry),
      length-map did.deeds (λ (x : Deed Mail). x.entry),
    )) done.run)
  where
    did : Between own (acts carried) paused (operator_number setup) pause.level c.view true
    did = pause.between

    levels : List ℕ
    levels = pause_levels setup b c pause

    notes : ℕ → List (Noted Mail)
    notes = pause_notes setup b c pause

    entries : List JournalEntry
    entries = map (λ (x : Deed Mail). x.entry) did.deeds

    few : length did.deeds ≤ 1
    few = pause_few _ _ did.deeds (did.paused d)

    grew : Grew own (acts carried) b.view c.view levels notes
    grew = pause_grew setup b c pause size

    merge : Interleaves (λ k. entries_of (notes k)) entries
    merge = merge_at_mark (operator_number setup) did.deeds did.own few

    done : RunsTo own (acts carried) b.view seen.lab levels notes entries c.view
    done = piece setup b.view c.view levels notes grew entries merge w seen

    same : map (λ (x : Deed Mail). x.entry) (deeds done.events) ≡ entries
    same = piece_entries setup b.view c.view levels notes grew entries merge w seen
