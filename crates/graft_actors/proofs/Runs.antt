-- A run of a net is a run of the world.
use Rattle.std.proofs.Common.{◌≡◌, ℕ, List, [], ◌∷◌, map, refl, sym, ap, ◌∙◌, subst}
use Rattle.std.specs.List.{AllByRecursion}
use Rattle.ring_net.specs.declared.entry.JournalEntry.{JournalEntry}
use Rattle.ring_net.specs.Deeds.{Deed, Noted, entries_of}
use Rattle.ring_net.specs.Phases.{View}
use Rattle.journal_merge.specs.Worlds as worlds
use Rattle.journal_merge.specs.Growth.{RunsTo}
use Rattle.graft_model.specs.Setups.{Setup}
use Rattle.graft_model.specs.Parts.{World}
use Rattle.graft_actors.specs.Actors.{ActorPart, Thing}
use Rattle.graft_actors.specs.Makes.{makes}
use Rattle.graft_actors.specs.Seen.{Net, Sees, SeesView}
use Rattle.graft_actors.specs.Laws.{IsGo, IsStepOf, IsRunOf, QuietAtGo, RunsOn}
use Rattle.graft_actors.proofs.Steps.{event_step}

pub run_seen : (setup : Setup) (net last : Net) (deeds : List (Deed Thing)) (w : World) → Sees setup net w
    → (run : worlds.DeedRun (makes setup) net deeds last) → QuietAtGo setup net last deeds run
    → IsRunOf setup w (map (λ d. d.entry) deeds) last
run_seen setup net last [] w sees run quiet = record {
  events = [];
  entries_of = tt;
  after = w;
  run = refl;
  sees = record { parts = λ n x e. run.parts n ∙ sees.parts n x e; channels = λ a b. run.channels a b ∙ sees.channels a b; within = sees.within };
}
run_seen setup net last (deed ∷ deeds) w sees run quiet =
    let s : IsStepOf setup w deed.entry run.0 = event_step setup net run.0 deed w sees run.1 (λ go. quiet.0 go w sees) in
    let o : IsRunOf setup s.after (map (λ d. d.entry) deeds) last = run_seen setup run.0 last deeds s.after s.sees run.2 quiet.1 in
    record { events = s.event ∷ o.events; entries_of = (s.entry_of, o.entries_of); after = o.after; run = (s.after, s.step, o.run); sees = o.sees }

-- a run without a Go asks nothing
quiet_without : (setup : Setup) (net last : Net) (deeds : List (Deed Thing)) (run : worlds.DeedRun (makes setup) net deeds last)
    → AllByRecursion (λ e. IsGo e → ⊥) (map (λ d. d.entry) deeds) → QuietAtGo setup net last deeds run
quiet_without setup net last [] run none = tt
quiet_without setup net last (deed ∷ deeds) run none = (λ go w sees. absurd (none.0 go), quiet_without setup run.0 last deeds run.2 none.1)

entries_same : (notes : List (Noted Thing)) → map (λ (d : Deed Thing). d.entry) (map (λ (n : Noted Thing). n.deed) notes) ≡ entries_of notes
entries_same [] = refl
entries_same (n ∷ notes) = ap (λ es. n.deed.entry ∷ es) (entries_same notes)

module _ {A : Type 0} (part : A → ActorPart) (setup : Setup) (u v : View A Thing) (levels : List ℕ)
    (notes : ℕ → List (Noted Thing)) (entries : List JournalEntry) (w : World) (seen : SeesView part setup u w)
    (runs : RunsTo part (makes setup) u seen.net levels notes entries v) where
  same : map (λ (d : Deed Thing). d.entry) (map (λ (n : Noted Thing). n.deed) runs.events) ≡ entries
  same = entries_same runs.events ∙ runs.same

  pub journal_runs : QuietAtGo setup seen.net runs.last (map (λ n. n.deed) runs.events) runs.run → RunsOn part setup w entries v
  journal_runs quiet =
      let o : IsRunOf setup w entries runs.last = subst (λ (es : List JournalEntry). IsRunOf setup w es runs.last) same
      (run_seen setup seen.net runs.last (map (λ n. n.deed) runs.events) w seen.sees runs.run quiet) in
      record { events = o.events; entries_of = o.entries_of; after = o.after; run = o.run; sees = record { net = runs.last; is = runs.is; sees = o.sees } }

  pub group_runs : AllByRecursion (λ e. IsGo e → ⊥) entries → RunsOn part setup w entries v
  group_runs none = journal_runs (quiet_without setup seen.net runs.last (map (λ n. n.deed) runs.events) runs.run
      (subst (λ (es : List JournalEntry). AllByRecursion (λ e. IsGo e → ⊥) es) (sym same) none))
