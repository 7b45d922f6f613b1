-- What actors of a laboratory do one after another is a run of the world.
use Rattle.std.proofs.Common.{◌≡◌, ◌≢◌, ℕ, ◌<◌, ◌≤◌, ◌+◌, ◌-◌, List, [], ◌∷◌, ◌++◌, Some, map, refl, sym, ap, ◌∙◌, subst, inl, inr, arith}
use Rattle.std.specs.Prelude.{◌⊎◌}
use Rattle.std.specs.List.{AllByRecursion}
use Rattle.std.proofs.lemmas.Bool.Decides.{nat_tests}
use Rattle.ring_net.specs.declared.entry.JournalEntry.{JournalEntry}
use Rattle.ring_net.specs.Deeds.{Deed}
use Rattle.journal_merge.specs.Worlds as worlds
use Rattle.graft_steps.specs.declared.item.Item.{Item}
use Rattle.session_value.specs.Sessions.{SessionValue}
use Rattle.graft_model.specs.declared.event.ActorEvent.{ActorEvent}
use Rattle.graft_model.specs.declared.event.ActorEvent.TheVariants.{OfRouter, OfFar, OfOperator}
use Rattle.graft_model.specs.Codes.{actor_code}
use Rattle.graft_model.specs.Setups.{Setup, IsSetup, routers_in, peerings_in}
use Rattle.graft_model.specs.Parts.{World}
use Rattle.graft_model.specs.Steps.{Event, ByRouter, ByFar, ByOperator, Run}
use Rattle.graft_laws.specs.Keeps.{Reached}
use Rattle.graft_laws.proofs.Runs.{reached_more}
use Rattle.graft_actors.specs.Actors.{ActorName, Router, FarSide, Operator, actor_at}
use Rattle.graft_actors.specs.Laws.{AreEntriesOf, code_of}
use Rattle.graft_actors.specs.Items.{thing_of}
use Rattle.graft_actors.specs.Acts.{OwnPart, acts}
use Rattle.world_runs.specs.Labs.{actors_in, AllMayGo, IsLab}
use Rattle.world_runs.specs.Runs.{IsStepOfLab, IsRunOfLab}
use Rattle.world_runs.specs.Laws.{IsNoGo, AnActIsAStep}

-- ---- runs of the world

pub run_join : (setup : Setup) (front back : List Event) (w m v : World) → Run setup w front m → Run setup m back v → Run setup w (front ++ back) v
run_join setup [] back w m v is second = subst (λ (u : World). Run setup u back v) is second
run_join setup (event ∷ front) back w m v (u, step, first) second = (u, step, run_join setup front back u m v first second)

pub run_cut : (setup : Setup) (front back : List Event) (w v : World) → Run setup w (front ++ back) v → (m : World) × Run setup w front m × Run setup m back v
run_cut setup [] back w v run = (w, refl, run)
run_cut setup (event ∷ front) back w v (u, step, run) = let h = run_cut setup front back u v run in (h.0, (u, step, h.1), h.2)

pub entries_join : (setup : Setup) (front back : List Event) (xs ys : List JournalEntry) → AreEntriesOf setup front xs → AreEntriesOf setup back ys
    → AreEntriesOf setup (front ++ back) (xs ++ ys)
entries_join setup [] back [] ys first second = second
entries_join setup [] back (x ∷ xs) ys first second = absurd first
entries_join setup (event ∷ front) back [] ys first second = absurd first
entries_join setup (event ∷ front) back (x ∷ xs) ys first second = (first.0, entries_join setup front back xs ys first.1 second)

-- no event's entry is that of a dropped item
kind_above : ((event : ActorEvent) → 0 < (actor_code event).kind) → (event : Event) → (code_of event).kind ≢ 0
kind_above above (ByRouter r event) e = let l = above (OfRouter event) in omega (arith, e, l)
kind_above above (ByFar p event) e = let l = above (OfFar event) in omega (arith, e, l)
kind_above above (ByOperator event) e = let l = above (OfOperator event) in omega (arith, e, l)

module _ (above : (event : ActorEvent) → 0 < (actor_code event).kind) where
  pub none_dropped : (setup : Setup) (events : List Event) (entries : List JournalEntry) → AreEntriesOf setup events entries
      → AllByRecursion (λ (e : JournalEntry). e.kind ≢ 0) entries
  none_dropped setup [] [] are = tt
  none_dropped setup [] (entry ∷ entries) are = absurd are
  none_dropped setup (event ∷ events) [] are = absurd are
  none_dropped setup (event ∷ events) (entry ∷ entries) are = (λ e. kind_above above event (sym are.0.coded.kind ∙ e), none_dropped setup events entries are.1)

-- ---- actors

pub actor_below : (setup : Setup) (n : ℕ) → n < actors_in setup → (x : ActorName) × (actor_at setup n ≡ Some x)
actor_below setup n below = elim (where_is (routers_in setup) (peerings_in setup) n below) [
  | inl l ↦ (Router n, grind (arith, nat_tests))
  | inr (inl h) ↦ (FarSide (n - routers_in setup), grind (arith, nat_tests))
  | inr (inr e) ↦ (Operator, grind (arith, nat_tests))
]
  where
    where_is : (k m n : ℕ) → n < k + m + 1 → (n < k) ⊎ (((k ≤ n) × (n < k + m)) ⊎ (n ≡ k + m))
    where_is k m n l = grind arith

-- ---- runs of the laboratory

pub same_lab : {C : Type 0} (session : C → SessionValue) (setup : Setup) (lab last : worlds.DeedWorld OwnPart (Item C)) (w : World)
    → worlds.SameWorld lab last → IsLab session setup lab w → IsLab session setup last w
same_lab {C} session setup lab last w same is_lab = record {
  setups = λ n x e. ap (λ (own : OwnPart). own.setup) (same.parts n) ∙ is_lab.setups n x e;
  names = λ n x e. ap (λ (own : OwnPart). own.name) (same.parts n) ∙ is_lab.names n x e;
  fits = λ a b. subst (AllMayGo session setup (actor_at setup a) (actor_at setup b)) (sym (same.channels a b)) (is_lab.fits a b);
  sees = record {
    parts = λ n x e. ap (λ (own : OwnPart). own.part) (same.parts n) ∙ is_lab.sees.parts n x e;
    channels = λ a b. ap (map (thing_of session setup)) (same.channels a b) ∙ is_lab.sees.channels a b;
    within = is_lab.sees.within;
  };
}

module _ {C : Type 0} (session : C → SessionValue) (act_is_a_step : AnActIsAStep session) (setup : Setup) (sound : IsSetup setup) where
  pub acts_run : (lab last : worlds.DeedWorld OwnPart (Item C)) (deeds : List (Deed (Item C))) (w : World) → Reached setup w
      → IsLab session setup lab w → AllByRecursion (λ (d : Deed (Item C)). d.entry.actor < actors_in setup) deeds
      → AllByRecursion IsNoGo deeds → worlds.DeedRun (acts session) lab deeds last
      → IsRunOfLab session setup w (map (λ (d : Deed (Item C)). d.entry) deeds) last
  acts_run lab last [] w reached is_lab below no_go same =
      record { events = []; entries_of = tt; after = w; run = refl; lab = same_lab session setup lab last w same is_lab }
  acts_run lab last (deed ∷ deeds) w reached is_lab below no_go (mid, step, run) =
      let x = actor_below setup deed.entry.actor below.0 in
      let s : IsStepOfLab session setup w deed.entry mid = act_is_a_step setup lab mid deed w x.0 sound reached is_lab x.1 step (λ go. absurd (no_go.0 go)) in
      let r : IsRunOfLab session setup s.after (map (λ (d : Deed (Item C)). d.entry) deeds) last =
      acts_run mid last deeds s.after (reached_more setup s.event w s.after reached s.step) s.lab below.1 no_go.1 run in
      record { events = s.event ∷ r.events; entries_of = (s.entry_of, r.entries_of); after = r.after; run = (s.after, s.step, r.run); lab = r.lab }
