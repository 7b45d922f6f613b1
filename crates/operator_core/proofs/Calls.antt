-- What a whole turn does.
use Rattle.std.proofs.Common.{◌≡◌, ℕ, suc, ◌+◌, ◌-◌, ◌<◌, ◌≤◌, false, List, ◌∷◌, ◌++◌, length, take, drop, filter, Some, None, refl, sym, ap, ◌∙◌, subst, arith}
use Rattle.std.specs.Prelude.{slice_get, not}
use Rattle.std.specs.List.{AllByRecursion}
use Rattle.session_value.specs.Sessions.{SessionValue}
use Rattle.ring_net.specs.declared.post.Post.{Post}
use Rattle.ring_net.specs.Deeds.{Deed, Replay, TakesNone}
use Rattle.ring_net.specs.Posts.{actor_of, Wrote, SameEdges}
use Rattle.ring_net.proofs.Replays.{all-append, replay-append}
use Rattle.ring_net.proofs.PostLaws.{wrote_then}
use Rattle.ring_net.proofs.TakesEach.{same_edges_then}
use Rattle.graft_steps.specs.declared.item.Item.{Item}
use Rattle.graft_model.specs.Setups.{Setup, peerings_in}
use Rattle.graft_model.specs.declared.event.OperatorEvent.TheVariants.{Order}
use Rattle.graft_model.specs.Steps.{operator_row}
use Rattle.graft_actors.specs.Laws.{IsGo}
use Rattle.graft_actors.specs.Acts.{acts}
use Rattle.operator_state.specs.declared.grafts.Slot.TheVariants.{Made}
use Rattle.operator_state.specs.declared.groups.Task.{Task}
use Rattle.operator_core.specs.declared.progress.Progress.{Progress}
use Rattle.actor_configs.specs.declared.script.ScriptStep.TheVariants.{Settle}
use Rattle.actor_configs.specs.Scripts.{IsScriptOf}
use Rattle.operator_state.specs.Groups.{AreNumbers}
use Rattle.operator_state.specs.Tasks.{unissued}
use Rattle.operator_state.specs.States.{State, part_of_state}
use Rattle.operator_state.specs.Keeps.{IsWaitingTask, OperatorInvariant}
use Rattle.operator_state.specs.Issues.{IsGraftHeldUp, waiting_are}
use Rattle.operator_core.specs.Turns.{BeginNoGroup}
use Rattle.operator_core.specs.Progresses.{progress_state, own_part_of, IsKnown, HaveSeats, SameScript, HeldUpTo, VisitsTask, Turns}
use Rattle.operator_state.proofs.Lists.{all_append_right}
use Rattle.operator_state.proofs.SlotLaws.{graft_there, owner, peering_there}
use Rattle.operator_state.proofs.Tasks.{split_at, all_taken, kept_alike}
use Rattle.operator_state.proofs.Steps.{as_many_steps}
use Rattle.operator_core.proofs.Visits.{same_then}
use Rattle.operator_state.proofs.Rests.{nothing_to_order}

-- what is known of one progress is known of another with the same script
pub known_still : (old new : Progress) → SameScript old new → IsKnown old → IsKnown new
known_still old new same known = record {
  script = subst (λ (s : Setup). IsScriptOf s new.script) (sym (ap (λ k. k.setup) same.known))
      (subst (λ x. IsScriptOf old.known.setup x) (sym same.script) known.script);
  numbers = subst (λ x. AreNumbers (length x.starts) x.steps new.numbers) (sym same.script)
      (subst (λ ns. AreNumbers (length old.script.starts) old.script.steps ns) (sym same.numbers) known.numbers);
  few = subst (λ x. length x.rooms ≤ 256) (sym same.script) known.few;
  peerings = subst (λ x. length x.starts ≤ 256) (sym same.script) known.peerings;
  short = subst (λ x. length x.steps ≤ 4097) (sym same.script) known.short;
  ended = subst (λ x. slice_get x.steps (length x.steps - 1) ≡ Some Settle) (sym same.script) known.ended;
}

-- ---- what a visit asks

pub have_seats : (p : Progress) → OperatorInvariant (progress_state p) → HaveSeats p
have_seats p keeps index entry e =
    let own = owner p.known.setup p.group (progress_state p).waiting p.slots.items keeps.slots index (Made entry) e in
    let there : own.graft.peering < peerings_in p.known.setup =
    peering_there p.known.setup keeps.sound own.graft (graft_there p.known.setup index own.graft own.index) in
    let names : entry.peering.0 ≡ own.graft.peering = (own.is.fits.made entry refl).peering in
    let all : length p.seats.items ≡ peerings_in p.known.setup = keeps.seats.all in
    omega arith

-- ---- a turn, task by task

pub record Turning {C : Type 0} (start : Progress) (before : Post (Item C)) (index : ℕ) (now : Progress) (after : Post (Item C)) : Type 0 where
  pub deeds : List (Deed (Item C))
  pub wrote : Wrote before deeds after
  pub none : AllByRecursion TakesNone deeds
  pub no_go : BeginNoGroup deeds
  pub same : SameScript start now
  pub as_many : length now.tasks.items ≡ length start.tasks.items
  pub keeps : OperatorInvariant (progress_state now)
  pub held : HeldUpTo now index
  pub replay : (session : C → SessionValue)
      → Replay (acts session) (actor_of before) (own_part_of (progress_state start)) deeds (own_part_of (progress_state now))

module _ {C : Type 0} where
  pub turning_on : (start mid now : Progress) (before between after : Post (Item C)) (index : ℕ) → IsKnown start
      → Turning start before index mid between → VisitsTask mid index between now after → Turning start before (index + 1) now after
  turning_on start mid now before between after index known t v =
      let known_mid : IsKnown mid = known_still start mid t.same known in
      record {
        deeds = t.deeds ++ v.deeds;
        wrote = wrote_then before between after t.deeds v.deeds t.wrote v.wrote;
        none = all-append TakesNone t.deeds v.deeds t.none v.none;
        no_go = all-append (λ (d : Deed (Item C)). IsGo d.entry → ⊥) t.deeds v.deeds t.no_go v.no_go;
        same = same_then start mid now t.same v.same;
        as_many = v.as_many ∙ t.as_many;
        keeps = v.keeps known_mid t.keeps t.held;
        held = v.held known_mid t.keeps t.held;
        replay = λ session. replay-append (acts session) (actor_of before) (own_part_of (progress_state start))
            (own_part_of (progress_state mid)) (own_part_of (progress_state now)) t.deeds v.deeds
            (t.replay session) (subst (λ a. Replay (acts session) a (own_part_of (progress_state mid)) v.deeds (own_part_of (progress_state now)))
            t.wrote.actor (v.replay known_mid t.keeps t.held session));
      }

  pub turning_ends : (start last now : Progress) (before after : Post (Item C)) (index : ℕ) → IsKnown start → index ≡ length start.tasks.items
      → Turning start before index last after
      → SameScript last now → progress_state now ≡ waiting_are (progress_state last) (unissued now.tasks.items)
      → now.tasks.items ≡ filter (λ task. not task.issued) last.tasks.items → Turns start before now after
  turning_ends start last now before after index known whole_index t same now_is waiting = record {
    deeds = t.deeds;
    does = record {
      wrote = t.wrote;
      replay = λ session. subst (λ (s : State). Replay (acts session) (actor_of before) (own_part_of (progress_state start)) t.deeds (own_part_of s))
          (sym state_is) (t.replay session);
      known = same.known ∙ t.same.known;
      sound = record { known = known_still start now (same_then start last now t.same same) known; keeps = subst OperatorInvariant (sym state_is) t.keeps };
    };
    none = t.none;
    no_go = t.no_go;
    settled = λ step number sent after' row. nothing_to_order (progress_state last) t.keeps held step number sent after'
        (subst (λ (s : State). operator_row s.setup (Order step number) (part_of_state s) None sent after') state_is
        (subst (λ (s : Setup). operator_row s (Order step number) (part_of_state (progress_state now)) None sent after')
        (sym (ap (λ k. k.setup) (same.known ∙ t.same.known))) row));
  }
    where
      left : unissued now.tasks.items ≡ unissued last.tasks.items
      left = ap unissued waiting ∙ kept_alike last.tasks.items

      state_is : progress_state now ≡ progress_state last
      state_is = now_is ∙ ap (waiting_are (progress_state last)) left

      held : AllByRecursion (IsGraftHeldUp (progress_state last)) (progress_state last).waiting
      held = subst (λ (ts : List Task). AllByRecursion (IsGraftHeldUp (progress_state last)) ts)
          (all_taken last.tasks.items index (t.as_many ∙ sym whole_index)) t.held

-- a task that wasn't issued is of a step of the script
pub step_within : (p : Progress) (index : ℕ) (task : Task) → IsKnown p → OperatorInvariant (progress_state p)
    → slice_get p.tasks.items index ≡ Some task → task.issued ≡ false → task.step < length p.script.steps
step_within p index task known keeps there waits =
    let all : AllByRecursion (IsWaitingTask p.known.setup p.group p.next)
    (unissued (take index p.tasks.items) ++ task ∷ unissued (drop (suc index) p.tasks.items))
    = subst (λ (ts : List Task). AllByRecursion (IsWaitingTask p.known.setup p.group p.next) ts)
    (split_at p.tasks.items index task there waits) keeps.waiting in
    let w : IsWaitingTask p.known.setup p.group p.next task = (all_append_right (IsWaitingTask p.known.setup p.group p.next)
    (unissued (take index p.tasks.items)) (task ∷ unissued (drop (suc index) p.tasks.items)) all).0 in
    let l : task.step < p.next = w.before in
    let m : p.next ≤ length p.known.setup.steps = keeps.ends.within in
    let e : length p.script.steps ≡ length p.known.setup.steps = as_many_steps p.known.setup p.script known.script in
    omega arith

pub state_of_forget : (old new : Progress) → SameScript old new → new.slots.items ≡ old.slots.items → new.seats.items ≡ old.seats.items
    → progress_state new ≡ waiting_are (progress_state old) (unissued new.tasks.items)
state_of_forget old new same slots seats = λ i.
    record { setup = (same.known i).setup; group = same.group i; next = same.next i; waiting = unissued new.tasks.items; slots = slots i; seats = seats i }

pub turning_moves : {C : Type 0} (start mid now now' : Progress) (before between after after' : Post (Item C)) (index : ℕ) → IsKnown start
    → Turning start before index mid between → VisitsTask mid index between now after → now' ≡ now → after' ≡ after
    → Turning start before (index + 1) now' after'
turning_moves {C = C} start mid now now' before between after after' index known t v e f =
    subst (λ (p : Progress). Turning start before (index + 1) p after') (sym e)
    (subst (λ (p : Post (Item C)). Turning start before (index + 1) now p) (sym f) (turning_on start mid now before between after index known t v))

pub edges_move : {C : Type 0} (before between after after' : Post (Item C)) → SameEdges before between → SameEdges between after → after' ≡ after
    → SameEdges before after'
edges_move {C = C} before between after after' h k e = subst (λ (p : Post (Item C)). SameEdges before p) (sym e) (same_edges_then before between after h k)
