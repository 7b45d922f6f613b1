-- A task is visited: it waits still, or was issued.
use Rattle.std.proofs.Common.{◌≡◌, ℕ, suc, ◌+◌, true, false, List, [], ◌∷◌, ◌++◌, length, take, drop, Option, Some, None, refl, sym, ap, ◌∙◌, subst, arith}
use Rattle.std.specs.Prelude.{slice_get, slice_set}
use Rattle.std.specs.List.{AllByRecursion}
use Rattle.ring_net.specs.declared.post.Post.{Post}
use Rattle.ring_net.specs.Posts.{actor_of, clock_of, Wrote}
use Rattle.ring_net.proofs.PostLaws.{wrote_none}
use Rattle.graft_edge.specs.declared.ids.PeeringId.{PeeringId}
use Rattle.graft_steps.specs.declared.item.Item.{Item}
use Rattle.graft_steps.specs.declared.item.Item.TheVariants.{SayOrder, GraftOrder}
use Rattle.graft_steps.specs.declared.log.GraftEntry.{GraftEntry}
use Rattle.graft_model.specs.declared.event.OperatorEvent.TheVariants.{Go, Order}
use Rattle.graft_model.specs.Codes.{operator_code}
use Rattle.graft_actors.specs.Laws.{ActorsHaveNumbers}
use Rattle.graft_actors.specs.Notes.{deed_of}
use Rattle.operator_state.specs.declared.grafts.Move.{Move}
use Rattle.operator_state.specs.declared.grafts.Seat.{Seat}
use Rattle.operator_state.specs.declared.grafts.Slot.{Slot}
use Rattle.operator_state.specs.declared.grafts.Slot.TheVariants.{Unmade, Stays, Made}
use Rattle.operator_state.specs.declared.groups.Task.{Task}
use Rattle.operator_core.specs.declared.progress.Progress.{Progress}
use Rattle.actor_configs.specs.declared.script.ScriptStep.TheVariants.{Say, Settle}
use Rattle.operator_state.specs.Slots.{slot_at, move_of}
use Rattle.operator_state.specs.Tasks.{task_issued, unissued}
use Rattle.operator_state.specs.States.{State, part_of_state}
use Rattle.operator_state.specs.Keeps.{IsGraftTask, IsWaitingTask, OperatorInvariant}
use Rattle.operator_state.specs.Issues.{IsGraftHeldUp, LetsGraft, waiting_are, graft_issued}
use Rattle.operator_core.specs.Progresses.{progress_state, own_part_of, IsKnown, SameScript, HeldUpTo, IsOrderOf, IssuesGraft, VisitsTask}
use Rattle.operator_state.proofs.Lists.{all_append, all_map, length_set, one_member}
use Rattle.operator_state.proofs.SlotLaws.{slot_next}
use Rattle.operator_state.proofs.Tasks.{split_at, split_done, before_done, before_more, before_same}
use Rattle.operator_state.proofs.Steps.{say_there, settle_there, number_there, graft_task, as_many_routers}
use Rattle.operator_state.proofs.Issues.{waits, say_keeps, say_row, made_there, graft_keeps, graft_row, held_others, held_lets_say, held_lets_graft}
use Rattle.operator_core.proofs.Acts.{says, orders}

pub same_script : (p : Progress) → SameScript p p
same_script p = record { known = refl; script = refl; numbers = refl; group = refl; next = refl }

pub same_then : (a b c : Progress) → SameScript a b → SameScript b c → SameScript a c
same_then a b c h k =
    record { known = k.known ∙ h.known; script = k.script ∙ h.script; numbers = k.numbers ∙ h.numbers; group = k.group ∙ h.group; next = k.next ∙ h.next }

-- an order is an event of another kind than the beginning of a group
no_go : (step number : ℕ) → (operator_code (Order step number)).kind ≡ (operator_code Go).kind → ⊥
no_go step number e = omega (arith, e)

next_index : (n : ℕ) → n + 1 ≡ suc n
next_index n = omega arith

module _ (old : Progress) (index : ℕ) where
  -- the tasks before an index that wait, and those behind it
  abbrev kept : List Task
  kept = unissued (take index old.tasks.items)

  abbrev rest : List Task
  rest = unissued (drop (suc index) old.tasks.items)

  -- the state once the task there has a remote say something, or its graft is ordered
  abbrev said : State
  said = waiting_are (progress_state old) (kept ++ rest)

  abbrev ordered : ℕ → GraftEntry → Seat → State
  ordered at_index entry seat = waiting_are (graft_issued (progress_state old) at_index entry seat) (kept ++ rest)

  module _ (task : Task) (there : slice_get old.tasks.items index ≡ Some task) (unissued_is : task.issued ≡ false) where
    -- the tasks that wait, about this one
    split : (progress_state old).waiting ≡ kept ++ task ∷ rest
    split = split_at old.tasks.items index task there unissued_is

    it_waits : OperatorInvariant (progress_state old) → HeldUpTo old index → IsWaitingTask old.known.setup old.group old.next task
    it_waits keeps helds = waits (progress_state old) keeps kept rest task split

    it_is_of_step : IsKnown old → OperatorInvariant (progress_state old) → HeldUpTo old index → (number : ℕ) → IsOrderOf old task number
        → IsGraftTask old.known.setup task
    it_is_of_step known keeps helds number is = graft_task old.known.setup old.script known.script old.group old.next task number (it_waits keeps helds) is

module _ {C : Type 0} (old : Progress) (index : ℕ) (task : Task) (there : slice_get old.tasks.items index ≡ Some task) where
  -- ---- nothing happens

  stays : (post : Post (Item C)) → (IsKnown old → OperatorInvariant (progress_state old) → HeldUpTo old index → HeldUpTo old (index + 1))
      → VisitsTask old index post old post
  stays post held = record {
    deeds = [];
    wrote = wrote_none post;
    none = tt;
    no_go = tt;
    same = same_script old;
    as_many = refl;
    keeps = λ known keeps helds. keeps;
    held = held;
    replay = λ known keeps helds session. refl;
  }

  pub visit_done : (post : Post (Item C)) → task.issued ≡ true → VisitsTask old index post old post
  visit_done post is_done = stays post (λ known keeps helds. subst (λ (ts : List Task). AllByRecursion (IsGraftHeldUp (progress_state old)) ts)
      (sym (ap (λ n. unissued (take n old.tasks.items)) (next_index index) ∙ before_same old.tasks.items index task there is_done)) helds)

  module _ (unissued_is : task.issued ≡ false) where
    -- ---- it waits still

    pub visit_held : (post : Post (Item C)) (moves : Move) → move_of (slot_at old.slots.items task.graft) ≡ Some moves → (seat : Seat)
        → slice_get old.seats.items moves.peering.0 ≡ Some seat
        → seat.moving ≡ true → VisitsTask old index post old post
    visit_held post moves made seat seated moving =
        stays post (λ known keeps helds. subst (λ (ts : List Task). AllByRecursion (IsGraftHeldUp (progress_state old)) ts)
        (sym (ap (λ n. unissued (take n old.tasks.items)) (next_index index) ∙ before_more old.tasks.items index task there unissued_is))
        (all_append (IsGraftHeldUp (progress_state old)) (kept old index) (task ∷ []) helds (held (slot_at old.slots.items task.graft) refl made, tt)))
      where
        held : (o : Option Slot) → slot_at old.slots.items task.graft ≡ o → move_of o ≡ Some moves → IsGraftHeldUp (progress_state old) task
        held None e made' = absurd cc
        held (Some Unmade) e made' = absurd cc
        held (Some (Stays k p router)) e made' = absurd cc
        held (Some (Made entry)) e made' =
            let same : record { peering = entry.peering; target = entry.target } ≡ moves = cc in
            record { entry = entry; is = e; seat = seat; seated = ap (λ (m : Move). slice_get old.seats.items m.peering.0) same ∙ seated; moving = moving }

    pub visit_settle : (post : Post (Item C)) → slice_get old.script.steps task.step ≡ Some Settle → VisitsTask old index post old post
    visit_settle post is = stays post (λ known keeps helds.
        absurd ((it_waits old index task there unissued_is keeps helds).issuable (settle_there old.known.setup old.script known.script task.step is)))

    -- a graft's task whose graft isn't made isn't there
    pub visit_unmade : (post : Post (Item C)) (number : ℕ) → IsOrderOf old task number → move_of (slot_at old.slots.items task.graft) ≡ None
        → VisitsTask old index post old post
    visit_unmade post number is unmade = stays post (λ known keeps helds. absurd (
        let made = made_there (progress_state old) keeps (kept old index) (rest old index) task
        (split old index task there unissued_is) (it_is_of_step old index task there unissued_is known keeps helds number is) in
        let e : Some made.0 ≡ None = sym made.1 ∙ unmade in cc))

    -- ---- it is issued

    module _ (numbers : ActorsHaveNumbers) (mid new : Progress) (mid_new : SameScript mid new)
        (mid_state : progress_state new ≡ waiting_are (progress_state mid) (unissued new.tasks.items))
        (done_is : new.tasks.items ≡ slice_set mid.tasks.items index (task_issued task)) (before after : Post (Item C)) where
      -- what waits then
      left_is : mid.tasks.items ≡ old.tasks.items → unissued new.tasks.items ≡ kept old index ++ rest old index
      left_is same = ap unissued (done_is ∙ ap (λ tasks. slice_set tasks index (task_issued task)) same) ∙ split_done old.tasks.items index task there

      before_is : mid.tasks.items ≡ old.tasks.items → unissued (take (index + 1) new.tasks.items) ≡ kept old index
      before_is same = ap (λ n. unissued (take n new.tasks.items)) (next_index index)
          ∙ ap (λ tasks. unissued (take (suc index) tasks)) (done_is ∙ ap (λ tasks. slice_set tasks index (task_issued task)) same)
          ∙ before_done old.tasks.items index task there

      as_many_tasks : mid.tasks.items ≡ old.tasks.items → length new.tasks.items ≡ length old.tasks.items
      as_many_tasks same = ap length done_is ∙ length_set mid.tasks.items index (task_issued task) ∙ ap length same

      pub visit_says : (p : PeeringId) → slice_get old.script.steps task.step ≡ Some (Say p) → SameScript old mid → mid.tasks.items ≡ old.tasks.items
          → progress_state mid ≡ progress_state old
          → Wrote before (deed_of before (operator_code (Order task.step 0)) None ((length old.script.rooms + p.0, SayOrder task.step) ∷ []) ∷ []) after
          → VisitsTask old index before new after
      visit_says p is same tasks state_is wrote = record {
        deeds = deed_of before (operator_code (Order task.step 0)) None ((length old.script.rooms + p.0, SayOrder task.step) ∷ []) ∷ [];
        wrote = wrote;
        none = (refl, tt);
        no_go = (no_go task.step 0, tt);
        same = same_then old mid new same mid_new;
        as_many = as_many_tasks tasks;
        keeps = λ known keeps helds. subst OperatorInvariant (sym whole) (
            let found = say_there old.known.setup old.script known.script task.step p is in
            say_keeps (progress_state old) keeps (kept old index) (rest old index) task (split old index task there unissued_is) p.0 found.0 found.1);
        held = λ known keeps helds. subst (λ (ts : List Task). AllByRecursion (IsGraftHeldUp (progress_state new)) ts) (sym (before_is tasks))
            (subst (λ (s : State). AllByRecursion (IsGraftHeldUp s) (kept old index)) (sym whole)
            (all_map (IsGraftHeldUp (progress_state old)) (IsGraftHeldUp (said old index)) (kept old index)
            (λ m h. record { entry = h.entry; is = h.is; seat = h.seat; seated = h.seated; moving = h.moving }) helds));
        replay = λ known keeps helds session. (
            let found = say_there old.known.setup old.script known.script task.step p is in (
              own_part_of (said old index),
              says session old.known.setup (part_of_state (progress_state old)) (part_of_state (said old index)) (clock_of before + 1) (actor_of before)
                  numbers task.step p.0 (length old.script.rooms + p.0) (keeps.sound.says task.step p.0 found.0 found.1)
                  (ap (λ k. k + p.0) (as_many_routers old.known.setup old.script known.script))
                  (say_row (progress_state old) keeps (kept old index) (rest old index) task
                  (split old index task there unissued_is) p.0 found.0 found.1 (held_lets_say (progress_state old) p.0 (kept old index) helds)),
              ap own_part_of whole,
            ));
      }
        where
          whole : progress_state new ≡ (said old index)
          whole = mid_state ∙ ap (λ (s : State). waiting_are s (unissued new.tasks.items)) state_is ∙ ap (waiting_are (progress_state old)) (left_is tasks)

      pub visit_orders : (moves : Move) (number : ℕ) → IsOrderOf old task number → move_of (slot_at old.slots.items task.graft) ≡ Some moves
          → (seat : Seat) → slice_get old.seats.items moves.peering.0 ≡ Some seat → seat.moving ≡ false
          → IssuesGraft old task moves number before mid after → VisitsTask old index before new after
      visit_orders moves number is made seat seated still issued = record {
        deeds = deed_of before (operator_code (Order task.step number)) None
            ((issued.seat.place.0, GraftOrder task.graft issued.entry.peering issued.entry.target) ∷ []) ∷ [];
        wrote = issued.wrote;
        none = (refl, tt);
        no_go = (no_go task.step number, tt);
        same = same_then old mid new issued.same mid_new;
        as_many = as_many_tasks issued.tasks;
        keeps = λ known keeps helds. subst OperatorInvariant (sym whole)
            (graft_keeps (progress_state old) keeps (kept old index) (rest old index) task
            (split old index task there unissued_is) (it_is_of_step old index task there unissued_is known keeps helds number is)
            issued.index issued.is_index issued.entry issued.there issued.seat issued.seated still_too (clear helds));
        held = λ known keeps helds. subst (λ (ts : List Task). AllByRecursion (IsGraftHeldUp (progress_state new)) ts) (sym (before_is issued.tasks))
            (subst (λ (s : State). AllByRecursion (IsGraftHeldUp s) (kept old index)) (sym whole)
            (held_others (progress_state old) keeps (kept old index) (rest old index) task (split old index task there unissued_is)
            (it_is_of_step old index task there unissued_is known keeps helds number is) issued.index
            issued.is_index issued.entry issued.there issued.seat issued.seated still_too (clear helds) helds));
        replay = λ known keeps helds session. (
          own_part_of (ordered old index issued.index issued.entry issued.seat),
          orders session old.known.setup (part_of_state (progress_state old)) (part_of_state (ordered old index issued.index issued.entry issued.seat))
              (clock_of before + 1) (actor_of before) numbers task.step number task.graft issued.entry.peering issued.entry.target
              issued.seat.place (keeps.seats.each issued.entry.peering.0 issued.seat issued.seated).there
              (graft_row (progress_state old) keeps (kept old index) (rest old index) task (split old index task there unissued_is)
              (it_is_of_step old index task there unissued_is known keeps helds number is) issued.index
              issued.is_index issued.entry issued.there issued.seat issued.seated still_too (clear helds) number
              (number_there old.known.setup old.script known.script task number is)),
          ap own_part_of whole,
        );
      }
        where
          -- the entry is the one whose peering has the seat
          names : record { peering = issued.entry.peering; target = issued.entry.target } ≡ moves
          names = one (slot_at old.slots.items task.graft)
              (ap (slot_at old.slots.items) (sym issued.is_index) ∙ slot_next old.slots.items issued.index ∙ issued.there) made
            where
              one : (o : Option Slot) → o ≡ Some (Made issued.entry) → move_of o ≡ Some moves
                  → record { peering = issued.entry.peering; target = issued.entry.target } ≡ moves
              one o e f = let g : Some (record { peering = issued.entry.peering; target = issued.entry.target }) ≡ Some moves = sym (ap move_of e) ∙ f in cc

          still_too : issued.seat.moving ≡ false
          still_too = ap (λ (x : Seat). x.moving) (one_member (slice_get old.seats.items moves.peering.0) issued.seat seat
              (sym (ap (λ (m : Move). slice_get old.seats.items m.peering.0) names) ∙ issued.seated) seated)
              ∙ still

          -- the tasks before it are of other peerings
          clear : HeldUpTo old index → AllByRecursion (LetsGraft (progress_state old) issued.entry.peering.0) (kept old index)
          clear helds = held_lets_graft (progress_state old) issued.entry.peering.0 issued.seat (kept old index) issued.seated still_too helds

          whole : progress_state new ≡ ordered old index issued.index issued.entry issued.seat
          whole = mid_state ∙ ap (λ (s : State). waiting_are s (unissued new.tasks.items)) issued.changes
              ∙ ap (waiting_are (graft_issued (progress_state old) issued.index issued.entry issued.seat)) (left_is issued.tasks)
