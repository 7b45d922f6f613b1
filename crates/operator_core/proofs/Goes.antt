-- Where the operator begins, and how it goes on to the next group.
use Rattle.std.proofs.Common.{◌≡◌, ◌+◌, ◌≤◌, true, false, List, [], ◌∷◌, length, map, None, refl, sym, ap, ◌∙◌, subst, arith}
use Rattle.std.specs.Prelude.{All}
use Rattle.ring_net.specs.declared.post.Post.{Post}
use Rattle.ring_net.specs.Posts.{actor_of, clock_of}
use Rattle.ring_net.proofs.PostLaws.{wrote_none}
use Rattle.graft_steps.specs.declared.item.Item.{Item}
use Rattle.graft_model.specs.declared.event.OperatorEvent.TheVariants.{Go}
use Rattle.graft_model.specs.Codes.{operator_code}
use Rattle.graft_actors.specs.declared.known.Known.{Known}
use Rattle.graft_actors.specs.Notes.{deed_of, WroteOne}
use Rattle.operator_state.specs.declared.evacuate.Gift.{Gift}
use Rattle.operator_state.specs.declared.grafts.Slot.{Slot}
use Rattle.operator_state.specs.declared.groups.Group.{Group}
use Rattle.operator_core.specs.declared.progress.Progress.{Progress}
use Rattle.actor_configs.specs.Scripts.{IsScriptOf, IsWorkable}
use Rattle.operator_state.specs.Grafts.{seat_at}
use Rattle.operator_state.specs.Slots.{first_slots}
use Rattle.operator_state.specs.Evacuate.{give}
use Rattle.operator_state.specs.Tasks.{unissued}
use Rattle.operator_state.specs.Groups.{AreNumbers, IsGroupFrom}
use Rattle.operator_state.specs.States.{State, part_of_state}
use Rattle.operator_state.specs.Keeps.{OperatorInvariant}
use Rattle.operator_state.specs.Holds.{IsHeldUp, GivesEmptiedSessions}
use Rattle.operator_core.specs.Progresses.{progress_state, own_part_of, IsKnown, ProgressInvariant, BeginsNextGroup, IsNewProgress}
use Rattle.operator_core.proofs.Acts.{goes}
use Rattle.operator_state.proofs.Starts.{next_fits, next_begun, next_begun_row, next_begun_keeps, next_begun_emptied, next_begun_is}
use Rattle.operator_state.proofs.Starts.{first_begun, first_begun_keeps, first_begun_part, first_begun_is}

-- ---- the next group

module _ (old : Progress) (sound : ProgressInvariant old) (free : IsHeldUp old.known.setup (part_of_state (progress_state old)) → ⊥) (group : Group)
    (begins : IsGroupFrom old.script old.numbers old.seats.items old.next group) where
  -- each gift has a slot
  pub next_gifts_fit : All (λ (gift : Gift). (1 ≤ gift.graft) × (gift.graft ≤ length old.slots.items)) group.gifts
  next_gifts_fit = next_fits (progress_state old) sound.keeps free old.script sound.known.script old.numbers sound.known.numbers group begins

  abbrev then : State
  then = next_begun (progress_state old) sound.keeps free old.script sound.known.script old.numbers sound.known.numbers group begins

  module _ {C : Type 0} (new : Progress) (before after : Post (Item C)) where
    pub go_begins : IsKnown new → new.known ≡ old.known
        → progress_state new ≡ record (progress_state
        old) { group = old.group + 1; next = group.next; waiting = unissued group.tasks.items; slots = give group.gifts old.slots.items }
        → WroteOne before (operator_code Go) [] after → BeginsNextGroup old before new after true
    go_begins known same new_is wrote = record {
      deeds = deed_of before (operator_code Go) None [] ∷ [];
      does = record {
        wrote = wrote None;
        replay = λ session. (
          own_part_of then,
          goes session old.known.setup (part_of_state (progress_state old)) (part_of_state then) (clock_of before + 1)
              (actor_of before)
              (next_begun_row (progress_state old) sound.keeps free old.script sound.known.script old.numbers sound.known.numbers group begins),
          ap own_part_of whole,
        );
        known = same;
        sound = record {
          known = known;
          keeps = subst OperatorInvariant (sym whole)
              (next_begun_keeps (progress_state old) sound.keeps free old.script sound.known.script old.numbers sound.known.numbers group begins);
        };
      };
      none = (refl, tt);
      made = (λ e. absurd cc, λ e. absurd cc);
      held = (λ e. absurd cc, λ h. absurd (free h));
      few = omega arith;
      emptied = λ e. subst (λ (s : State). GivesEmptiedSessions old.known.setup (part_of_state (progress_state old)) (part_of_state s))
          (sym whole) (next_begun_emptied (progress_state old) sound.keeps free old.script sound.known.script old.numbers sound.known.numbers group begins);
    }
      where
        whole : progress_state new ≡ then
        whole = next_begun_is (progress_state old) sound.keeps free old.script sound.known.script old.numbers sound.known.numbers group begins
            (progress_state new) new_is

pub go_held : {C : Type 0} (old : Progress) (before : Post (Item C)) → ProgressInvariant old
    → IsHeldUp old.known.setup (part_of_state (progress_state old)) → BeginsNextGroup old before old before false
go_held old before sound held = record {
  deeds = [];
  does = record { wrote = wrote_none before; replay = λ session. refl; known = refl; sound = sound };
  none = tt;
  made = (λ e. refl, λ e. refl);
  held = (λ e. held, λ h. refl);
  few = omega arith;
  emptied = λ e. absurd cc;
}

-- ---- the beginning

pub begins_with : (known : Known) (p : Progress) → p.known ≡ known → (script : IsScriptOf known.setup p.script) → (workable : IsWorkable p.script)
    → (numbers : AreNumbers (length p.script.starts) p.script.steps p.numbers)
    → p.group ≡ 0 → (group : Group) → IsGroupFrom p.script p.numbers p.seats.items 0 group → p.next ≡ group.next → p.tasks.items ≡ group.tasks.items
    → (slots : List Slot) → slots ≡ first_slots (length p.script.starts) 0 p.script.steps → p.slots.items ≡ give group.gifts slots
    → p.seats.items ≡ map seat_at p.script.starts → IsNewProgress known p
begins_with known p is_known script workable numbers no_group group begins next tasks slots slots_are slots_is seats_are = record {
  is_known = is_known;
  sound = record {
    known = record {
      script = subst (λ (k : Known). IsScriptOf k.setup p.script) (sym is_known) script;
      numbers = numbers;
      few = workable.few;
      peerings = workable.peerings;
      short = workable.short;
      ended = workable.ended;
    };
    keeps = subst OperatorInvariant (sym whole)
        (first_begun_keeps known.setup p.script script workable p.numbers numbers p.seats.items seats_are slots slots_are group begins);
  };
  part = ap part_of_state whole
      ∙ first_begun_part known.setup p.script script workable p.numbers numbers p.seats.items seats_are slots slots_are group begins;
}
  where
    whole : progress_state p ≡ first_begun known.setup p.script script workable p.numbers numbers p.seats.items seats_are slots slots_are group begins
    whole = first_begun_is known.setup p.script script workable p.numbers numbers p.seats.items seats_are slots slots_are group begins (progress_state p)
        (λ i. record {
          setup = ap (λ (k : Known). k.setup) is_known i;
          group = no_group i;
          next = next i;
          waiting = ap unissued tasks i;
          slots = slots_is i;
          seats = p.seats.items;
        })
