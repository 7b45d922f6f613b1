-- Where an accepted input is sure, so is the laboratory that it describes.
use Rattle.std.proofs.Common.{◌≡◌, ◌≢◌, ℕ, ◌<◌, ◌≤◌, Bool, true, false, not, List, [], ◌++◌, length, take, filter, map, refl, sym, ap, ◌∙◌, subst, arith}
use Rattle.std.specs.Prelude.{Some, None, option_map, unwrap_or, slice_get, nat_le}
use Rattle.std.specs.List.{AllByRecursion, flat_map, enumerate_from, list_any, list_all, last_or}
use Rattle.std.proofs.lemmas.Bool.{false≢true}
use Rattle.std.proofs.lemmas.Bool.Decides.{nat_tests}
use Rattle.std.proofs.lemmas.List.{append-nil}
use Rattle.std.proofs.lemmas.List.Elements.{recursion_from_All}
use Rattle.std.proofs.lemmas.Slice.Eq.{bytes_eq-Decides}
use Rattle.bgp_types.specs.declared.message.Message.TheVariants.{UpdateMsg}
use Rattle.bgp_types.specs.declared.message.SessionState.TheVariants.{Established}
use Rattle.bgp_types.specs.Writable.{IsWritable}
use Rattle.graft_model.specs.Setups.{Setup, RouterSetup, PeeringSetup, ScriptStep, EvacuateStep, SettleStep}
use Rattle.graft_model.specs.Setups.{ScriptGraft, graft_at, group_of, moved_by, room_of, routers_in, peerings_in}
use Rattle.graft_model.specs.Setups.{is_settle as ends_group}
use Rattle.graft_model.specs.Setups.{said_by as said_in_model}
use Rattle.graft_model.proofs.Numbers.{step_of_graft}
use Rattle.one_answer.specs.Settled.{said_in_all}
use Rattle.even_inputs.proofs.Lists.{both, all_true, slice_all, at_number}
use Rattle.even_inputs.specs.Timers.{has_no_timer}
use Rattle.even_inputs.specs.Readings.{reading_of}
use Rattle.sure_results.specs.Results.{StaysUp}
use Rattle.lab_tables.specs.declared.input.LabInput.{LabInput}
use Rattle.lab_tables.specs.declared.input.PeeringInput.{PeeringInput}
use Rattle.lab_tables.specs.declared.input.Step.{Step}
use Rattle.lab_tables.specs.declared.input.Step.TheVariants.{Announce, Withdraw, Raw, Graft, Settle, Evacuate}
use Rattle.lab_tables.specs.Peerings.{default_opening}
use Rattle.lab_tables.specs.Scripts.{is_settle_step}
use Rattle.lab_input.specs.Counts.{is_wide}
use Rattle.lab_input.specs.Said.{step_update}
use Rattle.lab_setup.specs.Accepted.{IsAccepted}
use Rattle.lab_setup.specs.Setups.{peering_setup, script_step, ended_by, setup_of}
use Rattle.lab_setup.proofs.Accepted.{writable}
use Rattle.lab_setup.proofs.Lists.{IsMadeOf, made_of, none_is, all_at, below_get}
use Rattle.lab_setup.proofs.Ready.{router_there, as_many_routers, as_many_peerings}
use Rattle.lab_setup.proofs.Said.{setup_bytes}
use Rattle.lab_setup.proofs.Setups.{peering_at, steps_are}
use Rattle.sure_inputs.specs.Laws.{SureInputsAreSure}
use Rattle.sure_inputs.specs.Sure.{has_room_for, is_raw_step, is_plain, is_sure_step, is_sure}
use Rattle.sure_inputs.proofs.Readings.{IsUpdate, up_by}
use Rattle.sure_inputs.proofs.Remotes.{IsRemote, remotes}
use Rattle.sure_inputs.proofs.Said.{frames_of, frames_said, updates_said}
use Rattle.sure_inputs.proofs.Steps.{made_of_step, group_ended, Moves, moves}

enough : (a b : ℕ) → nat_le a b ≡ true → a ≤ b
enough a b test = grind (arith, nat_tests)

not_true : (b : Bool) → not b ≡ true → b ≡ false
not_true true e = absurd (false≢true e)
not_true false e = refl

module _ (input : LabInput) (from : IsAccepted input) (sure : is_sure input ≡ true) where
  abbrev setup : Setup
  setup = setup_of input

  abbrev AllSure : Type 0
  AllSure = list_all (λ (step : ℕ × Step). is_sure_step input step.0 step.1) (enumerate_from 0 input.steps) ≡ true

  rooms : list_all (has_room_for (length input.peerings)) input.routers ≡ true
  rooms = (both _ _ (both _ _ sure).0).0

  timer : has_no_timer setup ≡ true
  timer = (both _ _ (both _ _ sure).0).1

  all_sure : AllSure
  all_sure = (both _ _ sure).1

  room : (r : ℕ) → r < routers_in setup → peerings_in setup ≤ room_of setup r
  room r below =
      let count = length input.peerings in
      let here = below_get input.routers r (subst (λ n. r < n) (as_many_routers input) below) in
      let is : room_of setup r ≡ here.x.sessions =
      ap (λ o. unwrap_or (option_map (λ (y : RouterSetup). y.room) o) 0) (router_there input r here.x here.is) in
      let has = enough count here.x.sessions
      (slice_all (λ router. has_room_for count router ≡ true) input.routers r here.x (all_true _ _ rooms) here.is) in
      let many = as_many_peerings input in
      omega arith

  -- ---- steps

  sure_at : (n : ℕ) (step : Step) → slice_get input.steps n ≡ Some step → is_sure_step input n step ≡ true
  sure_at n step there = at_number (λ (s : ℕ × Step). is_sure_step input s.0 s.1 ≡ true) input.steps n step (all_true _ _ all_sure) there

  -- what a step of the script that ends no group is made of
  made : (n : ℕ) (s : ScriptStep) → slice_get setup.steps n ≡ Some s → (s ≡ SettleStep → ⊥)
      → IsMadeOf (script_step input.peerings) (slice_get input.steps n) s
  made n s there goes_on =
      made_of_step input.peerings (last_or None (map (script_step input.peerings) input.steps)) input.steps n s
      (sym (ap (λ steps. slice_get steps n) (steps_are input)) ∙ there) goes_on

  no_evacuate : (n router : ℕ) (step : Step) → is_sure_step input n step ≡ true → script_step input.peerings step ≡ EvacuateStep router → ⊥
  no_evacuate n router (Announce q prefixes a) is e = absurd (cc)
  no_evacuate n router (Withdraw q prefixes) is e = absurd (cc)
  no_evacuate n router (Raw q bytes) is e = absurd (cc)
  no_evacuate n router (Graft q target) is e = absurd (cc)
  no_evacuate n router (Settle rounds least) is e = absurd (cc)
  no_evacuate n router (Evacuate r) is e = false≢true is

  none_evacuates : (n router : ℕ) → slice_get setup.steps n ≢ Some (EvacuateStep router)
  none_evacuates n router there =
      let from_step = made n (EvacuateStep router) there (λ e. cc) in
      no_evacuate n router from_step.x (sure_at n from_step.x from_step.there) from_step.is

  -- ---- grafts

  -- a graft is made by a step behind a settle, of a plain remote
  record IsSureGraft (g : ScriptGraft) : Type 0 where
    behind : list_any is_settle_step (take g.step input.steps) ≡ true
    plain : is_plain input.steps g.peering (slice_get input.peerings g.peering) ≡ true

  graft_of : (g : ScriptGraft) (step : Step) → is_sure_step input g.step step ≡ true → Moves input.peerings g.peering step → IsSureGraft g
  graft_of g (Announce q prefixes a) is moved = absurd moved
  graft_of g (Withdraw q prefixes) is moved = absurd moved
  graft_of g (Raw q bytes) is moved = absurd moved
  graft_of g (Graft q target) is moved =
      let parts = both _ _ is in
      record { behind = parts.0; plain = subst (λ p. is_plain input.steps p (slice_get input.peerings p) ≡ true) moved parts.1 }
  graft_of g (Settle rounds least) is moved = absurd moved
  graft_of g (Evacuate router) is moved = absurd (false≢true is)

  grafted : (g : ScriptGraft) → graft_at setup g.graft ≡ Some g → IsSureGraft g
  grafted g found =
      let by = step_of_graft setup g.graft g found in
      let from_step = made g.step by.step by.there (λ e. none_is g.peering (sym (ap (λ s. slice_get (moved_by setup s) by.index) e) ∙ by.moved)) in
      graft_of g from_step.x (sure_at g.step from_step.x from_step.there)
      (moves input.peerings setup by.index g.peering from_step.x (ap (λ s. slice_get (moved_by setup s) by.index) from_step.is ∙ by.moved))

  later : (g : ScriptGraft) → graft_at setup g.graft ≡ Some g → 0 < group_of setup g.step
  later g found = subst (λ steps. 0 < length (filter ends_group (take g.step steps))) (sym (steps_are input))
      (group_ended input.peerings (ended_by (last_or None (map (script_step input.peerings) input.steps))) input.steps g.step (grafted g found).behind)

  -- ---- what remotes say

  module _ (p : ℕ) (x : PeeringInput) (there : slice_get input.peerings p ≡ Some x) (plain : is_plain input.steps p (Some x) ≡ true) where
    abbrev own : PeeringSetup
    own = peering_setup input (p, x)

    abbrev begins : List ℕ
    begins = default_opening x.remote_as x.hold x.remote_id x.remote_as4

    opening_is : x.opening ≡ begins
    opening_is = (bytes_eq-Decides x.opening begins).0 (both _ _ plain).0

    frames : AllByRecursion (IsUpdate (is_wide x)) (frames_of (is_wide x) p input.steps)
    frames = updates_said (is_wide x) p input.steps
        (recursion_from_All (λ step. IsWritable (UpdateMsg (step_update step)) (is_wide x)) input.steps (writable input from (is_wide x)))
        (not_true (list_any (is_raw_step p) input.steps) (both _ _ plain).1)

    said_is : said_in_all setup p own ≡ begins ++ flat_map (λ f. f) (frames_of (is_wide x) p input.steps)
    said_is =
        ap (λ (bytes : List ℕ). bytes ++ flat_map (said_in_model p) setup.steps) opening_is
        ∙ ap (λ (bytes : List ℕ). begins ++ bytes) (setup_bytes input p x there ∙ frames_said (is_wide x) p input.steps)

    up : (fs : List (List ℕ)) → AllByRecursion (IsUpdate (is_wide x)) fs → (reading_of own (begins ++ flat_map (λ f. f) fs)).state ≡ Established
    up =
        let remote = all_at IsRemote input.peerings p x (remotes input from) there in
        up_by own x.hold x.remote_id x.remote_as4 remote.remote_as remote.hold remote.hold_time remote.host

    stays_up : StaysUp setup p own
    stays_up = record {
      opened = ap (λ bytes. (reading_of own bytes).state) (opening_is ∙ sym (append-nil begins)) ∙ up [] tt;
      kept = ap (λ bytes. (reading_of own bytes).state) said_is ∙ up (frames_of (is_wide x) p input.steps) frames;
    }

  all_up : (g : ScriptGraft) (peering : PeeringSetup) → graft_at setup g.graft ≡ Some g → slice_get setup.peerings g.peering ≡ Some peering
      → StaysUp setup g.peering peering
  all_up g peering found there =
      let from_peering = made_of (λ x. peering_setup input (g.peering, x)) (slice_get input.peerings g.peering) peering
      (sym (peering_at input g.peering) ∙ there) in
      let plain = sym (ap (is_plain input.steps g.peering) from_peering.there) ∙ (grafted g found).plain in
      subst (StaysUp setup g.peering) from_peering.is (stays_up g.peering from_peering.x from_peering.there plain)

pub sure_is_sure : SureInputsAreSure
sure_is_sure input from sure = record {
  timer = timer input from sure;
  room = room input from sure;
  later = later input from sure;
  moves = none_evacuates input from sure;
  up = all_up input from sure;
}
