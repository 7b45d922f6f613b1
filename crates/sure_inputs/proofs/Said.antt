-- Steps without raw octets have a remote say UPDATEs that can be written.
use Rattle.std.proofs.Common.{◌≡◌, ℕ, Bool, true, false, eqb, List, [], ◌∷◌, ◌++◌, refl, sym, ap, ◌∙◌, subst}
use Rattle.std.specs.Prelude.{Option, Some, None, unwrap_or, IfSome}
use Rattle.std.specs.List.{AllByRecursion, cons_option, filter_map, flat_map, list_any}
use Rattle.bgp_types.specs.declared.message.Message.TheVariants.{UpdateMsg}
use Rattle.bgp_types.specs.declared.message.Update.{Update}
use Rattle.bgp_types.specs.Spelling.{spell}
use Rattle.bgp_types.specs.Writable.{IsWritable}
use Rattle.bgp_types.proofs.ManyLaws.{either_false}
use Rattle.even_inputs.proofs.Lists.{given_all}
use Rattle.lab_tables.specs.declared.input.Step.{Step}
use Rattle.lab_tables.specs.declared.input.Step.TheVariants.{Announce, Withdraw, Raw, Graft, Settle, Evacuate}
use Rattle.lab_input.specs.Said.{step_update}
use Rattle.lab_setup.specs.Said.{some_if, bytes_of_step, said_over}
use Rattle.sure_inputs.specs.Sure.{is_raw_step}
use Rattle.sure_inputs.proofs.Readings.{IsUpdate}

module _ (wide : Bool) (p : ℕ) where
  -- what the remote says at each step, one after another
  abbrev pub frames_of : List Step → List (List ℕ)
  frames_of steps = filter_map (bytes_of_step wide p) steps

  pub frames_said : (steps : List Step) → said_over wide p steps ≡ flat_map (λ f. f) (frames_of steps)
  frames_said [] = refl
  frames_said (step ∷ steps) =
      ap (λ (bytes : List ℕ). unwrap_or (bytes_of_step wide p step) [] ++ bytes) (frames_said steps) ∙ first_said (bytes_of_step wide p step) (frames_of steps)
    where
      first_said : (o : Option (List ℕ)) (rest : List (List ℕ)) → unwrap_or o [] ++ flat_map (λ f. f) rest ≡ flat_map (λ f. f) (cons_option o rest)
      first_said None rest = refl
      first_said (Some bytes) rest = refl

  abbrev CanWrite : Step → Type 0
  CanWrite step = IsWritable (UpdateMsg (step_update step)) wide

  update_said : (said : Bool) (u : Update) → IsWritable (UpdateMsg u) wide → IfSome (some_if said (spell (UpdateMsg u) wide)) (IsUpdate wide)
  update_said true u can = record { update = u; is = refl; writable = can }
  update_said false u can = tt

  step_said : (step : Step) → CanWrite step → is_raw_step p step ≡ false → IfSome (bytes_of_step wide p step) (IsUpdate wide)
  step_said (Announce q prefixes a) can plain = update_said (eqb q.0 p) (step_update (Announce q prefixes a)) can
  step_said (Withdraw q prefixes) can plain = update_said (eqb q.0 p) (step_update (Withdraw q prefixes)) can
  step_said (Raw q bytes) can plain = subst (λ (said : Bool). IfSome (some_if said bytes) (IsUpdate wide)) (sym plain) tt
  step_said (Graft q target) can plain = tt
  step_said (Settle rounds least) can plain = tt
  step_said (Evacuate router) can plain = tt

  steps_said : (steps : List Step) → AllByRecursion CanWrite steps → list_any (is_raw_step p) steps ≡ false
      → AllByRecursion (λ step. IfSome (bytes_of_step wide p step) (IsUpdate wide)) steps
  steps_said [] can plain = tt
  steps_said (step ∷ steps) can plain =
      let parts = either_false (is_raw_step p step) (list_any (is_raw_step p) steps) plain in
      (step_said step can.0 parts.0, steps_said steps can.1 parts.1)

  pub updates_said : (steps : List Step) → AllByRecursion CanWrite steps → list_any (is_raw_step p) steps ≡ false
      → AllByRecursion (IsUpdate wide) (frames_of steps)
  updates_said steps can plain = given_all (IsUpdate wide) (bytes_of_step wide p) steps (steps_said steps can plain)
