-- The script of the operator.
use Rattle.std.proofs.Common.{◌≡◌, zero, suc, ◌-◌, ◌<◌, ◌≤◌, cond, List, [], ◌∷◌, ◌++◌, length, map, refl, sym, ap, ◌∙◌, subst, arith}
use Rattle.std.specs.Prelude.{Option, Some, None, option_map, slice_get, All, slice_index_or}
use Rattle.std.specs.List.{last_or}
use Rattle.std.proofs.lemmas.List.{length-append, length-map}
use Rattle.std.proofs.lemmas.Option.{slice_get-get_or}
use Rattle.graft_edge.specs.declared.ids.RouterId.{RouterId}
use Rattle.graft_model.specs.Setups.{Setup, RouterSetup, PeeringSetup, ScriptStep as StepOf, SayStep, MoveStep, EvacuateStep}
use Rattle.graft_model.specs.Setups.{SettleStep, IsSetup, IsStep, IsPeeringSetup, routers_in, peerings_in}
use Rattle.lab_tables.specs.declared.input.LabInput.{LabInput}
use Rattle.lab_tables.specs.declared.input.PeeringInput.{PeeringInput}
use Rattle.lab_tables.specs.declared.input.RouterInput.{RouterInput}
use Rattle.lab_tables.specs.declared.input.Step.{Step}
use Rattle.lab_tables.specs.declared.input.Step.TheVariants as steps
use Rattle.lab_setup.specs.Setups.{router_setup, peering_setup, script_step, ended_by, ended, setup_of}
use Rattle.actor_configs.specs.declared.script.Script.{Script}
use Rattle.actor_configs.specs.declared.script.ScriptStep.TheVariants.{Settle}
use Rattle.actor_configs.specs.Scripts.{step_for, IsScriptOf, IsWorkableStep, IsWorkable}
use Rattle.node_configs.specs.Accepted.{IsAccepted}
use Rattle.node_configs.specs.Orders.{script_order, is_end, end_after, script_orders}
use Rattle.node_configs.proofs.Accepted.{HasFew, few, is_setup}
use Rattle.node_configs.proofs.Lists.{map_numbered, map_append, map_mapped, last_mapped, last_is}
use Rattle.lab_setup.proofs.Ready.{as_many_routers, as_many_peerings}
use Rattle.lab_setup.proofs.Setups.{steps_are}

-- ---- the script is that of the laboratory

order_is : (peerings : List PeeringInput) (step : Step) → step_for (script_step peerings step) ≡ script_order step
order_is peerings (steps.Announce q prefixes a) = refl
order_is peerings (steps.Withdraw q prefixes) = refl
order_is peerings (steps.Raw q bytes) = refl
order_is peerings (steps.Graft q target) = refl
order_is peerings (steps.Settle rounds least) = refl
order_is peerings (steps.Evacuate router) = refl

end_is : (o : Option StepOf) → map step_for (ended_by o) ≡ cond (is_end (option_map step_for o)) [] (Settle ∷ [])
end_is None = refl
end_is (Some (SayStep q bytes)) = refl
end_is (Some (MoveStep q target)) = refl
end_is (Some (EvacuateStep router)) = refl
end_is (Some SettleStep) = refl

-- what is added by the last step of the script is what is added by the last order
end_too : (script : List StepOf) → map step_for (ended_by (last_or None script)) ≡ end_after (map step_for script)
end_too script =
    end_is (last_or None script)
    ∙ ap (λ o. cond (is_end o) [] (Settle ∷ [])) (sym (last_mapped step_for None script) ∙ sym (last_is (map step_for script)))

orders_are : (peerings : List PeeringInput) (input : List Step) → script_orders input ≡ map step_for (ended (map (script_step peerings) input))
orders_are peerings input =
    let script : List StepOf = map (script_step peerings) input in
    let orders : map step_for script ≡ map script_order input = map_mapped (script_step peerings) step_for script_order (order_is peerings) input in
    sym (map_append step_for script (ended_by (last_or None script))
    ∙ ap (λ ys. map step_for script ++ ys) (end_too script)
    ∙ ap (λ xs. xs ++ end_after xs) orders)

module _ (input : LabInput) where
  rooms_are : map (λ (router : RouterSetup). router.room) (setup_of input).routers ≡ map (λ (r : RouterInput). r.sessions) input.routers
  unfolding setup_of
  rooms_are = map_numbered (router_setup input) (λ (router : RouterSetup). router.room) (λ (r : RouterInput). r.sessions) (λ n x. refl) input.routers 0

  starts_are : map (λ (peering : PeeringSetup). record { 0 = peering.start }) (setup_of input).peerings ≡ map (λ (p : PeeringInput). p.at) input.peerings
  unfolding setup_of
  starts_are = map_numbered (peering_setup input) (λ (peering : PeeringSetup). record { 0 = peering.start })
      (λ (p : PeeringInput). p.at) (λ n x. refl) input.peerings 0

  orders_are_those : script_orders input.steps ≡ map step_for (setup_of input).steps
  orders_are_those = orders_are input.peerings input.steps ∙ sym (ap (map step_for) (steps_are input))

  pub is_script : (script : Script) → script.rooms ≡ map (λ (r : RouterInput). r.sessions) input.routers
      → script.starts ≡ map (λ (p : PeeringInput). p.at) input.peerings → script.steps ≡ script_orders input.steps
      → IsScriptOf (setup_of input) script
  is_script script rooms starts orders = record {
    rooms = rooms ∙ sym rooms_are;
    starts = starts ∙ sym starts_are;
    steps = orders ∙ orders_are_those;
  }

-- ---- it can be worked through

step_works : (setup : Setup) (script : Script) → length script.starts ≡ peerings_in setup → length script.rooms ≡ routers_in setup → (step : StepOf)
    → IsStep setup step → IsWorkableStep script (step_for step)
step_works setup script starts rooms (SayStep p bytes) there = omega (arith, there)
step_works setup script starts rooms (MoveStep p target) there = (omega (arith, there.0), omega (arith, there.1))
step_works setup script starts rooms (EvacuateStep router) there = omega (arith, there)
step_works setup script starts rooms SettleStep there = tt

-- what is at an index of a list that was made of another one
all_made : {X Y : Type 0} (f : X → Y) (P : X → Type 0) (Q : Y → Type 0) → ((x : X) → P x → Q (f x)) → (xs : List X) → All P xs → All Q (map f xs)
all_made f P Q each [] all k d below = absurd (omega (arith, below))
all_made f P Q each (x ∷ xs) all zero d below = each x (all 0 x (omega arith))
all_made f P Q each (x ∷ xs) all (suc k) d below = all_made f P Q each xs (λ j e lt. all (suc j) e (omega arith)) k d (omega (arith, below))

module _ (input : LabInput) (accepted : IsAccepted input) (script : Script) (is : IsScriptOf (setup_of input) script) where
  abbrev setup : Setup
  setup = setup_of input

  sound : IsSetup setup
  sound = is_setup input accepted

  rooms_many : length script.rooms ≡ routers_in setup
  rooms_many = ap length is.rooms ∙ length-map setup.routers (λ (router : RouterSetup). router.room)

  starts_many : length script.starts ≡ peerings_in setup
  starts_many = ap length is.starts ∙ length-map setup.peerings (λ (peering : PeeringSetup). record { 0 = peering.start })

  steps_many : length script.steps ≡ length setup.steps
  steps_many = ap length is.steps ∙ length-map setup.steps step_for

  end_short : (o : Option StepOf) → length (ended_by o) ≤ 1
  end_short None = omega arith
  end_short (Some (SayStep q bytes)) = omega arith
  end_short (Some (MoveStep q target)) = omega arith
  end_short (Some (EvacuateStep router)) = omega arith
  end_short (Some SettleStep) = omega arith

  short : length setup.steps ≤ 4097
  short =
      let counts : HasFew input = few input accepted in
      let script : List StepOf = map (script_step input.peerings) input.steps in
      let mapped = length-map input.steps (script_step input.peerings) in
      let more = length-append script (ended_by (last_or None script)) in
      let end = end_short (last_or None script) in
      let whole : length setup.steps ≡ length (script ++ ended_by (last_or None script)) = ap length (steps_are input) in
      let most = counts.steps in
      omega (arith, mapped, more, end, whole, most)

  some_last : (xs : List StepOf) → last_or None xs ≡ Some SettleStep → 0 < length xs
  some_last [] e = absurd (let none : Option StepOf = None in let f : none ≡ Some SettleStep = e in cc)
  some_last (x ∷ xs) e = omega arith

  starts_below : All (λ (peering : PeeringSetup). peering.start < length script.rooms) setup.peerings
  starts_below k d below =
      let peering = slice_index_or setup.peerings k d in
      let s : IsPeeringSetup setup k peering = sound.peerings k peering (slice_get-get_or setup.peerings k d below) in
      let start = s.start in
      let rooms = rooms_many in
      omega arith

  pub is_workable : IsWorkable script
  is_workable = record {
    starts = subst (All (λ (start : RouterId). start.0 < length script.rooms)) (sym is.starts)
        (all_made (λ (peering : PeeringSetup). record { 0 = peering.start }) (λ (peering : PeeringSetup). peering.start < length script.rooms)
        (λ (start : RouterId). start.0 < length script.rooms) (λ x h. h) setup.peerings starts_below);
    steps = subst (All (IsWorkableStep script)) (sym is.steps)
        (all_made step_for (IsStep setup) (IsWorkableStep script) (step_works setup script starts_many rooms_many) setup.steps sound.steps);
    few = (let counts : HasFew input = few input accepted in let most = counts.routers in
        let rooms = rooms_many in let many = as_many_routers input in omega arith);
    peerings = (let counts : HasFew input = few input accepted in let most = counts.peerings in
        let starts = starts_many in let many = as_many_peerings input in omega arith);
    some = (let all = steps_many in let some = some_last setup.steps sound.ended in omega arith);
    short = (let all = steps_many in let few = short in omega arith);
    ended =
        ap (λ xs. slice_get xs (length xs - 1)) is.steps
        ∙ last_is (map step_for setup.steps)
        ∙ last_mapped step_for None setup.steps
        ∙ ap (option_map step_for) sound.ended;
  }
