use Rattle.std.proofs.Common.{◌<◌, ◌++◌, length, take, ap, sym, ◌∙◌, arith, ℕ, List}
use Rattle.std.specs.Prelude.{Option}
use Rattle.lab_tables.specs.declared.input.Step.{Step}
use Rattle.lab_input.proofs.Numbered.{flat_map_numbered}
use Rattle.actor_configs.specs.declared.says.Say.{Say}
use Rattle.lab_setup.specs.Said.{bytes_of_step}
use Rattle.node_configs.specs.Says.{say_if, says_of}
use Rattle.node_configs.proofs.says.says_of.Goals as goal

-- what one step more says
pub loop-i-preserved : goal.loop-i-preserved
loop-i-preserved c =
    let below : c.loop-i.i < length c.args.steps.now = omega (arith, c.loop-i-test.true) in
    let said : ℕ × Step → List Say = λ x. say_if x.0 (bytes_of_step c.args.wide c.args.peering.0 x.1) in
    c.in_ok-push_said.ensures
    ∙ ap (λ (says : List Say). says ++ say_if c.loop-i.i c.in_ok-said.said) c.loop-i.invariant
    ∙ ap (λ (o : Option (List ℕ)). says_of c.args.wide c.args.peering.0 (take c.loop-i.i c.args.steps.now) ++ say_if c.loop-i.i o) c.in_ok-said.ensures
    ∙ sym (flat_map_numbered said c.args.steps.now c.loop-i.i c.index-steps-i.result below c.index-steps-i.is)
