use Rattle.std.proofs.Common.{◌≡◌, ◌+◌, ℕ, ap, sym, subst, ◌∙◌, arith}
use Rattle.graft_model.specs.First.{first_operator, first_world}
use Rattle.graft_model.specs.Setups.{IsSetup, Setup, peerings_in, routers_in}
use Rattle.actor_configs.specs.Scripts.{IsScriptOf}
use Rattle.world_runs.specs.Labs.{actors_in}
use Rattle.audit_channels.specs.Channels.{IsSquare}
use Rattle.lab_setup.proofs.Ready.{as_many_peerings, as_many_routers}
use Rattle.node_configs.proofs.Accepted.{few, is_setup}
use Rattle.run_auditor.specs.Begins.{AreFirstFarSides, AreFirstRouters}
use Rattle.run_auditor.specs.States.{StandsFor}
use Rattle.run_auditor.specs.declared.auditor.Auditor.{Auditor}
use Rattle.run_auditor.proofs.First.{sound_first, stands_first}
use Rattle.run_auditor.proofs.auditor.Auditor.new.Goals as goal

pub new-requires-clause-script : goal.new-requires-clause-script
new-requires-clause-script c = subst (λ (s : Setup). IsScriptOf s c.in_ok-script.script) (sym c.known_for.ensures) c.in_ok-script.ensures.script

-- there are few actors
pub overflow_add-actors : goal.overflow_add-actors
overflow_add-actors c =
    let most = few c.args.input.now c.requires in
    omega (arith, most.routers, most.peerings, c.len.ensures, c.len-2.ensures)

pub returns : goal.returns
returns c =
    let most = few c.args.input.now c.requires in
    let many_routers = as_many_routers c.args.input.now in
    let many_peerings = as_many_peerings c.args.input.now in
    let known = c.known_for-known.ensures in
    let f : Auditor = record {
      known = c.known_for-known.result;
      routers = c.in_ok-routers.routers;
      far_sides = c.in_ok-far_sides.far_sides;
      operator = c.in_ok-operator.operator;
      inboxes = c.in_ok-inboxes.inboxes;
    } in
    let is_sound : IsSetup f.known.setup = subst IsSetup (sym known) (is_setup c.args.input.now c.requires) in
    let routers : AreFirstRouters f.known.setup f.routers.items = subst (λ (s : Setup). AreFirstRouters s f.routers.items) (sym known) c.in_ok-routers.ensures in
    let far_sides : AreFirstFarSides f.known.setup f.far_sides.items =
    subst (λ (s : Setup). AreFirstFarSides s f.far_sides.items) (sym known) c.in_ok-far_sides.ensures in
    let routers_are = ap routers_in known in
    let peerings_are = ap peerings_in known in
    let actors : c.len.result + c.len-2.result + 1 ≡ actors_in f.known.setup =
    omega (arith, c.len.ensures, c.len-2.ensures, many_routers, many_peerings, routers_are, peerings_are) in
    let square = subst (λ (n : ℕ). IsSquare n f.inboxes.items) actors c.in_ok-inboxes.ensures.square in
    let begins = c.parts_begin_as_the_first_world.ensures f.known.setup in
    let own = c.known_for.ensures ∙ sym known in
    let operator = c.in_ok-operator.ensures.first ∙ ap first_operator own in
    record {
      setup = known;
      first = subst (λ (s : Setup). StandsFor f (first_world s)) known
          (stands_first f begins is_sound routers far_sides operator c.in_ok-inboxes.ensures.empty);
      sound = sound_first f begins is_sound routers far_sides operator c.in_ok-inboxes.ensures.empty
          (omega (arith, routers_are, many_routers, most.routers)) (omega (arith, peerings_are, many_peerings, most.peerings))
          (c.in_ok-operator.ensures.setup ∙ own) c.in_ok-operator.ensures.sound square;
    }

pub overflow_add-actors-2 : goal.overflow_add-actors-2
overflow_add-actors-2 c =
    let most = few c.args.input.now c.requires in
    omega (arith, most.routers, most.peerings, c.len.ensures, c.len-2.ensures)
