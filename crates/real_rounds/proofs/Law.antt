-- The law of rounds, from the laws of the crates below.
use Rattle.std.proofs.Common.{◌<◌, ℕ, List, [], ◌∷◌, length, arith}
use Rattle.std.specs.List.{AllByRecursion}
use Rattle.link_bag.specs.declared.plan.Fault.{Fault}
use Rattle.ring_net.specs.Phases.{InOrder}
use Rattle.graft_model.specs.Setups.{Setup, IsSetup}
use Rattle.graft_actors.specs.Laws.{OneWorldIsSeen}
use Rattle.bgp_session.specs.Running.{carried}
use Rattle.world_runs.specs.Marks.{MarksStandForWorlds}
use Rattle.world_runs.specs.Runs.{Ran}
use Rattle.world_runs.specs.Laws.{AnActIsAStep, ActsAreARun, NothingWasDropped, NobodyWritesToItself}
use Rattle.world_nodes.specs.Fresh.{IsFresh}
use Rattle.world_nodes.specs.Nodes.{own}
use Rattle.world_nodes.specs.Ways.{Stand, IsFirstStand, Way}
use Rattle.world_nodes.specs.declared.node.Node.{Node}
use Rattle.real_rounds.proofs.Calls.{calls_say}
use Rattle.real_rounds.specs.Laws.{RoundsAreReal}
use Rattle.real_rounds.proofs.Legs.{legs_of}
use Rattle.real_rounds.proofs.RunsBetween.{pause_runs}
use Rattle.real_rounds.proofs.Rounds.{rounds_real}
use Rattle.real_rounds.proofs.Ticking.{ticking}
use Rattle.real_rounds.proofs.Earlier.{ticks_earlier}

-- one of the actors
record OneOf (setup : Setup) (faults : List Fault) : Type 0 where
  node : Node
  fresh : IsFresh setup faults node

one_of : (setup : Setup) (faults : List Fault) (actors : List Node) → 0 < length actors → AllByRecursion (IsFresh setup faults) actors → OneOf setup faults
one_of setup faults [] some fresh = absurd (omega (arith, some))
one_of setup faults (x ∷ xs) some fresh = record { node = x; fresh = fresh.0 }

module _ (runs : (setup : Setup) (a b : Stand) (rounds : List ℕ) → IsSetup setup → IsFirstStand setup a → Way setup a rounds b → Ran own carried setup b.view)
    (orders : (setup : Setup) (a b : Stand) (rounds : List ℕ) → IsSetup setup → IsFirstStand setup a → Way setup a rounds b → InOrder b.view)
    (worlds : MarksStandForWorlds own carried) (act_is_a_step : AnActIsAStep carried) (acts_run : ActsAreARun carried)
    (dropped : NothingWasDropped) (itself : NobodyWritesToItself) (one : OneWorldIsSeen) where
  pub all_real : RoundsAreReal
  all_real setup faults a b made journal sound begins fresh way merge =
      let some = one_of setup faults begins.actors (omega (arith, begins.first.all)) fresh in
      let legs = legs_of setup a (λ c rounds w. runs setup a c rounds sound begins w) (λ c rounds w. orders setup a c rounds sound begins w)
      (λ c e quiet pause. pause_runs setup sound act_is_a_step acts_run some.node c e quiet pause) begins b made way in
      let b_ran = runs setup a b made sound begins way in
      rounds_real calls_say setup faults a b sound begins fresh some.node some.fresh legs journal merge b_ran worlds dropped itself one acts_run
      (ticking calls_say)
      (ticks_earlier calls_say setup faults a b begins fresh some.node some.fresh legs journal merge b_ran worlds dropped)
