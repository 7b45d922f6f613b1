use Rattle.std.proofs.Common.{ℕ, ◌≡◌, List, length, Result, Ok, Err, arith, ◌∙◌, subst, sym}
use Rattle.std.specs.Prelude.{IfOk}
use Rattle.std.specs.List.{AllByRecursion}
use Rattle.std.proofs.lemmas.Result.{IfOk-weaker}
use Rattle.graft_edge.specs.declared.memory.NoMemory.{NoMemory}
use Rattle.link_bag.specs.declared.plan.Fault.{Fault}
use Rattle.graft_model.specs.Setups.{Setup}
use Rattle.world_runs.specs.Labs.{AreFirstActors}
use Rattle.world_nodes.specs.declared.running_lab.RunningLab.{RunningLab}
use Rattle.world_nodes.specs.declared.node.Node.{Node}
use Rattle.world_nodes.specs.RunningLabs.{stand}
use Rattle.world_nodes.specs.Edges.{HasCounts}
use Rattle.world_nodes.specs.Fresh.{IsFresh}
use Rattle.world_nodes.specs.Nodes.{own}
use Rattle.world_nodes.specs.Ways.{Stand, IsFirstStand}
use Rattle.lab_setup.specs.Setups.{setup_of}
use Rattle.lab_setup.proofs.Ready.{as_many_routers, as_many_peerings}
use Rattle.node_configs.proofs.Accepted.{few}
use Rattle.lab_tables.specs.declared.input.LabInput.{LabInput}
use Rattle.lab_run.specs.Runs.{BeginsFresh}
use Rattle.lab_run.proofs.lab.begin.Goals as goal

-- the laboratory has as many routers and peerings as its input
counts_of : (input : LabInput) (routers peerings : ℕ) → routers ≡ length input.routers → peerings ≡ length input.peerings
    → HasCounts (setup_of input) (routers, peerings)
counts_of input routers peerings routers_are peerings_are =
    record { routers = as_many_routers input ∙ sym routers_are; peerings = as_many_peerings input ∙ sym peerings_are }

pub overflow_cast-routers : goal.overflow_cast-routers
overflow_cast-routers c = let f = few c.args.input.now c.requires in omega (arith, f.routers, c.len-routers.ensures)

pub overflow_cast-peerings : goal.overflow_cast-peerings
overflow_cast-peerings c = let f = few c.args.input.now c.requires in omega (arith, f.peerings, c.len-peerings.ensures)

pub begin-requires-clause-few : goal.begin-requires-clause-few
begin-requires-clause-few c = let f = few c.args.input.now c.requires in
    (omega (arith, f.routers, c.len-routers.ensures), omega (arith, f.peerings, c.len-peerings.ensures))

-- the actors of a running are those that it was given
begun : (setup : Setup) (faults : List Fault) (actors : List Node) (a : Stand) → IsFirstStand setup a → a.view.actors ≡ actors
    → AllByRecursion (IsFresh setup faults) actors → BeginsFresh setup faults a
begun setup faults actors a begins its fresh =
    record { begins = begins; fresh = subst (λ (xs : List Node). AllByRecursion (IsFresh setup faults) xs) (sym its ∙ begins.new.all) fresh }

both_begun : (setup : Setup) (faults : List Fault) (n : ℕ × ℕ) (actors : List Node) (result : Result RunningLab NoMemory) → HasCounts setup n
    → AreFirstActors own setup actors → AllByRecursion (IsFresh setup faults) actors
    → IfOk result (λ running. (s : Setup) → HasCounts s n → AreFirstActors own s actors → IsFirstStand s (stand running))
    → IfOk result (λ running. (stand running).view.actors ≡ actors)
    → IfOk result (λ running. BeginsFresh setup faults (stand running))
both_begun setup faults n actors (Ok running) has first fresh begins its = begun setup faults actors (stand running) (begins setup has first) its fresh
both_begun setup faults n actors (Err e) has first fresh begins its = tt

pub returns-clause-begins : goal.returns-clause-begins
returns-clause-begins c = both_begun (setup_of c.args.input.now) c.args.input.now.faults _ _ c.begin.result
    (counts_of c.args.input.now c.len-routers.result c.len-peerings.result c.len-routers.ensures c.len-peerings.ensures)
    c.in_ok-actors.ensures.first c.in_ok-actors.ensures.fresh c.begin.ensures.begins c.begin.ensures.actors

pub returns-clause-counts : goal.returns-clause-counts
returns-clause-counts c = IfOk-weaker c.begin.result _ _ (λ running same. subst (λ (n : ℕ × ℕ). HasCounts (setup_of c.args.input.now) n) (sym same)
    (counts_of c.args.input.now c.len-routers.result c.len-peerings.result c.len-routers.ensures c.len-peerings.ensures)) c.begin.ensures.counts
