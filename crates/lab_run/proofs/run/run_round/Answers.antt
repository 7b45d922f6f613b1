use Rattle.std.proofs.Common.{ℕ, sym, subst}
use Rattle.std.proofs.lemmas.Result.{IfOk-weaker}
use Rattle.world_nodes.specs.RunningLabs.{stand}
use Rattle.world_nodes.specs.Edges.{HasCounts}
use Rattle.lab_run.proofs.Counts.{round_names}
use Rattle.lab_run.proofs.run.run_round.Goals as goal

pub returns-clause-names : goal.returns-clause-names
returns-clause-names g c = IfOk-weaker c.decide_at_mark.result _ _ (λ verdict names setup sound has.
    round_names setup c.args.budget c.args.step c.args.rounds (stand c.args.running.now) (stand c.round.new.self) verdict c.in_ok-round.ensures.round
    (λ w d at. names setup w d sound (subst (λ (n : ℕ × ℕ). HasCounts setup n) (sym c.in_ok-round.ensures.counts) has) at)) c.decide_at_mark.ensures
