use Rattle.update_plan.proofs.Lasts.{joined}
use Rattle.update_plan.proofs.gather.Gathered.join.Goals as goal

pub returns-clause-batches : goal.returns-clause-batches
returns-clause-batches c = λ before batch after is at.
    joined c.args.self.now.batches.items before after batch c.index_mut-batch.result.now c.args.number
    c.push.new.self c.args.prefix is at c.index_mut-batch.ensures.value c.in_ok-push.ensures.ok
