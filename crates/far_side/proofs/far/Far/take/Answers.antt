use Rattle.std.proofs.lemmas.Result.{on_ok_weaker}
use Rattle.far_side.proofs.far.Far.take.Goals as goal

pub returns-clause-took : goal.returns-clause-took
returns-clause-took g c = on_ok_weaker c.take-taken.result
    (λ each session. let t = (each.each session).took in
    record { deeds = t.deeds; wrote = t.wrote; first = t.first; replay = t.replay; took = t.took }) c.take-taken.ensures.took
