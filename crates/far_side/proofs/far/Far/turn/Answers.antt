use Rattle.std.proofs.lemmas.Result.{on_ok_weaker}
use Rattle.far_side.proofs.far.Far.turn.Goals as goal

pub returns-clause-turned : goal.returns-clause-turned
returns-clause-turned g c = on_ok_weaker c.turn-turned.result
    (λ each session. let t = (each.each session).moved in
    record { deeds = t.deeds; wrote = t.wrote; none = t.none; replay = t.replay; moved = t.moved }) c.turn-turned.ensures.turned
