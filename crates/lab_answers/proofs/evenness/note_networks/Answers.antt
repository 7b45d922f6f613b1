use Rattle.std.proofs.Common.{[], ◌∷◌, arith}
use Rattle.std.proofs.lemmas.List.Concat.{flat_map_single}
use Rattle.lab_answers.specs.Noted.{own_med}
use Rattle.lab_answers.proofs.Adding.{flat_step, flat_all, adds_same}
use Rattle.lab_answers.proofs.evenness.note_networks.Goals as goal

pub loop-prefix-preserved : goal.loop-prefix-preserved
loop-prefix-preserved c =
    flat_step (λ prefix. own_med c.args.home_as prefix ∷ []) c.args.networks.now c.loop-prefix.prefix-index _ _ _ _ (omega arith) c.prefix-item.is
    c.loop-prefix.invariant c.in_ok-note_own.ensures

pub returns : goal.returns
returns c =
    adds_same _ _ _ _ (flat_map_single (own_med c.args.home_as) c.args.networks.now)
    (flat_all (λ prefix. own_med c.args.home_as prefix ∷ []) c.args.networks.now c.loop-prefix.prefix-index _ _ (omega arith) c.loop-prefix.invariant)
