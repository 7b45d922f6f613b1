use Rattle.std.proofs.Common.{List, ◌++◌, ◌∷◌, [], ℕ, sym, ap, ◌∙◌, arith}
use Rattle.std.proofs.lemmas.List.FromFn.{map-range_with_len_more}
use Rattle.operator_state.specs.Evacuate.{load_of, seat_loads}
use Rattle.operator_state.proofs.evacuate.loads_of.Goals as goal

pub loop-router-preserved : goal.loop-router-preserved
loop-router-preserved c =
    c.in_ok-push.ensures.ok
    ∙ ap (λ (loads : List ℕ). loads ++ c.load_of.result ∷ []) c.loop-router.invariant
    ∙ ap (λ (load : ℕ). seat_loads c.args.seats.now c.loop-router.router ++ load ∷ []) c.load_of.ensures
    ∙ sym (map-range_with_len_more (load_of c.args.seats.now) 0 c.loop-router.router c.loop-router.router (omega arith))
