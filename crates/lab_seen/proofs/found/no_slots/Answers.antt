use Rattle.std.proofs.Common.{◌≡◌, ◌+◌, ◌++◌, [], ◌∷◌, None, sym, ap, ◌∙◌, arith}
use Rattle.std.proofs.lemmas.List.FromFn.{map-range_with_len_more}
use Rattle.lab_seen.specs.Found.{first_on}
use Rattle.lab_seen.proofs.found.no_slots.Goals as goal

pub loop-preserved : goal.loop-preserved
loop-preserved c =
    let index : 0 + c.loop.counter ≡ c.loop.counter = omega arith in
    c.in_ok-push.ensures.items ∙ ap (λ slots. slots ++ None ∷ []) c.loop.invariant
    ∙ sym (map-range_with_len_more (first_on []) 0 c.loop.counter c.loop.counter index)
