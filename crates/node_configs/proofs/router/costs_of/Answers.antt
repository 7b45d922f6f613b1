use Rattle.std.proofs.Common.{◌≡◌, ◌+◌, ◌∷◌, [], ◌++◌, map, ap, sym, ◌∙◌, arith, ℕ, List}
use Rattle.std.specs.List.{range_with_len}
use Rattle.std.proofs.lemmas.List.FromFn.{map-range_with_len_more}
use Rattle.lab_setup.specs.Setups.{cost_from}
use Rattle.node_configs.proofs.router.costs_of.Goals as goal

-- one cost more
pub loop-to-preserved : goal.loop-to-preserved
loop-to-preserved c =
    let cost : ℕ → ℕ = cost_from c.args.input.now.costs c.args.from in
    let index : 0 + c.loop-to.to ≡ c.loop-to.to = omega arith in
    c.in_ok-push.ensures.ok
    ∙ ap (λ (xs : List ℕ). xs ++ c.cost_from.result ∷ []) c.loop-to.invariant
    ∙ ap (λ x. map cost (range_with_len 0 c.loop-to.to) ++ x ∷ []) (c.cost_from.ensures ∙ ap (λ xs. cost_from xs c.args.from c.loop-to.to) c.deref.ensures)
    ∙ sym (map-range_with_len_more cost 0 c.loop-to.to c.loop-to.to index)
