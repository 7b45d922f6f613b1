use Rattle.std.proofs.Common.{◌≡◌, List, [], ◌∷◌, ◌++◌, ◌+◌, take, sym, ap, subst, ◌∙◌}
use Rattle.std.proofs.lemmas.List.{take_more}
use Rattle.bgp_types.specs.Prefixes.{PrefixValue}
use Rattle.router_tables.specs.Dues.{AddsAll}
use Rattle.router_tables.proofs.PrefixSets.{adds_none, adds_more}
use Rattle.router_tables.proofs.prefixes.add_all.Goals as goal

pub loop-prefix-init : goal.loop-prefix-init
loop-prefix-init c = adds_none c.args.set.now

pub loop-prefix-preserved : goal.loop-prefix-preserved
loop-prefix-preserved c =
    let list : List PrefixValue = c.args.prefixes.now in
    let i = c.loop-prefix.prefix-index in
    let x : PrefixValue = c.prefix-item.result in
    let more : take (i + 1) list ≡ take i list ++ x ∷ [] =
    take_more list i x c.loop-prefix-test.true ∙ ap (λ (y : PrefixValue). take i list ++ y ∷ []) (sym c.prefix-item.is) in
    subst (λ (xs : List PrefixValue). AddsAll c.args.set.now xs c.insert.new.self) (sym more)
    (adds_more c.args.set.now c.loop-prefix.set c.insert.new.self (take i list) x c.loop-prefix.invariant c.in_ok-insert.ensures.ok)
