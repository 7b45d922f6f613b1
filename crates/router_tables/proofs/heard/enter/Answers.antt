use Rattle.std.proofs.Common.{◌≡◌, List, [], ◌∷◌, ◌++◌, ◌+◌, take, sym, ap, subst, ◌∙◌}
use Rattle.std.proofs.lemmas.List.{take_more}
use Rattle.bgp_types.specs.Prefixes.{PrefixValue}
use Rattle.rib_stages.specs.Values.{rib_of}
use Rattle.router_tables.specs.Entering.{entry_here, EntersAll}
use Rattle.router_tables.proofs.EnterSteps.{enters_none, enters_more}
use Rattle.router_tables.proofs.heard.enter.Goals as goal

pub loop-prefix-init : goal.loop-prefix-init
loop-prefix-init c = enters_none (rib_of c.args.rib.now) c.args.session.now.session.config.peering.0
    (entry_here c.args.home_as c.args.policies.now c.args.session.now.session)

pub loop-prefix-preserved : goal.loop-prefix-preserved
loop-prefix-preserved c =
    let list : List PrefixValue = c.args.prefixes.now in
    let i = c.loop-prefix.prefix-index in
    let x : PrefixValue = c.prefix-item.result in
    let more : take (i + 1) list ≡ take i list ++ x ∷ [] =
    take_more list i x c.loop-prefix-test.true ∙ ap (λ (y : PrefixValue). take i list ++ y ∷ []) (sym c.prefix-item.is) in
    subst (λ (xs : List PrefixValue). EntersAll (rib_of c.args.rib.now) c.args.session.now.session.config.peering.0
    (entry_here c.args.home_as c.args.policies.now c.args.session.now.session) xs (rib_of c.enter_one.new.rib)) (sym more)
    (enters_more (rib_of c.args.rib.now) (rib_of c.loop-prefix.rib) (rib_of c.enter_one.new.rib) c.args.session.now.session.config.peering.0
    (entry_here c.args.home_as c.args.policies.now c.args.session.now.session) (take i list) x c.loop-prefix.invariant c.in_ok-enter_one.ensures)
