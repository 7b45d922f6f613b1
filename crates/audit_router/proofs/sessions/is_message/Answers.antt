use Rattle.std.proofs.Common.{◌≡◌, List, [], ◌∷◌, ◌++◌, ◌+◌, take, sym, ap, ◌∙◌, subst}
use Rattle.std.specs.Prelude.{All}
use Rattle.std.proofs.lemmas.List.{take_more}
use Rattle.std.proofs.lemmas.List.Elements.{All-nil, All-push}
use Rattle.bgp_types.specs.Prefixes.{IsPrefix, PrefixValue}
use Rattle.audit_router.proofs.sessions.is_message.Goals as goal

pub loop-prefix-init : goal.loop-prefix-init
loop-prefix-init c = All-nil IsPrefix

pub loop-prefix-preserved : goal.loop-prefix-preserved
loop-prefix-preserved c =
    let prefixes : List PrefixValue = c.deref-prefix-items.result.now in
    let i = c.loop-prefix.prefix-index in
    let y : PrefixValue = c.prefix-item.result in
    let more : take (i + 1) prefixes ≡ take i prefixes ++ y ∷ [] =
    take_more prefixes i y c.loop-prefix-test.true ∙ ap (λ (z : PrefixValue). take i prefixes ++ z ∷ []) (sym c.prefix-item.is) in
    subst (All IsPrefix) (sym more) (All-push IsPrefix (take i prefixes) y c.loop-prefix.invariant c.len.ensures.sound)
