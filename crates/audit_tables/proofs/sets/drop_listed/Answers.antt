use Rattle.std.proofs.Common.{◌≡◌, List, [], ◌∷◌, ◌++◌, ◌+◌, take, refl, sym, ap, ◌∙◌, arith}
use Rattle.std.specs.List.{list_any}
use Rattle.std.proofs.lemmas.List.{take_all, take_more}
use Rattle.bgp_types.specs.Prefixes.{PrefixValue, same_prefix}
use Rattle.audit_tables.proofs.Dropping.{any_one_more, dropped_as, dropped_more, dropped_none}
use Rattle.audit_tables.proofs.sets.drop_listed.Goals as goal

pub loop-prefix-init : goal.loop-prefix-init
loop-prefix-init c = dropped_none c.args.p c.args.due.now (λ x. list_any (same_prefix x) []) (λ x. refl)

pub loop-prefix-preserved : goal.loop-prefix-preserved
loop-prefix-preserved c =
    let prefixes : List PrefixValue = c.args.prefixes.now in
    let i = c.loop-prefix.prefix-index in
    let y : PrefixValue = c.prefix-item.result in
    let more : take (i + 1) prefixes ≡ take i prefixes ++ y ∷ [] =
    take_more prefixes i y c.loop-prefix-test.true ∙ ap (λ (z : PrefixValue). take i prefixes ++ z ∷ []) (sym c.prefix-item.is) in
    dropped_more c.args.p c.args.due.now (λ x. list_any (same_prefix x) (take i prefixes)) c.loop-prefix.due c.loop-prefix.invariant y
    c.remove.new.self c.remove.ensures.length c.remove.ensures.removed (λ x. list_any (same_prefix x) (take (i + 1) prefixes))
    (λ x. ap (λ (l : List PrefixValue). list_any (same_prefix x) l) more ∙ any_one_more (take i prefixes) y x)

pub returns : goal.returns
returns c =
    let prefixes : List PrefixValue = c.args.prefixes.now in
    let i = c.loop-prefix.prefix-index in
    dropped_as c.args.p c.args.due.now (λ x. list_any (same_prefix x) (take i prefixes)) c.loop-prefix.due c.loop-prefix.invariant
    (λ x. list_any (same_prefix x) prefixes)
    (λ x there. ap (λ (l : List PrefixValue). list_any (same_prefix x) l) (sym (take_all i prefixes (omega (arith, c.loop-prefix-test.false)))))
