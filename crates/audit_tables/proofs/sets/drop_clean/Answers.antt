use Rattle.std.proofs.Common.{◌≡◌, List, [], ◌∷◌, ◌++◌, ◌+◌, not, take, refl, sym, ap, ◌∙◌, arith}
use Rattle.std.proofs.lemmas.Bool.{not-true, not-false}
use Rattle.std.proofs.lemmas.List.{take_all, take_more}
use Rattle.bgp_types.specs.Prefixes.{PrefixValue}
use Rattle.std.specs.FinMap as map
use Rattle.session_value.specs.Sets.{Prefixes, has}
use Rattle.rib_stages.specs.Values.{table_at}
use Rattle.audit_tables.proofs.Dropping.{clean_in, clean_of_all, dropped_as, dropped_more, dropped_none, one_clean, one_dirty}
use Rattle.audit_tables.proofs.sets.drop_clean.Goals as goal

pub loop-prefix-init : goal.loop-prefix-init
loop-prefix-init c = dropped_none c.args.p c.args.due.now (clean_in c.args.rib.now.dirty []) (λ x. refl)

pub loop-prefix-preserved : goal.loop-prefix-preserved
loop-prefix-preserved c =
    let dirty = c.args.rib.now.dirty in
    let prefixes : List PrefixValue = c.deref-prefix-items.result.now in
    let i = c.loop-prefix.prefix-index in
    let y : PrefixValue = c.prefix-item.result in
    let more : take (i + 1) prefixes ≡ take i prefixes ++ y ∷ [] =
    take_more prefixes i y c.loop-prefix-test.true ∙ ap (λ (z : PrefixValue). take i prefixes ++ z ∷ []) (sym c.prefix-item.is) in
    dropped_more c.args.p c.args.due.now (clean_in dirty (take i prefixes)) c.loop-prefix.due c.loop-prefix.invariant y
    c.remove.new.self c.remove.ensures.length c.remove.ensures.removed (clean_in dirty (take (i + 1) prefixes))
    (λ x. ap (λ (l : List PrefixValue). clean_in dirty l x) more ∙ one_clean dirty (take i prefixes) y (sym c.is_dirty.ensures ∙ c.if-is_dirty.false) x)

pub loop-prefix-preserved-then-is_dirty : goal.loop-prefix-preserved-then-is_dirty
loop-prefix-preserved-then-is_dirty c =
    let dirty = c.args.rib.now.dirty in
    let prefixes : List PrefixValue = c.deref-prefix-items.result.now in
    let i = c.loop-prefix.prefix-index in
    let y : PrefixValue = c.prefix-item.result in
    let more : take (i + 1) prefixes ≡ take i prefixes ++ y ∷ [] =
    take_more prefixes i y c.loop-prefix-test.true ∙ ap (λ (z : PrefixValue). take i prefixes ++ z ∷ []) (sym c.prefix-item.is) in
    dropped_as c.args.p c.args.due.now (clean_in dirty (take i prefixes)) c.loop-prefix.due c.loop-prefix.invariant (clean_in dirty (take (i + 1) prefixes))
    (λ x there. ap (λ (l : List PrefixValue). clean_in dirty l x) more ∙ one_dirty dirty (take i prefixes) y (sym c.is_dirty.ensures ∙ c.if-is_dirty.true) x)

pub returns : goal.returns
returns c =
    let dirty = c.args.rib.now.dirty in
    let prefixes : List PrefixValue = c.deref-prefix-items.result.now in
    let i = c.loop-prefix.prefix-index in
    dropped_as c.args.p c.args.due.now (clean_in dirty (take i prefixes)) c.loop-prefix.due c.loop-prefix.invariant (λ x. not (has dirty x))
    (λ x there. clean_of_all dirty (table_at c.args.due.now c.args.p) prefixes (c.deref-prefix-items.ensures ∙ (c.in_ok-prefixes.ensures
    ∙ ap (λ (s : Prefixes). map.keys s) c.set.ensures)) x there
    ∙ ap (λ (l : List PrefixValue). clean_in dirty l x) (sym (take_all i prefixes (omega (arith, c.loop-prefix-test.false)))))
