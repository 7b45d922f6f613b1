use Rattle.std.proofs.Common.{◌≡◌, List, [], ◌∷◌, ◌++◌, ◌+◌, take, refl, sym, ap, ◌∙◌, subst, arith}
use Rattle.std.specs.FinMap as map
use Rattle.std.proofs.lemmas.List.{take_all, take_more}
use Rattle.bgp_types.specs.Prefixes.{PrefixValue}
use Rattle.session_value.specs.Sets.{Prefixes}
use Rattle.audit_tables.proofs.Waiting.{AreDirty, dirty_more, none_waits, one_waits}
use Rattle.audit_tables.proofs.tables.Tables.is_waiting.Goals as goal

pub set-requires : goal.set-requires
set-requires c = omega (arith, c.requires.there, c.requires.sound.due_out)

pub returns-then-not-is_dirty : goal.returns-then-not-is_dirty
returns-then-not-is_dirty c = λ places. (
  λ t. one_waits c.args.self.now c.args.p places c.deref-prefix-items.result.now
      (c.deref-prefix-items.ensures ∙ (c.in_ok-prefixes.ensures ∙ ap (λ (s : Prefixes). map.keys s) c.set.ensures))
      c.loop-prefix.prefix-index c.prefix-item.result c.loop-prefix-test.true c.prefix-item.is (sym c.is_dirty.ensures ∙ c.if-not-is_dirty.true),
  λ waits. refl,
)

pub loop-prefix-preserved : goal.loop-prefix-preserved
loop-prefix-preserved c =
    let prefixes : List PrefixValue = c.deref-prefix-items.result.now in
    let i = c.loop-prefix.prefix-index in
    let y : PrefixValue = c.prefix-item.result in
    let more : take (i + 1) prefixes ≡ take i prefixes ++ y ∷ [] =
    take_more prefixes i y c.loop-prefix-test.true ∙ ap (λ (z : PrefixValue). take i prefixes ++ z ∷ []) (sym c.prefix-item.is) in
    subst (AreDirty c.args.self.now.rib.dirty) (sym more)
    (dirty_more c.args.self.now.rib.dirty (take i prefixes) y c.loop-prefix.invariant (sym c.is_dirty.ensures ∙ c.if-not-is_dirty.false))

pub returns : goal.returns
returns c =
    let prefixes : List PrefixValue = c.deref-prefix-items.result.now in
    λ places. (
      λ t. absurd cc,
      λ waits. absurd (none_waits c.args.self.now c.args.p places prefixes
          (c.deref-prefix-items.ensures ∙ (c.in_ok-prefixes.ensures ∙ ap (λ (s : Prefixes). map.keys s) c.set.ensures))
          (subst (AreDirty c.args.self.now.rib.dirty) (take_all c.loop-prefix.prefix-index prefixes (omega (arith, c.loop-prefix-test.false)))
          c.loop-prefix.invariant) waits.0 waits.1),
    )
