use Rattle.std.proofs.Common.{◌≡◌, ◌<◌, ◌≤◌, ℕ, ◌+◌, [], ◌∷◌, drop, false, sym, ap, ◌∙◌, subst, arith}
use Rattle.std.proofs.lemmas.Bool.{false≢true}
use Rattle.std.proofs.lemmas.List.{drop_all, drop_more}
use Rattle.bgp_types.specs.declared.attrs.RawAttr.{RawAttr}
use Rattle.bgp_types.specs.Values.{is_other}
use Rattle.bgp_types.specs.Writable.{IsOther}
use Rattle.update_plan.proofs.Others.{RiseFrom, to_both, from_both}
use Rattle.update_plan.proofs.writable.are_others.Goals as goal
use Rattle.update_plan.proofs.writable.are_others.Goals.{then-not-is_other-via-then-not-is_other, then-not-is_other-via-else-not-is_other+then-kind-least}

no_other : (x : RawAttr) → is_other x.kind ≡ false → IsOther x → ⊥
no_other x e h = false≢true (sym e ∙ h.other)

not_low : (k least : ℕ) → k < least → least ≤ k → ⊥
not_low k least l h = omega arith

pub returns-then-not-is_other : goal.returns-then-not-is_other
returns-then-not-is_other c = λ both.
    let x = c.other-item.result in
    let i = c.loop-other.other-index in
    let xs = c.args.others.now in
    let is : drop i xs ≡ x ∷ drop (i + 1) xs = drop_more xs i x (omega arith) ∙ ap (λ (y : RawAttr). y ∷ drop (i + 1) xs) (sym c.other-item.is) in
    let h = subst (RiseFrom c.loop-other.least) is (c.loop-other.invariant.only (from_both xs both)) in
    elim c.then-not-is_other.branch [
      | then-not-is_other-via-then-not-is_other w ↦ no_other x (sym c.is_other.ensures ∙ w.if-not-is_other.true) h.0
      | then-not-is_other-via-else-not-is_other+then-kind-least w ↦
          not_low c.from-kind.result c.loop-other.least w.if-kind-least.true (subst (λ n. c.loop-other.least ≤ n) (sym c.from-kind.ensures) h.1)
    ]

pub returns : goal.returns
returns c =
    let none : drop c.loop-other.other-index c.args.others.now ≡ [] = drop_all c.loop-other.other-index c.args.others.now (omega arith) in
    to_both c.args.others.now (c.loop-other.invariant.then (subst (RiseFrom c.loop-other.least) (sym none) tt))
