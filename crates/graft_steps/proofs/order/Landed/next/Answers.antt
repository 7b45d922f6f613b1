use Rattle.std.proofs.Common.{rules, ◌≡◌, ◌≤◌, sym, subst, ℕ, arith}
use Rattle.graft_steps.specs.Landings.{AreAllAsked}
use Rattle.graft_steps.proofs.Asking.{all_before, one_more, next_to_ask, rests}
use Rattle.graft_steps.proofs.order.Landed.next.Goals as goal

pub loop-router-init : goal.loop-router-init
loop-router-init c =
    let n : c.self.inside.next ≡ c.args.self.now.next = search rules in
    subst (λ (m : ℕ). AreAllAsked c.from-source.result c.from-target.result m c.args.self.now.next)
    (sym n) (all_before c.from-source.result c.from-target.result c.args.self.now.next)

pub returns-then-router-target-clause-some : goal.returns-then-router-target-clause-some
returns-then-router-target-clause-some c =
    let e : c.from-source.result ≡ c.args.self.now.ids.source.0 = search rules in
    let f : c.from-target.result ≡ c.args.self.now.ids.target.0 = search rules in
    let n : c.args.self.now.next ≤ c.loop-router.router = search rules in
    next_to_ask c.from-source.result _ c.from-target.result _ _ _ _ e f c.loop-router.invariant
    n c.loop-router-test.true c.if-router-source.true c.if-router-target.true

pub loop-router-preserved : goal.loop-router-preserved
loop-router-preserved c = one_more c.from-source.result c.from-target.result c.loop-router.router c.args.self.now.next c.loop-router.invariant (search rules)

pub returns-clause-none : goal.returns-clause-none
returns-clause-none c =
    let e : c.from-source.result ≡ c.args.self.now.ids.source.0 = search rules in
    let f : c.from-target.result ≡ c.args.self.now.ids.target.0 = search rules in
    rests c.from-source.result _ c.from-target.result _ _ _ _ e f c.loop-router.invariant (omega (arith, c.loop-router-test.false))
