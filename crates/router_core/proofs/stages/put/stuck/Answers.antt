use Rattle.std.proofs.Common.{ℕ, Option, subst, arith}
use Rattle.router_core.specs.Parts.{router_part}
use Rattle.router_core.specs.Updates.{StuckAnswer}
use Rattle.router_core.proofs.StuckPlaces.{none_behind, none_more}
use Rattle.router_core.proofs.stages.put.stuck.Goals as goal

pub loop-n-preserved : goal.loop-n-preserved
loop-n-preserved c =
    let f = c.args.router.now in
    none_more f c.loop-n.n c.loop-n.invariant
    (subst (λ (a : Option ℕ). StuckAnswer f.known.setup f.number.0 (router_part f) c.loop-n.n a) c.in-None.is c.in_ok-length.ensures)

pub returns-in-Some : goal.returns-in-Some
returns-in-Some c =
    let f = c.args.router.now in
    (subst (λ (a : Option ℕ). StuckAnswer f.known.setup f.number.0 (router_part f) c.loop-n.n a) c.in-Some.is c.in_ok-length.ensures, c.loop-n.invariant)

pub returns : goal.returns
returns c = none_behind c.args.router.now c.loop-n.n c.loop-n.invariant (omega (arith, c.loop-n-test.false, c.len-n-end.ensures))
