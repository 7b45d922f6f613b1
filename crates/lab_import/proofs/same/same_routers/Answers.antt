use Rattle.std.proofs.Common.{◌≡◌, ◌≢◌, ℕ, Bool, List, [], ◌∷◌, subst, sym, arith}
use Rattle.std.specs.Prelude.{codes, MatchBool}
use Rattle.lab_import.specs.Texts.{first_id, second_id}
use Rattle.lab_import.specs.Inputs.{router_of}
use Rattle.lab_import.proofs.Pairs.{two, second_tells, first_tells}
use Rattle.lab_import.proofs.same.same_routers.Goals as goal

pub returns-then-same_router : goal.returns-then-same_router
returns-then-same_router c =
    let i = c.args.imported.now in
    let home = router_of (codes "r1") (first_id i) in
    let other = router_of (codes "r2") (second_id i) in
    let first = c.first-item.result in
    let second = c.second-item.result in
    let are : c.args.routers.now ≡ first ∷ second ∷ []
    = two c.args.routers.now first second (omega (arith, c.in-len2.len_at_least)) (omega (arith, c.in-len2.len_below)) c.first-item.is c.second-item.is in
    second_tells c.args.routers.now first second home other are c.same_router-then-same_router.result
    (subst (λ (id : ℕ). first ≡ router_of (codes "r1") id) c.first_id.ensures c.if-same_router.ensures)
    (subst (λ (id : ℕ). MatchBool c.same_router-then-same_router.result (second ≡ router_of (codes "r2") id) (second ≢ router_of (codes "r2") id))
    c.second_id.ensures c.same_router-then-same_router.ensures)

pub returns-else-same_router : goal.returns-else-same_router
returns-else-same_router c =
    let i = c.args.imported.now in
    let home = router_of (codes "r1") (first_id i) in
    let other = router_of (codes "r2") (second_id i) in
    let first = c.first-item.result in
    let second = c.second-item.result in
    let are : c.args.routers.now ≡ first ∷ second ∷ []
    = two c.args.routers.now first second (omega (arith, c.in-len2.len_at_least)) (omega (arith, c.in-len2.len_below)) c.first-item.is c.second-item.is in
    first_tells c.args.routers.now first second home other are c.same_router.result c.if-same_router.false
    (subst (λ (id : ℕ). first ≢ router_of (codes "r1") id) c.first_id.ensures c.if-same_router.ensures)
