use Rattle.std.proofs.Common.{Bool, refl, subst}
use Rattle.std.specs.FinMap as map
use Rattle.loc_rib.specs.Values.{DifferIf}
use Rattle.rib_stages.specs.Choosing.{rib_choice}
use Rattle.rib_stages.specs.Values.{rib_of}
use Rattle.router_core.proofs.DecideSteps.{decides_other, decides_same}
use Rattle.router_core.proofs.stages.decide.decide_one.Goals as goal

pub returns-in_ok-due_to_all-clause-decides : goal.returns-in_ok-due_to_all-clause-decides
returns-in_ok-due_to_all-clause-decides c = decides_other c.args.router.now (record c.args.router.now { rib = c.decide.new.self }) c.due_to_all.new.router
    c.args.post.now c.note_router.new.post c.args.prefix c.requires.keeps c.requires.dirty refl c.in_ok-decide.ensures.ok c.in_ok-note_router.ensures.ok
    (subst (λ (b : Bool). DifferIf (rib_choice (rib_of c.args.router.now.rib) c.args.prefix) (map.get c.args.router.now.rib.best c.args.prefix) b)
    c.if-branch.true c.in_ok-decide.ensures.changed) c.in_ok-due_to_all.ensures

pub returns-else-branch-clause-decides : goal.returns-else-branch-clause-decides
returns-else-branch-clause-decides c = decides_same c.args.router.now (record c.args.router.now { rib = c.decide.new.self })
    (record c.args.router.now { rib = c.decide.new.self }) c.args.post.now c.note_router.new.post c.args.prefix
    c.requires.keeps c.requires.dirty refl c.in_ok-decide.ensures.ok c.in_ok-note_router.ensures.ok
    (subst (λ (b : Bool). DifferIf (rib_choice (rib_of c.args.router.now.rib) c.args.prefix) (map.get c.args.router.now.rib.best c.args.prefix) b)
    c.if-branch.false c.in_ok-decide.ensures.changed) refl
