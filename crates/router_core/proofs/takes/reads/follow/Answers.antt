use Rattle.std.proofs.Common.{◌≡◌, ℕ, List, length, sym, refl, ap, subst, ◌∙◌}
use Rattle.std.specs.FinMap as map
use Rattle.bgp_types.specs.Prefixes.{PrefixValue}
use Rattle.bgp_session.specs.declared.answers.ReadStep.{ReadStep}
use Rattle.bgp_session.specs.declared.answers.ReadStep.TheVariants as steps
use Rattle.rib_stages.specs.Values.{rib_of, table_at}
use Rattle.graft_model.specs.Points.{at}
use Rattle.router_tables.specs.Entering.{entry_here, EntersAll}
use Rattle.router_core.specs.Places.{RunsAt}
use Rattle.router_core.specs.Reading.{FollowsStep}
use Rattle.router_core.specs.declared.fields.Fields.{Fields}
use Rattle.router_tables.proofs.EnterSteps.{enters_none}
use Rattle.router_core.proofs.FollowSteps.{both_ok, follows_due, follows_same}
use Rattle.router_core.proofs.takes.reads.follow.Goals as goal

pub returns-in_ok-due-in-Established : goal.returns-in_ok-due-in-Established
returns-in_ok-due-in-Established c = λ s o live own.
    subst (λ (st : ReadStep). FollowsStep c.args.router.now c.args.peering.0 s st
    (let g : Fields = record c.args.router.now { due_out = c.put.new.self } in g)) (sym c.in-Established.is)
    (follows_due c.args.router.now (let g : Fields = record c.args.router.now { due_out = c.put.new.self } in g)
    c.args.peering.0 s steps.Established c.in_ok-due-in-Established.due refl
    (enters_none (rib_of c.args.router.now.rib) c.args.peering.0 (entry_here c.args.router.now.home_as c.args.router.now.policies s.session))
    c.put.ensures.length
    (c.put.ensures.put ∙ ap (λ (n : ℕ). at (table_at c.args.router.now.due_out) n c.in_ok-due-in-Established.due) c.from-place.ensures)
    c.in_ok-due-in-Established.ensures)

pub returns-in-Changed : goal.returns-in-Changed
returns-in-Changed c = λ s o live own.
    both_ok c.enter_at.result c.enter_at.ensures.same
    (c.enter_at.ensures.entered s o (subst (λ (n : ℕ). RunsAt c.args.router.now.places.places n s o) (sym c.from-place.ensures) live))
    (λ same entered. subst (λ (st : ReadStep). FollowsStep c.args.router.now c.args.peering.0 s st c.enter_at.new.router) (sym c.in-Changed.is)
    (follows_same c.args.router.now c.enter_at.new.router c.args.peering.0 s c.in-Changed.prefixes same
    (subst (λ (n : ℕ). EntersAll (rib_of c.args.router.now.rib) n
    (entry_here c.args.router.now.home_as c.args.router.now.policies s.session) c.in-Changed.prefixes (rib_of c.enter_at.new.router.rib)) own
    (subst (λ (ks : List PrefixValue). EntersAll (rib_of c.args.router.now.rib) s.session.config.peering.0
    (entry_here c.args.router.now.home_as c.args.router.now.policies s.session) ks (rib_of c.enter_at.new.router.rib)) c.as_slice.ensures entered))))

pub returns-in-Closed : goal.returns-in-Closed
returns-in-Closed c = λ s o live own.
    let mid : Fields = record c.args.router.now { due_out = c.clear.new.self } in
    let g : Fields = c.enter_at-in-Closed.new.router in
    both_ok c.enter_at-in-Closed.result c.enter_at-in-Closed.ensures.same
    (c.enter_at-in-Closed.ensures.entered s o (subst (λ (n : ℕ). RunsAt c.args.router.now.places.places n s o) (sym c.from-place.ensures) live))
    (λ same entered. subst (λ (st : ReadStep). FollowsStep c.args.router.now c.args.peering.0 s st g) (sym c.in-Closed.is)
    (follows_due c.args.router.now g c.args.peering.0 s (steps.Closed c.in-Closed.prefixes) map.empty
    (subst (λ (h : Fields). h ≡ record c.args.router.now { rib = h.rib; due_out = h.due_out }) (sym same) refl)
    (subst (λ (n : ℕ). EntersAll (rib_of c.args.router.now.rib) n
    (entry_here c.args.router.now.home_as c.args.router.now.policies s.session) c.in-Closed.prefixes (rib_of g.rib)) own
    (subst (λ (ks : List PrefixValue). EntersAll (rib_of c.args.router.now.rib) s.session.config.peering.0
    (entry_here c.args.router.now.home_as c.args.router.now.policies s.session) ks (rib_of g.rib)) c.as_slice-in-Closed.ensures entered))
    (ap (λ (h : Fields). length h.due_out) same ∙ c.clear.ensures.length)
    (ap (λ (h : Fields). table_at h.due_out) same ∙ c.clear.ensures.cleared
    ∙ ap (λ (n : ℕ). at (table_at c.args.router.now.due_out) n map.empty) c.from-place.ensures)
    refl))
