use Rattle.std.proofs.Common.{◌≡◌, ℕ, List, Some, refl, ap, ◌∙◌, subst, arith}
use Rattle.std.specs.Prelude.{slice_set}
use Rattle.std.specs.FinMap as map
use Rattle.bgp_types.specs.Prefixes.{PrefixValue}
use Rattle.bgp_story.specs.Readings.{Routes}
use Rattle.session_value.specs.declared.config.SessionConfig.{SessionConfig}
use Rattle.graft_steps.specs.Landings.{Landing}
use Rattle.graft_model.specs.Setups.{peerings_in}
use Rattle.router_tables.specs.Dues.{IsDueAgain}
use Rattle.router_tables.specs.Entering.{entry_here}
use Rattle.audit_tables.specs.Changes.{ChangesDue, EntersHere}
use Rattle.audit_tables.specs.Parts.{IsForgotten, due_at}
use Rattle.audit_router.specs.declared.place.Errand.TheVariants.{Owing}
use Rattle.audit_router.specs.declared.place.Place.TheVariants.{Live}
use Rattle.audit_router.proofs.AtTarget.{settles_in}
use Rattle.audit_router.proofs.router.AuditedRouter.settle_in.Goals as goal

pub set_due_again-requires-clause-sound : goal.set_due_again-requires-clause-sound
set_due_again-requires-clause-sound c = c.in_ok-enter.ensures.changes.keeps.sound

pub set_due_again-requires-clause-there : goal.set_due_again-requires-clause-there
set_due_again-requires-clause-there c =
    let at_peering : c.from-p.result ≡ c.args.session.session.config.peering.0 =
    c.from-p.ensures ∙ ap (λ (k : SessionConfig). k.peering.0) c.config.ensures in
    let same = ap peerings_in c.in_ok-enter.ensures.changes.keeps.setup in
    omega (arith, c.requires.place, at_peering, same)

pub index_mut-requires : goal.index_mut-requires
index_mut-requires c =
    let at_peering : c.from-p.result ≡ c.args.session.session.config.peering.0 =
    c.from-p.ensures ∙ ap (λ (k : SessionConfig). k.peering.0) c.config.ensures in
    omega (arith, c.requires.place, c.requires.sound.all, at_peering, c.args.self.now.places.ok.0)

pub returns : goal.returns
returns c =
    let r = c.args.self.now in
    let s = c.args.session in
    let mid = c.enter.new.self in
    let end = c.set_due_again.new.self in
    let landed = c.new-landed.result in
    let at_peering : c.from-p.result ≡ s.session.config.peering.0 = c.from-p.ensures ∙ ap (λ (k : SessionConfig). k.peering.0) c.config.ensures in
    let enters : EntersHere s.session.config.peering.0 (entry_here r.tables.home_as r.tables.policies s.session) (map.keys s.session.adj_rib_in) r.tables mid =
    subst (λ (xs : List PrefixValue). EntersHere s.session.config.peering.0 (entry_here r.tables.home_as r.tables.policies s.session) xs r.tables mid)
    (c.as_slice.ensures ∙ (c.in_ok-prefixes.ensures ∙ ap (λ (routes : Routes). map.keys routes) c.heard.ensures)) c.in_ok-enter.ensures in
    let changes : ChangesDue s.session.config.peering.0 mid end =
    subst (λ (n : ℕ). ChangesDue n mid end) at_peering c.in_ok-set_due_again.ensures.changes in
    settles_in r c.requires.sound c.args.q.0 c.args.graft s landed c.requires.there (omega (arith, c.requires.place, c.requires.sound.all))
    c.requires.vacant c.requires.own
    (ap (λ (l : Landing). l.ids.graft) c.new-landed.ensures)
    (ap (λ (l : Landing). l.ids.peering.0) c.new-landed.ensures ∙ ap (λ (k : SessionConfig). k.peering.0) c.config.ensures)
    (ap (λ (l : Landing). l.ids.source.0) c.new-landed.ensures)
    (ap (λ (l : Landing). l.ids.target) c.new-landed.ensures ∙ (c.number.ensures ∙ (changes.keeps.number ∙ enters.changes.keeps.number)))
    (ap (λ (l : Landing). l.next) c.new-landed.ensures) mid _
    (ap (λ (n : ℕ). slice_set r.places.items n (Live s (Some (Owing landed)))) at_peering) (record { routers = refl; room = refl }) enters changes
    (subst (λ (n : ℕ). IsForgotten n end) at_peering c.in_ok-set_due_again.ensures.forgets)
    (subst (λ (n : ℕ). IsDueAgain s.session.adj_rib_out mid.rib.best (due_at end n)) at_peering c.in_ok-set_due_again.ensures.due)
