use Rattle.std.proofs.Common.{ℕ, [], refl, sym, ap, subst, ◌∙◌}
use Rattle.graft_model.specs.declared.event.RouterEvent.TheVariants.{Got}
use Rattle.session_places.specs.Places.{with_place}
use Rattle.router_core.specs.Places.{place_at}
use Rattle.router_core.specs.Rounds.{WritesEvent}
use Rattle.router_core.specs.declared.fields.Fields.{Fields}
use Rattle.router_core.proofs.ReadRows.{reads_none, reads_some}
use Rattle.router_core.proofs.takes.reads.read_one.Goals as goal

pub returns-in_default-clause-read : goal.returns-in_default-clause-read
returns-in_default-clause-read c =
    reads_none c.args.router.now _ c.args.peering.0 c.from.result c.args.post.now
    (place_at c.args.router.now.places.places c.from.result) c.in_ok-step.ensures.place c.in_ok-step.field-0
    (ap (place_at c.args.router.now.places.places) (sym c.from.ensures))
    c.in_ok-step.ensures.goes c.in_default.is refl refl c.in_ok-step.ensures.stays

pub returns-clause-read : goal.returns-clause-read
returns-clause-read c =
    let mid : Fields = record c.args.router.now { places = c.read.new.places } in
    reads_some c.args.router.now c.follow.new.router c.args.peering.0 c.args.post.now c.note_router.new.post mid
    (place_at c.args.router.now.places.places c.from.result) c.in_ok-step.ensures.place c.in-Some.step c.in_ok-step.field-0 c.requires
    (ap (place_at c.args.router.now.places.places) (sym c.from.ensures))
    c.in_ok-step.ensures.goes c.in-Some.is refl
    (c.in_ok-step.ensures.stays ∙ ap (λ (n : ℕ). with_place c.args.router.now.places n c.in_ok-step.ensures.place) c.from.ensures)
    (subst (λ (n : ℕ). WritesEvent c.args.post.now (Got n) [] c.note_router.new.post) c.from-2.ensures c.in_ok-note_router.ensures.ok)
    c.in_ok-follow.ensures
