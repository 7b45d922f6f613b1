use Rattle.std.proofs.Common.{◌≡◌, ℕ, ◌-◌, [], refl, arith, ap, subst, sym, ◌∙◌}
use Rattle.std.proofs.lemmas.Result.{on_ok_weaker}
use Rattle.graft_model.specs.declared.event.RouterEvent.TheVariants.{Arrive, Stray}
use Rattle.session_places.specs.Places.{with_place}
use Rattle.router_core.specs.Rounds.{WritesEvent}
use Rattle.router_core.specs.Places.{place_at}
use Rattle.router_core.specs.declared.fields.Fields.{Fields}
use Rattle.router_core.proofs.SegmentSteps.{drops_router, drops_stranger, drops_other, Stands, stands, TookIn, took_in, strays, keeps_arrival, arrives}
use Rattle.router_core.proofs.takes.segment.take_segment.Goals as goal

pub returns-then-from-routers-clause-took : goal.returns-then-from-routers-clause-took
returns-then-from-routers-clause-took c = on_ok_weaker c.note_dropped.result (drops_router c.args.router.now c.args.post.now
    c.note_dropped.new.post c.args.from 0 c.args.segment c.requires (omega (arith, c.if-from-routers.true))) c.note_dropped.ensures.ok

pub returns-then-from-routers-2-clause-took : goal.returns-then-from-routers-2-clause-took
returns-then-from-routers-2-clause-took c = on_ok_weaker c.note_dropped-then-from-routers-2.result (drops_stranger c.args.router.now c.args.post.now
    c.note_dropped-then-from-routers-2.new.post c.args.from 0 c.args.segment c.requires (λ below. omega (arith, below, c.if-from-routers.false))
    (omega (arith, c.if-from-routers.false, c.if-from-routers-2.true, c.len.ensures))) c.note_dropped-then-from-routers-2.ensures.ok

pub returns-then-not-is_of-clause-took : goal.returns-then-not-is_of-clause-took
returns-then-not-is_of-clause-took c = on_ok_weaker c.note_dropped-then-not-is_of.result
    (drops_other c.args.router.now c.args.post.now c.note_dropped-then-not-is_of.new.post c.args.from (c.args.from - c.args.router.now.routers)
    c.args.segment c.requires (omega (arith, c.if-from-routers.false)) c.if-not-is_of.ensures) c.note_dropped-then-not-is_of.ensures.ok

pub returns-then-not-branch-clause-took : goal.returns-then-not-branch-clause-took
returns-then-not-branch-clause-took c =
    let p : ℕ = c.args.from - c.args.router.now.routers in
    let seen : place_at c.args.router.now.places.places p ≡ place_at c.args.router.now.places.places c.from.result =
    ap (place_at c.args.router.now.places.places) (sym c.from.ensures) in
    let stays : Stands (place_at c.args.router.now.places.places c.from.result) c.in_ok-arrive.ensures.place =
    stands (place_at c.args.router.now.places.places c.from.result) c.in_ok-arrive.ensures.place
    c.args.segment c.in_ok-arrive.field-0 c.in_ok-arrive.ensures.goes c.if-not-branch.true in
    on_ok_weaker c.note_router.result
    (λ wrote. strays c.args.router.now c.args.post.now c.note_router.new.post c.args.from p c.args.segment c.requires
    (omega (arith, c.if-from-routers.false)) (omega (arith, c.if-from-routers-2.false, c.len.ensures)) c.if-not-is_of.ensures _ refl
    (c.in_ok-arrive.ensures.stays ∙ (λ i. with_place c.args.router.now.places (c.from.ensures i) ((stays.same ∙ sym seen) i)))
    (λ s o e. stays.absent s o (sym seen ∙ e))
    (subst (λ (n : ℕ). WritesEvent c.args.post.now (Stray n) [] c.note_router.new.post) c.from-number.ensures wrote)) c.note_router.ensures.ok

pub read_all-requires : goal.read_all-requires
read_all-requires c =
    let p : ℕ = c.args.from - c.args.router.now.routers in
    let seen : place_at c.args.router.now.places.places p ≡ place_at c.args.router.now.places.places c.from.result =
    ap (place_at c.args.router.now.places.places) (sym c.from.ensures) in
    let took : TookIn (place_at c.args.router.now.places.places c.from.result) c.in_ok-arrive.ensures.place c.args.segment =
    took_in (place_at c.args.router.now.places.places c.from.result) c.in_ok-arrive.ensures.place
    c.args.segment c.in_ok-arrive.field-0 c.in_ok-arrive.ensures.goes c.if-not-branch.false in
    keeps_arrival c.args.router.now c.args.post.now c.args.post.now c.args.from p c.args.segment c.requires (omega (arith, c.if-from-routers.false))
    (omega (arith, c.if-from-routers-2.false, c.len.ensures)) c.if-not-is_of.ensures _ took.session took.later took.errand took.arrival
    (record { is = seen ∙ took.live }) took.arrives refl
    (c.in_ok-arrive.ensures.stays ∙ (λ i. with_place c.args.router.now.places (c.from.ensures i) (took.is i)))

pub returns-clause-took : goal.returns-clause-took
returns-clause-took c =
    let p : ℕ = c.args.from - c.args.router.now.routers in
    let seen : place_at c.args.router.now.places.places p ≡ place_at c.args.router.now.places.places c.from.result =
    ap (place_at c.args.router.now.places.places) (sym c.from.ensures) in
    let took : TookIn (place_at c.args.router.now.places.places c.from.result) c.in_ok-arrive.ensures.place c.args.segment =
    took_in (place_at c.args.router.now.places.places c.from.result) c.in_ok-arrive.ensures.place
    c.args.segment c.in_ok-arrive.field-0 c.in_ok-arrive.ensures.goes c.if-not-branch.false in
    let mid : Fields = record c.args.router.now { places = c.arrive.new.places } in
    on_ok_weaker c.read_all.result
    (λ reads. arrives c.args.router.now c.args.post.now c.note_router-2.new.post c.args.from p c.args.segment c.requires
    (omega (arith, c.if-from-routers.false))
    (omega (arith, c.if-from-routers-2.false, c.len.ensures)) c.if-not-is_of.ensures mid took.session took.later took.errand took.arrival
    (record { is = seen ∙ took.live }) took.arrives refl
    (c.in_ok-arrive.ensures.stays ∙ (λ i. with_place c.args.router.now.places (c.from.ensures i) (took.is i))) c.read_all.new.router c.read_all.new.post
    (subst (λ (n : ℕ). WritesEvent c.args.post.now (Arrive n) [] c.note_router-2.new.post) c.from-number.ensures c.in_ok-note_router.ensures.ok)
    reads) c.read_all.ensures.read
