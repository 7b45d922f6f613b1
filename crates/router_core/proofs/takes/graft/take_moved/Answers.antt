use Rattle.std.proofs.Common.{◌≡◌, ℕ, ◌+◌, Some, None, arith, ap, subst, sym, ◌∙◌, is_some}
use Rattle.std.specs.Prelude.{count_by}
use Rattle.std.proofs.lemmas.Result.{on_ok_weaker}
use Rattle.bgp_session.specs.Running.{RunningSession}
use Rattle.session_value.specs.declared.config.SessionConfig.{SessionConfig}
use Rattle.graft_steps.specs.Refusals.{admit_refusal}
use Rattle.graft_steps.specs.Landings.{Landing}
use Rattle.graft_model.specs.GraftRows.{refusal_of}
use Rattle.router_tables.specs.Entering.{missing_by}
use Rattle.router_core.specs.Parts.{router_part}
use Rattle.router_core.specs.Places.{place_at}
use Rattle.router_core.specs.Reading.{KeepsBut, ReadsAll, SettlesIn}
use Rattle.router_core.proofs.LandSteps.{has_room, refusal_is}
use Rattle.router_core.proofs.MoveSteps.{drops_moved, turns_back, keeps_land, lands}
use Rattle.router_core.proofs.takes.graft.take_moved.Goals as goal

pub returns-then-from-router-clause-took : goal.returns-then-from-router-clause-took
returns-then-from-router-clause-took c =
    on_ok_weaker c.note_dropped.result (drops_moved c.args.router.now c.args.post.now c.note_dropped.new.post c.args.from c.args.graft c.args.capsule c.requires
    (λ below there vacant way. omega (arith, below, c.if-from-router.true))) c.note_dropped.ensures.ok

pub returns-then-place-len-clause-took : goal.returns-then-place-len-clause-took
returns-then-place-len-clause-took c =
    let at_peering : c.from-place.result ≡ c.args.capsule.session.config.peering.0 =
    c.from-place.ensures ∙ ap (λ (k : SessionConfig). k.peering.0) c.config.ensures in
    on_ok_weaker c.note_dropped-then-place-len.result
    (drops_moved c.args.router.now c.args.post.now c.note_dropped-then-place-len.new.post c.args.from c.args.graft c.args.capsule c.requires
    (λ below there vacant way. omega (arith, there, c.if-place-len.true, c.len.ensures, at_peering))) c.note_dropped-then-place-len.ensures.ok

pub returns-then-not-is_vacant-clause-took : goal.returns-then-not-is_vacant-clause-took
returns-then-not-is_vacant-clause-took c =
    let at_peering : c.from-place.result ≡ c.args.capsule.session.config.peering.0 =
    c.from-place.ensures ∙ ap (λ (k : SessionConfig). k.peering.0) c.config.ensures in
    let seen : place_at c.args.router.now.places.places c.args.capsule.session.config.peering.0
    ≡ place_at c.args.router.now.places.places c.from-place.result = ap (place_at c.args.router.now.places.places) (sym at_peering) in
    on_ok_weaker c.note_dropped-then-not-is_vacant.result
    (drops_moved c.args.router.now c.args.post.now c.note_dropped-then-not-is_vacant.new.post c.args.from c.args.graft c.args.capsule c.requires
    (λ below there vacant way. c.if-not-is_vacant.ensures (sym seen ∙ vacant))) c.note_dropped-then-not-is_vacant.ensures.ok

pub returns-then-not-is_on_its_way-clause-took : goal.returns-then-not-is_on_its_way-clause-took
returns-then-not-is_on_its_way-clause-took c =
    on_ok_weaker c.note_dropped-then-not-is_on_its_way.result
    (drops_moved c.args.router.now c.args.post.now c.note_dropped-then-not-is_on_its_way.new.post c.args.from c.args.graft c.args.capsule c.requires
    (λ below there vacant way. c.if-not-is_on_its_way.ensures way)) c.note_dropped-then-not-is_on_its_way.ensures.ok

pub returns-in-Some-clause-took : goal.returns-in-Some-clause-took
returns-in-Some-clause-took c =
    let at_peering : c.from-place.result ≡ c.args.capsule.session.config.peering.0 =
    c.from-place.ensures ∙ ap (λ (k : SessionConfig). k.peering.0) c.config.ensures in
    let seen : place_at c.args.router.now.places.places c.args.capsule.session.config.peering.0
    ≡ place_at c.args.router.now.places.places c.from-place.result = ap (place_at c.args.router.now.places.places) (sym at_peering) in
    let cause : refusal_of c.args.router.now.known.setup c.args.router.now.number.0 (router_part c.args.router.now) c.args.capsule.session
    ≡ Some c.in-Some.refusal =
    sym (refusal_is c.args.router.now c.args.capsule.session c.requires)
    ∙ ap (λ (k : SessionConfig). admit_refusal (count_by is_some c.args.router.now.places.places) c.args.router.now.room
    (missing_by c.args.router.now.policies k)) (sym c.config-2.ensures)
    ∙ sym c.in_ok-refusal.ensures ∙ c.in-Some.is in
    on_ok_weaker c.turn_back.result (turns_back c.args.router.now c.args.post.now c.turn_back.new.post c.args.from c.args.graft
    c.args.capsule c.requires (omega (arith, c.if-from-router.false)) (omega (arith, c.if-place-len.false, c.len.ensures, at_peering))
    (seen ∙ c.if-not-is_vacant.ensures) c.if-not-is_on_its_way.ensures c.in-Some.refusal cause) c.turn_back.ensures.ok

pub admission-requires : goal.admission-requires
admission-requires c = c.requires.reserved

pub settle_in-requires-clause-vacant : goal.settle_in-requires-clause-vacant
settle_in-requires-clause-vacant c =
    let at_peering : c.from-place.result ≡ c.args.capsule.session.config.peering.0 =
    c.from-place.ensures ∙ ap (λ (k : SessionConfig). k.peering.0) c.config.ensures in
    let same : c.land.result.session.config.peering.0 ≡ c.from-place.result =
    ap (λ (s : RunningSession). s.session.config.peering.0) c.land.ensures ∙ sym at_peering in
    ap (place_at c.args.router.now.places.places) same ∙ c.if-not-is_vacant.ensures

pub settle_in-requires-clause-room : goal.settle_in-requires-clause-room
settle_in-requires-clause-room c =
    let below = has_room (count_by is_some c.args.router.now.places.places) c.args.router.now.room _ (sym c.in_ok-refusal.ensures ∙ c.in_default.is) in
    omega (arith, below, c.requires.reserved)

pub read_all-requires : goal.read_all-requires
read_all-requires c =
    let at_peering : c.from-place.result ≡ c.args.capsule.session.config.peering.0 =
    c.from-place.ensures ∙ ap (λ (k : SessionConfig). k.peering.0) c.config.ensures in
    let seen : place_at c.args.router.now.places.places c.args.capsule.session.config.peering.0
    ≡ place_at c.args.router.now.places.places c.from-place.result = ap (place_at c.args.router.now.places.places) (sym at_peering) in
    let landed_is : c.new-landed.result ≡ record {
      ids = record {
        graft = c.args.graft;
        peering = c.args.capsule.session.config.peering;
        source = record { 0 = c.args.from };
        target = c.args.router.now.number;
      };
      next = 0;
    } =
    c.new-landed.ensures
    ∙ ap (λ (k : SessionConfig). let l : Landing = record {
      ids = record { graft = c.args.graft; peering = k.peering; source = record { 0 = c.args.from }; target = c.args.router.now.number };
      next = 0;
    } in l) c.config.ensures in
    let settles : SettlesIn c.args.router.now c.args.capsule c.new-landed.result c.settle_in.new.router =
    subst (λ (s : RunningSession). SettlesIn c.args.router.now s c.new-landed.result c.settle_in.new.router) c.land.ensures c.in_ok-settle_in.ensures in
    let cause : refusal_of c.args.router.now.known.setup c.args.router.now.number.0 (router_part c.args.router.now) c.args.capsule.session ≡ None =
    sym (refusal_is c.args.router.now c.args.capsule.session c.requires)
    ∙ ap (λ (k : SessionConfig). admit_refusal (count_by is_some c.args.router.now.places.places) c.args.router.now.room
    (missing_by c.args.router.now.policies k)) (sym c.config-2.ensures)
    ∙ sym c.in_ok-refusal.ensures ∙ c.in_default.is in
    subst (λ (n : ℕ). KeepsBut n c.settle_in.new.router) (sym (ap (λ (k : SessionConfig). k.peering.0) c.config.ensures))
    (keeps_land c.args.router.now c.args.post.now c.note_router_sent.new.post c.args.from c.args.graft c.args.capsule c.requires
    (omega (arith, c.if-from-router.false)) (omega (arith, c.if-place-len.false, c.len.ensures, at_peering)) (seen ∙ c.if-not-is_vacant.ensures)
    c.if-not-is_on_its_way.ensures c.settle_in.new.router c.settle_in.new.router c.note_router_sent.new.post (c.args.router.now.routers
    + c.from-place.result) c.new-landed.result settles landed_is (omega (arith, at_peering)) cause c.in_ok-note_router_sent.ensures.ok)

pub returns-clause-took : goal.returns-clause-took
returns-clause-took c =
    let at_peering : c.from-place.result ≡ c.args.capsule.session.config.peering.0 =
    c.from-place.ensures ∙ ap (λ (k : SessionConfig). k.peering.0) c.config.ensures in
    let seen : place_at c.args.router.now.places.places c.args.capsule.session.config.peering.0
    ≡ place_at c.args.router.now.places.places c.from-place.result = ap (place_at c.args.router.now.places.places) (sym at_peering) in
    let landed_is : c.new-landed.result ≡ record {
      ids = record {
        graft = c.args.graft;
        peering = c.args.capsule.session.config.peering;
        source = record { 0 = c.args.from };
        target = c.args.router.now.number;
      };
      next = 0;
    } =
    c.new-landed.ensures
    ∙ ap (λ (k : SessionConfig). let l : Landing = record {
      ids = record { graft = c.args.graft; peering = k.peering; source = record { 0 = c.args.from }; target = c.args.router.now.number };
      next = 0;
    } in l) c.config.ensures in
    let settles : SettlesIn c.args.router.now c.args.capsule c.new-landed.result c.settle_in.new.router =
    subst (λ (s : RunningSession). SettlesIn c.args.router.now s c.new-landed.result c.settle_in.new.router) c.land.ensures c.in_ok-settle_in.ensures in
    let cause : refusal_of c.args.router.now.known.setup c.args.router.now.number.0 (router_part c.args.router.now) c.args.capsule.session ≡ None =
    sym (refusal_is c.args.router.now c.args.capsule.session c.requires)
    ∙ ap (λ (k : SessionConfig). admit_refusal (count_by is_some c.args.router.now.places.places) c.args.router.now.room
    (missing_by c.args.router.now.policies k)) (sym c.config-2.ensures)
    ∙ sym c.in_ok-refusal.ensures ∙ c.in_default.is in
    on_ok_weaker c.read_all.result
    (λ reads. lands c.args.router.now c.args.post.now c.note_router_sent.new.post c.args.from c.args.graft c.args.capsule c.requires
    (omega (arith, c.if-from-router.false)) (omega (arith, c.if-place-len.false, c.len.ensures, at_peering)) (seen ∙ c.if-not-is_vacant.ensures)
    c.if-not-is_on_its_way.ensures c.settle_in.new.router c.read_all.new.router c.read_all.new.post (c.args.router.now.routers + c.from-place.result)
    c.new-landed.result settles landed_is (omega (arith, at_peering)) cause c.in_ok-note_router_sent.ensures.ok
    (subst (λ (n : ℕ). ReadsAll n c.settle_in.new.router c.note_router_sent.new.post c.read_all.new.router c.read_all.new.post)
    (ap (λ (k : SessionConfig). k.peering.0) c.config.ensures) reads)) c.read_all.ensures.read
