use Rattle.std.proofs.Common.{◌≡◌, ℕ, ◌+◌, None, is_some, arith, ap, subst, sym, ◌∙◌}
use Rattle.std.proofs.lemmas.Result.{on_ok_weaker}
use Rattle.bgp_session.specs.Running.{RunningSession}
use Rattle.session_value.specs.declared.config.SessionConfig.{SessionConfig}
use Rattle.router_core.specs.Places.{IsShadowOf, place_at}
use Rattle.router_core.specs.Reading.{KeepsBut, MakesLive, ReadsAll}
use Rattle.router_core.proofs.ReturnSteps.{drops_back, keeps_return, returns_back}
use Rattle.router_core.proofs.takes.graft.take_back.Goals as goal

pub returns-then-from-router-clause-took : goal.returns-then-from-router-clause-took
returns-then-from-router-clause-took c = on_ok_weaker c.note_dropped.result
    (drops_back c.args.router.now c.args.post.now c.note_dropped.new.post c.args.from c.args.graft c.args.capsule c.args.refusal c.requires
    (λ below there away way. omega (arith, below, c.if-from-router.true))) c.note_dropped.ensures.ok

pub returns-then-place-len-clause-took : goal.returns-then-place-len-clause-took
returns-then-place-len-clause-took c =
    let at_peering : c.from-place.result ≡ c.args.capsule.session.config.peering.0 =
    c.from-place.ensures ∙ ap (λ (k : SessionConfig). k.peering.0) c.config.ensures in
    on_ok_weaker c.note_dropped-then-place-len.result (drops_back c.args.router.now c.args.post.now
    c.note_dropped-then-place-len.new.post c.args.from c.args.graft c.args.capsule c.args.refusal c.requires
    (λ below there away way. omega (arith, there, c.if-place-len.true, c.len.ensures, at_peering))) c.note_dropped-then-place-len.ensures.ok

pub returns-then-not-is_away-clause-took : goal.returns-then-not-is_away-clause-took
returns-then-not-is_away-clause-took c =
    let at_peering : c.from-place.result ≡ c.args.capsule.session.config.peering.0 =
    c.from-place.ensures ∙ ap (λ (k : SessionConfig). k.peering.0) c.config.ensures in
    on_ok_weaker c.note_dropped-then-not-is_away.result (drops_back c.args.router.now c.args.post.now
    c.note_dropped-then-not-is_away.new.post c.args.from c.args.graft c.args.capsule c.args.refusal c.requires
    (λ below there away way. c.if-not-is_away.ensures
    (subst (λ (n : ℕ). IsShadowOf (place_at c.args.router.now.places.places n) c.args.graft) (sym at_peering) away))) c.note_dropped-then-not-is_away.ensures.ok

pub returns-then-not-is_on_its_way-clause-took : goal.returns-then-not-is_on_its_way-clause-took
returns-then-not-is_on_its_way-clause-took c = on_ok_weaker c.note_dropped-then-not-is_on_its_way.result (drops_back c.args.router.now
    c.args.post.now c.note_dropped-then-not-is_on_its_way.new.post c.args.from c.args.graft c.args.capsule c.args.refusal c.requires
    (λ below there away way. c.if-not-is_on_its_way.ensures way)) c.note_dropped-then-not-is_on_its_way.ensures.ok

pub live_again-requires-clause-there : goal.live_again-requires-clause-there
live_again-requires-clause-there c = ap is_some c.if-not-is_away.ensures.is

pub read_all-requires : goal.read_all-requires
read_all-requires c =
    let at_peering : c.from-place.result ≡ c.args.capsule.session.config.peering.0 =
    c.from-place.ensures ∙ ap (λ (k : SessionConfig). k.peering.0) c.config.ensures in
    let lives : MakesLive c.args.router.now c.args.capsule.session.config.peering.0 c.args.capsule None c.live_again.new.router =
    subst (λ (n : ℕ). MakesLive c.args.router.now n c.args.capsule None c.live_again.new.router) at_peering (subst (λ (s : RunningSession).
    MakesLive c.args.router.now c.from-place.result s None c.live_again.new.router) c.land.ensures c.in_ok-live_again.ensures) in
    subst (λ (n : ℕ). KeepsBut n c.live_again.new.router) (sym (ap (λ (k : SessionConfig). k.peering.0) c.config.ensures))
    (keeps_return c.args.router.now c.live_again.new.router c.live_again.new.router c.args.post.now c.note_router_sent.new.post
    c.note_router_sent.new.post c.args.from c.args.graft (c.args.router.now.routers + c.len-2.result) c.args.capsule c.args.refusal c.requires
    (omega (arith, c.if-from-router.false)) (omega (arith, c.if-place-len.false, c.len.ensures, at_peering))
    (subst (λ (n : ℕ). IsShadowOf (place_at c.args.router.now.places.places n) c.args.graft) at_peering c.if-not-is_away.ensures)
    c.if-not-is_on_its_way.ensures (omega (arith, c.len-2.ensures)) c.in_ok-note_router_sent.ensures.ok lives.same lives.held lives.sets lives.due)

pub returns-clause-took : goal.returns-clause-took
returns-clause-took c =
    let at_peering : c.from-place.result ≡ c.args.capsule.session.config.peering.0 =
    c.from-place.ensures ∙ ap (λ (k : SessionConfig). k.peering.0) c.config.ensures in
    let lives : MakesLive c.args.router.now c.args.capsule.session.config.peering.0 c.args.capsule None c.live_again.new.router =
    subst (λ (n : ℕ). MakesLive c.args.router.now n c.args.capsule None c.live_again.new.router) at_peering (subst (λ (s : RunningSession).
    MakesLive c.args.router.now c.from-place.result s None c.live_again.new.router) c.land.ensures c.in_ok-live_again.ensures) in
    on_ok_weaker c.read_all.result
    (λ reads. returns_back c.args.router.now c.live_again.new.router c.read_all.new.router c.args.post.now c.note_router_sent.new.post
    c.read_all.new.post c.args.from c.args.graft (c.args.router.now.routers + c.len-2.result) c.args.capsule c.args.refusal c.requires
    (omega (arith, c.if-from-router.false)) (omega (arith, c.if-place-len.false, c.len.ensures, at_peering))
    (subst (λ (n : ℕ). IsShadowOf (place_at c.args.router.now.places.places n) c.args.graft) at_peering c.if-not-is_away.ensures)
    c.if-not-is_on_its_way.ensures (omega (arith, c.len-2.ensures)) c.in_ok-note_router_sent.ensures.ok lives.same lives.held lives.sets lives.due
    (subst (λ (n : ℕ). ReadsAll n c.live_again.new.router c.note_router_sent.new.post c.read_all.new.router c.read_all.new.post)
    (ap (λ (k : SessionConfig). k.peering.0) c.config.ensures) reads)) c.read_all.ensures.read
