use Rattle.std.proofs.Common.{◌≡◌, ◌∷◌, ℕ, List, Some, option_map, refl, sym, ap, ◌∙◌, subst, arith}
use Rattle.std.specs.Prelude.{slice_get}
use Rattle.std.proofs.lemmas.Option.{none-some, same_Some}
use Rattle.bgp_session.specs.Running.{RunningSession}
use Rattle.graft_steps.specs.declared.item.Item.TheVariants as items
use Rattle.graft_steps.specs.declared.refusal.Refusal.{Refusal}
use Rattle.router_tables.specs.Owned.{IsOfPeering}
use Rattle.audit_channels.specs.Channels.{parcels_in}
use Rattle.audit_ruling.specs.Rulings.{Parcel}
use Rattle.audit_router.specs.Grafts.{IsLiveAgain}
use Rattle.audit_router.specs.Nexts.{back_in, of_graft}
use Rattle.audit_router.specs.Places.{place_at, place_of}
use Rattle.audit_router.specs.declared.place.Place.TheVariants.{Shadow}
use Rattle.audit_router.proofs.AtSource.{not_away, of_way, return_nothing, returns_back}
use Rattle.audit_router.proofs.Firsts.{fits_first}
use Rattle.audit_router.proofs.Searching.{there_is}
use Rattle.audit_router.proofs.router.AuditedRouter.give_back.Goals as goal

pub returns-in_default : goal.returns-in_default
returns-in_default c = return_nothing c.args.self.now c.requires.sound c.args.q.0 (parcels_in c.args.channel.now)
    (λ graft p is shadow. none-some (graft, p) (sym (sym c.next_back.ensures ∙ ap (option_map of_graft) c.in_default.is) ∙ is))

pub returns-then-not-is_away : goal.returns-then-not-is_away
returns-then-not-is_away c =
    let here = sym c.next_back.ensures ∙ ap (option_map of_graft) c.in-Some.is in
    return_nothing c.args.self.now c.requires.sound c.args.q.0 (parcels_in c.args.channel.now)
    (λ graft p is. not_away c.args.self.now c.in-Some.back.graft c.in-Some.back.peering.0 c.if-not-is_away.ensures graft p
    (same_Some (of_graft c.in-Some.back) (graft, p) (sym here ∙ is)))

pub unreachable-requires : goal.unreachable-requires
unreachable-requires c = none-some (of_graft c.in-Some.back)
    (sym c.in_default-take_back.ensures.none ∙ (sym c.next_back.ensures ∙ ap (option_map of_graft) c.in-Some.is))

-- the session that comes back is the one whose shadow is here
same_back : (now rest : List Parcel) (graft own p : ℕ) (s : RunningSession) (refusal : Refusal) → back_in (slice_get now 0) ≡ Some (own, p)
    → now ≡ items.Back graft s refusal ∷ rest → ◌≡◌ {A = ℕ × ℕ} (own, p) (graft, s.session.config.peering.0)
same_back now rest graft own p s refusal is first =
    same_Some (own, p) (graft, s.session.config.peering.0) (sym is ∙ ap (λ (xs : List Parcel). back_in (slice_get xs 0)) first)

pub live_again-requires-clause-there : goal.live_again-requires-clause-there
live_again-requires-clause-there c =
    let r = c.args.self.now in
    let away : place_at r.places.items c.in-Some.back.peering.0 ≡ Shadow c.in-Some.back.graft = c.if-not-is_away.ensures.0 refl in
    let there = there_is r.places.items c.in-Some.back.peering.0 (λ vacant. let no : ⊥ = cc in no) in
    omega (arith, there, c.from.ensures, c.requires.sound.all)

pub live_again-requires-clause-own : goal.live_again-requires-clause-own
live_again-requires-clause-own c =
    let r = c.args.self.now in
    let now = parcels_in c.args.channel.now in
    let back = c.in-Some.back in
    let took = c.in-Some-take_back in
    let first = c.in-Some-take_back.ensures.some in
    let same = same_back now (parcels_in c.take_back.new.channel) took.graft back.graft back.peering.0 took.capsule took.refusal
    (sym c.next_back.ensures ∙ ap (option_map of_graft) c.in-Some.is) first in
    let of = of_way r.tables.known.setup took.capsule.session (fits_first _ first c.requires.fits) in
    subst (λ (s : RunningSession). IsOfPeering r.tables.known.setup c.from.result s.session) (sym c.land.ensures)
    (subst (λ (p : ℕ). IsOfPeering r.tables.known.setup p took.capsule.session) (sym (c.from.ensures ∙ ap (λ x. x.1) same)) of)

pub returns : goal.returns
returns c =
    let r = c.args.self.now in
    let now = parcels_in c.args.channel.now in
    let rest = parcels_in c.take_back.new.channel in
    let back = c.in-Some.back in
    let graft = c.in-Some-take_back.graft in
    let s = c.in-Some-take_back.capsule in
    let refusal = c.in-Some-take_back.refusal in
    let first = c.in-Some-take_back.ensures.some in
    let same = same_back now rest graft back.graft back.peering.0 s refusal (sym c.next_back.ensures ∙ ap (option_map of_graft) c.in-Some.is) first in
    let away : place_at r.places.items back.peering.0 ≡ Shadow back.graft = c.if-not-is_away.ensures.0 refl in
    let shadow : place_at r.places.items s.session.config.peering.0 ≡ Shadow graft =
    subst (λ (x : ℕ × ℕ). place_at r.places.items x.1 ≡ Shadow x.0) same away in
    returns_back r c.requires.sound c.args.q.0 now graft s refusal rest first (ap place_of shadow) c.live_again.new.self
    (subst (λ (x : RunningSession). IsLiveAgain s.session.config.peering.0 x r c.live_again.new.self) c.land.ensures
    (subst (λ (p : ℕ). IsLiveAgain p c.land.result r c.live_again.new.self) (c.from.ensures ∙ ap (λ x. x.1) same) c.in_ok-live_again.ensures))
    c.operator-to.result c.operator-to.ensures
