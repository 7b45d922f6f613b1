use Rattle.std.proofs.Common.{◌≡◌, List, [], ◌∷◌, length, refl, sym, subst, arith}
use Rattle.std.specs.Prelude.{slice_set}
use Rattle.session_value.specs.declared.config.SessionConfig.{SessionConfig}
use Rattle.audit_router.specs.declared.place.Place.{Place}
use Rattle.audit_router.proofs.Beginning.{Begun, begun_all, begun_first, begun_next, this_can}
use Rattle.audit_router.proofs.router.begin_places.Goals as goal

pub loop-config-init : goal.loop-config-init
loop-config-init c =
    subst (λ (left : List SessionConfig). Begun c.args.count c.args.sessions left c.in_ok-places.places.items) (sym c.into_vec-left.ensures)
    (begun_first c.args.count c.args.sessions c.in_ok-places.places.items c.in_ok-places.ensures)

pub begin-requires : goal.begin-requires
begin-requires c = (this_can c.args.count c.args.sessions c.loop-config.left.items c.pop.new.self.items c.loop-config.places.items c.in-Some.config
    c.requires c.loop-config.invariant c.in-Some.ensures.items).valid

pub index_mut-requires : goal.index_mut-requires
index_mut-requires c = omega (
  arith,
  (this_can c.args.count c.args.sessions c.loop-config.left.items c.pop.new.self.items c.loop-config.places.items
      c.in-Some.config c.requires c.loop-config.invariant c.in-Some.ensures.items).there,
  c.loop-config.invariant.begun.all,
  c.from-place.ensures,
)

pub loop-config-preserved : goal.loop-config-preserved
loop-config-preserved c =
    subst (λ (x : Place). Begun c.args.count c.args.sessions c.pop.new.self.items (slice_set c.loop-config.places.items c.from-place.result x))
    (sym c.set_live.ensures) (begun_next c.args.count c.args.sessions c.loop-config.left.items c.pop.new.self.items c.loop-config.places.items
    c.in-Some.config c.requires c.loop-config.invariant c.in-Some.ensures.items c.from-place.result c.from-place.ensures c.in_ok-session.session
    c.in_ok-session.ensures)

none_left : (left : List SessionConfig) → length left ≡ 0 → left ≡ []
none_left [] none = refl
none_left (x ∷ left) none = absurd (omega (arith, none))

pub returns : goal.returns
returns c =
    let cases = c.in_default.ensures.cases in
    begun_all c.args.count c.args.sessions c.loop-config.left.items c.loop-config.places.items c.loop-config.invariant
    (none_left c.loop-config.left.items (omega (arith, c.loop-config.left.ok.0, cases.0)))
