use Rattle.std.proofs.Common.{ℕ, refl, sym, subst, ◌∙◌}
use Rattle.std.specs.List.{AllByRecursion}
use Rattle.audit_router.specs.Begins.{AreBegun, CanBegin}
use Rattle.audit_router.specs.declared.router.AuditedRouter.{AuditedRouter}
use Rattle.audit_router.proofs.Beginning.{as_many, can_begin, first_is, sound_is}
use Rattle.audit_router.proofs.router.AuditedRouter.new.Goals as goal

pub begin_places-requires : goal.begin_places-requires
begin_places-requires c = subst (λ (n : ℕ). AllByRecursion (CanBegin n) c.args.config.sessions) (sym c.len-peerings.ensures)
    (can_begin c.args.known.setup c.args.config c.requires.setup c.requires.config)

pub new-requires-clause-peerings : goal.new-requires-clause-peerings
new-requires-clause-peerings c = c.len-peerings.ensures ∙ as_many c.args.known.setup c.args.config c.requires.setup c.requires.config

pub returns-clause-first : goal.returns-clause-first
returns-clause-first c =
    let r : AuditedRouter = record {
      alloc = c.args.alloc;
      routers = c.args.config.routers;
      room = c.args.config.room;
      places = c.in_ok-places.places;
      tables = c.in_ok-new.field-0;
    } in
    first_is c.args.known.setup c.args.config c.requires.setup c.requires.config r c.in_ok-new.ensures.setup c.in_ok-new.ensures.number
    (subst (λ (n : ℕ). AreBegun n c.args.config.sessions c.in_ok-places.places.items) c.len-peerings.ensures c.in_ok-places.ensures)
    c.in_ok-new.ensures.first

pub returns-clause-sound : goal.returns-clause-sound
returns-clause-sound c =
    let r : AuditedRouter = record {
      alloc = c.args.alloc;
      routers = c.args.config.routers;
      room = c.args.config.room;
      places = c.in_ok-places.places;
      tables = c.in_ok-new.field-0;
    } in
    sound_is c.args.known.setup c.args.config c.requires.setup c.requires.config r c.in_ok-new.ensures.setup c.in_ok-new.ensures.number
    (subst (λ (n : ℕ). AreBegun n c.args.config.sessions c.in_ok-places.places.items) c.len-peerings.ensures c.in_ok-places.ensures)
    c.in_ok-new.ensures.first c.in_ok-new.ensures.sound c.in_ok-new.ensures.unknown refl refl
