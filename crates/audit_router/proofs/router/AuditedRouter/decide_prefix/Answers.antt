use Rattle.std.proofs.Common.{Bool, map, sym, ap, ◌∙◌}
use Rattle.graft_model.specs.TableRows.{holds_established}
use Rattle.audit_router.specs.Parts.{places_of}
use Rattle.audit_router.specs.Places.{place_of}
use Rattle.audit_router.specs.declared.place.Place.{Place}
use Rattle.audit_router.proofs.Following.{both_ok}
use Rattle.audit_router.proofs.TableEvents.{are_up, as_many_up, clean_stays, decides_prefix}
use Rattle.audit_router.proofs.router.AuditedRouter.decide_prefix.Goals as goal

abbrev is_up : Place → Bool
is_up place = holds_established (place_of place)

pub returns-then-not-is_dirty : goal.returns-then-not-is_dirty
returns-then-not-is_dirty c = clean_stays c.args.self.now c.requires c.args.prefix (sym c.is_dirty.ensures ∙ c.if-not-is_dirty.true)

pub decide-requires-clause-all : goal.decide-requires-clause-all
decide-requires-clause-all c = as_many_up c.args.self.now c.requires c.as_slice-2.result.now
    (c.as_slice-2.ensures.value ∙ (c.in_ok-up.ensures ∙ ap (map is_up) c.as_slice.ensures.value))

pub returns : goal.returns
returns c =
    let r = c.args.self.now in
    let up = are_up r c.as_slice-2.result.now (c.as_slice-2.ensures.value ∙ (c.in_ok-up.ensures ∙ ap (map is_up) c.as_slice.ensures.value)) in
    both_ok c.decide.result (λ ruling decides known. decides_prefix r c.requires c.decide.new.self c.args.prefix ruling decides known)
    (c.decide.ensures.decides (places_of r) up) c.decide.ensures.known
