use Rattle.std.specs.Prelude.{slice_set}
use Rattle.std.proofs.Common.{◌≡◌, ◌<◌, Bool, List, length, refl, sym, ap, ◌∙◌, subst, arith, rules}
use Rattle.std.proofs.lemmas.Bool.{false≢true}
use Rattle.std.specs.List.{list_any}
use Rattle.bgp_types.specs.Prefixes.{PrefixValue, same_prefix}
use Rattle.bgp_types.specs.declared.message.Update.{Update}
use Rattle.session_value.specs.Cases.{update_for}
use Rattle.update_plan.specs.declared.batch.Batch.{Batch}
use Rattle.bgp_session.specs.Running.{RunningSession}
use Rattle.graft_model.specs.declared.event.RouterEvent.TheVariants.{Put}
use Rattle.graft_model.specs.Sets.{Drops}
use Rattle.graft_model.specs.Setups.{peerings_in}
use Rattle.audit_tables.specs.Changes.{PutsFirstAlike}
use Rattle.audit_tables.specs.Parts.{due_at}
use Rattle.audit_tables.specs.declared.tables.Tables.{Tables}
use Rattle.audit_router.specs.Followed.{CanOffer, IsMessage, OffersAs}
use Rattle.audit_router.specs.Parts.{places_of}
use Rattle.audit_router.specs.declared.router.AuditedRouter.{AuditedRouter}
use Rattle.audit_router.specs.declared.place.Place.{Place}
use Rattle.audit_router.specs.declared.place.Place.TheVariants.{Live}
use Rattle.audit_router.proofs.Kept as kept
use Rattle.audit_router.proofs.LiveSessions.{none_beyond, none_there}
use Rattle.audit_router.proofs.Putting.{can_offer, first_put, keeps_knowing, once_known, put_down, put_full, put_made, put_none, put_short, put_unwritable}
use Rattle.audit_router.proofs.Searching.{seen_at}
use Rattle.audit_router.proofs.router.AuditedRouter.put_some.Goals as goal

pub returns-then-p-len : goal.returns-then-p-len
returns-then-p-len c =
    put_none c.args.self.now c.requires.sound c.args.p (none_beyond c.args.self.now c.args.p (omega arith)) c.args.count

pub returns-in_default : goal.returns-in_default
returns-in_default c =
    let r = c.args.self.now in
    let now : Place = c.index_mut.result.now in
    let at = seen_at r.places.items c.args.p now now (omega arith) c.index_mut.ensures.value refl in
    kept.refused_back r c.requires.sound (Put c.args.p c.args.count) _ c.args.p now at refl refl (record { routers = refl; room = refl })
    (put_none r c.requires.sound c.args.p (none_there r c.args.p now at c.in_default.not-Live) c.args.count)

pub returns-then-ne : goal.returns-then-ne
returns-then-ne c =
    let r = c.args.self.now in
    let s = c.in-Live.session in
    let o = c.in-Live.errand in
    let at = seen_at r.places.items c.args.p c.index_mut.result.now (Live s o) (omega arith) c.index_mut.ensures.value c.in-Live.is in
    kept.refused_back r c.requires.sound (Put c.args.p c.args.count) _ c.args.p (Live s o) at refl refl (record { routers = refl; room = refl })
    (put_down r c.requires.sound c.args.p s o at (search rules) c.args.count)

pub batch-requires : goal.batch-requires
batch-requires c =
    let r = c.args.self.now in
    let s = c.in-Live.session in
    let o = c.in-Live.errand in
    let at = seen_at r.places.items c.args.p c.index_mut.result.now (Live s o) (omega arith) c.index_mut.ensures.value c.in-Live.is in
    record { known = (c.in_ok-know.ensures.knows kept.nowhere (kept.keeps_here r c.requires.sound c.args.p (Live s o) at).2).1 }

pub returns-in_default-2 : goal.returns-in_default-2
returns-in_default-2 c =
    let r = c.args.self.now in
    let s = c.in-Live.session in
    let o = c.in-Live.errand in
    let t : Tables = c.know.new.self in
    let at = seen_at r.places.items c.args.p c.index_mut.result.now (Live s o) (omega arith) c.index_mut.ensures.value c.in-Live.is in
    let knows = c.in_ok-know.ensures.knows kept.nowhere (kept.keeps_here r c.requires.sound c.args.p (Live s o) at).2 in
    let mid = keeps_knowing r c.requires.sound c.args.p s o at t c.in_ok-know.ensures.same c.in_ok-know.ensures.keeps knows.0 c.in_ok-know.ensures.others in
    once_known r t c.in_ok-know.ensures.same (Put c.args.p c.args.count) _ _
    (kept.refused_back (record r { tables = t }) mid.sound (Put c.args.p c.args.count) _ c.args.p (Live s o) at refl refl (record { routers = refl; room = refl })
    (put_short (record r { tables = t }) mid.sound c.args.p s o at c.args.count c.requires.some
    (rw c.in_default-2.is at (c.in_ok-batch.ensures.none (places_of r) s.session knows.0))))

pub returns-then-not-is_message : goal.returns-then-not-is_message
returns-then-not-is_message c =
    let r = c.args.self.now in
    let s = c.in-Live.session in
    let o = c.in-Live.errand in
    let t : Tables = c.know.new.self in
    let batch : Batch = c.in-Some.batch in
    let at = seen_at r.places.items c.args.p c.index_mut.result.now (Live s o) (omega arith) c.index_mut.ensures.value c.in-Live.is in
    let knows = c.in_ok-know.ensures.knows kept.nowhere (kept.keeps_here r c.requires.sound c.args.p (Live s o) at).2 in
    let mid = keeps_knowing r c.requires.sound c.args.p s o at t c.in_ok-know.ensures.same c.in_ok-know.ensures.keeps knows.0 c.in_ok-know.ensures.others in
    let alike = rw c.in-Some.is at (c.in_ok-batch.ensures.some (places_of r) s.session knows.0) in
    once_known r t c.in_ok-know.ensures.same (Put c.args.p c.args.count) _ _
    (kept.refused_back (record r { tables = t }) mid.sound (Put c.args.p c.args.count) _ c.args.p (Live s o) at refl refl (record { routers = refl; room = refl })
    (put_unwritable (record r { tables = t }) mid.sound c.args.p s o at c.args.count batch alike c.requires.some
    (λ message. false≢true (sym c.if-not-is_message.true
    ∙ c.is_message.ensures.is.1 (subst (λ (wide : Bool). IsMessage wide batch) (sym c.wide.ensures) message)))))

pub offer-requires : goal.offer-requires
offer-requires c =
    let r = c.args.self.now in
    let s = c.in-Live.session in
    let o = c.in-Live.errand in
    let t : Tables = c.know.new.self in
    let batch : Batch = c.in-Some.batch in
    let at = seen_at r.places.items c.args.p c.index_mut.result.now (Live s o) (omega arith) c.index_mut.ensures.value c.in-Live.is in
    let knows = c.in_ok-know.ensures.knows kept.nowhere (kept.keeps_here r c.requires.sound c.args.p (Live s o) at).2 in
    let mid = keeps_knowing r c.requires.sound c.args.p s o at t c.in_ok-know.ensures.same c.in_ok-know.ensures.keeps knows.0 c.in_ok-know.ensures.others in
    let alike = rw c.in-Some.is at (c.in_ok-batch.ensures.some (places_of r) s.session knows.0) in
    subst (λ (update : Update). CanOffer s.session update) (sym c.into_update.ensures)
    (can_offer (record r { tables = t }) mid.sound c.args.p s o at c.args.count batch alike c.requires.some (search rules)
    (subst (λ (wide : Bool). IsMessage wide batch) c.wide.ensures (c.is_message.ensures.is.0 c.if-not-is_message.false)) c.is_message.ensures.sound)

pub returns-then-not-branch : goal.returns-then-not-branch
returns-then-not-branch c =
    let r = c.args.self.now in
    let s = c.in-Live.session in
    let o = c.in-Live.errand in
    let t : Tables = c.know.new.self in
    let batch : Batch = c.in-Some.batch in
    let v : RunningSession = c.offer.new.session in
    let at = seen_at r.places.items c.args.p c.index_mut.result.now (Live s o) (omega arith) c.index_mut.ensures.value c.in-Live.is in
    let knows = c.in_ok-know.ensures.knows kept.nowhere (kept.keeps_here r c.requires.sound c.args.p (Live s o) at).2 in
    let mid = keeps_knowing r c.requires.sound c.args.p s o at t c.in_ok-know.ensures.same c.in_ok-know.ensures.keeps knows.0 c.in_ok-know.ensures.others in
    let alike = rw c.in-Some.is at (c.in_ok-batch.ensures.some (places_of r) s.session knows.0) in
    let full = subst (λ (put : Bool). OffersAs put s (update_for batch.attrs batch.prefixes) v) c.if-not-branch.true
    (subst (λ (update : Update). OffersAs c.in_ok-offer.field-0 s update v) c.into_update.ensures c.in_ok-offer.ensures) in
    once_known r t c.in_ok-know.ensures.same (Put c.args.p c.args.count) _ _
    (kept.refused_back (record r { tables = t }) mid.sound (Put c.args.p c.args.count) _ c.args.p (Live s o) at
    (ap (λ (w : RunningSession). slice_set r.places.items c.args.p (Live w o)) full.1) refl (record { routers = refl; room = refl })
    (put_full (record r { tables = t }) mid.sound c.args.p s o at c.args.count batch alike c.requires.some full.0))

pub was_told-requires : goal.was_told-requires
was_told-requires c =
    let keeps = c.in_ok-know.ensures.keeps in
    record { sound = keeps.sound; there = omega (arith, c.requires.sound.all, ap peerings_in keeps.setup) }

pub returns : goal.returns
returns c =
    let r = c.args.self.now in
    let s = c.in-Live.session in
    let o = c.in-Live.errand in
    let t : Tables = c.know.new.self in
    let batch : Batch = c.in-Some.batch in
    let v : RunningSession = c.offer.new.session in
    let there : c.args.p < length r.places.items = omega arith in
    let at = seen_at r.places.items c.args.p c.index_mut.result.now (Live s o) there c.index_mut.ensures.value c.in-Live.is in
    let knows = c.in_ok-know.ensures.knows kept.nowhere (kept.keeps_here r c.requires.sound c.args.p (Live s o) at).2 in
    let m : AuditedRouter = record r { tables = t } in
    let mid = keeps_knowing r c.requires.sound c.args.p s o at t c.in_ok-know.ensures.same c.in_ok-know.ensures.keeps knows.0 c.in_ok-know.ensures.others in
    let alike = rw c.in-Some.is at (c.in_ok-batch.ensures.some (places_of r) s.session knows.0) in
    let put = subst (λ (put : Bool). OffersAs put s (update_for batch.attrs batch.prefixes) v) c.if-not-branch.false
    (subst (λ (update : Update). OffersAs c.in_ok-offer.field-0 s update v) c.into_update.ensures c.in_ok-offer.ensures) in
    let told : c.as_slice.result.now ≡ batch.prefixes = c.as_slice.ensures ∙ c.in_ok-prefixes.ensures in
    let first = first_put m mid.sound c.args.p s o at c.args.count batch alike v put.0 in
    let same_put = subst (λ (l : List PrefixValue). PutsFirstAlike t kept.nowhere c.args.p s.session l v.session) (sym told) first in
    once_known r t c.in_ok-know.ensures.same (Put c.args.p c.args.count) _ _
    (put_made m mid.sound c.args.p s o at c.args.count batch alike c.requires.some there _ v refl (record { routers = refl; room = refl }) put.0
    (subst (λ (l : List PrefixValue). Drops (due_at t c.args.p) (λ x. list_any (same_prefix x) l) (due_at c.was_told.new.self c.args.p)) told
    c.in_ok-was_told.ensures.due) c.in_ok-was_told.ensures.changes
    (c.in_ok-was_told.ensures.still kept.nowhere s.session v.session knows.0 same_put))
