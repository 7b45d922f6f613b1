use Rattle.std.proofs.Common.{refl, sym, ◌∙◌, subst, arith, rules}
use Rattle.std.proofs.lemmas.Bool.{false≢true}
use Rattle.graft_model.specs.declared.event.RouterEvent.TheVariants.{Put}
use Rattle.graft_model.specs.RouterRows.{WaitsOnPeering}
use Rattle.audit_tables.specs.Parts.{part_with}
use Rattle.audit_tables.specs.declared.tables.Tables.{Tables}
use Rattle.audit_router.specs.Parts.{places_of}
use Rattle.audit_router.specs.declared.place.Place.TheVariants.{Live}
use Rattle.audit_router.proofs.Kept as kept
use Rattle.audit_router.proofs.LiveSessions.{none_beyond, none_there}
use Rattle.audit_router.proofs.Putting.{keeps_knowing, once_known, put_idle, put_none, put_told, put_untold}
use Rattle.audit_router.proofs.Searching.{seen_at}
use Rattle.audit_router.proofs.router.AuditedRouter.put_nothing.Goals as goal

pub returns-then-p-len : goal.returns-then-p-len
returns-then-p-len c = put_none c.args.self.now c.requires c.args.p (none_beyond c.args.self.now c.args.p (omega arith)) 0

pub returns-in_default : goal.returns-in_default
returns-in_default c =
    let r = c.args.self.now in
    let now = c.index.result.now in
    let at = seen_at r.places.items c.args.p now now (omega arith) c.index.ensures refl in
    put_none r c.requires c.args.p (none_there r c.args.p now at c.in_default.not-Live) 0

pub returns-then-not-branch : goal.returns-then-not-branch
returns-then-not-branch c =
    let r = c.args.self.now in
    let s = c.in-Live.session in
    let o = c.in-Live.errand in
    let at = seen_at r.places.items c.args.p c.index.result.now (Live s o) (omega arith) c.index.ensures c.in-Live.is in
    put_idle r c.requires c.args.p s o at
    (λ waits. false≢true (sym c.if-not-branch.true ∙ (c.in_ok-is_waiting.ensures (places_of r)).1 waits))

pub is_told-requires : goal.is_told-requires
is_told-requires c =
    let r = c.args.self.now in
    let s = c.in-Live.session in
    let o = c.in-Live.errand in
    let at = seen_at r.places.items c.args.p c.index.result.now (Live s o) (omega arith) c.index.ensures c.in-Live.is in
    (c.in_ok-know.ensures.knows kept.nowhere (kept.keeps_here r c.requires c.args.p (Live s o) at).2).1

pub returns-then-not-is_told : goal.returns-then-not-is_told
returns-then-not-is_told c =
    let r = c.args.self.now in
    let s = c.in-Live.session in
    let o = c.in-Live.errand in
    let t : Tables = c.know.new.self in
    let at = seen_at r.places.items c.args.p c.index.result.now (Live s o) (omega arith) c.index.ensures c.in-Live.is in
    let knows = c.in_ok-know.ensures.knows kept.nowhere (kept.keeps_here r c.requires c.args.p (Live s o) at).2 in
    let mid = keeps_knowing r c.requires c.args.p s o at t c.in_ok-know.ensures.same c.in_ok-know.ensures.keeps knows.0 c.in_ok-know.ensures.others in
    once_known r t c.in_ok-know.ensures.same (Put c.args.p 0) _ _ (put_untold (record r { tables = t }) mid.sound c.args.p s o at
    (λ nothing. false≢true (sym c.if-not-is_told.true ∙ (c.is_told.ensures (places_of r) s.session knows.0).1 nothing)))

pub returns : goal.returns
returns c =
    let r = c.args.self.now in
    let s = c.in-Live.session in
    let o = c.in-Live.errand in
    let t : Tables = c.know.new.self in
    let at = seen_at r.places.items c.args.p c.index.result.now (Live s o) (omega arith) c.index.ensures c.in-Live.is in
    let knows = c.in_ok-know.ensures.knows kept.nowhere (kept.keeps_here r c.requires c.args.p (Live s o) at).2 in
    let mid = keeps_knowing r c.requires c.args.p s o at t c.in_ok-know.ensures.same c.in_ok-know.ensures.keeps knows.0 c.in_ok-know.ensures.others in
    let waits = (c.in_ok-is_waiting.ensures (places_of r)).0 c.if-not-branch.false in
    once_known r t c.in_ok-know.ensures.same (Put c.args.p 0) _ _ (put_told (record r { tables = t }) mid.sound c.args.p s o at (search rules) waits.0
    (subst (λ (x : Tables). WaitsOnPeering (part_with (places_of r) x) c.args.p waits.0) (sym c.in_ok-know.ensures.same) waits.1)
    ((c.is_told.ensures (places_of r) s.session knows.0).0 c.if-not-is_told.false) c.settle.new.self c.in_ok-settle.ensures.due
    c.in_ok-settle.ensures.changes c.in_ok-settle.ensures.forgets _ refl)
