use Rattle.std.proofs.Common.{◌≡◌, List, Bool, true, false, refl, subst}
use Rattle.std.specs.Prelude.{reverse, MatchBool}
use Rattle.update_plan.specs.Plans.{IsWritableFor}
use Rattle.update_plan.specs.declared.batch.Batch.{Batch}
use Rattle.router_core.specs.Parts.{router_part}
use Rattle.router_core.specs.Places.{place_at}
use Rattle.router_core.specs.Putting.{PlannedAt}
use Rattle.router_core.proofs.PutPlaces.{next_at, reversed_pop}
use Rattle.router_core.proofs.StuckPlaces.{free_by_place, free_unwritable, stuck_by_place}
use Rattle.router_core.proofs.stages.put.no_room_at.Goals as goal

when_true : (P Q : Type 0) (b : Bool) → b ≡ true → MatchBool b P Q → P
when_true P Q b e h = subst (λ (t : Bool). MatchBool t P Q) e h

when_false : (P Q : Type 0) (b : Bool) → b ≡ false → MatchBool b P Q → Q
when_false P Q b e h = subst (λ (t : Bool). MatchBool t P Q) e h

pub returns-then-not-is_writable : goal.returns-then-not-is_writable
returns-then-not-is_writable c =
    let f = c.args.router.now in
    let plan = subst (λ (l : List Batch). PlannedAt f.known.setup f.number.0 (router_part f) c.args.n (place_at f.places.places c.args.n) l)
    (reversed_pop c.in_ok-batches.batches.items c.pop.new.self.items c.in-Some.batch c.in-Some.ensures.items) c.in_ok-batches.ensures.planned in
    let next = next_at f c.args.n (place_at f.places.places c.args.n) c.in-Some.batch (reverse c.pop.new.self.items) c.requires.keeps refl plan in
    free_unwritable f c.args.n c.in-Some.batch (place_at f.places.places c.args.n) refl next
    (when_false (IsWritableFor c.in-Some.batch) (¬ IsWritableFor c.in-Some.batch) c.is_writable.result c.if-not-is_writable.true c.is_writable.ensures)

pub returns-then-length-gt-MOST_PUT : goal.returns-then-length-gt-MOST_PUT
returns-then-length-gt-MOST_PUT c =
    let f = c.args.router.now in
    let plan = subst (λ (l : List Batch). PlannedAt f.known.setup f.number.0 (router_part f) c.args.n (place_at f.places.places c.args.n) l)
    (reversed_pop c.in_ok-batches.batches.items c.pop.new.self.items c.in-Some.batch c.in-Some.ensures.items) c.in_ok-batches.ensures.planned in
    let next = next_at f c.args.n (place_at f.places.places c.args.n) c.in-Some.batch (reverse c.pop.new.self.items) c.requires.keeps refl plan in
    stuck_by_place f c.args.n c.len_with-length.result c.in-Some.batch c.len_with-length.ensures (place_at f.places.places c.args.n) refl next
    (when_true (IsWritableFor c.in-Some.batch)
    (¬ IsWritableFor c.in-Some.batch) c.is_writable.result c.if-not-is_writable.false c.is_writable.ensures) c.if-length-gt-MOST_PUT.true

pub returns : goal.returns
returns c =
    let f = c.args.router.now in
    let plan = subst (λ (l : List Batch). PlannedAt f.known.setup f.number.0 (router_part f) c.args.n (place_at f.places.places c.args.n) l)
    (reversed_pop c.in_ok-batches.batches.items c.pop.new.self.items c.in-Some.batch c.in-Some.ensures.items) c.in_ok-batches.ensures.planned in
    let next = next_at f c.args.n (place_at f.places.places c.args.n) c.in-Some.batch (reverse c.pop.new.self.items) c.requires.keeps refl plan in
    free_by_place f c.args.n c.len_with-length.result c.in-Some.batch c.len_with-length.ensures
    (place_at f.places.places c.args.n) refl next c.if-length-gt-MOST_PUT.false
