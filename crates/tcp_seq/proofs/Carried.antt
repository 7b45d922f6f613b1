-- What a connection keeps.
use Rattle.std.proofs.Common.{◌≡◌, ℕ, ◌+◌, ◌<◌, ◌≤◌, max, List, [], ◌∷◌, ◌++◌, length, sym, ap, subst, arith, ◌⊎◌, inl, inr}
use Rattle.std.specs.Prelude.{Contains}
use Rattle.std.proofs.lemmas.Bool.{cases_lt}
use Rattle.std.proofs.lemmas.List.Elements.{Contains-append_left, Contains-push, Contains-push_cases}
use Rattle.tcp_seq.specs.Endpoint.{Endpoint, PlacedSegment, TakesSegment}
use Rattle.tcp_seq.specs.Connection.{Side, Connection, fresh_side, fresh_connection, SideEmits, SideSteps}
use Rattle.tcp_seq.specs.Connection.{ConnectionStep, ConnectionRun, IsEmittedBy, IsAmong, AreLinked, StaysLinked, IsCarried, IsConnection}
use Rattle.tcp_seq.proofs.Flows.{sends_linked, emits_linked, reads_linked, takes_linked, fresh_linked}

record Both (x y : Side) : Type 0 where
  there : IsCarried x y
  back : IsCarried y x

both_linked : (x y : Side) → Both x y → AreLinked x.end y.end
both_linked x y both = record { there = both.there.flows; back = both.back.flows }

-- the acting side emits nothing
no_segment : (x x' y : Side) → Both x y → StaysLinked x.end x'.end y.end → x'.end.emitted ≡ x.end.emitted → x'.emitted ≡ x.emitted → Both x' y
no_segment x x' y both stays same emits = record {
  there = record {
    flows = stays.linked.there;
    segments = λ p here. stays.still p (both.there.segments p (subst (λ (ps : List PlacedSegment). Contains ps p) emits here));
    all = λ offset below. subst (λ (ps : List PlacedSegment). IsAmong ps offset) (sym emits) (both.there.all offset (omega (arith, below, same)));
  };
  back = record { flows = stays.linked.back; segments = both.back.segments; all = both.back.all };
}

-- an earlier segment has an offset, or the last one
among : (segments : List PlacedSegment) (p : PlacedSegment) (offset : ℕ)
    → IsAmong segments offset ⊎ ((p.offset ≤ offset) × (offset < p.offset + length p.bytes)) → IsAmong (segments ++ p ∷ []) offset
among segments p offset (inl is) = record {
  segment = is.segment;
  there = Contains-append_left segments (p ∷ []) is.segment is.there;
  from = is.from;
  below = is.below;
}
among segments p offset (inr within) = record { segment = p; there = Contains-push segments p; from = within.0; below = within.1 }

-- the acting side emits a segment
one_segment : (x x' y : Side) (p : PlacedSegment) → Both x y → StaysLinked x.end x'.end y.end → IsEmittedBy x'.end p → x'.emitted ≡ x.emitted ++ p ∷ []
    → ((offset : ℕ) → x.end.emitted ≤ offset → offset < x'.end.emitted → (p.offset ≤ offset) × (offset < p.offset + length p.bytes)) → Both x' y
one_segment x x' y p both stays emitted emits new = record {
  there = record {
    flows = stays.linked.there;
    segments = λ q here. elim (Contains-push_cases x.emitted p q (subst (λ (ps : List PlacedSegment). Contains ps q) emits here)) [
      | inl old ↦ stays.still q (both.there.segments q old)
      | inr same ↦ subst (IsEmittedBy x'.end) same emitted
    ];
    all = λ offset below. subst (λ (ps : List PlacedSegment). IsAmong ps offset) (sym emits) (among x.emitted p offset (elim (cases_lt offset x.end.emitted) [
      | inl early ↦ inl (both.there.all offset early)
      | inr late ↦ inr (new offset late below)
    ]));
  };
  back = record { flows = stays.linked.back; segments = both.back.segments; all = both.back.all };
}

acts_emits : (x x' y : Side) → Both x y → SideEmits x x' → Both x' y
acts_emits x x' y both (p, inl emits, adds) =
    let next = emits_linked x.end x'.end y.end p (both_linked x y both) (inl emits) in
    let rises : x'.end.emitted ≡ max x.end.emitted (p.offset + length p.bytes) = ap (λ (e : Endpoint). e.emitted) emits.rises in
    one_segment x x' y p both next.0 next.1 adds (λ offset from below. (omega (arith, emits.to, from), omega (arith, from, below, rises)))
acts_emits x x' y both (p, inr empty, adds) =
    let next = emits_linked x.end x'.end y.end p (both_linked x y both) (inr empty) in
    let same : x'.end.emitted ≡ x.end.emitted = ap (λ (e : Endpoint). e.emitted) empty.given in
    one_segment x x' y p both next.0 next.1 adds (λ offset from below. absurd (omega (arith, from, below, same)))

emitted_stays : (x after : Endpoint) (p : PlacedSegment) → TakesSegment x p after → after.emitted ≡ x.emitted
emitted_stays x after p (inl drops) = ap (λ (e : Endpoint). e.emitted) drops.stays
emitted_stays x after p (inr accepts) = ap (λ (e : Endpoint). e.emitted) accepts.changed

acts : (x x' y : Side) → Both x y → SideSteps y.emitted x x' → Both x' y
acts x x' y both (inl (bytes, sends, emits)) =
    no_segment x x' y both (sends_linked x.end x'.end y.end bytes (both_linked x y both) sends) (ap (λ (e : Endpoint). e.emitted) sends.sent) emits
acts x x' y both (inr (inl emits)) = acts_emits x x' y both emits
acts x x' y both (inr (inr (inl (n, reads, emits)))) =
    no_segment x x' y both (reads_linked x.end x'.end y.end n (both_linked x y both) reads) (ap (λ (e : Endpoint). e.emitted) reads.read) emits
acts x x' y both (inr (inr (inr (p, here, takes, emits)))) =
    no_segment x x' y both (takes_linked x.end x'.end y.end p (both_linked x y both) (both.back.segments p here) takes)
    (emitted_stays x.end x'.end p takes) emits

other_way : (x y : Side) → Both x y → Both y x
other_way x y both = record { there = both.back; back = both.there }

both_of : (c : Connection) → IsConnection c → Both c.near c.far
both_of c is = record { there = is.there; back = is.back }

step_by : (before after : Connection) → Both before.near before.far → ConnectionStep before after → Both after.near after.far
step_by before after both (inl (near, same)) = subst (λ (y : Side). Both after.near y) (sym same) (acts before.near after.near before.far both near)
step_by before after both (inr (far, same)) = subst (λ (x : Side). Both x after.far) (sym same)
    (other_way after.far before.near (acts before.far after.far before.near (other_way before.near before.far both) far))

pub steps : (before after : Connection) → IsConnection before → ConnectionStep before after → IsConnection after
steps before after is step = let both = step_by before after (both_of before is) step in record { there = both.there; back = both.back }

at_start : IsCarried fresh_side fresh_side
at_start = record {
  flows = fresh_linked.there;
  segments = λ p (i, below, is). absurd (omega (arith, below));
  all = λ offset below. absurd (omega (arith, below));
}

pub at_fresh : IsConnection fresh_connection
at_fresh = record { there = at_start; back = at_start }

pub runs : (before : Connection) (states : List Connection) (last : Connection) → IsConnection before → ConnectionRun before states last → IsConnection last
runs before [] last is same = subst IsConnection (sym same) is
runs before (next ∷ rest) last is (step, run) = runs next rest last (steps before next is step) run
