use Rattle.std.proofs.Common.{inl, inr, refl, rules}
use Rattle.std.proofs.lemmas.Bool.{false≢true}
use Rattle.tcp_end.specs.Emitting.{IsSlice, EmitsPart}
use Rattle.tcp_end.proofs.Emitted.{emits_slice_by, emits_empty_by, emits_none_by, emits_none}
use Rattle.tcp_end.proofs.Emitted.{empty_slice, empty_after, slice_after, cannot_emit, none_exactly}
use Rattle.tcp_end.proofs.end.End.emit_at.Goals as goal

-- the empty slice

pub returns-then-is_empty_slice-clause-some : goal.returns-then-is_empty_slice-clause-some
returns-then-is_empty_slice-clause-some c = (λ _. inr (c.if-is_empty_slice.ensures.0 refl), λ _. refl)

pub returns-then-is_empty_slice-clause-slice : goal.returns-then-is_empty_slice-clause-slice
returns-then-is_empty_slice-clause-slice c =
    empty_slice c.args.self.now c.args.from c.args.len _ (c.if-is_empty_slice.ensures.0 refl) c.emit_empty.ensures.empty

pub returns-then-is_empty_slice-clause-after : goal.returns-then-is_empty_slice-clause-after
returns-then-is_empty_slice-clause-after c =
    empty_after c.args.self.now _ c.args.from c.args.len (c.if-is_empty_slice.ensures.0 refl) c.emit_empty.ensures.after

pub returns-then-is_empty_slice-clause-step : goal.returns-then-is_empty_slice-clause-step
returns-then-is_empty_slice-clause-step c =
    emits_empty_by c.args.self.now _ _ c.args.from c.args.len (c.if-is_empty_slice.ensures.0 refl) c.emit_empty.ensures.empty c.emit_empty.ensures.after

-- no slice

pub returns-then-not-is_slice-clause-some : goal.returns-then-not-is_slice-clause-some
returns-then-not-is_slice-clause-some c =
    none_exactly c.args.self.now c.args.from c.args.len (cannot_emit c.args.self.now c.args.from c.args.len
    (λ slice. false≢true (c.if-not-is_slice.ensures.1 slice)) (λ empty. false≢true (c.if-is_empty_slice.ensures.1 empty)))

pub returns-then-not-is_slice-clause-step : goal.returns-then-not-is_slice-clause-step
returns-then-not-is_slice-clause-step c = emits_none_by (EmitsPart c.args.from c.args.len) c.args.self.now _ (search rules)

pub returns-then-not-is_slice-clause-refused : goal.returns-then-not-is_slice-clause-refused
returns-then-not-is_slice-clause-refused c =
    emits_none c.args.self.now c.args.from c.args.len (cannot_emit c.args.self.now c.args.from c.args.len
    (λ slice. false≢true (c.if-not-is_slice.ensures.1 slice)) (λ empty. false≢true (c.if-is_empty_slice.ensures.1 empty)))

-- a slice with bytes

pub emit_slice-requires-clause-acked : goal.emit_slice-requires-clause-acked
emit_slice-requires-clause-acked c =
    let slice : IsSlice c.args.self.now c.args.from c.args.len = c.if-not-is_slice.ensures.0 refl in slice.acked

pub emit_slice-requires-clause-within : goal.emit_slice-requires-clause-within
emit_slice-requires-clause-within c =
    let slice : IsSlice c.args.self.now c.args.from c.args.len = c.if-not-is_slice.ensures.0 refl in slice.within

pub emit_slice-requires-clause-flight : goal.emit_slice-requires-clause-flight
emit_slice-requires-clause-flight c =
    let slice : IsSlice c.args.self.now c.args.from c.args.len = c.if-not-is_slice.ensures.0 refl in slice.flight

pub returns-clause-some : goal.returns-clause-some
returns-clause-some c = (λ _. inl (c.if-not-is_slice.ensures.0 refl), λ _. refl)

pub returns-clause-after : goal.returns-clause-after
returns-clause-after c =
    slice_after c.args.self.now _ c.args.from c.args.len (c.if-not-is_slice.ensures.0 refl) c.in_ok-emit_slice.ensures.after

pub returns-clause-step : goal.returns-clause-step
returns-clause-step c =
    emits_slice_by c.args.self.now _ _ c.args.from c.args.len (c.if-not-is_slice.ensures.0 refl)
    c.in_ok-emit_slice.ensures.slice c.in_ok-emit_slice.ensures.after
