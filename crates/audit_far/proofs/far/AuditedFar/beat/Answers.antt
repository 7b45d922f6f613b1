use Rattle.std.proofs.Common.{◌≡◌, true, false, refl, arith}
use Rattle.audit_far.proofs.Rows.{beat_made, beat_refused, keepalive_is}
use Rattle.audit_far.proofs.far.AuditedFar.beat.Goals as goal

pub say-requires : goal.say-requires
say-requires c = let may = c.if-not-may_beat.ensures.0 refl in c.requires.room may.0 may.3

pub overflow_add-self : goal.overflow_add-self
overflow_add-self c = let may = c.if-not-may_beat.ensures.0 refl in omega (arith, may.3)

pub returns-then-not-may_beat : goal.returns-then-not-may_beat
returns-then-not-may_beat c = beat_refused c.args.self.now c.args.self.now c.requires.sound c.args.round
    (λ may. let yes : false ≡ true = c.if-not-may_beat.ensures.1 may in let b : ⊥ = cc in b) refl

pub returns : goal.returns
returns c = beat_made c.args.self.now _ c.requires.sound c.args.round c.say.new.self _ keepalive_is
    (c.if-not-may_beat.ensures.0 refl) c.in_ok-say.ensures refl
