use Rattle.std.proofs.Common.{◌≡◌, ◌<◌, ℕ, Option, Some, Bool, true, false, arith, subst, sym}
use Rattle.std.specs.Prelude.{IfSome}
use Rattle.run_auditor.specs.Clocks.{PassesClocks}
use Rattle.run_auditor.specs.Steps.{TakesEntry}
use Rattle.run_auditor.specs.declared.step.Step.{Step}
use Rattle.run_auditor.proofs.Replays.{actor_below, from_below, no_event, no_world, not_above, not_timely, timely, to_below}
use Rattle.run_auditor.proofs.audit.next_fault.Goals as goal

pub returns-then-not-is_above : goal.returns-then-not-is_above
returns-then-not-is_above c =
    not_above c.args.before.now c.args.entry.now c.args.auditor.now c.args.clocks.now c.requires.sound c.if-not-is_above.ensures

pub returns-in-Kind : goal.returns-in-Kind
returns-in-Kind c = no_event c.args.before.now c.args.entry.now c.args.auditor.now c.args.clocks.now c.step.new.self c.if-not-is_above.ensures
    (subst (λ (s : Step). TakesEntry c.args.entry.now c.args.auditor.now s c.step.new.self) c.in-Kind.is c.in_ok-step.ensures)

pub returns-in-Condition : goal.returns-in-Condition
returns-in-Condition c = no_world c.args.before.now c.args.entry.now c.args.auditor.now c.args.clocks.now c.step.new.self c.if-not-is_above.ensures
    (subst (λ (s : Step). TakesEntry c.args.entry.now c.args.auditor.now s c.step.new.self) c.in-Condition.is c.in_ok-step.ensures)

pub passes-requires-clause-actor : goal.passes-requires-clause-actor
passes-requires-clause-actor c =
    let old = c.args.auditor.now in
    let t = subst (λ (s : Step). TakesEntry c.args.entry.now old s c.step.new.self) c.in-Made.is c.in_ok-step.ensures in
    let below = actor_below old.known.setup c.args.entry.now c.requires.sound.world c.in-Made.from c.in-Made.to c.step.new.self
    (t.answers c.requires.sound.world c.requires.sound.stands) in
    omega (arith, below, c.requires.all)

pub passes-requires-clause-from : goal.passes-requires-clause-from
passes-requires-clause-from c =
    let old = c.args.auditor.now in
    let t = subst (λ (s : Step). TakesEntry c.args.entry.now old s c.step.new.self) c.in-Made.is c.in_ok-step.ensures in
    subst (λ (k : ℕ). IfSome c.in-Made.from (λ n. n < k)) (sym c.requires.all)
    (from_below old.known.setup c.args.entry.now c.requires.sound.world c.in-Made.from c.in-Made.to c.step.new.self
    (t.answers c.requires.sound.world c.requires.sound.stands))

pub passes-requires-clause-to : goal.passes-requires-clause-to
passes-requires-clause-to c =
    let old = c.args.auditor.now in
    let t = subst (λ (s : Step). TakesEntry c.args.entry.now old s c.step.new.self) c.in-Made.is c.in_ok-step.ensures in
    subst (λ (k : ℕ). IfSome c.in-Made.to (λ n. n < k)) (sym c.requires.all)
    (to_below old.known.setup c.args.entry.now c.requires.sound.world c.in-Made.from c.in-Made.to c.step.new.self
    (t.answers c.requires.sound.world c.requires.sound.stands))

pub returns-then-not-passed : goal.returns-then-not-passed
returns-then-not-passed c =
    let laws = c.clocks_follow_runs.ensures in
    let passed = c.in_ok-passed-in-Made in
    not_timely laws.decide laws.pass laws.level c.args.before.now c.args.entry.now c.args.auditor.now c.args.clocks.now c.step.new.self
    c.passes.new.clocks c.if-not-is_above.ensures c.in-Made.from c.in-Made.to
    (subst (λ (s : Step). TakesEntry c.args.entry.now c.args.auditor.now s c.step.new.self) c.in-Made.is c.in_ok-step.ensures)
    (subst (λ (b : Bool). PassesClocks c.args.entry.now c.in-Made.from c.in-Made.to c.args.clocks.now b c.passes.new.clocks) c.if-not-passed.true passed.ensures)

pub returns-else-not-passed : goal.returns-else-not-passed
returns-else-not-passed c =
    let laws = c.clocks_follow_runs.ensures in
    let passed = c.in_ok-passed-in-Made in
    timely laws.decide laws.pass laws.level c.args.before.now c.args.entry.now c.args.auditor.now c.args.clocks.now c.step.new.self
    c.passes.new.clocks c.if-not-is_above.ensures c.in-Made.from c.in-Made.to
    (subst (λ (s : Step). TakesEntry c.args.entry.now c.args.auditor.now s c.step.new.self) c.in-Made.is c.in_ok-step.ensures)
    (subst (λ (b : Bool). PassesClocks c.args.entry.now c.in-Made.from c.in-Made.to c.args.clocks.now b c.passes.new.clocks) c.if-not-passed.false passed.ensures)
