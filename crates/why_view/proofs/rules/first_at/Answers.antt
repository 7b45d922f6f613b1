use Rattle.std.proofs.Common.{◌≡◌, ◌+◌, true, false, drop, ap, sym, ◌∙◌}
use Rattle.std.specs.List.{list_any}
use Rattle.decision_core.specs.Choice.{keep}
use Rattle.why_view.specs.Rules.{better_by, goes_at}
use Rattle.why_view.proofs.Going.{rule_at, goes_here, goes_later}
use Rattle.why_view.proofs.rules.first_at.Goals as goal

pub returns-then-is_beaten : goal.returns-then-is_beaten
returns-then-is_beaten c =
    let rules = c.args.rules.now in
    let i = c.loop-rule.rule-index in
    let left = c.loop-rule.left in
    let rank = c.args.rank.now in
    let beaten : list_any (λ other. better_by (rule_at rules i) other rank) left ≡ true =
    ap (list_any (λ other. better_by (rule_at rules i) other rank)) (sym c.deref.ensures) ∙ sym c.is_beaten.ensures ∙ c.if-is_beaten.true in
    sym (c.loop-rule.invariant ∙ goes_here rules i left rank c.loop-rule-test.true beaten)

pub loop-rule-preserved : goal.loop-rule-preserved
loop-rule-preserved c =
    let rules = c.args.rules.now in
    let i = c.loop-rule.rule-index in
    let left = c.loop-rule.left in
    let rank = c.args.rank.now in
    let unbeaten : list_any (λ other. better_by (rule_at rules i) other rank) left ≡ false =
    ap (list_any (λ other. better_by (rule_at rules i) other rank)) (sym c.deref.ensures) ∙ sym c.is_beaten.ensures ∙ c.if-is_beaten.false in
    c.loop-rule.invariant ∙ goes_later rules i left rank c.loop-rule-test.true unbeaten
    ∙ ap (λ l. goes_at (drop (i + 1) rules) l rank)
    (sym (c.in_ok-left-2.ensures ∙ ap (keep (better_by (rule_at rules i))) c.deref-in-loop-rule.ensures))
