use Rattle.std.proofs.Common.{◌≡◌, drop}
use Rattle.why_view.specs.Rules.{goes_at}
use Rattle.why_view.proofs.rules.first_at.Given as goal

-- the rank goes where it goes by the rules that are left
abbrev pub invariant-loop-rule : goal.invariant-loop-rule
invariant-loop-rule l = goes_at l.rules l.ranks l.rank ≡ goes_at (drop l.rule-index l.rules) l.left l.rank
