use Rattle.std.proofs.Common.{◌≡◌, take, not}
use Rattle.std.specs.Prelude.{filter}
use Rattle.std.specs.List.{list_any}
use Rattle.why_view.specs.Rules.{better_by}
use Rattle.why_view.proofs.rules.keep.Given as goal

-- what is kept of the ranks so far
abbrev pub invariant-loop-rank : goal.invariant-loop-rank
invariant-loop-rank l = l.kept ≡ filter (λ x. not (list_any (λ y. better_by l.rule y x) l.left)) (take l.rank-index l.left)
