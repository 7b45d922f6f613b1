use Rattle.capsule_parts.proofs.Told.{IsTellingOf}
use Rattle.capsule_parts.proofs.retell.tell_lines.Given as goal

-- the lines so far are told
abbrev pub invariant-loop-line : goal.invariant-loop-line
invariant-loop-line l = IsTellingOf l.story l.fn.session.session l.line-index l.session.session
