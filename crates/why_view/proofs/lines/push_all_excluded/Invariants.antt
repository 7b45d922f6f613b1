use Rattle.std.proofs.Common.{◌≡◌, ◌++◌, take, string_bytes}
use Rattle.std.specs.List.{flat_map}
use Rattle.why_view.specs.Why.{excluded_lines}
use Rattle.why_view.proofs.lines.push_all_excluded.Given as goal

-- the lines of the sessions so far
abbrev pub invariant-loop-session : goal.invariant-loop-session
invariant-loop-session l = string_bytes l.text
    ≡ string_bytes l.initial.text ++ flat_map (excluded_lines l.input l.prefix) (take l.session-index l.sessions)
