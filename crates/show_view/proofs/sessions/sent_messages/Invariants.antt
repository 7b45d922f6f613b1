use Rattle.std.proofs.Common.{◌≡◌, ◌≤◌, take}
use Rattle.std.specs.Prelude.{count_by}
use Rattle.show_view.specs.Sessions.{is_put}
use Rattle.show_view.proofs.sessions.sent_messages.Given as goal

-- the messages of the lines so far, at most one a line
abbrev pub invariant-loop-line : goal.invariant-loop-line
invariant-loop-line l =
    record {
      so_far : l.sent ≡ count_by is_put (take l.line-index l.lines);
      fits : l.sent ≤ l.line-index;
    }
