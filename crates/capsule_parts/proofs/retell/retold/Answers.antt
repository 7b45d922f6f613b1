use Rattle.session_value.specs.Sessions.{peering_of}
use Rattle.capsule_parts.proofs.Retelling.{has_told, its_peering, retold_all, retold_story, untold}
use Rattle.capsule_parts.proofs.retell.retold.Goals as goal

pub returns-then-not-is_peering-clause-refused : goal.returns-then-not-is_peering-clause-refused
returns-then-not-is_peering-clause-refused c = λ _ told is up.
    let valid = c.is_peering.ensures.1 (its_peering (peering_of c.args.config) c.args.received c.args.story.now told is) in
    cc

pub returns-then-not-branch-clause-refused : goal.returns-then-not-branch-clause-refused
returns-then-not-branch-clause-refused c = λ _ told is up.
    let all = retold_all c.args.config c.args.received c.args.story.now c.in_ok-session.session.session c.tell_lines.new.session.session
    c.in_ok-session.ensures c.in_ok-tell_lines.ensures.stays told is c.in_ok-tell_lines.field-0 c.in_ok-tell_lines.ensures.told in
    cc

pub returns-then-not-branch-2-clause-refused : goal.returns-then-not-branch-2-clause-refused
returns-then-not-branch-2-clause-refused c = λ _ told is up.
    untold c.in_ok-has_told.field-0 c.if-not-branch-2.true c.in_ok-has_told.ensures
    (has_told c.args.config c.args.received c.args.story.now c.in_ok-session.session.session c.tell_lines.new.session.session
    c.in_ok-session.ensures c.in_ok-tell_lines.ensures.stays told is c.in_ok-tell_lines.field-0 c.in_ok-tell_lines.ensures.told up)

pub returns-clause-same : goal.returns-clause-same
returns-clause-same c = λ told is.
    retold_story c.args.config c.args.received c.args.story.now c.in_ok-session.session.session c.tell_lines.new.session.session
    c.in_ok-session.ensures c.in_ok-tell_lines.ensures.stays told is c.in_ok-tell_lines.field-0 c.in_ok-tell_lines.ensures.told
