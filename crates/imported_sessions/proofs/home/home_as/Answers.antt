use Rattle.imported_sessions.proofs.Openings.{home_free}
use Rattle.imported_sessions.proofs.home.home_as.Goals as goal

pub returns-in_ok-remote_ases-in-None : goal.returns-in_ok-remote_ases-in-None
returns-in_ok-remote_ases-in-None c = home_free c.args.opened.now c.least_free.result c.in_ok-remote_ases-in-None.field-0 c.least_free.ensures.from
    c.least_free.ensures.free c.least_free.ensures.least c.in_ok-remote_ases-in-None.ensures c.in-None.ensures
