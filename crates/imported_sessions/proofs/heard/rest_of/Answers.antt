use Rattle.std.proofs.Common.{◌∙◌}
use Rattle.imported_sessions.proofs.Hearing.{rest_at}
use Rattle.imported_sessions.proofs.heard.rest_of.Goals as goal

pub returns : goal.returns
returns c = λ flows count is. c.as_slice.ensures ∙ rest_at flows count c.args.sessions.now is c.args.peer c.index-sessions-peer.result c.requires
