use Rattle.std.proofs.Common.{rules}
use Rattle.audit_channels.proofs.channel.Channel.take.Goals as goal

pub returns-clause-stamps : goal.returns-clause-stamps
returns-clause-stamps c = (c.in_ok-item.field-0.stamp, search rules)
