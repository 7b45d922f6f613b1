use Rattle.std.proofs.Common.{sym}
use Rattle.why_view.proofs.Got.{long_got, is_frame, none_by_header}
use Rattle.why_view.proofs.stories.message_in.Goals as goal

pub header_fault-requires : goal.header_fault-requires
header_fault-requires c = long_got c.args.bytes.now c.requires

pub read_frame-requires : goal.read_frame-requires
read_frame-requires c = is_frame c.args.bytes.now c.requires (sym c.in-None.ensures)

pub returns-in-Some : goal.returns-in-Some
returns-in-Some c = sym (none_by_header c.args.expected.now c.args.bytes.now c.in-Some.field-0 (sym c.in-Some.ensures))
