use Rattle.pcap_form.proofs.OneReading.{is_read, is_refused}
use Rattle.pcap_form.proofs.read.read_capture.Goals as goal

pub returns-then-begins_section-clause-back : goal.returns-then-begins_section-clause-back
returns-then-begins_section-clause-back c = λ packets is.
    is_read c.args.file.now packets c.read_blocks.result c.read_blocks.ensures.capture c.read_blocks.ensures.fault is

pub returns-then-begins_section-clause-refused : goal.returns-then-begins_section-clause-refused
returns-then-begins_section-clause-refused c = λ place is.
    is_refused c.args.file.now place c.read_blocks.result c.read_blocks.ensures.capture c.read_blocks.ensures.fault is

pub returns-else-begins_section-clause-back : goal.returns-else-begins_section-clause-back
returns-else-begins_section-clause-back c = λ packets is.
    is_read c.args.file.now packets c.read_records.result c.read_records.ensures.capture c.read_records.ensures.fault is

pub returns-else-begins_section-clause-refused : goal.returns-else-begins_section-clause-refused
returns-else-begins_section-clause-refused c = λ place is.
    is_refused c.args.file.now place c.read_records.result c.read_records.ensures.capture c.read_records.ensures.fault is
