use Rattle.std.proofs.Common.{refl, ◌∙◌, arith}
use Rattle.capsule_parts.proofs.ReadUpdates.{expected_in, read_short, read_update, short_writable, some_is_read, some_read, written_whole}
use Rattle.capsule_parts.proofs.offer.read_update.Goals as goal

pub returns-then-not-is_whole-clause-written : goal.returns-then-not-is_whole-clause-written
returns-then-not-is_whole-clause-written c = λ update writable are.
    let whole = c.is_whole.ensures.1 (written_whole c.args.octets.now c.args.remote_as c.args.offered c.args.wide update writable are) in
    absurd cc

pub returns-in_default-clause-written : goal.returns-in_default-clause-written
returns-in_default-clause-written c = λ update writable are.
    absurd (some_is_read c.args.octets.now c.args.remote_as c.args.offered c.args.wide update writable are c.in_ok-message.field-0 c.in_default.is
    c.in_ok-message.ensures.none)

pub returns-then-message_len-gt-MOST_OCTETS-clause-written : goal.returns-then-message_len-gt-MOST_OCTETS-clause-written
returns-then-message_len-gt-MOST_OCTETS-clause-written c = λ update writable are.
    let read = some_read c.args.octets.now (expected_in c.args.remote_as c.args.offered c.args.wide) c.in_ok-message.field-0 c.in-Some.message c.in-Some.is
    c.in_ok-message.ensures.some in
    let short = read_short c.args.octets.now c.args.remote_as c.args.offered c.args.wide update writable are c.in-Some.message read
    c.message_len.result c.message_len.ensures in
    absurd (omega (arith, short, c.if-message_len-gt-MOST_OCTETS.true))

pub returns-clause-writable : goal.returns-clause-writable
returns-clause-writable c =
    let read = some_read c.args.octets.now (expected_in c.args.remote_as c.args.offered c.args.wide) c.in_ok-message.field-0 c.in-Some.message c.in-Some.is
    c.in_ok-message.ensures.some in
    short_writable c.args.octets.now (expected_in c.args.remote_as c.args.offered c.args.wide) c.in-Some.message c.args.wide c.message_len.result
    c.read_octets.ensures (c.if-not-is_whole.ensures.0 refl) read c.message_len.ensures c.if-message_len-gt-MOST_OCTETS.false c.update_in.result
    c.update_in.ensures

pub returns-clause-written : goal.returns-clause-written
returns-clause-written c = λ update writable are.
    let read = some_read c.args.octets.now (expected_in c.args.remote_as c.args.offered c.args.wide) c.in_ok-message.field-0 c.in-Some.message c.in-Some.is
    c.in_ok-message.ensures.some in
    c.update_in.ensures ∙ read_update c.args.octets.now c.args.remote_as c.args.offered c.args.wide update writable are c.in-Some.message read
