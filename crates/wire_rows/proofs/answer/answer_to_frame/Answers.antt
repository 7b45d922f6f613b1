use Rattle.std.proofs.Common.{rules, arith, length, ◌≤◌}
use Rattle.bgp_types.specs.Spelling.{spell}
use Rattle.bgp_wire.specs.Written.{written_limit}
use Rattle.wire_rows.proofs.answer.answer_to_frame.Goals as goal

pub write_message-requires : goal.write_message-requires
write_message-requires c =
    let fits : length (spell c.in-Ok.message c.args.expected.now.wide) ≤ written_limit c.in-Ok.message = search rules in
    (c.read_message_is_writable.ensures.answered c.args.frame.now c.args.expected.now c.in-Ok.message c.args.expected.now.wide
    (λ i. omega (arith, c.type_inv.frame i)) c.requires c.in-Ok.ensures).1 fits
