use Rattle.std.proofs.Common.{rules, ◌≤◌}
use Rattle.bgp_session.specs.Inner.{value_of}
use Rattle.bgp_session.specs.Steps.{offered_length}
use Rattle.bgp_session.proofs.Offered.{offered_begins, offered_fits, offers_to}
use Rattle.bgp_session.proofs.parts.Parts.offer.Goals as goal

pub write_down-requires-clause-begins : goal.write_down-requires-clause-begins
write_down-requires-clause-begins c =
    let fits : offered_length (value_of c.args.self.now) c.args.update ≤ 1044480 =
    offered_fits c.args.self.now c.args.update c.stream_len.result c.message_len.result c.wide-wide.result
    c.requires.keeps c.stream_len.ensures c.wide-wide.ensures c.message_len.ensures c.if-length-gt-MOST_PUT.false in
    offered_begins c.args.self.now c.args.update c.requires.keeps c.requires.established c.requires.one_way fits

pub returns-clause-ok : goal.returns-clause-ok
returns-clause-ok c =
    let fits : offered_length (value_of c.args.self.now) c.args.update ≤ 1044480 =
    offered_fits c.args.self.now c.args.update c.stream_len.result c.message_len.result c.wide-wide.result
    c.requires.keeps c.stream_len.ensures c.wide-wide.ensures c.message_len.ensures c.if-length-gt-MOST_PUT.false in
    (offers_to c.args.self.now c.args.update c.tell.new.adj_rib_out c.in_ok-octets.octets c.write_down.new.self c.requires.keeps
    c.requires.established c.requires.one_way c.requires.changes fits c.in_ok-tell.ensures (search rules) (search rules)).0

pub returns-clause-keeps : goal.returns-clause-keeps
returns-clause-keeps c =
    let fits : offered_length (value_of c.args.self.now) c.args.update ≤ 1044480 =
    offered_fits c.args.self.now c.args.update c.stream_len.result c.message_len.result c.wide-wide.result
    c.requires.keeps c.stream_len.ensures c.wide-wide.ensures c.message_len.ensures c.if-length-gt-MOST_PUT.false in
    (offers_to c.args.self.now c.args.update c.tell.new.adj_rib_out c.in_ok-octets.octets c.write_down.new.self c.requires.keeps
    c.requires.established c.requires.one_way c.requires.changes fits c.in_ok-tell.ensures (search rules) (search rules)).1
