use Rattle.capsule_parts.proofs.Begun.{begun_has, end_for_begun}
use Rattle.capsule_parts.proofs.retell.begun.Goals as goal

pub set_end-requires : goal.set_end-requires
set_end-requires c =
    end_for_begun c.args.config c.requires.peering c.args.received c.requires.few c.in_ok-session.session c.in_ok-session.ensures
    c.in_ok-end.end c.in_ok-end.ensures.end c.in_ok-end.ensures.whole c.new.result c.new.ensures

pub returns : goal.returns
returns c =
    begun_has c.args.config c.requires.peering c.args.received c.requires.few c.in_ok-session.session c.in_ok-session.ensures
    c.in_ok-end.end c.in_ok-end.ensures.end c.in_ok-end.ensures.whole c.new.result c.new.ensures c.set_end.new.self c.set_end.ensures
