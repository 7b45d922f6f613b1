use Rattle.std.proofs.Common.{Some, None}
use Rattle.rib_stages.specs.Values.{rib_of}
use Rattle.rib_stages.proofs.Marks.{when_false}
use Rattle.rib_stages.proofs.Whole.{sets_in_ok}
use Rattle.rib_stages.proofs.rib.Rib.set_in.Goals as goal

pub returns-in-Some-clause-ok : goal.returns-in-Some-clause-ok
returns-in-Some-clause-ok c = sets_in_ok c.put.result (rib_of c.args.self.now) (rib_of c.put.new.self) c.args.from c.args.entry
    (Some c.in-Some.route) (when_false _ _ c.is_set.result c.if-is_set.false c.is_set.ensures) c.in-Some.is c.put.ensures.ok

pub returns-in-None-clause-ok : goal.returns-in-None-clause-ok
returns-in-None-clause-ok c = sets_in_ok c.take.result (rib_of c.args.self.now) (rib_of c.take.new.self) c.args.from c.args.entry None
    (when_false _ _ c.is_set.result c.if-is_set.false c.is_set.ensures) c.in-None.is c.take.ensures.ok
