use Rattle.std.proofs.Common.{◌≡◌, length, arith}
use Rattle.rib_stages.proofs.Tables.{contents_more, length_is}
use Rattle.rib_stages.proofs.sources.Sources.new.Goals as goal

pub loop-n-preserved : goal.loop-n-preserved
loop-n-preserved g c = contents_more c.loop-n.tables.items c.push.new.self.items c.new.result
    c.loop-n._n c.loop-n.invariant c.in_ok-push.ensures.items c.new.ensures.contents

pub invariant_of-result : goal.invariant_of-result
invariant_of-result g c =
    let all : length c.loop-n.tables.items ≡ c.loop-n._n = length_is c.loop-n.tables.items c.loop-n._n c.loop-n.invariant in
    omega (arith, all, c.loop-n-test.false, c.loop-n.auto._n-end)
