use Rattle.std.proofs.Common.{refl}
use Rattle.lab_words.specs.declared.job.Job.TheVariants.{Help, Version}
use Rattle.lab_top.proofs.Parts.{plain_did}
use Rattle.lab_top.proofs.top.do_job.Goals as goal

pub returns-in-Make-clause-did : goal.returns-in-Make-clause-did
returns-in-Make-clause-did g c = rw c.in-Make.is (c.make_job.ensures _ _)

pub returns-in-Drill-clause-did : goal.returns-in-Drill-clause-did
returns-in-Drill-clause-did g c = rw c.in-Drill.is (c.drill_job.ensures _ _)

pub returns-in-Help-clause-did : goal.returns-in-Help-clause-did
returns-in-Help-clause-did g c =
    rw c.in-Help.is (plain_did Help _ _ c.as_bytes.result.now _ _ _ refl c.as_bytes.ensures.value c.end_with.ensures.lab c.end_with.ensures.writes)

pub returns-in-Version-clause-did : goal.returns-in-Version-clause-did
returns-in-Version-clause-did g c =
    rw c.in-Version.is (plain_did Version _ _ c.as_bytes-in-Version.result.now _ _ _ refl c.as_bytes-in-Version.ensures.value
    c.end_with-in-Version.ensures.lab c.end_with-in-Version.ensures.writes)
