use Rattle.std.proofs.Common.{subst}
use Rattle.std.proofs.lemmas.Result.{err_from_is_err_and}
use Rattle.attr_codec.specs.Decoding.{Stops}
use Rattle.attr_codec.proofs.ReadLaws.{same_fault, said_together}
use Rattle.attr_codec.proofs.read.read_attrs.Goals as goal

pub returns-in_err-said_at : goal.returns-in_err-said_at
returns-in_err-said_at c =
    let p = err_from_is_err_and c.from_residual.result c.from_residual.ensures.1 in
    rw (p.1, p.2) (subst (Stops c.in_err-said_at.field-0.0) (same_fault c.args.wide c.args.bytes.now) c.in_err-said_at.ensures)

pub returns : goal.returns
returns c =
    let f = c.in_ok-found.ensures in
    rw f (said_together c.args.wide c.args.bytes.now c.in_ok-said_at.field-0 c.in_ok-said_at.ensures)
