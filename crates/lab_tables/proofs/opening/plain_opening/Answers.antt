use Rattle.std.proofs.Common.{◌∙◌}
use Rattle.lab_tables.proofs.Openings.{plain_is}
use Rattle.lab_tables.proofs.opening.plain_opening.Goals as goal

pub returns : goal.returns
returns c =
    c.in_ok-octets-6.ensures
    ∙ rw (
      c.in_ok-octets-5.ensures,
      c.in_ok-octets-4.ensures,
      c.in_ok-octets-3.ensures,
      c.in_ok-octets-2.ensures,
      c.in_ok-octets.ensures,
      c.to_be_bytes.ensures,
      c.to_be_bytes-2.ensures,
      c.to_be_bytes-3.ensures,
      c.as_field.ensures,
    )
    (plain_is c.args.remote_as c.args.hold c.args.remote_id)
