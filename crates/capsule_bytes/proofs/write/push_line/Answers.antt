use Rattle.std.proofs.Common.{subst}
use Rattle.std.specs.Prelude.{None}
use Rattle.capsule_bytes.specs.Fields.{AreRight}
use Rattle.capsule_bytes.specs.Capsules.{line_fields}
use Rattle.capsule_bytes.proofs.Checked.{fits_below}
use Rattle.capsule_bytes.proofs.write.push_line.Goals as goal

pub push_short_text-requires : goal.push_short_text-requires
push_short_text-requires c =
    let right = subst (λ line. AreRight (line_fields None line)) c.in-Put.is (c.requires None) in
    rw c.deref.ensures (fits_below _ 65536 right.1.0.0)

pub push_short_text-requires-in-Got : goal.push_short_text-requires-in-Got
push_short_text-requires-in-Got c =
    let right = subst (λ line. AreRight (line_fields None line)) c.in-Got.is (c.requires None) in
    rw c.deref-in-Got.ensures (fits_below _ 65536 right.1.0.0)
