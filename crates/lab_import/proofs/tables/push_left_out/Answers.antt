use Rattle.std.proofs.Common.{append_assoc}
use Rattle.lab_import.specs.Texts.{left_out_text}
use Rattle.lab_import.proofs.tables.push_left_out.Goals as goal

pub returns : goal.returns
unfolding left_out_text
returns c = simp append_assoc (simp (c.in_ok-push_str.ensures.bytes, append_assoc) at c.in_ok-write.ensures.bytes)
