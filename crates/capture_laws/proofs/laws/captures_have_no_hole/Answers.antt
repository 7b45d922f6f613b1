use Rattle.std.specs.Prelude.{None}
use Rattle.capture_laws.proofs.Whole.{no_gaps}
use Rattle.capture_laws.proofs.laws.captures_have_no_hole.Goals as goal

pub returns : goal.returns
returns c = λ lab octets packets hole events w accepts is_capture reads run are.
    c.no_gap_leaves_no_hole.ensures None packets hole
    (no_gaps c.what_is_written_is_read.ensures c.what_is_written_reads_back.ensures c.a_file_is_read_in_one_way.ensures.packets lab octets packets events w
    accepts is_capture reads run are)
