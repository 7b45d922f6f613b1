use Rattle.capture_laws.proofs.Whole.{of_remotes}
use Rattle.capture_laws.proofs.laws.captures_say_what_remotes_say.Goals as goal

pub returns : goal.returns
returns c = λ lab octets packets s events w accepts is_capture reads reading run are.
    of_remotes c.what_is_written_is_read.ensures c.what_is_written_reads_back.ensures c.a_file_is_read_in_one_way.ensures.packets
    c.slices_are_joined.ensures lab octets packets s events w accepts is_capture reads reading run are
