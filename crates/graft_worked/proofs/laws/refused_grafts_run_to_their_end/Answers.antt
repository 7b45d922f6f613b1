use Rattle.graft_worked.proofs.Refused.{refusing_is_sound, refused_from_first, returned_from_first}
use Rattle.graft_worked.proofs.laws.refused_grafts_run_to_their_end.Goals as goal

pub returns : goal.returns
returns c = record { setup = refusing_is_sound; refused = refused_from_first; returned = returned_from_first }
