use Rattle.std.specs.Cmp.{nat_cmp_total}
use Rattle.std.specs.Cmp.Lexicographic.{nat_list_cmp_total}
use Rattle.std.proofs.lemmas.Cmp.{on_total, then_total}
use Rattle.graft_steps.specs.Pendings.{kind_index, numbers_of}
use Rattle.graft_steps.proofs.rest.pending_order.Goals as goal

pub returns-clause-total : goal.returns-clause-total
returns-clause-total c = then_total (on_total kind_index nat_cmp_total) (on_total numbers_of nat_list_cmp_total)
