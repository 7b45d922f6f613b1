use Rattle.std.proofs.Common.{◌≡◌, ◌++◌, ◌∙◌, drop, length, subst, take}
use Rattle.ring_net.specs.Nets.{view_of}
use Rattle.ring_net.specs.Phases.{Levelled}
use Rattle.ring_net.proofs.Lists.{written_back}
use Rattle.ring_net.proofs.net.Net.level.Goals as goal

pub returns-clause-level : goal.returns-clause-level
returns-clause-level g c =
    let old = c.args.self.now in
    let new = c.level_all.new.cells in
    let back : take old.cells.len (new ++ drop (length new) old.cells.items) ≡ new =
    written_back old.cells.len new old.cells.items old.cells.ok.0 (c.level_all.auto.cells ∙ c.as_mut_slice.ensures.len ∙ old.cells.ok.0) in
    rw back (subst (λ cells. Levelled (view_of cells old.edges.items) (view_of new old.edges.items)) c.as_mut_slice.ensures.value
    (c.level_all.ensures.level old.edges.items))
