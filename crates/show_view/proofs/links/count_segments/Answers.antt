use Rattle.std.proofs.Common.{◌≡◌, length, take, sym, ap, subst, arith}
use Rattle.std.specs.Prelude.{List}
use Rattle.show_view.specs.declared.links.Segments.{Segments}
use Rattle.show_view.specs.Links.{AreCounted}
use Rattle.show_view.proofs.Counting.{written}
use Rattle.show_view.proofs.links.count_segments.Goals as goal

-- the entry's event is counted, and the counts are written back
pub loop-entry-preserved : goal.loop-entry-preserved
loop-entry-preserved c =
    let journal = c.args.journal.now in
    let i = c.loop-entry.entry-index in
    let so_far = subst (λ (all : List Segments). AreCounted c.args.routers (take i journal) all) (sym c.deref_mut.ensures.value) c.loop-entry.invariant in
    let passed = c.pass.ensures (take i journal) so_far in
    let lens : c.loop-entry.all.len ≡ length c.pass.new.all =
    omega (arith, ap length c.deref_mut.ensures.value, c.deref_mut.ensures.len, c.loop-entry.invariant.places, passed.places) in
    written c.args.routers journal i _ c.pass.new.all c.loop-entry.all.items c.loop-entry.all.len c.loop-entry-test.true lens passed
