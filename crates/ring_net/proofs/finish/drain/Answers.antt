use Rattle.std.proofs.Common.{◌≡◌, ◌∙◌, ◌++◌, ap, map, refl, sym}
use Rattle.std.proofs.Math.ListN.{set}
use Rattle.std.proofs.lemmas.List.{length-set, map-append}
use Rattle.std.proofs.lemmas.Option.{slice_get-get_or}
use Rattle.ring_net.specs.declared.entry.Stamped.{Stamped}
use Rattle.std.specs.Prelude.{slice_get}
use Rattle.ring_net.specs.Posts.{box_items}
use Rattle.ring_net.specs.Ends.{ring_known}
use Rattle.ring_net.specs.Nets.{in_of, in_end, waits_of}
use Rattle.ring_net.proofs.Drains.{drained, ring_boxes}
use Rattle.ring_net.proofs.finish.drain.Goals as goal

pub returns-in_err-empty_ring-clause-rest : goal.returns-in_err-empty_ring-clause-rest
returns-in_err-empty_ring-clause-rest g c = drained c.args.cells.now c.args.a c.args.b _ _ _ _ c.requires.from c.requires.to
    (slice_get-get_or c.args.cells.now c.args.b c.index-cells-b.result c.requires.to) c.take_ring-ring.ensures.rest
    (slice_get-get_or (set c.args.cells.now c.args.b c.take_ring-ring.new.cell) c.args.a c.index-cells-a.result (rw length-set c.requires.from))
    (rw length-set c.requires.from) c.take_box-outbox.ensures.rest

pub returns-in_err-empty_box-clause-rest : goal.returns-in_err-empty_box-clause-rest
returns-in_err-empty_box-clause-rest g c = drained c.args.cells.now c.args.a c.args.b _ _ _ _ c.requires.from c.requires.to
    (slice_get-get_or c.args.cells.now c.args.b c.index-cells-b.result c.requires.to) c.take_ring-ring.ensures.rest
    (slice_get-get_or (set c.args.cells.now c.args.b c.take_ring-ring.new.cell) c.args.a c.index-cells-a.result (rw length-set c.requires.from))
    (rw length-set c.requires.from) c.take_box-outbox.ensures.rest

pub returns-clause-items : goal.returns-clause-items
returns-clause-items g c =
    let ring : ring_known c.take_ring-ring.result ≡ ring_known (in_end c.args.cells.now c.args.a c.args.b) = ap ring_known
    (c.take_ring-ring.ensures.ring ∙ sym (ap (λ o. in_of o c.args.a) (slice_get-get_or c.args.cells.now c.args.b c.index-cells-b.result c.requires.to))) in
    let boxes : box_items c.take_box-outbox.result ≡ waits_of (slice_get c.args.cells.now c.args.a) c.args.b =
    c.take_box-outbox.ensures.items ∙ sym (ap (λ o. waits_of o c.args.b)
    (slice_get-get_or (set c.args.cells.now c.args.b c.take_ring-ring.new.cell) c.args.a c.index-cells-a.result (rw length-set c.requires.from)))
    ∙ ring_boxes c.args.cells.now c.args.a c.args.b _ _ c.requires.to
    (slice_get-get_or c.args.cells.now c.args.b c.index-cells-b.result c.requires.to) c.take_ring-ring.ensures.rest c.args.a c.args.b in
    c.in_ok-empty_box.ensures
    ∙ ap (λ xs. xs ++ map (λ (x : Stamped _). x.item) (box_items c.take_box-outbox.result))
    (c.in_ok-empty_ring.ensures ∙ ap (λ xs. xs ++ map (λ (x : Stamped _). x.item) (ring_known c.take_ring-ring.result)) c.new-items.ensures)
    ∙ sym (map-append (λ (x : Stamped _). x.item) (ring_known c.take_ring-ring.result) (box_items c.take_box-outbox.result)) ∙ rw (ring, boxes) refl

pub returns-clause-rest : goal.returns-clause-rest
returns-clause-rest g c = drained c.args.cells.now c.args.a c.args.b _ _ _ _ c.requires.from c.requires.to
    (slice_get-get_or c.args.cells.now c.args.b c.index-cells-b.result c.requires.to) c.take_ring-ring.ensures.rest
    (slice_get-get_or (set c.args.cells.now c.args.b c.take_ring-ring.new.cell) c.args.a c.index-cells-a.result (rw length-set c.requires.from))
    (rw length-set c.requires.from) c.take_box-outbox.ensures.rest
