use Rattle.std.proofs.Common.{◌≢◌, arith, refl, sym, ◌∙◌}
use Rattle.std.proofs.Math.ListN.{set}
use Rattle.std.proofs.lemmas.List.{length-set}
use Rattle.std.proofs.lemmas.Option.{slice_get-get_or}
use Rattle.ring_net.proofs.EdgeReads.{slice_get-set_other}
use Rattle.ring_net.proofs.FreshCells.{connects_set, known_empty}
use Rattle.ring_net.proofs.build.connect.Goals as goal

pub returns : goal.returns
returns g c =
    let made = c.in_ok-out.ensures in
    let apart : c.args.b ≢ c.args.a = λ e. c.requires.apart (sym e) in
    connects_set c.args.cells.now _ c.args.a c.args.b _ _ _ _ c.in_ok-out.out c.in_ok-out.into c.requires.apart c.requires.from c.requires.to
    (slice_get-get_or c.args.cells.now c.args.a c.index-cells-a.result c.requires.from)
    (sym (slice_get-set_other c.args.cells.now c.args.a c.args.b c.add_out.new.cell apart)
    ∙ slice_get-get_or (set c.args.cells.now c.args.a c.add_out.new.cell) c.args.b c.index-cells-b.result (rw length-set c.requires.to))
    refl c.in_ok-add_out.ensures c.in_ok-add_in.ensures
    (record { pair = made.pair; size = made.producer.2; small = omega (arith, made.consumer.2) })
    (known_empty c.in_ok-out.out c.in_ok-out.into made.producer.0 made.consumer.0 made.consumer.1 (made.producer.2 ∙ sym made.producer.1))
    made.consumer.1
