use Rattle.std.proofs.Common.{◌≡◌, ap, sym, ◌∙◌, subst, arith}
use Rattle.std.specs.Prelude.{Ok, Err}
use Rattle.std.specs.List.{All}
use Rattle.tcp_packets.specs.declared.read.LeftOut.TheVariants.{Fragment, Other}
use Rattle.captured_streams.specs.Directed.{directed_in}
use Rattle.captured_streams.specs.Readings.{is_left}
use Rattle.captured_streams.proofs.Segments.{one_more, none_more, fragment_more, fragments_stay, IsShort}
use Rattle.captured_streams.proofs.directed.directed_segments.Goals as goal
use Rattle.captured_streams.proofs.directed.directed_segments.Goals.{in-Ok+in-Some+in_ok-push_pieces-in-Ok, in-Err-Fragment, in-Err-Other}

pub loop-packet-preserved : goal.loop-packet-preserved
loop-packet-preserved c =
    let home = c.args.home in
    let packets = c.args.packets.now in
    let i = c.loop-packet.packet-index in
    let p = c.packet-item.result in
    let below = c.loop-packet-test.true in
    let at = c.packet-item.is in
    let old = c.loop-packet.segments in
    let so_far = c.loop-packet.invariant in
    let r = c.read_packet.result in
    let is = c.read_packet.ensures.segment in
    elim c.match-read_packet.branch [
      | in-Ok+in-Some+in_ok-push_pieces-in-Ok w ↦
          let read : r ≡ Ok w.in-Ok.segment = cc in
          let joins = w.segments-is ∙ w.in_ok-push_pieces-in-Ok.ensures.pieces in
          record {
            segments = one_more home packets i p below at old c.match-read_packet.segments r w.in-Some.directed so_far.segments is
                (ap (directed_in home) read ∙ w.in-Some.ensures.segment) joins;
            fragments = w.fragments-is ∙ fragments_stay home packets i p below at c.loop-packet.fragments r is (ap is_left read) so_far.fragments;
            short = subst (All IsShort) (sym w.segments-is) (w.in_ok-push_pieces-in-Ok.ensures.short so_far.short);
            within = omega (arith, w.fragments-is, so_far.within);
          }
      | in-Err-Fragment w ↦
          let read : r ≡ Err Fragment = cc in
          record {
            segments = w.segments-is ∙ none_more home packets i p below at old r so_far.segments is (ap (directed_in home) read);
            fragments = w.fragments-is ∙ fragment_more home packets i p below at c.loop-packet.fragments r is (ap is_left read) so_far.fragments;
            short = subst (All IsShort) (sym w.segments-is) so_far.short;
            within = omega (arith, w.fragments-is, so_far.within);
          }
      | in-Err-Other w ↦
          let read : r ≡ Err Other = cc in
          record {
            segments = w.segments-is ∙ none_more home packets i p below at old r so_far.segments is (ap (directed_in home) read);
            fragments = w.fragments-is ∙ fragments_stay home packets i p below at c.loop-packet.fragments r is (ap is_left read) so_far.fragments;
            short = subst (All IsShort) (sym w.segments-is) so_far.short;
            within = omega (arith, w.fragments-is, so_far.within);
          }
    ]
