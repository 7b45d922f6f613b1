use Rattle.std.proofs.Common.{◌+◌, ◌++◌, ◌∷◌, ◌*◌, ◌<◌, [], length, map, drop, min, sym, ap, ◌∙◌, subst}
use Rattle.std.specs.Fork.{slice_chunk}
use Rattle.std.specs.List.{range_with_len}
use Rattle.std.specs.Slice.Iter.{chunks_rest}
use Rattle.std.proofs.lemmas.List.{length_push}
use Rattle.imported_sessions.specs.Heard.{said_by}
use Rattle.imported_sessions.proofs.Pieces.{last_piece, next_piece, piece_said}
use Rattle.imported_sessions.proofs.steps.push_octets.Goals as goal

pub loop-piece-preserved : goal.loop-piece-preserved
loop-piece-preserved c =
    let octets = c.args.octets.now in
    let at = c.loop-piece in
    let n = length at.yielded in
    let so_far = at.invariant in
    let before = chunks_rest at.piece-iterator in
    let piece = c.in-Some.piece.now in
    let steps = c.in-Some.ensures.steps in
    let next = next_piece octets n before piece (chunks_rest c.next.new.self) so_far.rest steps.1.0
    (steps.1.1 ∙ ap (λ size. min size (length before)) so_far.size) steps.1.2 in
    let len = length_push at.yielded c.in-Some.piece in
    record {
      size = steps.0 ∙ so_far.size;
      rest = next.rest_is ∙ ap (λ k. drop (k * 4096) octets) (sym len);
      within = subst (λ k. k * 4096 < length octets + 4096) (sym len) next.within;
      steps = c.in_ok-push.ensures.items
          ∙ piece_said c.args.peer octets n (length (at.yielded ++ c.in-Some.piece ∷ [])) c.in_ok-octets.octets c.args.steps.now.items at.steps.items len
          (c.in_ok-octets.ensures ∙ next.piece_is) so_far.steps;
    }

pub returns : goal.returns
returns c =
    let octets = c.args.octets.now in
    let at = c.loop-piece in
    let so_far = at.invariant in
    let end = last_piece octets (length at.yielded) (chunks_rest at.piece-iterator) so_far.rest so_far.within c.in-None.ensures.steps.1.0 in
    so_far.steps ∙ ap (λ k. c.args.steps.now.items ++ map (said_by c.args.peer) (map (slice_chunk octets 4096) (range_with_len 0 k))) end
