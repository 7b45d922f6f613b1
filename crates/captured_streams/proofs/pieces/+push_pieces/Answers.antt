use Rattle.std.proofs.Common.{arith, ◌≡◌, ◌<◌, length, ◌∙◌, ap, ℕ, List, take, drop, false}
use Rattle.tcp_seq.specs.Numbers.{plus}
use Rattle.tcp_packets.specs.Reading.{Segment}
use Rattle.captured_streams.specs.declared.directed.Directed.{Directed}
use Rattle.captured_streams.specs.Directed.{behind, front}
use Rattle.captured_streams.proofs.Cutting.{push_more, push_short}
use Rattle.captured_streams.proofs.pieces.+push_pieces.Goals as goal

pub returns-clause-pieces : goal.returns-clause-pieces
returns-clause-pieces t c =
    let s = c.args.segment in
    let inside = c.s.inside in
    let one : c.like.result ≡ front s =
    c.like.ensures
    ∙ ap (λ (octets : List ℕ). record s { segment = record s.segment { opens = inside.opens; first = inside.first.0; octets = octets } })
    c.split_at.ensures.front
    ∙ ap (λ (v : Segment). record s { segment = record s.segment { opens = v.opens; first = v.first; octets = take 4096 v.octets } }) c.s.view_is in
    let rest : c.like-rest.result ≡ behind s =
    c.like-rest.ensures
    ∙ ap (λ (octets : List ℕ). record s { segment = record s.segment { opens = false; first = c.plus.result.0; octets = octets } }) c.split_at.ensures.back
    ∙ ap (λ (first : ℕ). record s { segment = record s.segment { opens = false; first = first; octets = drop 4096 inside.octets.now } }) c.plus.ensures
    ∙ ap (λ (v : Segment). record s { segment = record s.segment { opens = false; first = plus v.first 4096; octets = drop 4096 v.octets } })
    c.s.view_is in
    let long : 4096 < length s.segment.octets =
    omega (arith, c.if-segment-le-PIECE.false, ap (λ (d : Directed). length d.segment.octets) c.segment.view_is) in
    push_more c.push_pieces.result c.args.all.now _ c.push_pieces.new.all c.like.result c.like-rest.result s c.args.most
    (omega (arith, c.if-most-eq0.false)) long one rest c.in_ok-push.ensures.ok c.push_pieces.ensures.pieces

pub returns-clause-short : goal.returns-clause-short
returns-clause-short t c =
    let s = c.args.segment in
    let one : c.like.result ≡ front s =
    c.like.ensures
    ∙ ap (λ (octets : List ℕ). record s { segment = record s.segment { opens = c.s.inside.opens; first = c.s.inside.first.0; octets = octets } })
    c.split_at.ensures.front
    ∙ ap (λ (v : Segment). record s { segment = record s.segment { opens = v.opens; first = v.first; octets = take 4096 v.octets } }) c.s.view_is in
    push_short c.push_pieces.result c.args.all.now _ c.push_pieces.new.all c.like.result s one c.requires c.in_ok-push.ensures.ok
    c.push_pieces.ensures.short
