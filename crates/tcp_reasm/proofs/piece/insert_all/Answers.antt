use Rattle.std.proofs.Common.{◌∙◌, arith}
use Rattle.tcp_reasm.proofs.Placed.{takes_last, last_free, rest_free, rest_bytes}
use Rattle.tcp_reasm.proofs.piece.insert_all.Goals as goal

pub insert_one-requires-clause-some : goal.insert_one-requires-clause-some
insert_one-requires-clause-some c =
    (takes_last c.loop-piece.pieces.items c.loop-piece.more.items c.pop.new.self.items c.in-Some.piece
    c.in-Some.ensures.items c.loop-piece.invariant.more c.loop-piece.invariant.free).last.some

pub insert_one-requires-clause-within : goal.insert_one-requires-clause-within
insert_one-requires-clause-within c =
    (takes_last c.loop-piece.pieces.items c.loop-piece.more.items c.pop.new.self.items c.in-Some.piece
    c.in-Some.ensures.items c.loop-piece.invariant.more c.loop-piece.invariant.free).last.within

pub insert_one-requires-clause-free : goal.insert_one-requires-clause-free
insert_one-requires-clause-free c =
    last_free c.loop-piece.pieces.items c.loop-piece.more.items c.pop.new.self.items c.in-Some.piece
    (takes_last c.loop-piece.pieces.items c.loop-piece.more.items c.pop.new.self.items c.in-Some.piece
    c.in-Some.ensures.items c.loop-piece.invariant.more c.loop-piece.invariant.free)

pub loop-piece-preserved : goal.loop-piece-preserved
loop-piece-preserved c =
    let takes = takes_last c.loop-piece.pieces.items c.loop-piece.more.items c.pop.new.self.items
    c.in-Some.piece c.in-Some.ensures.items c.loop-piece.invariant.more c.loop-piece.invariant.free in
    record {
      room = omega (arith, c.in-Some.ensures.len, c.insert_one.ensures.len, c.insert_one.ensures.capacity, c.loop-piece.invariant.room);
      runs = c.insert_one.ensures.runs;
      more = takes.last.front;
      free = rest_free c.loop-piece.pieces.items c.loop-piece.more.items c.pop.new.self.items
          c.insert_one.new.pieces.items c.in-Some.piece takes c.insert_one.ensures.bytes;
      bytes = λ k. rest_bytes c.loop-piece.pieces.items c.loop-piece.more.items c.pop.new.self.items
          c.insert_one.new.pieces.items c.in-Some.piece takes c.insert_one.ensures.bytes k ∙ c.loop-piece.invariant.bytes k;
    }
