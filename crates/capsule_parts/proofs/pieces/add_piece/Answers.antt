use Rattle.std.proofs.Common.{◌≡◌, ◌∷◌, ◌++◌, [], rules}
use Rattle.capsule_parts.proofs.Joined.{added_behind, added_to_last, with_bytes}
use Rattle.capsule_parts.proofs.pieces.add_piece.Goals as goal

pub returns-then-follows-clause-bytes : goal.returns-then-follows-clause-bytes
returns-then-follows-clause-bytes c =
    let is : c.push-then-follows.new.self.items ≡ c.pop.new.self.items ++ with_bytes c.in-Some.last c.args.piece.now.bytes ∷ [] = search rules in
    (added_to_last c.pop.new.self.items c.in-Some.last c.args.piece.now (search rules) c.args.pieces.now.items c.push-then-follows.new.self.items
    (search rules) is).0

pub returns-then-follows-clause-apart : goal.returns-then-follows-clause-apart
returns-then-follows-clause-apart c =
    let is : c.push-then-follows.new.self.items ≡ c.pop.new.self.items ++ with_bytes c.in-Some.last c.args.piece.now.bytes ∷ [] = search rules in
    (added_to_last c.pop.new.self.items c.in-Some.last c.args.piece.now (search rules) c.args.pieces.now.items c.push-then-follows.new.self.items
    (search rules) is).1

pub returns-clause-bytes : goal.returns-clause-bytes
returns-clause-bytes c =
    (added_behind c.pop.new.self.items c.in-Some.last c.args.piece.now (search rules) c.args.pieces.now.items c.push-3.new.self.items
    (search rules) (search rules)).0

pub returns-clause-apart : goal.returns-clause-apart
returns-clause-apart c =
    (added_behind c.pop.new.self.items c.in-Some.last c.args.piece.now (search rules) c.args.pieces.now.items c.push-3.new.self.items
    (search rules) (search rules)).1
