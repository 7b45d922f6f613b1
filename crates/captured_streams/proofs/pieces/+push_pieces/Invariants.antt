use Rattle.captured_streams.proofs.pieces.+push_pieces.Given as goal

abbrev pub decreases-push_pieces : goal.decreases-push_pieces
decreases-push_pieces l = l.most
