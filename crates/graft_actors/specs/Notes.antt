-- One event, as a post writes it.
use Rattle.std.specs.Prelude.{ℕ, ◌+◌, List, [], ◌∷◌, Option}
use Rattle.ring_net.specs.Deeds.{Deed}
use Rattle.ring_net.specs.Posts.{actor_of, clock_of, Wrote}
use Rattle.ring_net.specs.declared.post.Post.{Post}
use Rattle.graft_model.specs.declared.code.Code.{Code}
use Rattle.graft_model.specs.Codes.{coded}

-- the code of a dropped item's entry, which is that of no event
abbrev pub dropped : Code
dropped = coded 0 0 0 0

module _ {I : Type 0} where
  -- the next event of this code
  abbrev pub deed_of : Post I → Code → Option (ℕ × I) → List (ℕ × I) → Deed I
  deed_of post code taken sent = record {
    entry = record { clock = clock_of post + 1; actor = actor_of post; kind = code.kind; a = code.a; b = code.b; c = code.c };
    taken = taken;
    sent = sent;
  }

  -- it was written, whether it took an item or not
  abbrev pub WroteOne : Post I → Code → List (ℕ × I) → Post I → Type 0
  WroteOne before code sent after = (taken : Option (ℕ × I)) → Wrote before (deed_of before code taken sent ∷ []) after
