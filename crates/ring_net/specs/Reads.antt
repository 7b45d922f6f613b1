-- What a read of both ends of an edge changes.
use Rattle.std.specs.Prelude.{ℕ, ◌≡◌, ◌≢◌, Bool, Option, Some, None, List, slice_get}
use Rattle.std.specs.declared.alloc.Global.{Global}
use Rattle.rtrb.specs.declared.producer.Producer.{Producer}
use Rattle.rtrb.specs.declared.consumer.Consumer.{Consumer}
use Rattle.rtrb.specs.declared.AnyItems.{AnyItems}
use Rattle.ring_net.specs.declared.entry.Stamped.{Stamped}
use Rattle.ring_net.specs.declared.post.Post.{Post}
use Rattle.ring_net.specs.declared.cell.Cell.{Cell}
use Rattle.ring_net.specs.Cells.{ring_to, ring_from}
use Rattle.ring_net.specs.Nets.{LookedOut, LookedIn, Level, out_end, in_end}

-- both ends are read, and they are level if both are there
pub record ReadsEnds {T : Type 0} (out : Option (Producer T Global AnyItems)) (into : Option (Consumer T Global AnyItems))
    (out' : Option (Producer T Global AnyItems)) (into' : Option (Consumer T Global AnyItems)) : Type 0 where
  pub outs : LookedOut out out'
  pub ins : LookedIn into into'
  pub level : (p : Producer T Global AnyItems) (c : Consumer T Global AnyItems) → out' ≡ Some p → into' ≡ Some c → Level p c

module _ {A I : Type 0} where
  -- the end to b is read, and nothing else changes
  pub record LooksOut (b : ℕ) (old new : Cell A I) : Type 0 where
    pub only : new ≡ record old { rings = new.rings }
    pub others : (x : ℕ) → x ≢ b → ring_to new x ≡ ring_to old x

  pub record LooksIn (a : ℕ) (old new : Cell A I) : Type 0 where
    pub only : new ≡ record old { ins = new.ins }
    pub others : (x : ℕ) → x ≢ a → ring_from new x ≡ ring_from old x

  -- what is neither an end of a ring nor what an end knows
  abbrev pub rest_of : Option (Cell A I) → Option (A × Post I × Bool)
  rest_of None = None
  rest_of (Some c) = Some (c.actor, c.post, c.has_failed)

  -- ends of rings are read, and nothing else changes
  pub record Looked (old new : List (Cell A I)) : Type 0 where
    pub outs : (x y : ℕ) → LookedOut (out_end old x y) (out_end new x y)
    pub ins : (x y : ℕ) → LookedIn (in_end old x y) (in_end new x y)
    pub rest : (k : ℕ) → rest_of (slice_get new k) ≡ rest_of (slice_get old k)

  -- the ends of one edge are read, and all others are unchanged
  pub record ReadsEdge (a b : ℕ) (old new : List (Cell A I)) : Type 0 where
    pub looked : Looked old new
    pub level : (p : Producer (Stamped I) Global AnyItems) (c : Consumer (Stamped I) Global AnyItems) → out_end new a b ≡ Some p
        → in_end new a b ≡ Some c → Level p c
    pub other_outs : (x y : ℕ) → (x ≡ a → y ≡ b → ⊥) → out_end new x y ≡ out_end old x y
    pub other_ins : (x y : ℕ) → (x ≡ a → y ≡ b → ⊥) → in_end new x y ≡ in_end old x y
