-- What is on its way is taken edge by edge.
use Rattle.std.proofs.Common.{◌≡◌, ◌≢◌, ◌≤◌, ◌<◌, ◌+◌, ℕ, zero, suc, List, [], ◌∷◌, ◌++◌, length, get_or}
use Rattle.std.proofs.Common.{map, take, Some, refl, ap, sym, subst, ◌∙◌, arith, inl, inr}
use Rattle.std.proofs.Math.ListN.{set}
use Rattle.std.specs.Prelude.{slice_get}
use Rattle.std.proofs.lemmas.List.{take_more, map-append}
use Rattle.std.proofs.lemmas.Bool.Decides.{eqb_tells}
use Rattle.ring_net.specs.declared.entry.Stamped.{Stamped}
use Rattle.ring_net.specs.declared.parts.Left.{Left}
use Rattle.ring_net.specs.declared.cell.Cell.{Cell}
use Rattle.ring_net.specs.Posts.{entries_in}
use Rattle.ring_net.specs.Ends.{ring_known}
use Rattle.ring_net.specs.Nets.{in_of, in_end, waits_of, view_of}
use Rattle.ring_net.specs.Fresh.{EdgesOnce}
use Rattle.ring_net.specs.Left.{items_left, actors_of, journals_of, WithoutRing, WithoutBox, DrainsChannel}
use Rattle.ring_net.proofs.EdgeReads.{slice_get-set_same, slice_get-set_other}

by_index : (k n : ℕ) (Q : ℕ → Type 0) → (n ≡ k → Q k) → (n ≢ k → Q n) → Q n
by_index k n Q h f = elim (eqb_tells n k) [ inl s ↦ subst (λ m. Q m) (sym s.1) (h s.1) | inr ne ↦ f ne.1 ]

module _ {A I : Type 0} where
  -- a field that one written cell keeps
  map_kept : {X : Type 0} (f : Cell A I → X) (cells : List (Cell A I)) (k : ℕ) (v w : Cell A I) → slice_get cells k ≡ Some w → f v ≡ f w
      → map f (set cells k v) ≡ map f cells
  map_kept f [] k v w h e = refl
  map_kept f (z ∷ zs) zero v w h e = let s : z ≡ w = cc in ap (λ u. u ∷ map f zs) (e ∙ ap f (sym s))
  map_kept f (z ∷ zs) (suc k) v w h e = ap (λ us. f z ∷ us) (map_kept f zs k v w h e)

  -- one ring is taken out
  without_ring : (cells : List (Cell A I)) (a b : ℕ) (c d : Cell A I) → b < length cells → slice_get cells b ≡ Some c → WithoutRing a c d
      → DrainsChannel a b cells (set cells b d)
  without_ring cells a b c d b_in is w = record {
    rings = λ x y ne. by_index b y (λ y. (x ≡ a → y ≡ b → ⊥) → ring_known (in_end (set cells b d) x y) ≡ ring_known (in_end cells x y))
        (λ s apart. rw (here, is) (ap ring_known (w.others x (λ e. apart e refl))))
        (λ other apart. ap (λ o. ring_known (in_of o x)) (slice_get-set_other cells b y d other)) ne;
    boxes = λ x y ne. boxes x y;
    actors = map_kept (λ (z : Cell A I). z.actor) cells b d c is (ap (λ (z : Cell A I). z.actor) w.only);
    journals = map_kept (λ (z : Cell A I). entries_in z.post) cells b d c is (ap (λ (z : Cell A I). entries_in z.post) w.only);
  }
    where
      here : slice_get (set cells b d) b ≡ Some d
      here = slice_get-set_same cells b d b_in

      boxes : (x y : ℕ) → waits_of (slice_get (set cells b d) x) y ≡ waits_of (slice_get cells x) y
      boxes x y = by_index b x (λ x. waits_of (slice_get (set cells b d) x) y ≡ waits_of (slice_get cells x) y)
          (λ s. rw (here, is, ap (λ (z : Cell A I). z.post) w.only) refl)
          (λ ne. ap (λ o. waits_of o y) (slice_get-set_other cells b x d ne))

  pub ring_boxes : (cells : List (Cell A I)) (a b : ℕ) (c d : Cell A I) → b < length cells → slice_get cells b ≡ Some c → WithoutRing a c d
      → (x y : ℕ) → waits_of (slice_get (set cells b d) x) y ≡ waits_of (slice_get cells x) y
  ring_boxes cells a b c d b_in is w x y = by_index b x (λ x. waits_of (slice_get (set cells b d) x) y ≡ waits_of (slice_get cells x) y)
      (λ s. rw (slice_get-set_same cells b d b_in, is, ap (λ (z : Cell A I). z.post) w.only) refl)
      (λ ne. ap (λ o. waits_of o y) (slice_get-set_other cells b x d ne))

  -- one outbox is taken out
  without_box : (cells : List (Cell A I)) (a b : ℕ) (c d : Cell A I) → a < length cells → slice_get cells a ≡ Some c → WithoutBox b c d
      → DrainsChannel a b cells (set cells a d)
  without_box cells a b c d a_in is w = record {
    rings = λ x y ne. by_index a y (λ y. ring_known (in_end (set cells a d) x y) ≡ ring_known (in_end cells x y))
        (λ s. rw (here, is, ap (λ (z : Cell A I). z.ins) w.only) refl)
        (λ other. ap (λ o. ring_known (in_of o x)) (slice_get-set_other cells a y d other));
    boxes = λ x y ne. by_index a x (λ x. (x ≡ a → y ≡ b → ⊥) → waits_of (slice_get (set cells a d) x) y ≡ waits_of (slice_get cells x) y)
        (λ s apart. rw (here, is) (w.others y (λ e. apart refl e)))
        (λ other apart. ap (λ o. waits_of o y) (slice_get-set_other cells a x d other)) ne;
    actors = map_kept (λ (z : Cell A I). z.actor) cells a d c is (ap (λ (z : Cell A I). z.actor) w.only);
    journals = map_kept (λ (z : Cell A I). entries_in z.post) cells a d c is (ap (λ (z : Cell A I). entries_in z.post) w.only);
  }
    where
      here : slice_get (set cells a d) a ≡ Some d
      here = slice_get-set_same cells a d a_in

  drains_then : (a b : ℕ) (x y z : List (Cell A I)) → DrainsChannel a b x y → DrainsChannel a b y z → DrainsChannel a b x z
  drains_then a b x y z h k = record {
    rings = λ m n ne. k.rings m n ne ∙ h.rings m n ne;
    boxes = λ m n ne. k.boxes m n ne ∙ h.boxes m n ne;
    actors = k.actors ∙ h.actors;
    journals = k.journals ∙ h.journals;
  }

  pub drained : (cells : List (Cell A I)) (a b : ℕ) (c d e f : Cell A I) → a < length cells → b < length cells → slice_get cells b ≡ Some c
      → WithoutRing a c d → slice_get (set cells b d) a ≡ Some e → a < length (set cells b d) → WithoutBox b e f
      → DrainsChannel a b cells (set (set cells b d) a f)
  drained cells a b c d e f a_in b_in is w is' a_in' w' = drains_then a b cells (set cells b d)
      (set (set cells b d) a f) (without_ring cells a b c d b_in is w) (without_box (set cells b d) a b e f a_in' is' w')

  -- ---- edge by edge

  -- the edges below i are drained, and the others are as before
  pub record Draining (edges : List (ℕ × ℕ)) (i : ℕ) (old new : List (Cell A I)) (taken : List (Left I)) : Type 0 where
    pub left : taken ≡ items_left (view_of old edges) (take i edges)
    pub rings : (j : ℕ) → i ≤ j → j < length edges
        → ring_known (in_end new (get_or edges j (0, 0)).0 (get_or edges j (0, 0)).1)
        ≡ ring_known (in_end old (get_or edges j (0, 0)).0 (get_or edges j (0, 0)).1)
    pub boxes : (j : ℕ) → i ≤ j → j < length edges
        → waits_of (slice_get new (get_or edges j (0, 0)).0) (get_or edges j (0, 0)).1
        ≡ waits_of (slice_get old (get_or edges j (0, 0)).0) (get_or edges j (0, 0)).1
    pub actors : actors_of new ≡ actors_of old
    pub journals : journals_of new ≡ journals_of old

  pub draining_none : (edges : List (ℕ × ℕ)) (cells : List (Cell A I)) → Draining edges 0 cells cells []
  draining_none edges cells = record { left = refl; rings = λ j h k. refl; boxes = λ j h k. refl; actors = refl; journals = refl }

  pub draining_more : (edges : List (ℕ × ℕ)) (i a b : ℕ) (old mid new : List (Cell A I)) (left left' : List (Left I)) (items : List I)
      → EdgesOnce edges → i < length edges → a ≡ (get_or edges i (0, 0)).0 → b ≡ (get_or edges i (0, 0)).1
      → Draining edges i old mid left → items ≡ map (λ (x : Stamped I). x.item) (ring_known (in_end mid a b) ++ waits_of (slice_get mid a) b)
      → DrainsChannel a b mid new → left' ≡ left ++ record { from = a; to = b; items = items } ∷ []
      → Draining edges (i + 1) old new left'
  draining_more edges i a b old mid new left left' items once i_in is_a is_b h is d more = record {
    left = more ∙ ap (λ xs. xs ++ record { from = a; to = b; items = items } ∷ []) h.left
        ∙ ap (λ x. items_left (view_of old edges) (take i edges) ++ x ∷ []) here
        ∙ sym (ap (λ xs. items_left (view_of old edges) xs) (take_more edges i (0, 0) i_in) ∙ map-append step (take i edges) (get_or edges i (0, 0) ∷ []));
    rings = λ j low j_in. d.rings (get_or edges j (0, 0)).0 (get_or edges j (0, 0)).1 (apart j low j_in) ∙ h.rings j (omega arith) j_in;
    boxes = λ j low j_in. d.boxes (get_or edges j (0, 0)).0 (get_or edges j (0, 0)).1 (apart j low j_in) ∙ h.boxes j (omega arith) j_in;
    actors = d.actors ∙ h.actors;
    journals = d.journals ∙ h.journals;
  }
    where
      step : (ℕ × ℕ) → Left I
      step e = record { from = e.0; to = e.1; items = map (λ (x : Stamped I). x.item) ((view_of old edges).channel e.0 e.1) }

      pair : (u v : ℕ × ℕ) → u.0 ≡ v.0 → u.1 ≡ v.1 → u ≡ v
      pair u v p q = grind arith

      apart : (j : ℕ) → i + 1 ≤ j → j < length edges → (get_or edges j (0, 0)).0 ≡ a → (get_or edges j (0, 0)).1 ≡ b → ⊥
      apart j low j_in p q =
          absurd (let s : j ≡ i = once j i j_in i_in (pair (get_or edges j (0, 0)) (get_or edges i (0, 0)) (p ∙ is_a) (q ∙ is_b)) in omega arith)

      at_edge : (u v : ℕ) → u ≡ (get_or edges i (0, 0)).0 → v ≡ (get_or edges i (0, 0)).1
          → record { from = u; to = v; items = map (λ (x : Stamped I). x.item) (ring_known (in_end mid u v) ++ waits_of (slice_get mid u) v) }
          ≡ step (get_or edges i (0, 0))
      at_edge u v p q = rw (p, q, h.rings i (omega arith) i_in, h.boxes i (omega arith) i_in) refl

      here : record { from = a; to = b; items = items } ≡ step (get_or edges i (0, 0))
      here = ap (λ xs. record { from = a; to = b; items = xs }) is ∙ at_edge a b is_a is_b
