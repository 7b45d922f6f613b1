-- What keeps the ends of rings linked.
use Rattle.std.proofs.Common.{◌≡◌, ◌≢◌, ◌<◌, ◌+◌, ℕ, zero, suc, Bool, true, false, ◌==◌, ◌&&◌, ◌||◌, List, [], ◌∷◌, length}
use Rattle.std.proofs.Common.{get_or, take, Option, Some, None, refl, ap, sym, subst, ◌∙◌, arith, ◌⊎◌, inl, inr}
use Rattle.std.specs.Prelude.{slice_get, is_some}
use Rattle.std.specs.List.{list_any}
use Rattle.std.proofs.lemmas.List.{get_or_default}
use Rattle.std.proofs.lemmas.List.Folds.{list_any_more}
use Rattle.std.proofs.lemmas.Bool.Decides.{eqb_tells, nat_tests}
use Rattle.std.proofs.lemmas.Option.{slice_get_within}
use Rattle.std.specs.declared.alloc.Global.{Global}
use Rattle.rtrb.specs.declared.producer.Producer.{Producer}
use Rattle.rtrb.specs.declared.consumer.Consumer.{Consumer}
use Rattle.rtrb.specs.declared.AnyItems.{AnyItems}
use Rattle.rtrb.specs.Ring.{SameProducer, SameConsumer}
use Rattle.ring_net.specs.declared.post.Post.{Post}
use Rattle.ring_net.specs.declared.cell.Cell.{Cell}
use Rattle.ring_net.specs.Posts.{actor_of, has_edge}
use Rattle.ring_net.specs.Ends.{SameOut, SameIn}
use Rattle.ring_net.specs.Nets.{LookedOut, LookedIn, IsOneRing, Linked, LevelAt, out_of, in_of, out_end, in_end, box_of, cell_number}
use Rattle.ring_net.specs.Phases.{is_edge}
use Rattle.ring_net.specs.Reads.{rest_of, Looked, ReadsEdge}
use Rattle.ring_net.proofs.EdgeReads.{looked_then}

-- ---- edges

pub edge_here : (edges : List (ℕ × ℕ)) (i : ℕ) (e : ℕ × ℕ) → i < length edges → get_or edges i e ≡ e → is_edge edges e.0 e.1 ≡ true
edge_here [] i e h is = absurd (omega arith)
edge_here (x ∷ xs) zero e h is = rw is (same e.0 e.1 (is_edge xs e.0 e.1))
  where
    same : (a b : ℕ) (t : Bool) → (((a == a) && (b == b)) || t) ≡ true
    same a b t = grind (arith, nat_tests)
edge_here (x ∷ xs) (suc i) e h is = rw (edge_here xs i e (omega arith) is) (or_true (x.0 == e.0 && x.1 == e.1))
  where
    or_true : (t : Bool) → (t || true) ≡ true
    or_true true = refl
    or_true false = refl

-- what stands at an index of the list is an edge
pub edge_at : (edges : List (ℕ × ℕ)) (i a b : ℕ) → i < length edges → a ≡ (get_or edges i (0, 0)).0 → b ≡ (get_or edges i (0, 0)).1 → is_edge edges a b ≡ true
edge_at edges i a b h is_a is_b = rw (is_a, is_b) (edge_here edges i (get_or edges i (0, 0)) h (get_or_default edges i (get_or edges i (0, 0)) (0, 0) h))

module _ {T : Type 0} where
  some_same_out : (a b : Option (Producer T Global AnyItems)) → SameOut a b → is_some b ≡ is_some a
  some_same_out None None h = refl
  some_same_out None (Some q) h = absurd h
  some_same_out (Some p) None h = absurd h
  some_same_out (Some p) (Some q) h = refl

  some_same_in : (a b : Option (Consumer T Global AnyItems)) → SameIn a b → is_some b ≡ is_some a
  some_same_in None None h = refl
  some_same_in None (Some q) h = absurd h
  some_same_in (Some p) None h = absurd h
  some_same_in (Some p) (Some q) h = refl

  pub out_was : (a b : Option (Producer T Global AnyItems)) (q : Producer T Global AnyItems) → SameOut a b → b ≡ Some q
      → (p : Producer T Global AnyItems) × (a ≡ Some p) × SameProducer p q
  out_was None None q h e = absurd cc
  out_was None (Some x) q h e = absurd h
  out_was (Some p) None q h e = absurd h
  out_was (Some p) (Some x) q h e = (p, refl, subst (λ y. SameOut (Some p) y) e h)

  pub in_was : (a b : Option (Consumer T Global AnyItems)) (q : Consumer T Global AnyItems) → SameIn a b → b ≡ Some q
      → (p : Consumer T Global AnyItems) × (a ≡ Some p) × SameConsumer p q
  in_was None None q h e = absurd cc
  in_was None (Some x) q h e = absurd h
  in_was (Some p) None q h e = absurd h
  in_was (Some p) (Some x) q h e = (p, refl, subst (λ y. SameIn (Some p) y) e h)

  pub same_out_looked : (a b : Option (Producer T Global AnyItems)) → LookedOut a b → SameOut a b
  same_out_looked None None h = tt
  same_out_looked None (Some q) h = absurd h
  same_out_looked (Some p) None h = absurd h
  same_out_looked (Some p) (Some q) h = h.0

  pub same_in_looked : (a b : Option (Consumer T Global AnyItems)) → LookedIn a b → SameIn a b
  same_in_looked None None h = tt
  same_in_looked None (Some q) h = absurd h
  same_in_looked (Some p) None h = absurd h
  same_in_looked (Some p) (Some q) h = h.0

  pub joined_same : (p p' : Producer T Global AnyItems) (c c' : Consumer T Global AnyItems) → SameProducer p p' → SameConsumer c c' → IsOneRing p c
      → IsOneRing p' c'
  joined_same p p' c c' l m h = record {
    pair = (m.0.0 ∙ h.pair.0 ∙ sym l.0.0, m.0.1 ∙ h.pair.1 ∙ sym l.0.1, m.0.2 ∙ h.pair.2 ∙ sym l.0.2, m.0.3 ∙ h.pair.3 ∙ sym l.0.3);
    size = l.1 ∙ h.size;
    small = omega (arith, m.1, h.small);
  }

module _ {A I : Type 0} where
  -- the same ends and outboxes
  pub record Kept (old new : List (Cell A I)) : Type 0 where
    pub outs : (x y : ℕ) → SameOut (out_end old x y) (out_end new x y)
    pub ins : (x y : ℕ) → SameIn (in_end old x y) (in_end new x y)
    pub boxes : (a b : ℕ) → box_of (slice_get new a) b ≡ box_of (slice_get old a) b
    pub numbers : (k : ℕ) → cell_number (slice_get new k) k ≡ cell_number (slice_get old k) k

  pub linked_kept : (old new : List (Cell A I)) (edges : List (ℕ × ℕ)) → Kept old new → Linked old edges → Linked new edges
  linked_kept old new edges k h = record {
    joined = λ a b p c out into.
        let f = out_was (out_end old a b) (out_end new a b) p (k.outs a b) out in
        let t = in_was (in_end old a b) (in_end new a b) c (k.ins a b) into in
        joined_same f.0 p t.0 c f.2 t.2 (h.joined a b f.0 t.0 f.1 t.1);
    outs = λ a b. some_same_out (out_end old a b) (out_end new a b) (k.outs a b) ∙ h.outs a b;
    ins = λ a b. some_same_in (in_end old a b) (in_end new a b) (k.ins a b) ∙ h.ins a b;
    boxes = λ a b. k.boxes a b ∙ h.boxes a b;
    apart = h.apart;
    numbers = λ n. k.numbers n ∙ h.numbers n;
  }

  abbrev box_rest : Option (A × Post I × Bool) → ℕ → Bool
  box_rest None b = false
  box_rest (Some r) b = has_edge r.1 b

  abbrev number_rest : Option (A × Post I × Bool) → ℕ → ℕ
  number_rest None k = k
  number_rest (Some r) k = actor_of r.1

  box_of_rest : (o : Option (Cell A I)) (b : ℕ) → box_of o b ≡ box_rest (rest_of o) b
  box_of_rest None b = refl
  box_of_rest (Some c) b = refl

  number_of_rest : (o : Option (Cell A I)) (k : ℕ) → cell_number o k ≡ number_rest (rest_of o) k
  number_of_rest None k = refl
  number_of_rest (Some c) k = refl

  pub kept_looked : (old new : List (Cell A I)) → Looked old new → Kept old new
  kept_looked old new l = record {
    outs = λ x y. same_out_looked (out_end old x y) (out_end new x y) (l.outs x y);
    ins = λ x y. same_in_looked (in_end old x y) (in_end new x y) (l.ins x y);
    boxes = λ a b. box_of_rest (slice_get new a) b ∙ ap (λ r. box_rest r b) (l.rest a) ∙ sym (box_of_rest (slice_get old a) b);
    numbers = λ k. number_of_rest (slice_get new k) k ∙ ap (λ r. number_rest r k) (l.rest k) ∙ sym (number_of_rest (slice_get old k) k);
  }

  -- ---- edges

  out_within : (o : Option (Cell A I)) (b : ℕ) → is_some (out_of o b) ≡ true → is_some o ≡ true
  out_within None b h = h
  out_within (Some c) b h = refl

  in_within : (o : Option (Cell A I)) (a : ℕ) → is_some (in_of o a) ≡ true → is_some o ≡ true
  in_within None b h = h
  in_within (Some c) b h = refl

  some_within : (cells : List (Cell A I)) (k : ℕ) → is_some (slice_get cells k) ≡ true → k < length cells
  some_within cells k h = go (slice_get cells k) refl h
    where
      go : (o : Option (Cell A I)) → slice_get cells k ≡ o → is_some o ≡ true → k < length cells
      go None e f = absurd cc
      go (Some c) e f = slice_get_within cells k c e

  pub edge_from : (cells : List (Cell A I)) (edges : List (ℕ × ℕ)) (a b : ℕ) → Linked cells edges → is_edge edges a b ≡ true → a < length cells
  edge_from cells edges a b h e = some_within cells a (out_within (slice_get cells a) b (h.outs a b ∙ e))

  pub edge_to : (cells : List (Cell A I)) (edges : List (ℕ × ℕ)) (a b : ℕ) → Linked cells edges → is_edge edges a b ≡ true → b < length cells
  edge_to cells edges a b h e = some_within cells b (in_within (slice_get cells b) a (h.ins a b ∙ e))

  pub edge_apart : (cells : List (Cell A I)) (edges : List (ℕ × ℕ)) (a b : ℕ) → Linked cells edges → is_edge edges a b ≡ true → a ≢ b
  edge_apart cells edges a b h e s = absurd (let t : true ≡ false = sym e ∙ ap (λ x. is_edge edges a x) (sym s) ∙ h.apart a in cc)

  -- ---- the loop of a mark

  pub record Reading (edges : List (ℕ × ℕ)) (i : ℕ) (old new : List (Cell A I)) : Type 0 where
    pub looked : Looked old new
    pub level : (a b : ℕ) → is_edge (take i edges) a b ≡ true → LevelAt new a b

  pub reading_more : (edges : List (ℕ × ℕ)) (i : ℕ) (e : ℕ × ℕ) (old mid new : List (Cell A I)) → i < length edges → get_or edges i e ≡ e
      → Reading edges i old mid → ReadsEdge e.0 e.1 mid new → Reading edges (i + 1) old new
  reading_more edges i e old mid new i_in is h r = record {
    looked = looked_then old mid new h.looked r.looked;
    level = λ a b was p c out into. elim (here a b) [
      | inl s ↦ r.level p c (subst (λ x. out_end new x e.1 ≡ Some p) s.0 (subst (λ y. out_end new a y ≡ Some p) s.1 out))
          (subst (λ x. in_end new x e.1 ≡ Some c) s.0 (subst (λ y. in_end new a y ≡ Some c) s.1 into))
      | inr ne ↦ h.level a b (before a b ne was) p c (sym (r.other_outs a b ne) ∙ out) (sym (r.other_ins a b ne) ∙ into)
    ];
  }
    where
      here : (a b : ℕ) → ((a ≡ e.0) × (b ≡ e.1)) ⊎ (a ≡ e.0 → b ≡ e.1 → ⊥)
      here a b = elim (eqb_tells a e.0) [
        | inl s ↦ elim (eqb_tells b e.1) [ inl r ↦ inl (s.1, r.1) | inr nb ↦ inr (λ _ x. nb.1 x) ]
        | inr na ↦ inr (λ x _. na.1 x)
      ]

      not_it : (a b : ℕ) → (a ≡ e.0 → b ≡ e.1 → ⊥) → (e.0 == a && e.1 == b) ≡ false
      not_it a b ne = elim (eqb_tells e.0 a) [
        | inl s ↦ elim (eqb_tells e.1 b) [ inl r ↦ absurd (ne (sym s.1) (sym r.1)) | inr nb ↦ rw (s.0, nb.0) refl ]
        | inr na ↦ rw (na.0) refl
      ]

      or_false : (t : Bool) → (t || false) ≡ t
      or_false true = refl
      or_false false = refl

      before : (a b : ℕ) → (a ≡ e.0 → b ≡ e.1 → ⊥) → is_edge (take (i + 1) edges) a b ≡ true → is_edge (take i edges) a b ≡ true
      before a b ne was =
          let test : (ℕ × ℕ) → Bool = λ x. x.0 == a && x.1 == b in
          let more : list_any test (take (i + 1) edges) ≡ (list_any test (take i edges) || test (get_or edges i e)) = list_any_more test edges i e i_in in
          sym (or_false (is_edge (take i edges) a b)) ∙ ap (λ t. is_edge (take i edges) a b || t) (sym (ap test is ∙ not_it a b ne)) ∙ sym more ∙ was

  pub reading_next : (edges : List (ℕ × ℕ)) (i a b : ℕ) (old mid new : List (Cell A I)) → i < length edges → a ≡ (get_or edges i (0, 0)).0
      → b ≡ (get_or edges i (0, 0)).1
      → Reading edges i old mid → ReadsEdge a b mid new → Reading edges (i + 1) old new
  reading_next edges i a b old mid new h is_a is_b r e =
      reading_more edges i (get_or edges i (0, 0)) old mid new h (get_or_default edges i (get_or edges i (0, 0)) (0, 0) h) r
      (subst (λ x. ReadsEdge x (get_or edges i (0, 0)).1 mid new) is_a (subst (λ y. ReadsEdge a y mid new) is_b e))

  pub level_all : (cells : List (Cell A I)) (edges : List (ℕ × ℕ)) → Linked cells edges → ((a b : ℕ) → is_edge edges a b ≡ true → LevelAt cells a b)
      → (a b : ℕ) → LevelAt cells a b
  level_all cells edges l h a b p c out into = h a b (sym (l.outs a b) ∙ ap is_some out) p c out into
