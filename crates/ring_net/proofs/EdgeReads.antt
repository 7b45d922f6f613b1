-- A read of one edge, in a list of cells.
use Rattle.std.proofs.Common.{◌≡◌, ◌≢◌, ◌<◌, ◌-◌, ℕ, zero, suc, List, [], ◌∷◌, ◌++◌, length, get_or, Option, Some, None}
use Rattle.std.proofs.Common.{refl, ap, sym, subst, ◌∙◌, arith, append_assoc, length-append, inl, inr}
use Rattle.std.proofs.Math.ListN.{set}
use Rattle.std.specs.Prelude.{slice_get}
use Rattle.std.proofs.lemmas.List.{length-set, set-append_left, set-append_right, append-nil}
use Rattle.std.proofs.lemmas.Bool.Decides.{eqb_tells}
use Rattle.std.proofs.lemmas.Option.{slice_get-get_or}
use mathlib.Core.List.{IsPrefix}
use Rattle.std.specs.declared.alloc.Global.{Global}
use Rattle.rtrb.specs.declared.producer.Producer.{Producer}
use Rattle.rtrb.specs.declared.consumer.Consumer.{Consumer}
use Rattle.rtrb.specs.declared.AnyItems.{AnyItems}
use Rattle.rtrb.specs.Ring.{IsPair, known_items}
use Rattle.ring_net.specs.declared.entry.Stamped.{Stamped}
use Rattle.ring_net.specs.declared.cell.Cell.{Cell}
use Rattle.ring_net.specs.Cells.{ring_to, ring_from}
use Rattle.ring_net.specs.Nets.{LookedOut, LookedIn, out_of, in_of, out_end, in_end}
use Rattle.ring_net.specs.Reads.{ReadsEnds, LooksOut, LooksIn, rest_of, Looked, ReadsEdge}

-- ---- lists

pub slice_get-set_same : {X : Type 0} (xs : List X) (k : ℕ) (v : X) → k < length xs → slice_get (set xs k v) k ≡ Some v
slice_get-set_same [] k v h = absurd (omega arith)
slice_get-set_same (x ∷ xs) zero v h = refl
slice_get-set_same (x ∷ xs) (suc k) v h = slice_get-set_same xs k v (omega arith)

pub slice_get-set_other : {X : Type 0} (xs : List X) (k n : ℕ) (v : X) → n ≢ k → slice_get (set xs k v) n ≡ slice_get xs n
slice_get-set_other [] k n v h = refl
slice_get-set_other (x ∷ xs) zero zero v h = absurd (h refl)
slice_get-set_other (x ∷ xs) zero (suc n) v h = refl
slice_get-set_other (x ∷ xs) (suc k) zero v h = refl
slice_get-set_other (x ∷ xs) (suc k) (suc n) v h = slice_get-set_other xs k n v (λ e. h (ap suc e))

pub slice_get-append_left : {X : Type 0} (xs ys : List X) (k : ℕ) → k < length xs → slice_get (xs ++ ys) k ≡ slice_get xs k
slice_get-append_left [] ys k h = absurd (omega arith)
slice_get-append_left (x ∷ xs) ys zero h = refl
slice_get-append_left (x ∷ xs) ys (suc k) h = slice_get-append_left xs ys k (omega arith)

pub slice_get-append_head : {X : Type 0} (xs : List X) (y : X) (ys : List X) (k : ℕ) → length xs ≡ k → slice_get (xs ++ y ∷ ys) k ≡ Some y
slice_get-append_head [] y ys zero h = refl
slice_get-append_head [] y ys (suc k) h = absurd (omega arith)
slice_get-append_head (x ∷ xs) y ys zero h = absurd (omega arith)
slice_get-append_head (x ∷ xs) y ys (suc k) h = slice_get-append_head xs y ys k (omega arith)

-- ---- looks

module _ {T : Type 0} where
  prefix_self : (xs : List T) → IsPrefix xs xs
  prefix_self xs = ([], append-nil xs)

  pub looked_out_self : (p : Option (Producer T Global AnyItems)) → LookedOut p p
  looked_out_self None = tt
  looked_out_self (Some p) = (((refl, refl, refl, refl), refl), refl, omega arith)

  pub looked_in_self : (c : Option (Consumer T Global AnyItems)) → LookedIn c c
  looked_in_self None = tt
  looked_in_self (Some c) = (((refl, refl, refl, refl), refl), refl, prefix_self (known_items c))

  pub looked_out_then : (a b c : Option (Producer T Global AnyItems)) → LookedOut a b → LookedOut b c → LookedOut a c
  looked_out_then None None None l m = tt
  looked_out_then None None (Some c) l m = absurd m
  looked_out_then None (Some b) c l m = absurd l
  looked_out_then (Some a) None c l m = absurd l
  looked_out_then (Some a) (Some b) None l m = absurd m
  looked_out_then (Some a) (Some b) (Some c) l m = (
    ((m.0.0.0 ∙ l.0.0.0, m.0.0.1 ∙ l.0.0.1, m.0.0.2 ∙ l.0.0.2, m.0.0.3 ∙ l.0.0.3), m.0.1 ∙ l.0.1),
    m.1 ∙ l.1,
    omega (arith, l.2, m.2),
  )

  pub looked_in_then : (a b c : Option (Consumer T Global AnyItems)) → LookedIn a b → LookedIn b c → LookedIn a c
  looked_in_then None None None l m = tt
  looked_in_then None None (Some c) l m = absurd m
  looked_in_then None (Some b) c l m = absurd l
  looked_in_then (Some a) None c l m = absurd l
  looked_in_then (Some a) (Some b) None l m = absurd m
  looked_in_then (Some a) (Some b) (Some c) l m = (
    ((m.0.0.0 ∙ l.0.0.0, m.0.0.1 ∙ l.0.0.1, m.0.0.2 ∙ l.0.0.2, m.0.0.3 ∙ l.0.0.3), m.0.1 ∙ l.0.1),
    m.1 ∙ l.1,
    (l.2.0 ++ m.2.0, sym (append_assoc (known_items a) l.2.0 m.2.0) ∙ ap (λ xs. xs ++ m.2.0) l.2.1 ∙ m.2.1),
  )

module _ {A I : Type 0} where
  pub looked_self : (cells : List (Cell A I)) → Looked cells cells
  looked_self cells = record { outs = λ x y. looked_out_self _; ins = λ x y. looked_in_self _; rest = λ k. refl }

  pub looked_then : (a b c : List (Cell A I)) → Looked a b → Looked b c → Looked a c
  looked_then a b c l m = record {
    outs = λ x y. looked_out_then _ _ _ (l.outs x y) (m.outs x y);
    ins = λ x y. looked_in_then _ _ _ (l.ins x y) (m.ins x y);
    rest = λ k. m.rest k ∙ l.rest k;
  }

  -- the read of an edge, as two writes
  pub reads_set : (old new : List (Cell A I)) (a b : ℕ) (f t x y : Cell A I) → a ≢ b → a < length old → b < length old
      → slice_get old a ≡ Some f → slice_get old b ≡ Some t → new ≡ set (set old a x) b y
      → ReadsEnds (ring_to f b) (ring_from t a) (ring_to x b) (ring_from y a) → LooksOut b f x → LooksIn a t y → ReadsEdge a b old new
  reads_set old new a b f t x y apart a_in b_in is_f is_t writes ends out into =
      let at_b : slice_get new b ≡ Some y = rw writes (slice_get-set_same (set old a x) b y (rw length-set b_in)) in
      let at_a : slice_get new a ≡ Some x = rw writes (slice_get-set_other (set old a x) b a y apart ∙ slice_get-set_same old a x a_in) in
      let else_at : (n : ℕ) → n ≢ a → n ≢ b → slice_get new n ≡ slice_get old n =
      λ n na nb. rw writes (slice_get-set_other (set old a x) b n y nb ∙ slice_get-set_other old a n x na) in
      let x_ins : x.ins ≡ f.ins = ap (λ (c : Cell A I). c.ins) out.only in
      let y_rings : y.rings ≡ t.rings = ap (λ (c : Cell A I). c.rings) into.only in
      let out_same : (n m : ℕ) → (n ≡ a → m ≡ b → ⊥) → out_end new n m ≡ out_end old n m = λ n m ne. elim (eqb_tells n a) [
        | inl s ↦ elim (eqb_tells m b) [
          | inl r ↦ absurd (ne s.1 r.1)
          | inr other ↦ subst (λ k. out_end new k m ≡ out_end old k m) (sym s.1) (rw (at_a, is_f) (out.others m other.1))
        ]
        | inr na ↦ elim (eqb_tells n b) [
          | inl r ↦ subst (λ k. out_end new k m ≡ out_end old k m) (sym r.1) (rw (at_b, is_t, y_rings) refl)
          | inr nb ↦ ap (λ o. out_of o m) (else_at n na.1 nb.1)
        ]
      ] in
      let in_same : (n m : ℕ) → (n ≡ a → m ≡ b → ⊥) → in_end new n m ≡ in_end old n m = λ n m ne. elim (eqb_tells m b) [
        | inl r ↦ elim (eqb_tells n a) [
          | inl s ↦ absurd (ne s.1 r.1)
          | inr other ↦ subst (λ k. in_end new n k ≡ in_end old n k) (sym r.1) (rw (at_b, is_t) (into.others n other.1))
        ]
        | inr mb ↦ elim (eqb_tells m a) [
          | inl s ↦ subst (λ k. in_end new n k ≡ in_end old n k) (sym s.1) (rw (at_a, is_f, x_ins) refl)
          | inr ma ↦ ap (λ o. in_of o n) (else_at m ma.1 mb.1)
        ]
      ] in
      record {
        looked = record {
          outs = λ n m. here_or n m (λ p q. LookedOut (out_end old p q) (out_end new p q))
              (rw (at_a, is_f) ends.outs) (λ ne. rw (out_same n m ne) (looked_out_self _));
          ins = λ n m. here_or n m (λ p q. LookedIn (in_end old p q) (in_end new p q))
              (rw (at_b, is_t) ends.ins) (λ ne. rw (in_same n m ne) (looked_in_self _));
          rest = λ k. elim (eqb_tells k a) [
            | inl s ↦ subst (λ n. rest_of (slice_get new n) ≡ rest_of (slice_get old n)) (sym s.1)
                (rw (at_a, is_f) (ap (λ (c : Cell A I). Some (c.actor, c.post, c.has_failed)) out.only))
            | inr na ↦ elim (eqb_tells k b) [
              | inl r ↦ subst (λ n. rest_of (slice_get new n) ≡ rest_of (slice_get old n)) (sym r.1)
                  (rw (at_b, is_t) (ap (λ (c : Cell A I). Some (c.actor, c.post, c.has_failed)) into.only))
              | inr nb ↦ ap (λ o. rest_of o) (else_at k na.1 nb.1)
            ]
          ];
        };
        level = rw (at_a, at_b) ends.level;
        other_outs = out_same;
        other_ins = in_same;
      }
    where
      here_or : (n m : ℕ) (Q : ℕ → ℕ → Type 0) → Q a b → ((n ≡ a → m ≡ b → ⊥) → Q n m) → Q n m
      here_or n m Q h k = elim (eqb_tells n a) [
        | inl s ↦ elim (eqb_tells m b) [
          | inl r ↦ subst (λ p. Q p m) (sym s.1) (subst (λ q. Q a q) (sym r.1) h)
          | inr nb ↦ k (λ _ e. nb.1 e)
        ]
        | inr na ↦ k (λ e _. na.1 e)
      ]

-- ---- a list that is split in two

pub split_front : {X : Type 0} (old front back : List X) (a : ℕ) (d : X) → old ≡ front ++ back → a < length front → slice_get old a ≡ Some (get_or front a d)
split_front old front back a d parts h = rw parts (slice_get-append_left front back a h ∙ slice_get-get_or front a d h)

pub split_head : {X : Type 0} (old front back : List X) (b : ℕ) (d : X) → old ≡ front ++ back → length front ≡ b → b < length old
    → slice_get old b ≡ Some (get_or back 0 d)
split_head old front [] b d parts len h = absurd (omega (arith, len, h, length-append front [], ap (λ xs. length xs) parts))
split_head old front (y ∷ ys) b d parts len h = rw parts (slice_get-append_head front y ys b len)

writes_up : {X : Type 0} (old front back : List X) (a b : ℕ) (x y : X) → old ≡ front ++ back → length front ≡ b → a < b
    → set front a x ++ set back 0 y ≡ set (set old a x) b y
writes_up old front back a b x y parts len h =
    let zero_at : b - b ≡ 0 = omega arith in
    let a_front : a < length front = omega (arith, len) in
    let set_len : length (set front a x) ≡ b = rw length-set len in
    sym (rw (parts, set-append_left front back a x a_front, set-append_right (set front a x) back b b y set_len (omega arith), zero_at) refl)

writes_down : {X : Type 0} (old front back : List X) (a b : ℕ) (x y : X) → old ≡ front ++ back → length front ≡ a → b < a
    → set front b y ++ set back 0 x ≡ set (set old a x) b y
writes_down old front back a b x y parts len h =
    let zero_at : a - a ≡ 0 = omega arith in
    let b_front : b < length front = omega (arith, len) in
    sym (rw (parts, set-append_right front back a a x len (omega arith), zero_at, set-append_left front (set back 0 x) b y b_front) refl)

module _ {A I : Type 0} where
  pub reads_up : (old front back : List (Cell A I)) (a b : ℕ) (d e x y : Cell A I) → old ≡ front ++ back → length front ≡ b → a < b → b < length old
      → ReadsEnds (ring_to (get_or front a d) b) (ring_from (get_or back 0 e) a) (ring_to x b) (ring_from y a) → LooksOut b (get_or front a d) x
      → LooksIn a (get_or back 0 e) y
      → ReadsEdge a b old (set front a x ++ set back 0 y)
  reads_up old front back a b d e x y parts len up b_in ends out into =
      reads_set old (set front a x ++ set back 0 y) a b (get_or front a d) (get_or back 0 e) x y (omega arith) (omega arith) b_in
      (split_front old front back a d parts (omega (arith, len))) (split_head old front back b e parts len b_in)
      (writes_up old front back a b x y parts len up) ends out into

  pub reads_down : (old front back : List (Cell A I)) (a b : ℕ) (d e x y : Cell A I) → old ≡ front ++ back → length front ≡ a → b < a → a < length old
      → ReadsEnds (ring_to (get_or back 0 d) b) (ring_from (get_or front b e) a) (ring_to x b) (ring_from y a) → LooksOut b (get_or back 0 d) x
      → LooksIn a (get_or front b e) y
      → ReadsEdge a b old (set front b y ++ set back 0 x)
  reads_down old front back a b d e x y parts len down a_in ends out into =
      reads_set old (set front b y ++ set back 0 x) a b (get_or back 0 d) (get_or front b e) x y (omega arith) a_in (omega arith)
      (split_head old front back a d parts len a_in) (split_front old front back b e parts (omega (arith, len)))
      (writes_down old front back a b x y parts len down) ends out into

  pub paired_at : (old : List (Cell A I)) (a b : ℕ) (f t : Cell A I) → slice_get old a ≡ Some f → slice_get old b ≡ Some t
      → ((p : Producer (Stamped I) Global AnyItems) (c : Consumer (Stamped I) Global AnyItems)
      → out_end old a b ≡ Some p → in_end old a b ≡ Some c → IsPair p c)
      → (p : Producer (Stamped I) Global AnyItems) (c : Consumer (Stamped I) Global AnyItems) → ring_to f b ≡ Some p → ring_from t a ≡ Some c → IsPair p c
  paired_at old a b f t is_f is_t h p c out into = h p c (ap (λ o. out_of o b) is_f ∙ out) (ap (λ o. in_of o a) is_t ∙ into)
