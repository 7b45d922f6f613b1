-- Blank cells, and one edge after another.
use Rattle.std.proofs.Common.{◌≡◌, ◌≢◌, ◌<◌, ◌+◌, ℕ, zero, suc, Bool, true, false, ◌==◌, ◌&&◌, ◌||◌, if◌then◌else◌, List, [], ◌∷◌, ◌++◌}
use Rattle.std.proofs.Common.{length, get_or, take, map, Option, Some, None, refl, ap, sym, subst, ◌∙◌, arith, ◌⊎◌, inl, inr}
use Rattle.std.proofs.Math.ListN.{set}
use Rattle.std.specs.Prelude.{slice_get, is_some}
use Rattle.std.proofs.lemmas.List.{length-set, map-append}
use Rattle.std.proofs.lemmas.List.Folds.{list_any_more}
use Rattle.std.proofs.lemmas.Bool.Decides.{eqb_tells, nat_tests}
use Rattle.std.specs.declared.alloc.Global.{Global}
use Rattle.rtrb.specs.declared.producer.Producer.{Producer}
use Rattle.rtrb.specs.declared.consumer.Consumer.{Consumer}
use Rattle.rtrb.specs.declared.AnyItems.{AnyItems}
use Rattle.rtrb.specs.Ring.{sent, received, known_items, known_free, producer_capacity}
use Rattle.ring_net.specs.declared.entry.Stamped.{Stamped}
use Rattle.ring_net.specs.declared.cell.Cell.{Cell}
use Rattle.ring_net.specs.Ends.{ring_known}
use Rattle.ring_net.specs.Nets.{IsOneRing, Known, out_of, in_of, out_end, in_end, box_of, waits_of, journal_of, clock_in, cell_number}
use Rattle.ring_net.specs.Phases.{is_edge}
use Rattle.ring_net.specs.Fresh.{IsBlank, BlankAt, AllBlank, AddsOut, AddsIn, Connects, Fresh}
use Rattle.ring_net.proofs.EdgeReads.{slice_get-set_same, slice_get-set_other}

-- what a list with one more at its end has at an index
pub slice_get-snoc : {X : Type 0} (xs : List X) (x : X) (k : ℕ)
    → ((k ≡ length xs) × (slice_get (xs ++ x ∷ []) k ≡ Some x)) ⊎ (slice_get (xs ++ x ∷ []) k ≡ slice_get xs k)
slice_get-snoc [] x zero = inl (refl, refl)
slice_get-snoc [] x (suc k) = inr refl
slice_get-snoc (y ∷ ys) x zero = inr refl
slice_get-snoc (y ∷ ys) x (suc k) = elim (slice_get-snoc ys x k) [ inl h ↦ inl (omega (arith, h.0), h.1) | inr h ↦ inr h ]

module _ {A I : Type 0} where
  -- one cell more
  pub blank_push : (cells : List (Cell A I)) (c : Cell A I) → AllBlank cells → IsBlank (length cells) c → AllBlank (cells ++ c ∷ [])
  blank_push cells c h b k = elim (slice_get-snoc cells c k) [
    | inl s ↦ rw (s.1) (subst (λ n. IsBlank n c) (sym s.0) b)
    | inr s ↦ rw s (h k)
  ]

  -- ---- one edge more

  pub connects_set : (old new : List (Cell A I)) (a b : ℕ) (f t x y : Cell A I)
      (p : Producer (Stamped I) Global AnyItems) (c : Consumer (Stamped I) Global AnyItems)
      → a ≢ b → a < length old → b < length old
      → slice_get old a ≡ Some f → slice_get old b ≡ Some t → new ≡ set (set old a x) b y → AddsOut b p f x → AddsIn a c t y → IsOneRing p c
      → Known p c → known_items c ≡ [] → Connects a b old new
  connects_set old new a b f t x y p c apart a_in b_in is_f is_t writes out into joined known empty =
      let at_b : slice_get new b ≡ Some y = rw writes (slice_get-set_same (set old a x) b y (rw length-set b_in)) in
      let at_a : slice_get new a ≡ Some x = rw writes (slice_get-set_other (set old a x) b a y apart ∙ slice_get-set_same old a x a_in) in
      let else_at : (n : ℕ) → n ≢ a → n ≢ b → slice_get new n ≡ slice_get old n =
      λ n na nb. rw writes (slice_get-set_other (set old a x) b n y nb ∙ slice_get-set_other old a n x na) in
      let y_rings : y.rings ≡ t.rings = ap (λ (z : Cell A I). z.rings) into.only in
      let y_post : y.post ≡ t.post = ap (λ (z : Cell A I). z.post) into.only in
      let y_actor : y.actor ≡ t.actor = ap (λ (z : Cell A I). z.actor) into.only in
      record {
        out = p;
        into = c;
        joined = joined;
        known = known;
        empty = empty;
        outs = λ n m. cases n (λ n. out_end new n m ≡ (if n == a then (if m == b then Some p else out_end old n m) else out_end old n m))
            (λ s. rw (at_a, is_f, s) (out.rings m))
            (λ s. rw (at_b, is_t, y_rings, s) refl)
            (λ na nb s. rw (else_at n na nb, s) refl);
        ins = λ n m. cases m (λ m. in_end new n m ≡ (if n == a then (if m == b then Some c else in_end old n m) else in_end old n m))
            (λ s. rw (at_a, is_f, out.ins, not_b apart) (both n))
            (λ s. rw (at_b, is_t, yes b) (into.ends n))
            (λ na nb s. rw (else_at m na nb, no m b nb) (both n));
        boxes = λ n m. cases n
            (λ n. box_of (slice_get new n) m ≡ (if n == a then (if m == b then true else box_of (slice_get old n) m) else box_of (slice_get old n) m))
            (λ s. rw (at_a, is_f, s) (out.edges m))
            (λ s. rw (at_b, is_t, y_post, s) refl)
            (λ na nb s. rw (else_at n na nb, s) refl);
        waiting = λ h n m. cases n (λ n. waits_of (slice_get new n) m ≡ [])
            (λ s. rw at_a (out.boxes (λ z. sym (ap (λ o. waits_of o z) is_f) ∙ h a z) m))
            (λ s. rw (at_b, y_post) (sym (ap (λ o. waits_of o m) is_t) ∙ h b m))
            (λ na nb s. rw (else_at n na nb) (h n m));
        journals = λ n. cases n (λ n. journal_of (slice_get new n) ≡ journal_of (slice_get old n))
            (λ s. rw (at_a, is_f) out.entries) (λ s. rw (at_b, is_t, y_post) refl) (λ na nb s. rw (else_at n na nb) refl);
        clocks = λ n. cases n (λ n. clock_in (slice_get new n) ≡ clock_in (slice_get old n))
            (λ s. rw (at_a, is_f) out.clock) (λ s. rw (at_b, is_t, y_post) refl) (λ na nb s. rw (else_at n na nb) refl);
        numbers = λ n. cases n (λ n. cell_number (slice_get new n) n ≡ cell_number (slice_get old n) n)
            (λ s. rw (at_a, is_f) out.number) (λ s. rw (at_b, is_t, y_post) refl) (λ na nb s. rw (else_at n na nb) refl);
        actors = rw writes
            (map_same (set old a x) b y t (slice_get-set_other old a b x (λ e. apart (sym e)) ∙ is_t) y_actor ∙ map_same old a x f is_f out.actor);
      }
    where
      yes : (n : ℕ) → (n == n) ≡ true
      yes n = grind (arith, nat_tests)

      no : (n m : ℕ) → n ≢ m → (n == m) ≡ false
      no n m h = elim (eqb_tells n m) [ inl s ↦ absurd (h s.1) | inr ne ↦ ne.0 ]

      not_b : a ≢ b → (a == b) ≡ false
      not_b h = no a b h

      both : {X : Type 0} {v : X} (n : ℕ) → v ≡ (if n == a then v else v)
      both {v = v} n = go (n == a)
        where
          go : (t : Bool) → v ≡ (if t then v else v)
          go true = refl
          go false = refl

      cases : (n : ℕ) (Q : ℕ → Type 0) → ((a == a) ≡ true → Q a) → ((b == a) ≡ false → Q b) → (n ≢ a → n ≢ b → (n == a) ≡ false → Q n) → Q n
      cases n Q h k l = elim (eqb_tells n a) [
        | inl s ↦ subst (λ m. Q m) (sym s.1) (h (yes a))
        | inr na ↦ elim (eqb_tells n b) [
          | inl r ↦ subst (λ m. Q m) (sym r.1) (k (no b a (λ e. apart (sym e))))
          | inr nb ↦ l na.1 nb.1 na.0
        ]
      ]

      map_same : (xs : List (Cell A I)) (k : ℕ) (v w : Cell A I) → slice_get xs k ≡ Some w → v.actor ≡ w.actor
          → map (λ (z : Cell A I). z.actor) (set xs k v) ≡ map (λ (z : Cell A I). z.actor) xs
      map_same [] k v w h e = refl
      map_same (z ∷ zs) zero v w h e = let s : z ≡ w = cc in ap (λ u. u ∷ map (λ (z : Cell A I). z.actor) zs) (e ∙ ap (λ (u : Cell A I). u.actor) (sym s))
      map_same (z ∷ zs) (suc k) v w h e = ap (λ us. z.actor ∷ us) (map_same zs k v w h e)

  pub fresh_blank : (cells : List (Cell A I)) → AllBlank cells → Fresh cells []
  fresh_blank cells h = record {
    net = record {
      linked = record {
        joined = λ x y p c out into. absurd (let e : None ≡ Some p = sym (no_out x y) ∙ out in cc);
        outs = λ x y. ap is_some (no_out x y);
        ins = λ x y. ap is_some (no_in x y);
        boxes = λ x y. box (slice_get cells x) x y (h x);
        apart = λ x. refl;
        numbers = λ k. number (slice_get cells k) k (h k);
      };
      known = λ x y p c out into. absurd (let e : None ≡ Some p = sym (no_out x y) ∙ out in cc);
    };
    journals = λ k. journal (slice_get cells k) k (h k);
    clocks = λ k. clock (slice_get cells k) k (h k);
    boxes = λ x y. waiting (slice_get cells x) x y (h x);
    rings = λ x y. ap (λ o. ring_known o) (no_in x y);
  }
    where
      out : (o : Option (Cell A I)) (k y : ℕ) → BlankAt k o → out_of o y ≡ None
      out None k y b = refl
      out (Some c) k y b = rw (b.rings) refl

      into : (o : Option (Cell A I)) (k x : ℕ) → BlankAt k o → in_of o x ≡ None
      into None k x b = refl
      into (Some c) k x b = rw (b.ins) refl

      box : (o : Option (Cell A I)) (k y : ℕ) → BlankAt k o → box_of o y ≡ false
      box None k y b = refl
      box (Some c) k y b = b.edges y

      number : (o : Option (Cell A I)) (k : ℕ) → BlankAt k o → cell_number o k ≡ k
      number None k b = refl
      number (Some c) k b = b.number

      journal : (o : Option (Cell A I)) (k : ℕ) → BlankAt k o → journal_of o ≡ []
      journal None k b = refl
      journal (Some c) k b = b.entries

      clock : (o : Option (Cell A I)) (k : ℕ) → BlankAt k o → clock_in o ≡ 0
      clock None k b = refl
      clock (Some c) k b = b.clock

      waiting : (o : Option (Cell A I)) (k y : ℕ) → BlankAt k o → waits_of o y ≡ []
      waiting None k y b = refl
      waiting (Some c) k y b = b.boxes y

      no_out : (x y : ℕ) → out_end cells x y ≡ None
      no_out x y = out (slice_get cells x) x y (h x)

      no_in : (x y : ℕ) → in_end cells x y ≡ None
      no_in x y = into (slice_get cells y) y x (h y)

  pub fresh_more : (cells cells' : List (Cell A I)) (edges : List (ℕ × ℕ)) (i a b : ℕ) → i < length edges → a ≡ (get_or edges i (0, 0)).0
      → b ≡ (get_or edges i (0, 0)).1 → a ≢ b
      → Connects a b cells cells' → Fresh cells (take i edges) → Fresh cells' (take (i + 1) edges)
  fresh_more cells cells' edges i a b i_in is_a is_b apart k f = record {
    net = record {
      linked = record {
        joined = λ x y p c out into. elim (here x y) [
          | inl s ↦ subst (λ q. IsOneRing q c) (same_some k.out p (sym (out_here x y s.0 s.1) ∙ out))
              (subst (λ d. IsOneRing k.out d) (same_some k.into c (sym (in_here x y s.0 s.1) ∙ into)) k.joined)
          | inr ne ↦ f.net.linked.joined x y p c (sym (out_else x y ne) ∙ out) (sym (in_else x y ne) ∙ into)
        ];
        outs = λ x y. elim (here x y) [
          | inl s ↦ ap is_some (out_here x y s.0 s.1) ∙ sym (edge_new x y s.0 s.1)
          | inr ne ↦ ap is_some (out_else x y ne) ∙ f.net.linked.outs x y ∙ sym (edge_else x y ne)
        ];
        ins = λ x y. elim (here x y) [
          | inl s ↦ ap is_some (in_here x y s.0 s.1) ∙ sym (edge_new x y s.0 s.1)
          | inr ne ↦ ap is_some (in_else x y ne) ∙ f.net.linked.ins x y ∙ sym (edge_else x y ne)
        ];
        boxes = λ x y. elim (here x y) [
          | inl s ↦ box_here x y s.0 s.1 ∙ sym (edge_new x y s.0 s.1)
          | inr ne ↦ box_else x y ne ∙ f.net.linked.boxes x y ∙ sym (edge_else x y ne)
        ];
        apart = λ x. edge_else x x (λ s r. apart (sym s ∙ r)) ∙ f.net.linked.apart x;
        numbers = λ n. k.numbers n ∙ f.net.linked.numbers n;
      };
      known = λ x y p c out into. elim (here x y) [
        | inl s ↦ subst (λ q. Known q c) (same_some k.out p (sym (out_here x y s.0 s.1) ∙ out))
            (subst (λ d. Known k.out d) (same_some k.into c (sym (in_here x y s.0 s.1) ∙ into)) k.known)
        | inr ne ↦ f.net.known x y p c (sym (out_else x y ne) ∙ out) (sym (in_else x y ne) ∙ into)
      ];
    };
    journals = λ n. k.journals n ∙ f.journals n;
    clocks = λ n. k.clocks n ∙ f.clocks n;
    boxes = k.waiting f.boxes;
    rings = λ x y. elim (here x y) [
      | inl s ↦ ap (λ o. ring_known o) (in_here x y s.0 s.1) ∙ k.empty
      | inr ne ↦ ap (λ o. ring_known o) (in_else x y ne) ∙ f.rings x y
    ];
  }
    where
      same_some : {X : Type 0} (u v : X) → Some u ≡ Some v → u ≡ v
      same_some u v e = cc

      here : (x y : ℕ) → ((x ≡ a) × (y ≡ b)) ⊎ (x ≡ a → y ≡ b → ⊥)
      here x y = elim (eqb_tells x a) [
        | inl s ↦ elim (eqb_tells y b) [ inl r ↦ inl (s.1, r.1) | inr nb ↦ inr (λ _ e. nb.1 e) ]
        | inr na ↦ inr (λ e _. na.1 e)
      ]

      pick_here : {X : Type 0} (x y : ℕ) (u v : X) → x ≡ a → y ≡ b → (if x == a then (if y == b then u else v) else v) ≡ u
      pick_here x y u v s r = grind (arith, nat_tests)

      pick_else : {X : Type 0} (x y : ℕ) (u v : X) → (x ≡ a → y ≡ b → ⊥) → (if x == a then (if y == b then u else v) else v) ≡ v
      pick_else x y u v ne = elim (eqb_tells x a) [
        | inl s ↦ elim (eqb_tells y b) [ inl r ↦ absurd (ne s.1 r.1) | inr nb ↦ rw (s.0, nb.0) refl ]
        | inr na ↦ rw (na.0) refl
      ]

      out_here : (x y : ℕ) → x ≡ a → y ≡ b → out_end cells' x y ≡ Some k.out
      out_here x y s r = k.outs x y ∙ pick_here x y (Some k.out) (out_end cells x y) s r

      out_else : (x y : ℕ) → (x ≡ a → y ≡ b → ⊥) → out_end cells' x y ≡ out_end cells x y
      out_else x y ne = k.outs x y ∙ pick_else x y (Some k.out) (out_end cells x y) ne

      in_here : (x y : ℕ) → x ≡ a → y ≡ b → in_end cells' x y ≡ Some k.into
      in_here x y s r = k.ins x y ∙ pick_here x y (Some k.into) (in_end cells x y) s r

      in_else : (x y : ℕ) → (x ≡ a → y ≡ b → ⊥) → in_end cells' x y ≡ in_end cells x y
      in_else x y ne = k.ins x y ∙ pick_else x y (Some k.into) (in_end cells x y) ne

      box_here : (x y : ℕ) → x ≡ a → y ≡ b → box_of (slice_get cells' x) y ≡ true
      box_here x y s r = k.boxes x y ∙ pick_here x y true (box_of (slice_get cells x) y) s r

      box_else : (x y : ℕ) → (x ≡ a → y ≡ b → ⊥) → box_of (slice_get cells' x) y ≡ box_of (slice_get cells x) y
      box_else x y ne = k.boxes x y ∙ pick_else x y true (box_of (slice_get cells x) y) ne

      more : (x y : ℕ) → is_edge (take (i + 1) edges) x y ≡ (is_edge (take i edges) x y || (a == x && b == y))
      more x y = list_any_more (λ (e : ℕ × ℕ). e.0 == x && e.1 == y) edges i (0, 0) i_in ∙ rw (← is_a, ← is_b) refl

      edge_new : (x y : ℕ) → x ≡ a → y ≡ b → is_edge (take (i + 1) edges) x y ≡ true
      edge_new x y s r = more x y ∙ test x y (is_edge (take i edges) x y) s r
        where
          test : (x y : ℕ) (t : Bool) → x ≡ a → y ≡ b → (t || (a == x && b == y)) ≡ true
          test x y t s r = grind (arith, nat_tests)

      edge_else : (x y : ℕ) → (x ≡ a → y ≡ b → ⊥) → is_edge (take (i + 1) edges) x y ≡ is_edge (take i edges) x y
      edge_else x y ne = more x y ∙ ap (λ t. is_edge (take i edges) x y || t) (not_it x y ne) ∙ or_false (is_edge (take i edges) x y)
        where
          or_false : (t : Bool) → (t || false) ≡ t
          or_false true = refl
          or_false false = refl

          not_it : (x y : ℕ) → (x ≡ a → y ≡ b → ⊥) → (a == x && b == y) ≡ false
          not_it x y ne = elim (eqb_tells a x) [
            | inl s ↦ elim (eqb_tells b y) [ inl r ↦ absurd (ne (sym s.1) (sym r.1)) | inr nb ↦ rw (s.0, nb.0) refl ]
            | inr na ↦ rw (na.0) refl
          ]

  pub actors_push : (cells cells' : List (Cell A I)) (c : Cell A I) (actors : List A) (a : A) → cells' ≡ cells ++ c ∷ [] → c.actor ≡ a
      → map (λ (z : Cell A I). z.actor) cells ≡ actors → map (λ (z : Cell A I). z.actor) cells' ≡ actors ++ a ∷ []
  actors_push cells cells' c actors a e f h = ap (λ xs. map (λ (z : Cell A I). z.actor) xs) e ∙ map-append (λ (z : Cell A I). z.actor) cells (c ∷ [])
      ∙ ap (λ xs. xs ++ c.actor ∷ []) h ∙ ap (λ z. actors ++ z ∷ []) f

pub known_empty : {T : Type 0} (p : Producer T Global AnyItems) (c : Consumer T Global AnyItems) → sent p ≡ [] → received c ≡ [] → known_items c ≡ []
    → producer_capacity p ≡ known_free p → Known p c
known_empty {T} p c s r k f =
    let ls : length (sent p) ≡ 0 = ap (λ (xs : List T). length xs) s in
    let lr : length (received c) ≡ 0 = ap (λ (xs : List T). length xs) r in
    let lk : length (known_items c) ≡ 0 = ap (λ (xs : List T). length xs) k in
    record { items = omega (arith, ls, lr, lk); slots = omega (arith, ls, lr, f) }
