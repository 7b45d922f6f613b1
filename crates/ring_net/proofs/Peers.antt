-- Walks over the peers to which there are ends of rings.
use Rattle.std.proofs.Common.{◌≡◌, ◌≢◌, ◌≤◌, ◌<◌, ◌+◌, ℕ, zero, suc, Bool, true, false, if◌then◌else◌, List, [], ◌∷◌, ◌++◌, length}
use Rattle.std.proofs.Common.{get_or, drop, Option, Some, None, refl, ap, sym, subst, ◌∙◌, arith, add-one, ◌⊎◌, inl, inr}
use Rattle.std.specs.Prelude.{is_some}
use Rattle.std.specs.List.{insert}
use Rattle.std.proofs.Math.ListN.{set}
use Rattle.std.proofs.Math.Seq.{drop-cons}
use Rattle.std.proofs.lemmas.List.{length-set, length-append}
use Rattle.std.proofs.lemmas.Bool.Decides.{eqb_tells}
use Rattle.std.specs.declared.alloc.Global.{Global}
use Rattle.std.specs.declared.collections.VecDeque.{VecDeque}
use Rattle.rtrb.specs.declared.producer.Producer.{Producer}
use Rattle.rtrb.specs.declared.consumer.Consumer.{Consumer}
use Rattle.rtrb.specs.declared.AnyItems.{AnyItems}
use Rattle.ring_net.specs.declared.entry.Stamped.{Stamped}
use Rattle.ring_net.specs.declared.post.Post.{Post}
use Rattle.ring_net.specs.Deeds.{Deed, Makes, ClimbsTo, deeds, senders}
use Rattle.ring_net.specs.Ends.{Flushed, SameIn, SameOut}
use Rattle.ring_net.specs.Peers.{ListsFrom, ListsIndices, Ascends, AddsPeer}
use Rattle.ring_net.specs.Nets.{LookedOut, LookedIn}
use Rattle.ring_net.specs.Takes.{TookOne, TookEach}
use Rattle.ring_net.proofs.Lists.{get_or-append_default}
use Rattle.ring_net.proofs.TakesEach.{emptied_none, TakingEach, taking_each_none, taking_each_more, taking_each_done}

none_of : {T : Type 0} (o : Option T) → is_some o ≡ false → o ≡ None
none_of None h = refl
none_of (Some x) h = absurd cc

below_or_not : (x n : ℕ) → (x < n) ⊎ (n ≤ x)
below_or_not x n = grind arith

-- ---- ascending peers

pub not_falling : (ps : List ℕ) → Ascends ps → (i j : ℕ) → i ≤ j → j < length ps → get_or ps i 0 ≤ get_or ps j 0
not_falling ps h i j l m = elim (below_or_not i j) [
  | inl lt ↦ omega (arith, h i j lt m)
  | inr ge ↦ omega (arith, ap (λ k. get_or ps k 0) (let e : i ≡ j = omega (arith, l, ge) in e))
]

pub stood_there : (ps : List ℕ) (peer i : ℕ) → Ascends ps → i < length ps → get_or ps i 0 ≡ peer → AddsPeer peer ps ps
stood_there ps peer i h within is = record { index = i; below = λ k l. omega (arith, h k i l within, is); stands = inl (within, (is, refl)) }

pub was_put : (ps qs : List ℕ) (peer i : ℕ) → i ≤ length ps → ((k : ℕ) → k < i → get_or ps k 0 < peer)
    → ((k : ℕ) → i ≤ k → k < length ps → peer < get_or ps k 0) → qs ≡ insert ps i peer → AddsPeer peer ps qs
was_put ps qs peer i within below rest e = record { index = i; below = below; stands = inr (within, (λ l. rest i (omega arith) l, e)) }

module _ {T : Type 0} where
  -- nothing more stands at the indices
  pub lists_kept : (xs ys : List (Option T)) (n : ℕ) (ps : List ℕ) → length xs ≤ length ys
      → ((k : ℕ) → n ≤ k → is_some (get_or xs k None) ≡ false → is_some (get_or ys k None) ≡ false)
      → ListsFrom xs n ps → ListsFrom ys n ps
  lists_kept xs ys n [] len f h = λ k l. f k l (h k l)
  lists_kept xs ys n (p ∷ ps) len f h =
      (h.0, (omega (arith, h.1.0, len), (λ k l m. f k l (h.1.1.0 k l m), lists_kept xs ys (p + 1) ps len (λ k l. f k (omega (arith, h.0, l))) h.1.1.1)))

  -- something is put at an index that the list has
  pub lists_put : (xs ys : List (Option T)) (n : ℕ) (ps : List ℕ) (index peer : ℕ) → length xs ≤ length ys
      → ((k : ℕ) → k ≢ peer → is_some (get_or xs k None) ≡ false → is_some (get_or ys k None) ≡ false)
      → ((k : ℕ) → k < index → get_or ps k 0 < peer) → index < length ps → get_or ps index 0 ≡ peer → ListsFrom xs n ps → ListsFrom ys n ps
  lists_put xs ys n [] index peer len f below within is h = absurd (omega arith)
  lists_put xs ys n (p ∷ ps) zero peer len f below within is h = (
    h.0,
    (
      omega (arith, h.1.0, len),
      (λ k l m. f k (omega (arith, m, is)) (h.1.1.0 k l m), lists_kept xs ys (p + 1) ps len (λ k l. f k (omega (arith, l, is))) h.1.1.1),
    ),
  )
  lists_put xs ys n (p ∷ ps) (suc j) peer len f below within is h = let first : p < peer = below 0 (omega arith) in (
    h.0,
    (
      omega (arith, h.1.0, len),
      (
        λ k l m. f k (omega (arith, m, first)) (h.1.1.0 k l m),
        lists_put xs ys (p + 1) ps j peer len f (λ k l. below (suc k) (omega arith)) (omega (arith, within)) is h.1.1.1,
      ),
    ),
  )

  -- something is put at an index that the list has from now on
  pub lists_insert : (xs ys : List (Option T)) (n : ℕ) (ps : List ℕ) (index peer : ℕ) → length xs ≤ length ys → peer < length ys → n ≤ peer
      → ((k : ℕ) → k ≢ peer → is_some (get_or xs k None) ≡ false → is_some (get_or ys k None) ≡ false)
      → ((k : ℕ) → k < index → get_or ps k 0 < peer) → index ≤ length ps → (index < length ps → peer < get_or ps index 0) → ListsFrom xs n ps
      → ListsFrom ys n (insert ps index peer)
  lists_insert xs ys n [] zero peer len in_ys low f below within rest h =
      (low, (in_ys, (λ k l m. f k (omega (arith, m)) (h k l), λ k l. f k (omega (arith, l)) (h k (omega (arith, l, low))))))
  lists_insert xs ys n [] (suc j) peer len in_ys low f below within rest h = absurd (omega arith)
  lists_insert xs ys n (p ∷ ps) zero peer len in_ys low f below within rest h = let over : peer < p = rest (omega arith) in (
    low,
    (
      in_ys,
      (
        λ k l m. f k (omega (arith, m)) (h.1.1.0 k l (omega (arith, m, over))),
        (
          omega (arith, over),
          (
            omega (arith, h.1.0, len),
            (
              λ k l m. f k (omega (arith, l)) (h.1.1.0 k (omega (arith, l, low)) m),
              lists_kept xs ys (p + 1) ps len (λ k l. f k (omega (arith, l, over))) h.1.1.1,
            ),
          ),
        ),
      ),
    ),
  )
  lists_insert xs ys n (p ∷ ps) (suc j) peer len in_ys low f below within rest h = let first : p < peer = below 0 (omega arith) in (
    h.0,
    (
      omega (arith, h.1.0, len),
      (
        λ k l m. f k (omega (arith, m, first)) (h.1.1.0 k l m),
        lists_insert xs ys (p + 1) ps j peer len in_ys (omega (arith, first)) f
            (λ k l. below (suc k) (omega arith)) (omega (arith, within)) (λ l. rest (omega arith)) h.1.1.1,
      ),
    ),
  )

  lists_low : (xs : List (Option T)) (n : ℕ) (ps : List ℕ) (j : ℕ) → j < length ps → ListsFrom xs n ps → n ≤ get_or ps j 0
  lists_low xs n [] j l h = absurd (omega arith)
  lists_low xs n (p ∷ ps) zero l h = h.0
  lists_low xs n (p ∷ ps) (suc j) l h = omega (arith, h.0, lists_low xs (p + 1) ps j (omega arith) h.1.1.1)

  pub lists_ascend : (xs : List (Option T)) (n : ℕ) (ps : List ℕ) → ListsFrom xs n ps → Ascends ps
  lists_ascend xs n [] h i j l m = absurd (omega arith)
  lists_ascend xs n (p ∷ ps) h i zero l m = absurd (omega arith)
  lists_ascend xs n (p ∷ ps) h zero (suc j) l m = omega (arith, lists_low xs (p + 1) ps j (omega arith) h.1.1.1)
  lists_ascend xs n (p ∷ ps) h (suc i) (suc j) l m = lists_ascend xs (p + 1) ps h.1.1.1 i j (omega arith) (omega arith)

  -- something is put at an index, and the list has it
  pub lists_added : (xs ys : List (Option T)) (ps ps' : List ℕ) (peer : ℕ) → length xs ≤ length ys → peer < length ys
      → ((k : ℕ) → k ≢ peer → is_some (get_or xs k None) ≡ false → is_some (get_or ys k None) ≡ false)
      → AddsPeer peer ps ps' → ListsIndices xs ps → ListsIndices ys ps'
  lists_added xs ys ps ps' peer len in_ys f a h = elim a.stands [
    | inl e ↦ subst (λ zs. ListsIndices ys zs) (sym e.1.1) (lists_put xs ys 0 ps a.index peer len f a.below e.0 e.1.0 h)
    | inr e ↦ subst (λ zs. ListsIndices ys zs) (sym e.1.1) (lists_insert xs ys 0 ps a.index peer len in_ys (omega arith) f a.below e.0 e.1.0 h)
  ]

  -- one index is written
  set_other : (xs : List (Option T)) (b : ℕ) (v : Option T) (k : ℕ) → k ≢ b → is_some (get_or xs k None) ≡ false → is_some (get_or (set xs b v) k None) ≡ false
  set_other [] b v k ne h = h
  set_other (x ∷ xs) zero v zero ne h = absurd (ne refl)
  set_other (x ∷ xs) zero v (suc k) ne h = h
  set_other (x ∷ xs) (suc b) v zero ne h = h
  set_other (x ∷ xs) (suc b) v (suc k) ne h = set_other xs b v k (λ e. ne (ap (λ m. suc m) e)) h

  set_less : (xs : List (Option T)) (b : ℕ) (v : Option T) → (is_some (get_or xs b None) ≡ false → is_some v ≡ false) → (k : ℕ)
      → is_some (get_or xs k None) ≡ false → is_some (get_or (set xs b v) k None) ≡ false
  set_less [] b v f k h = h
  set_less (x ∷ xs) zero v f zero h = f h
  set_less (x ∷ xs) zero v f (suc k) h = h
  set_less (x ∷ xs) (suc b) v f zero h = h
  set_less (x ∷ xs) (suc b) v f (suc k) h = set_less xs b v f k h

  pub lists_set : (xs : List (Option T)) (b : ℕ) (v : Option T) (ps : List ℕ) → (is_some (get_or xs b None) ≡ false → is_some v ≡ false)
      → ListsIndices xs ps → ListsIndices (set xs b v) ps
  lists_set xs b v ps f h = lists_kept xs (set xs b v) 0 ps (omega (arith, length-set xs b v)) (λ k l. set_less xs b v f k) h

  pub lists_set_added : (xs : List (Option T)) (b : ℕ) (v : Option T) (ps ps' : List ℕ) → b < length xs → AddsPeer b ps ps' → ListsIndices xs ps
      → ListsIndices (set xs b v) ps'
  lists_set_added xs b v ps ps' b_in a h = lists_added xs (set xs b v) ps ps' b (omega (arith, length-set xs b v))
      (omega (arith, b_in, length-set xs b v)) (λ k ne. set_other xs b v k ne) a h

  -- an empty index more at the end, or none
  pub lists_longer : (xs ys : List (Option T)) (t : Bool) (ps : List ℕ) → ys ≡ (if t then xs ++ None ∷ [] else xs) → ListsIndices xs ps → ListsIndices ys ps
  lists_longer xs ys true ps e h = subst (λ zs. ListsIndices zs ps) (sym e)
      (lists_kept xs (xs ++ None ∷ []) 0 ps (omega (arith, length-append xs (None ∷ []))) (λ k l g. ap is_some (get_or-append_default xs k None) ∙ g) h)
  lists_longer xs ys false ps e h = subst (λ zs. ListsIndices zs ps) (sym e) h

  -- the next index of the list
  pub lists_next : (xs : List (Option T)) (n i : ℕ) (ps : List ℕ) → i < length ps → ListsFrom xs n (drop i ps)
      → ListsFrom xs n (get_or ps i 0 ∷ drop (i + 1) ps)
  lists_next xs n i ps h l = rw add-one (rw (drop-cons ps i 0 h) at l)

  pub lists_over : (xs : List (Option T)) (n i : ℕ) (ps : List ℕ) → length ps ≤ i → ListsFrom xs n (drop i ps) → (k : ℕ) → n ≤ k
      → is_some (get_or xs k None) ≡ false
  lists_over xs n i [] h l k m = nothing i l
    where
      nothing : (j : ℕ) → ListsFrom xs n (drop j []) → is_some (get_or xs k None) ≡ false
      nothing zero l = l k m
      nothing (suc j) l = l k m
  lists_over xs n zero (p ∷ ps) h l k m = absurd (omega arith)
  lists_over xs n (suc i) (p ∷ ps) h l k m = lists_over xs n i ps (omega arith) l k m

module _ {T : Type 0} where
  pub looked_in_none : (a b : Option (Consumer T Global AnyItems)) → LookedIn a b → is_some a ≡ false → is_some b ≡ false
  looked_in_none None None h e = refl
  looked_in_none None (Some q) h e = absurd h
  looked_in_none (Some p) b h e = absurd cc

  pub looked_out_none : (a b : Option (Producer T Global AnyItems)) → LookedOut a b → is_some a ≡ false → is_some b ≡ false
  looked_out_none None None h e = refl
  looked_out_none None (Some q) h e = absurd h
  looked_out_none (Some p) b h e = absurd cc

  same_in_none : (a b : Option (Consumer T Global AnyItems)) → SameIn a b → is_some a ≡ false → is_some b ≡ false
  same_in_none None None h e = refl
  same_in_none None (Some q) h e = absurd h
  same_in_none (Some p) b h e = absurd cc

  same_out_none : (a b : Option (Producer T Global AnyItems)) → SameOut a b → is_some a ≡ false → is_some b ≡ false
  same_out_none None None h e = refl
  same_out_none None (Some q) h e = absurd h
  same_out_none (Some p) b h e = absurd cc

  pub lists_ins : (xs ys : List (Option (Consumer T Global AnyItems))) (ps : List ℕ) → length ys ≡ length xs
      → ((k : ℕ) → SameIn (get_or xs k None) (get_or ys k None)) → ListsIndices xs ps → ListsIndices ys ps
  lists_ins xs ys ps len f h = lists_kept xs ys 0 ps (omega (arith, len)) (λ k l. same_in_none (get_or xs k None) (get_or ys k None) (f k)) h

  pub lists_outs : (xs ys : List (Option (Producer T Global AnyItems))) (ps : List ℕ) → length ys ≡ length xs
      → ((k : ℕ) → SameOut (get_or xs k None) (get_or ys k None)) → ListsIndices xs ps → ListsIndices ys ps
  lists_outs xs ys ps len f h = lists_kept xs ys 0 ps (omega (arith, len)) (λ k l. same_out_none (get_or xs k None) (get_or ys k None) (f k)) h

climbs_more : (low n m : ℕ) (xs : List ℕ) → n ≤ m → ClimbsTo low xs n → ClimbsTo low xs m
climbs_more low n m [] l h = omega (arith, l, h)
climbs_more low n m (x ∷ xs) l h = (h.0, climbs_more x n m xs l h.1)

-- ---- takes

module _ {A P I : Type 0} (part : A → P) (makes : Makes P I) (took : A → ℕ → I → List (Deed I) → A → Type 0) where
  -- nothing is taken where there is no ring
  taking_skip : (n m : ℕ) (a b : A) (old new : Post I) (r r' : List (Option (Consumer (Stamped I) Global AnyItems))) → n ≤ m
      → ((k : ℕ) → n ≤ k → k < m → is_some (get_or r k None) ≡ false)
      → TakingEach part makes took a old r n b new r' → TakingEach part makes took a old r m b new r'
  taking_skip n m a b old new r r' low gap t = record {
    notes = t.notes;
    all = t.all;
    order = climbs_more 0 n m (senders (deeds t.notes)) low t.order;
    emptied = λ x h. elim (below_or_not x n) [
      | inl l ↦ t.emptied x l
      | inr l ↦ rw ((t.rest x l).0, (t.rest x l).1, none_of (get_or r x None) (gap x l h)) emptied_none
    ];
    rest = λ x h. t.rest x (omega (arith, h, low));
  }

  -- the first i senders were taken from
  pub record WalkingEach (peers : List ℕ) (i : ℕ) (old : A) (before : Post I) (rings : List (Option (Consumer (Stamped I) Global AnyItems)))
      (new : A) (after : Post I) (rings' : List (Option (Consumer (Stamped I) Global AnyItems))) : Type 0 where
    pub next : ℕ
    pub within : next ≤ length rings
    pub left : ListsFrom rings next (drop i peers)
    pub taking : TakingEach part makes took old before rings next new after rings'

  pub walking_none : (peers : List ℕ) (a : A) (old : Post I) (rings : List (Option (Consumer (Stamped I) Global AnyItems))) → ListsIndices rings peers
      → WalkingEach peers 0 a old rings a old rings
  walking_none peers a old rings h = record { next = 0; within = omega arith; left = h; taking = taking_each_none part makes took a old rings }

  pub walking_more : (peers : List ℕ) (i : ℕ) (a b c : A) (old mid new : Post I) (r r' r'' : List (Option (Consumer (Stamped I) Global AnyItems)))
      → i < length peers → WalkingEach peers i a old r b mid r'
      → TookOne part makes took (get_or peers i 0) b mid (get_or r' (get_or peers i 0) None) c new (get_or r'' (get_or peers i 0) None)
      → ((x : ℕ) → x ≢ get_or peers i 0 → get_or r'' x None ≡ get_or r' x None)
      → WalkingEach peers (i + 1) a old r c new r''
  walking_more peers i a b c old mid new r r' r'' i_in w one others =
      let p : ℕ = get_or peers i 0 in
      let l = lists_next r w.next i peers i_in w.left in
      record {
        next = p + 1;
        within = omega (arith, l.1.0);
        left = l.1.1.1;
        taking = taking_each_more part makes took p a b c old mid new r r' r'' (taking_skip w.next p a b old mid r r' l.0 l.1.1.0 w.taking) one others;
      }

  pub walking_done : (peers : List ℕ) (i : ℕ) (a b : A) (old new : Post I) (r r' : List (Option (Consumer (Stamped I) Global AnyItems)))
      → length peers ≤ i → WalkingEach peers i a old r b new r' → TookEach part makes took a old r b new r'
  walking_done peers i a b old new r r' over w = taking_each_done part makes took (length r) a b old new r r' refl
      (taking_skip w.next (length r) a b old new r r' w.within (λ k l m. lists_over r w.next i peers over w.left k l) w.taking)

-- ---- flushes

module _ {I : Type 0} where
  flushed_none : (box : Option (VecDeque (Stamped I) Global)) → Flushed None box None box
  flushed_none box = record { same = tt; edge = refl; said = refl; pushes = λ h. omega arith }

  -- the first i receivers are flushed, and the others are as before
  pub record FlushingEach (peers : List ℕ) (i : ℕ) (rings : List (Option (Producer (Stamped I) Global AnyItems)))
      (boxes : List (Option (VecDeque (Stamped I) Global)))
      (rings' : List (Option (Producer (Stamped I) Global AnyItems))) (boxes' : List (Option (VecDeque (Stamped I) Global))) : Type 0 where
    pub next : ℕ
    pub left : ListsFrom rings next (drop i peers)
    pub flushed : (x : ℕ) → x < next → Flushed (get_or rings x None) (get_or boxes x None) (get_or rings' x None) (get_or boxes' x None)
    pub rest : (x : ℕ) → next ≤ x → (get_or rings' x None ≡ get_or rings x None) × (get_or boxes' x None ≡ get_or boxes x None)

  untouched : (r r' : List (Option (Producer (Stamped I) Global AnyItems))) (b b' : List (Option (VecDeque (Stamped I) Global))) (x : ℕ)
      → is_some (get_or r x None) ≡ false
      → (get_or r' x None ≡ get_or r x None) × (get_or b' x None ≡ get_or b x None)
      → Flushed (get_or r x None) (get_or b x None) (get_or r' x None) (get_or b' x None)
  untouched r r' b b' x none same = rw (same.0, same.1, none_of (get_or r x None) none) (flushed_none (get_or b x None))

  pub flushing_more : (peers : List ℕ) (i : ℕ) (r r' r'' : List (Option (Producer (Stamped I) Global AnyItems)))
      (b b' b'' : List (Option (VecDeque (Stamped I) Global)))
      → i < length peers → FlushingEach peers i r b r' b'
      → Flushed (get_or r' (get_or peers i 0) None) (get_or b' (get_or peers i 0) None)
      (get_or r'' (get_or peers i 0) None) (get_or b'' (get_or peers i 0) None)
      → ((x : ℕ) → x ≢ get_or peers i 0 → (get_or r'' x None ≡ get_or r' x None) × (get_or b'' x None ≡ get_or b' x None))
      → FlushingEach peers (i + 1) r b r'' b''
  flushing_more peers i r r' r'' b b' b'' i_in w here others = record {
    next = p + 1;
    left = l.1.1.1;
    flushed = λ x h. elim (eqb_tells x p) [
      | inl s ↦ subst (λ y. Flushed (get_or r y None) (get_or b y None) (get_or r'' y None) (get_or b'' y None)) (sym s.1)
          (subst (λ o. Flushed (get_or r p None) o (get_or r'' p None) (get_or b'' p None)) (w.rest p l.0).1
          (subst (λ o. Flushed o (get_or b' p None) (get_or r'' p None) (get_or b'' p None)) (w.rest p l.0).0 here))
      | inr ne ↦ rw ((others x ne.1).0, (others x ne.1).1) (elim (below_or_not x w.next) [
        | inl low ↦ w.flushed x low
        | inr high ↦ untouched r r' b b' x (l.1.1.0 x high (omega (arith, h, ne.1))) (w.rest x high)
      ])
    ];
    rest = λ x h. let ne : x ≢ p = omega (arith, h) in let low : w.next ≤ x = omega (arith, h, l.0) in
        rw ((others x ne).0, (others x ne).1) (w.rest x low);
  }
    where
      p : ℕ
      p = get_or peers i 0

      l : ListsFrom r w.next (get_or peers i 0 ∷ drop (i + 1) peers)
      l = lists_next r w.next i peers i_in w.left
