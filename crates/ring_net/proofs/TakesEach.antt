-- Takes of one sender after those of another.
use Rattle.std.proofs.Common.{◌≡◌, ◌≢◌, ◌≤◌, ◌<◌, ◌+◌, ℕ, List, [], ◌∷◌, ◌++◌, length, get_or, Option, Some}
use Rattle.std.proofs.Common.{None, refl, sym, subst, ◌∙◌, arith, append_assoc, ◌⊎◌, inl, inr}
use Rattle.std.specs.List.{AllByRecursion}
use Rattle.std.proofs.lemmas.Bool.Decides.{eqb_tells, nat_tests}
use Rattle.std.proofs.lemmas.List.{append-nil, get_or_past}
use Rattle.std.proofs.lemmas.List.Concat.{flat_map-append}
use Rattle.std.specs.declared.alloc.Global.{Global}
use Rattle.rtrb.specs.declared.consumer.Consumer.{Consumer}
use Rattle.rtrb.specs.declared.AnyItems.{AnyItems}
use Rattle.ring_net.specs.declared.entry.Stamped.{Stamped}
use Rattle.ring_net.specs.declared.post.Post.{Post}
use Rattle.ring_net.specs.Deeds.{Deed, Noted, Makes, Replay, ClimbsTo, deeds, gets, from_option, taken_from, senders, item_sender}
use Rattle.ring_net.specs.Posts.{actor_of, SameEdges}
use Rattle.ring_net.specs.Turns.{Tooks, TookAll, stays, takes}
use Rattle.ring_net.specs.Ends.{Emptied, SameIn}
use Rattle.ring_net.specs.Takes.{TookOne, TookEach}
use Rattle.ring_net.proofs.Replays.{replay-append, climbs-append, climbs_one}
use Rattle.ring_net.proofs.Takes.{deeds_both, posted_then, took_none}

pub front : (Q : ℕ → Type 0) (xs ys : List ℕ) → AllByRecursion Q (xs ++ ys) → AllByRecursion Q xs × AllByRecursion Q ys
front Q [] ys h = (tt, h)
front Q (x ∷ xs) ys h = let r = front Q xs ys h.1 in ((h.0, r.0), r.1)

module _ {T : Type 0} where
  pub same_in_self : (c : Option (Consumer T Global AnyItems)) → SameIn c c
  same_in_self None = tt
  same_in_self (Some c) = ((refl, refl, refl, refl), refl)

  pub same_in_then : (a b c : Option (Consumer T Global AnyItems)) → SameIn a b → SameIn b c → SameIn a c
  same_in_then None None None h k = tt
  same_in_then None None (Some c) h k = absurd k
  same_in_then None (Some b) c h k = absurd h
  same_in_then (Some a) None c h k = absurd h
  same_in_then (Some a) (Some b) None h k = absurd k
  same_in_then (Some a) (Some b) (Some c) h k = ((k.0.0 ∙ h.0.0, k.0.1 ∙ h.0.1, k.0.2 ∙ h.0.2, k.0.3 ∙ h.0.3), k.1 ∙ h.1)

  pub same_in_more : (n : ℕ) (r r' r'' : List (Option (Consumer T Global AnyItems))) → ((a : ℕ) → SameIn (get_or r a None) (get_or r' a None))
      → SameIn (get_or r' n None) (get_or r'' n None)
      → ((a : ℕ) → a ≢ n → get_or r'' a None ≡ get_or r' a None) → (a : ℕ) → SameIn (get_or r a None) (get_or r'' a None)
  same_in_more n r r' r'' h k others a = elim (eqb_tells a n) [
    | inl s ↦ subst (λ x. SameIn (get_or r x None) (get_or r'' x None)) (sym s.1)
        (same_in_then (get_or r n None) (get_or r' n None) (get_or r'' n None) (h n) k)
    | inr ne ↦ rw (others a ne.1) (h a)
  ]

module _ {I : Type 0} where
  pub same_edges_self : (p : Post I) → SameEdges p p
  same_edges_self p = record { actor = refl; edges = λ b. refl }

  pub same_edges_then : (p q r : Post I) → SameEdges p q → SameEdges q r → SameEdges p r
  same_edges_then p q r h k = record { actor = k.actor ∙ h.actor; edges = λ b. k.edges b ∙ h.edges b }

  one_other : (a s from : ℕ) (t : Option (ℕ × I)) → a ≢ from → AllByRecursion (λ k. k ≡ from) (item_sender t) → from_option a s t ≡ []
  one_other a s from None ne h = refl
  one_other a s from (Some t) ne h = apart t.0 t.1 h.0
    where
      apart : (k : ℕ) (x : I) → k ≡ from → from_option a s (Some (k, x)) ≡ []
      apart k x e = grind (arith, nat_tests)

  -- takes of one sender take nothing of another
  pub taken_other : (a from : ℕ) (ns : List (Noted I)) → a ≢ from → AllByRecursion (λ k. k ≡ from) (senders (deeds ns)) → taken_from a ns ≡ []
  taken_other a from [] ne h = refl
  taken_other a from (n ∷ ns) ne h =
      let r = front (λ k. k ≡ from) (item_sender n.deed.taken) (senders (deeds ns)) h in
      rw (one_other a n.stamp from n.deed.taken ne r.0, taken_other a from ns ne r.1) refl

  pub senders_both : (ns ms : List (Noted I)) → senders (deeds (ns ++ ms)) ≡ senders (deeds ns) ++ senders (deeds ms)
  senders_both ns ms = rw (deeds_both ns ms) (flat_map-append (λ (d : Deed I). item_sender d.taken) (deeds ns) (deeds ms))

  pub emptied_none : Emptied {I = I} None [] None
  emptied_none = record { same = tt; received = refl; known = λ _. ([], refl); most = omega arith }

module _ {A I : Type 0} (took : A → ℕ → I → List (Deed I) → A → Type 0) where
  pub tooks_then : (a b c : A) (ds es : List (Deed I)) → Tooks took a ds b → Tooks took b es c → Tooks took a (ds ++ es) c
  tooks_then a b c ds es h (stays _) = subst (λ xs. Tooks took a xs b) (sym (append-nil ds)) h
  tooks_then a b c ds es h (takes _ m _ fs gs from x k t) =
      subst (λ xs. Tooks took a xs c) (append_assoc ds fs gs) (takes a m c (ds ++ fs) gs from x (tooks_then a b m ds fs h k) t)

module _ {A P I : Type 0} (part : A → P) (makes : Makes P I) (took : A → ℕ → I → List (Deed I) → A → Type 0) where
  pub took_then : (a b c : A) (old mid new : Post I) (ns ms : List (Noted I)) → TookAll part makes took a old ns b mid
      → TookAll part makes took b mid ms c new → TookAll part makes took a old (ns ++ ms) c new
  took_then a b c old mid new ns ms h k = let e = deeds_both ns ms in record {
    posted = posted_then old mid new ns ms h.posted k.posted;
    replay = rw e (replay-append makes (actor_of old) (part a) (part b) (part c) (deeds ns) (deeds ms) h.replay
        (subst (λ n. Replay makes n (part b) (deeds ms) (part c)) h.posted.actor k.replay));
    tooks = rw e (tooks_then took a b c (deeds ns) (deeds ms) h.tooks k.tooks);
  }

  pub took_one_none : (from : ℕ) (a : A) (old : Post I) (ring : Option (Consumer (Stamped I) Global AnyItems)) → ring ≡ None
      → TookOne part makes took from a old ring a old ring
  took_one_none from a old ring e = rw e (record { notes = []; all = took_none part makes took a old; only = tt; emptied = emptied_none })

  -- what was taken from the rings of the senders below n
  pub record TakingEach (old : A) (before : Post I) (rings : List (Option (Consumer (Stamped I) Global AnyItems)))
      (n : ℕ) (new : A) (after : Post I) (rings' : List (Option (Consumer (Stamped I) Global AnyItems))) : Type 0 where
    pub notes : List (Noted I)
    pub all : TookAll part makes took old before notes new after
    pub order : ClimbsTo 0 (senders (deeds notes)) n
    pub emptied : (a : ℕ) → a < n → Emptied (get_or rings a None) (taken_from a notes) (get_or rings' a None)
    pub rest : (a : ℕ) → n ≤ a → (get_or rings' a None ≡ get_or rings a None) × (taken_from a notes ≡ [])

  pub taking_each_none : (a : A) (old : Post I) (rings : List (Option (Consumer (Stamped I) Global AnyItems))) → TakingEach a old rings 0 a old rings
  taking_each_none a old rings =
      record { notes = []; all = took_none part makes took a old; order = omega arith; emptied = λ x h. absurd (omega arith); rest = λ x h. (refl, refl) }

  pub taking_each_more : (n : ℕ) (a b c : A) (old mid new : Post I) (r r' r'' : List (Option (Consumer (Stamped I) Global AnyItems)))
      → TakingEach a old r n b mid r'
      → TookOne part makes took n b mid (get_or r' n None) c new (get_or r'' n None) → ((x : ℕ) → x ≢ n → get_or r'' x None ≡ get_or r' x None)
      → TakingEach a old r (n + 1) c new r''
  taking_each_more n a b c old mid new r r' r'' t k others =
      let ns : List (Noted I) = t.notes in
      let ms : List (Noted I) = k.notes in
      record {
        notes = ns ++ ms;
        all = took_then a b c old mid new ns ms t.all k.all;
        order = rw (senders_both ns ms) (climbs-append 0 n (n + 1) (senders (deeds ns)) (senders (deeds ms)) t.order
            (climbs_one n n (n + 1) (senders (deeds ms)) (omega arith) (omega arith) k.only));
        emptied = λ x h. elim (eqb_tells x n) [
          | inl s ↦ subst (λ y. Emptied (get_or r y None) (taken_from y (ns ++ ms)) (get_or r'' y None)) (sym s.1)
              (rw (flat_map-append (gets n) ns ms, (t.rest n (omega arith)).1)
              (subst (λ o. Emptied o (taken_from n ms) (get_or r'' n None)) (t.rest n (omega arith)).0 k.emptied))
          | inr ne ↦ rw (others x ne.1, flat_map-append (gets x) ns ms, taken_other x n ms ne.1 k.only, append-nil (taken_from x ns))
              (t.emptied x (omega (arith, ne.1)))
        ];
        rest = λ x h. let ne : x ≢ n = omega arith in
            (others x ne ∙ (t.rest x (omega arith)).0, flat_map-append (gets x) ns ms ∙ rw ((t.rest x (omega arith)).1, taken_other x n ms ne k.only) refl);
      }

  pub taking_each_done : (n : ℕ) (a b : A) (old new : Post I) (r r' : List (Option (Consumer (Stamped I) Global AnyItems))) → length r ≡ n
      → TakingEach a old r n b new r' → TookEach part makes took a old r b new r'
  taking_each_done n a b old new r r' len t = record {
    notes = t.notes;
    all = t.all;
    order = subst (λ k. ClimbsTo 0 (senders (deeds t.notes)) k) (sym len) t.order;
    emptied = λ x. elim (below x n) [
      | inl h ↦ t.emptied x h
      | inr h ↦ rw ((t.rest x h).0, (t.rest x h).1, get_or_past r x None (omega arith)) emptied_none
    ];
  }
    where
      below : (x n : ℕ) → (x < n) ⊎ (n ≤ x)
      below x n = grind arith
