-- Takes, one after another.
use Rattle.std.proofs.Common.{◌≡◌, ◌≤◌, ◌+◌, ℕ, List, [], ◌∷◌, ◌++◌, length, refl, ap, sym, subst, ◌∙◌}
use Rattle.std.proofs.Common.{arith, append_assoc, length-append, max, ◌⊎◌, inl, inr}
use mathlib.Core.List.{IsPrefix}
use Rattle.std.specs.declared.alloc.Global.{Global}
use Rattle.rtrb.specs.Ring.{received, known_items, consumer_capacity}
use Rattle.rtrb.specs.declared.consumer.Consumer.{Consumer}
use Rattle.rtrb.specs.declared.AnyItems.{AnyItems}
use Rattle.ring_net.specs.Takes.{TookFrom}
use Rattle.ring_net.proofs.Lists.{prefix_taken, prefix_within}
use Rattle.std.specs.List.{AllByRecursion}
use Rattle.std.proofs.lemmas.List.{append-nil, map-append}
use Rattle.std.proofs.lemmas.List.Concat.{flat_map-append}
use Rattle.ring_net.specs.declared.entry.Stamped.{Stamped}
use Rattle.ring_net.specs.declared.post.Post.{Post}
use Rattle.ring_net.specs.Deeds.{Deed, Noted, Makes, Replay, IsDeedOf, TakesFirst, deeds, noted}
use Rattle.ring_net.specs.Deeds.{entries_of, gets, puts, sent_to, taken_from, senders, item_sender}
use Rattle.ring_net.specs.Posts.{actor_of, clock_of, entries_in, waits, Wrote, TookItem}
use Rattle.ring_net.specs.Turns.{Posted, TookAll, stays, takes}
use Rattle.ring_net.proofs.Replays.{all-append, replay-append, deeds_noted, entries_noted, sent_noted}
use Rattle.ring_net.proofs.Replays.{clocked-append, clocked_first, first_taken, first_senders}

module _ {I : Type 0} where
  pub posted_none : (old : Post I) → Posted old [] old
  posted_none old = record { actor = refl; own = tt; clocks = refl; entries = sym (append-nil _); edges = λ b. refl; boxes = λ b l. sym (append-nil _) }

  pub deeds_both : (ns ms : List (Noted I)) → deeds (ns ++ ms) ≡ deeds ns ++ deeds ms
  deeds_both ns ms = map-append (λ (n : Noted I). n.deed) ns ms

  pub posted_then : (old mid new : Post I) (ns ms : List (Noted I)) → Posted old ns mid → Posted mid ms new → Posted old (ns ++ ms) new
  posted_then old mid new ns ms h k = record {
    actor = k.actor ∙ h.actor;
    own = rw (deeds_both ns ms)
        (all-append (IsDeedOf (actor_of old)) (deeds ns) (deeds ms) h.own (subst (λ a. AllByRecursion (IsDeedOf a) (deeds ms)) h.actor k.own));
    clocks = clocked-append (clock_of old) (clock_of mid) (clock_of new) ns ms h.clocks k.clocks;
    entries = k.entries ∙ ap (λ xs. xs ++ entries_of ms) h.entries ∙ append_assoc (entries_in old) (entries_of ns) (entries_of ms)
        ∙ ap (λ xs. entries_in old ++ xs) (sym (map-append (λ (n : Noted I). n.deed.entry) ns ms));
    edges = λ b. k.edges b ∙ h.edges b;
    boxes = λ b l. k.boxes b (h.edges b ∙ l) ∙ ap (λ xs. xs ++ sent_to b ms) (h.boxes b l) ∙ append_assoc (waits old b) (sent_to b ns) (sent_to b ms)
        ∙ ap (λ xs. waits old b ++ xs) (sym (flat_map-append (puts b) ns ms));
  }

  -- a take after the clock met the item's stamp
  pub posted_wrote : (old new : Post I) (s from : ℕ) (x : I) (ds : List (Deed I)) → Wrote (record old { clock = max (clock_of old) s }) ds new
      → TakesFirst from x ds → Posted old (noted s ds) new
  posted_wrote old new s from x ds k first = record {
    actor = k.actor;
    own = rw (deeds_noted s ds) k.own;
    clocks = clocked_first (clock_of old) (clock_of new) s from x ds first k.clocks;
    entries = k.entries ∙ ap (λ xs. entries_in old ++ xs) (sym (entries_noted s ds));
    edges = k.edges;
    boxes = λ b l. k.boxes b l ∙ ap (λ xs. waits old b ++ xs) (sym (sent_noted b s ds));
  }

  pub received_more : (from s : ℕ) (x : I) (ns : List (Noted I)) (ds : List (Deed I)) (r start mid : List (Stamped I))
      → r ≡ mid ++ record { stamp = record { 0 = s }; item = x } ∷ [] → mid ≡ start ++ taken_from from ns → TakesFirst from x ds
      → r ≡ start ++ taken_from from (ns ++ noted s ds)
  received_more from s x ns ds r start mid e f first = e ∙ ap (λ xs. xs ++ record { stamp = record { 0 = s }; item = x } ∷ []) f
      ∙ append_assoc start (taken_from from ns) (record { stamp = record { 0 = s }; item = x } ∷ [])
      ∙ ap (λ xs. start ++ xs) (ap (λ xs. taken_from from ns ++ xs) (sym (first_taken from s x ds first)) ∙ sym (flat_map-append (gets from) ns (noted s ds)))

  pub deeds-append : (ns : List (Noted I)) (s : ℕ) (ds : List (Deed I)) → deeds (ns ++ noted s ds) ≡ deeds ns ++ ds
  deeds-append ns s ds = map-append (λ (n : Noted I). n.deed) ns (noted s ds) ∙ ap (λ xs. deeds ns ++ xs) (deeds_noted s ds)

  pub senders_more : (from s : ℕ) (x : I) (ns : List (Noted I)) (ds : List (Deed I)) → AllByRecursion (λ k. k ≡ from) (senders (deeds ns))
      → TakesFirst from x ds
      → AllByRecursion (λ k. k ≡ from) (senders (deeds (ns ++ noted s ds)))
  senders_more from s x ns ds h first = rw (deeds-append ns s ds) (rw (flat_map-append (λ (d : Deed I). item_sender d.taken) (deeds ns) ds)
      (all-append (λ k. k ≡ from) (senders (deeds ns)) (senders ds) h (first_senders from x ds first)))

module _ {A P I : Type 0} (part : A → P) (makes : Makes P I) (took : A → ℕ → I → List (Deed I) → A → Type 0) where
  pub took_none : (a : A) (old : Post I) → TookAll part makes took a old [] a old
  took_none a old = record { posted = posted_none old; replay = refl; tooks = stays a }

  pub took_more : (from s : ℕ) (x : I) (a b c : A) (old mid new : Post I) (ns : List (Noted I)) → TookAll part makes took a old ns b mid
      → (h : TookItem part makes took from x b (record mid { clock = max (clock_of mid) s }) c new)
      → TookAll part makes took a old (ns ++ noted s h.deeds) c new
  took_more from s x a b c old mid new ns k h =
      let e : deeds (ns ++ noted s h.deeds) ≡ deeds ns ++ h.deeds = deeds-append ns s h.deeds in
      record {
        posted = posted_then old mid new ns (noted s h.deeds) k.posted (posted_wrote mid new s from x h.deeds h.wrote h.first);
        replay = rw e (replay-append makes (actor_of old) (part a) (part b) (part c) (deeds ns) h.deeds k.replay
            (subst (λ n. Replay makes n (part b) h.deeds (part c)) k.posted.actor h.replay));
        tooks = rw e (takes a b c (deeds ns) h.deeds from x k.tooks h.took);
      }

  -- what was taken from one ring, n items so far
  pub record Taking (from : ℕ) (old : A) (before : Post I) (ring : Consumer (Stamped I) Global AnyItems)
      (n : ℕ) (new : A) (after : Post I) (ring' : Consumer (Stamped I) Global AnyItems) : Type 0 where
    pub notes : List (Noted I)
    pub all : TookAll part makes took old before notes new after
    pub more : received ring' ≡ received ring ++ taken_from from notes
    pub only : AllByRecursion (λ s. s ≡ from) (senders (deeds notes))
    pub known : IsPrefix (known_items ring) (taken_from from notes ++ known_items ring')
    pub count : length (taken_from from notes) ≡ n

  pub taking_none : (from : ℕ) (a : A) (old : Post I) (ring : Consumer (Stamped I) Global AnyItems) → Taking from a old ring 0 a old ring
  taking_none from a old ring = record { notes = []; all = took_none a old; more = sym (append-nil _); only = tt; known = ([], append-nil _); count = refl }

  pub taking_more : (from n s : ℕ) (x : I) (a b c : A) (old mid new : Post I) (r r' r'' : Consumer (Stamped I) Global AnyItems) → Taking from a old r n b mid r'
      → received r'' ≡ received r' ++ record { stamp = record { 0 = s }; item = x } ∷ []
      → IsPrefix (known_items r') (record { stamp = record { 0 = s }; item = x } ∷ known_items r'')
      → TookItem part makes took from x b (record mid { clock = max (clock_of mid) s }) c new → Taking from a old r (n + 1) c new r''
  taking_more from n s x a b c old mid new r r' r'' t got known h =
      let y : Stamped I = record { stamp = record { 0 = s }; item = x } in
      let one : taken_from from (t.notes ++ noted s h.deeds) ≡ taken_from from t.notes ++ y ∷ [] =
      flat_map-append (gets from) t.notes (noted s h.deeds) ∙ ap (λ xs. taken_from from t.notes ++ xs) (first_taken from s x h.deeds h.first) in
      record {
        notes = t.notes ++ noted s h.deeds;
        all = took_more from s x a b c old mid new t.notes t.all h;
        more = received_more from s x t.notes h.deeds (received r'') (received r) (received r') got t.more h.first;
        only = senders_more from s x t.notes h.deeds t.only h.first;
        known = rw one (prefix_taken (known_items r) (taken_from from t.notes) (known_items r') (known_items r'') y t.known known);
        count = rw one (length-append (taken_from from t.notes) (y ∷ []) ∙ ap (λ k. k + 1) t.count);
      }

  pub taking_done : (from n : ℕ) (a b : A) (old new : Post I) (r r' : Consumer (Stamped I) Global AnyItems) → Taking from a old r n b new r' → n ≤ 256
      → length (known_items r) ≤ consumer_capacity r → (n ≡ 256) ⊎ (known_items r' ≡ []) → TookFrom part makes took from a old r b new r'
  taking_done from n a b old new r r' t few counts done = record {
    notes = t.notes;
    all = t.all;
    more = t.more;
    only = t.only;
    known = λ small. elim done [
      | inl full ↦ prefix_within (known_items r) (taken_from from t.notes) (known_items r') t.known (omega (arith, small, counts, t.count, full))
      | inr empty ↦ subst (λ xs. IsPrefix (known_items r) xs) (append-nil _) (rw empty at t.known)
    ];
    most = omega (arith, t.count, few);
  }
