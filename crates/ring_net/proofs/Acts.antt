-- A turn after takes.
use Rattle.std.proofs.Common.{◌≡◌, ℕ, List, ◌++◌, length, Option, refl, ap, sym, subst, ◌∙◌}
use Rattle.std.specs.List.{AllByRecursion}
use Rattle.std.proofs.lemmas.List.{append-nil}
use Rattle.std.proofs.lemmas.List.Concat.{flat_map-append}
use Rattle.std.specs.declared.alloc.Global.{Global}
use Rattle.rtrb.specs.declared.consumer.Consumer.{Consumer}
use Rattle.rtrb.specs.declared.AnyItems.{AnyItems}
use Rattle.ring_net.specs.declared.entry.Stamped.{Stamped}
use Rattle.ring_net.specs.declared.post.Post.{Post}
use Rattle.ring_net.specs.Deeds.{Deed, Noted, Makes, Replay, TakesNone, deeds, noted, gets, taken_from, senders}
use Rattle.ring_net.specs.Posts.{actor_of, clock_of, entries_in, waits, Wrote, Moved}
use Rattle.ring_net.specs.Turns.{Posted}
use Rattle.ring_net.specs.Takes.{TookEach, Acts}
use Rattle.ring_net.proofs.Replays.{replay-append, climbs, clocked_none, deeds_noted, entries_noted, sent_noted, none_taken}
use Rattle.ring_net.proofs.Takes.{posted_then, deeds-append}

module _ {I : Type 0} where
  -- a call that takes nothing
  posted_call : (old new : Post I) (ds : List (Deed I)) → Wrote old ds new → AllByRecursion TakesNone ds → Posted old (noted 0 ds) new
  posted_call old new ds k none = record {
    actor = k.actor;
    own = rw (deeds_noted 0 ds) k.own;
    clocks = clocked_none (clock_of old) (clock_of new) 0 ds none k.clocks;
    entries = k.entries ∙ ap (λ xs. entries_in old ++ xs) (sym (entries_noted 0 ds));
    edges = k.edges;
    boxes = λ b l. k.boxes b l ∙ ap (λ xs. waits old b ++ xs) (sym (sent_noted b 0 ds));
  }

module _ {A P I : Type 0} (part : A → P) (makes : Makes P I) (took : A → ℕ → I → List (Deed I) → A → Type 0) (turned : A → List (Deed I) → A → Type 0) where
  pub acts : (a b c : A) (old mid new : Post I) (r r' : List (Option (Consumer (Stamped I) Global AnyItems)))
      → TookEach part makes took a old r b mid r' → Moved part makes turned b mid c new
      → Acts part makes took turned a old r c new r'
  acts a b c old mid new r r' t m =
      let ns : List (Noted I) = t.notes in
      let ms : List (Noted I) = noted 0 m.deeds in
      let e : deeds (ns ++ ms) ≡ deeds ns ++ m.deeds = deeds-append ns 0 m.deeds in
      let same : deeds ms ≡ m.deeds = deeds_noted 0 m.deeds in
      let p : Posted old (ns ++ ms) new = posted_then old mid new ns ms t.all.posted (posted_call mid new m.deeds m.wrote m.none) in
      let off : (x : ℕ) → taken_from x (ns ++ ms) ≡ taken_from x ns =
      λ x. flat_map-append (gets x) ns ms ∙ ap (λ xs. taken_from x ns ++ xs) (none_taken x 0 m.deeds m.none) ∙ append-nil (taken_from x ns) in
      record {
        notes = ns ++ ms;
        did = record {
          mid = b;
          first = ns;
          second = ms;
          split = refl;
          tooks = t.all.tooks;
          turn = rw same m.moved;
          none = rw same m.none;
          order = climbs 0 (length r) (senders (deeds ns)) t.order;
          most = λ x. rw (off x) (t.emptied x).most;
          replay = rw e (replay-append makes (actor_of old) (part a) (part b) (part c) (deeds ns) m.deeds t.all.replay
              (subst (λ n. Replay makes n (part b) m.deeds (part c)) t.all.posted.actor m.replay));
          own = p.own;
          clocks = p.clocks;
        };
        journal = p.entries;
        sent = p.boxes;
        emptied = λ x. rw (off x) (t.emptied x);
      }
