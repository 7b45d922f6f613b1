-- What calls of a post write, one after another: for actors.
use Rattle.std.proofs.Common.{◌≡◌, ◌+◌, ℕ, List, [], ◌∷◌, ◌++◌, map, Option, refl, ap, sym, subst, ◌∙◌, arith, append_assoc}
use Rattle.std.specs.List.{AllByRecursion}
use Rattle.std.proofs.lemmas.Bool.Decides.{nat_tests}
use Rattle.std.proofs.lemmas.List.{append-nil, map-append}
use Rattle.std.proofs.lemmas.List.Concat.{flat_map-append}
use Rattle.ring_net.specs.declared.entry.JournalEntry.{JournalEntry}
use Rattle.ring_net.specs.declared.post.Post.{Post}
use Rattle.ring_net.specs.Deeds.{Deed, IsDeedOf, Counted, puts_by, sent_by}
use Rattle.ring_net.specs.Posts.{actor_of, clock_of, entries_in, waits, for_one, NotesEntry, SendsItem, Wrote}
use Rattle.ring_net.proofs.Replays.{all-append}

module _ {I : Type 0} where
  pub wrote_none : (p : Post I) → Wrote p [] p
  wrote_none p = record { actor = refl; own = tt; clocks = refl; entries = sym (append-nil _); edges = λ b. refl; boxes = λ b e. sym (append-nil _) }

  counted-append : (c d e : ℕ) (ds es : List (Deed I)) → Counted c ds d → Counted d es e → Counted c (ds ++ es) e
  counted-append c d e [] es h k = subst (λ n. Counted n es e) h k
  counted-append c d e (x ∷ xs) es h k = (h.0, counted-append (c + 1) d e xs es h.1 k)

  pub wrote_then : (old mid new : Post I) (ds es : List (Deed I)) → Wrote old ds mid → Wrote mid es new → Wrote old (ds ++ es) new
  wrote_then old mid new ds es h k = record {
    actor = k.actor ∙ h.actor;
    own = all-append (IsDeedOf (actor_of old)) ds es h.own (subst (λ a. AllByRecursion (IsDeedOf a) es) h.actor k.own);
    clocks = counted-append (clock_of old) (clock_of mid) (clock_of new) ds es h.clocks k.clocks;
    entries = k.entries ∙ ap (λ xs. xs ++ map (λ (d : Deed I). d.entry) es) h.entries
        ∙ append_assoc (entries_in old) (map (λ (d : Deed I). d.entry) ds) (map (λ (d : Deed I). d.entry) es)
        ∙ ap (λ xs. entries_in old ++ xs) (sym (map-append (λ (d : Deed I). d.entry) ds es));
    edges = λ b. k.edges b ∙ h.edges b;
    boxes = λ b l. k.boxes b (h.edges b ∙ l) ∙ ap (λ xs. xs ++ sent_by b es) (h.boxes b l) ∙ append_assoc (waits old b) (sent_by b ds) (sent_by b es)
        ∙ ap (λ xs. waits old b ++ xs) (sym (flat_map-append (puts_by b) ds es));
  }

  -- one event that sends nothing
  pub wrote_note : (old new : Post I) (e : JournalEntry) (taken : Option (ℕ × I)) → e.actor ≡ actor_of old → e.clock ≡ clock_of old + 1
      → NotesEntry old e new → Wrote old (record { entry = e; taken = taken; sent = [] } ∷ []) new
  wrote_note old new e taken own next n = record {
    actor = n.actor;
    own = (own, tt);
    clocks = (next, n.clock ∙ next);
    entries = n.entries;
    edges = λ b. rw (n.boxes) refl;
    boxes = λ b l. rw (n.boxes) (sym (append-nil (waits old b)));
  }

  -- one event that sends one item
  pub wrote_send : (old mid new : Post I) (e : JournalEntry) (taken : Option (ℕ × I)) (to : ℕ) (x : I) → e.actor ≡ actor_of old
      → e.clock ≡ clock_of old + 1 → NotesEntry old e mid → SendsItem mid to x new
      → Wrote old (record { entry = e; taken = taken; sent = (to, x) ∷ [] } ∷ []) new
  wrote_send old mid new e taken to x own next n s =
      let w = wrote_note old mid e taken own next n in record {
        actor = s.actor ∙ n.actor;
        own = (own, tt);
        clocks = (next, s.clock ∙ n.clock ∙ next);
        entries = s.entries ∙ n.entries;
        edges = λ b. s.edges b ∙ w.edges b;
        boxes = λ b l. s.boxes b (w.edges b ∙ l)
            ∙ ap (λ ws. ws ++ for_one to (record { stamp = record { 0 = clock_of mid }; item = x }) b) (w.boxes b l ∙ append-nil (waits old b))
            ∙ ap (λ xs. waits old b ++ xs) (ap (λ c. for_one to (record { stamp = record { 0 = c }; item = x }) b) n.clock ∙ one e.clock b);
      }
    where
      one : (c b : ℕ)
          → for_one to (record { stamp = record { 0 = c }; item = x }) b
          ≡ sent_by b (record { entry = record e { clock = c }; taken = taken; sent = (to, x) ∷ [] } ∷ [])
      one c b = grind (arith, nat_tests)
