-- What each cell did, what each channel carried: a phase.
use Rattle.std.proofs.Common.{◌≡◌, ◌≤◌, ◌<◌, ◌+◌, ℕ, zero, suc, Bool, true, false, ◌||◌, List, [], ◌∷◌, ◌++◌, length, get_or, map, min}
use Rattle.std.proofs.Common.{Option, Some, None, refl, ap, sym, subst, ◌∙◌, arith, append_assoc, length-append, ◌⊎◌, inl, inr}
use Rattle.std.specs.Prelude.{slice_get, is_some}
use Rattle.std.specs.List.{list_any}
use Rattle.std.proofs.lemmas.Option.{slice_get_within, slice_get-get_or, slice_get_past, get_or_from_slice_get}
use mathlib.Core.List.{IsPrefix}
use Rattle.std.specs.declared.alloc.Global.{Global}
use Rattle.std.specs.declared.collections.VecDeque.{VecDeque}
use Rattle.rtrb.specs.declared.producer.Producer.{Producer}
use Rattle.rtrb.specs.declared.consumer.Consumer.{Consumer}
use Rattle.rtrb.specs.declared.AnyItems.{AnyItems}
use Rattle.rtrb.specs.Ring.{sent, received, known_items}
use Rattle.ring_net.specs.declared.entry.Stamped.{Stamped}
use Rattle.ring_net.specs.declared.entry.JournalEntry.{JournalEntry}
use Rattle.ring_net.specs.declared.post.Post.{Post}
use Rattle.ring_net.specs.declared.cell.Cell.{Cell}
use Rattle.ring_net.specs.Deeds.{Deed, Noted, Makes, entries_of, sent_to, taken_from}
use Rattle.ring_net.specs.Posts.{clock_of, entries_in, waits, box_items}
use Rattle.ring_net.specs.Turns.{ActorDid}
use Rattle.ring_net.specs.Ends.{SameOut, SameIn, IsSmall, Emptied, ring_sent, ring_free, ring_received, ring_known}
use Rattle.ring_net.specs.Cells.{CellDid, CellTurned}
use Rattle.ring_net.specs.Phases.{NetPhase}
use Rattle.ring_net.specs.Nets.{LookedOut, LookedIn, Level, Known, IsOneRing, Linked, IsNet, LevelAt, out_of, in_of}
use Rattle.ring_net.specs.Nets.{out_end, in_end, box_of, waits_of, journal_of, clock_in, cell_number, view_of}
use Rattle.ring_net.specs.Phases.{is_edge}
use Rattle.ring_net.specs.Reads.{rest_of, Looked}
use Rattle.ring_net.proofs.TakesEach.{emptied_none}
use Rattle.ring_net.proofs.Linked.{Kept, linked_kept, kept_looked}

-- ---- lists

pub same_tails : {X : Type 0} (xs us ys vs : List X) → length xs ≡ length us → xs ++ ys ≡ us ++ vs → ys ≡ vs
same_tails [] [] ys vs h e = e
same_tails [] (u ∷ us) ys vs h e = absurd (omega arith)
same_tails (x ∷ xs) [] ys vs h e = absurd (omega arith)
same_tails (x ∷ xs) (u ∷ us) ys vs h e = same_tails xs us ys vs (omega arith) (let t : xs ++ ys ≡ us ++ vs = cc in t)

-- the equation of a channel over a phase, from what both ends know
pub carried : {X : Type 0} (rec known sent box new taken rec' known' sent' box' : List X) → rec' ≡ rec ++ taken → IsPrefix known taken
    → length rec + length known ≡ length sent
    → sent' ++ box' ≡ sent ++ (box ++ new) → rec' ++ known' ≡ sent' → (known ++ box) ++ new ≡ taken ++ (known' ++ box')
carried rec known sent box new taken rec' known' sent' box' more p count said level =
    let r = p.0 in
    let whole : (rec ++ known) ++ (r ++ (known' ++ box')) ≡ sent ++ (box ++ new) =
    append_assoc rec known (r ++ (known' ++ box')) ∙ ap (λ xs. rec ++ xs) (sym (append_assoc known r (known' ++ box')) ∙ ap (λ xs. xs ++ (known' ++ box')) p.1)
    ∙ sym (append_assoc rec taken (known' ++ box')) ∙ ap (λ xs. xs ++ (known' ++ box')) (sym more) ∙ sym (append_assoc rec' known' box')
    ∙ ap (λ xs. xs ++ box') level ∙ said in
    let rest : r ++ (known' ++ box') ≡ box ++ new =
    same_tails (rec ++ known) sent (r ++ (known' ++ box')) (box ++ new) (length-append rec known ∙ count) whole in
    append_assoc known box new ∙ ap (λ xs. known ++ xs) (sym rest) ∙ sym (append_assoc known r (known' ++ box')) ∙ ap (λ xs. xs ++ (known' ++ box')) p.1

prefix_length : {X : Type 0} (xs ys : List X) → IsPrefix xs ys → length xs ≤ length ys
prefix_length xs ys p = let e : length (xs ++ p.0) ≡ length ys = ap (λ zs. length zs) p.1 in omega (arith, length-append xs p.0, e)

-- how much is taken of a channel: all of it, or what the ring takes
pub pushed : {X : Type 0} (rec known sent box new taken rec' known' sent' box' : List X) (free : ℕ) → rec' ≡ rec ++ taken
    → (known ++ box) ++ new ≡ taken ++ (known' ++ box')
    → (0 < length box' → length sent + free ≤ length sent') → 256 + length rec ≤ free + length sent → rec' ++ known' ≡ sent'
    → min 256 (length (known ++ box)) ≤ length taken + length known'
pushed {X} rec known sent box new taken rec' known' sent' box' free more e pushes room level = by_case (some_or_none (length box'))
  where
    some_or_none : (n : ℕ) → (0 < n) ⊎ (n ≡ 0)
    some_or_none n = grind arith

    lengths : length ((known ++ box) ++ new) ≡ length (taken ++ (known' ++ box'))
    lengths = ap (λ (zs : List X). length zs) e

    by_case : (0 < length box') ⊎ (length box' ≡ 0) → min 256 (length (known ++ box)) ≤ length taken + length known'
    by_case (inl h) = omega (
      arith,
      pushes h,
      room,
      ap (λ (zs : List X). length zs) more,
      length-append rec taken,
      ap (λ (zs : List X). length zs) level,
      length-append rec' known',
    )
    by_case (inr h) = omega (arith, h, lengths, length-append (known ++ box) new, length-append taken (known' ++ box'), length-append known' box')

-- ---- one cell

module _ {A P I : Type 0} (part : A → P) (makes : Makes P I) (took : A → ℕ → I → List (Deed I) → A → Type 0) (turned : A → List (Deed I) → A → Type 0) where
  abbrev pub TurnedAt : Option (Cell A I) → Option (Cell A I) → Type 0
  TurnedAt None None = Unit {0}
  TurnedAt None (Some d) = ⊥
  TurnedAt (Some c) None = ⊥
  TurnedAt (Some c) (Some d) = CellTurned part makes took turned c d

  abbrev pub DidAt : Option (Cell A I) → Option (Cell A I) → Type 0
  DidAt None None = Unit {0}
  DidAt None (Some d) = ⊥
  DidAt (Some c) None = ⊥
  DidAt (Some c) (Some d) = CellDid part makes took turned c d

  pub turned_at : (old mid : List (Cell A I)) → length mid ≡ length old
      → ((k : ℕ) (d : Cell A I) → k < length old → CellTurned part makes took turned (get_or old k d) (get_or mid k d)) → (k : ℕ)
      → TurnedAt (slice_get old k) (slice_get mid k)
  turned_at old mid len h k = go (slice_get old k) refl
    where
      go : (o : Option (Cell A I)) → slice_get old k ≡ o → TurnedAt o (slice_get mid k)
      go None e = rw (slice_get_past mid k (past old k len e)) tt
        where
          past : (xs : List (Cell A I)) (n : ℕ) → length mid ≡ length xs → slice_get xs n ≡ None → length mid ≤ n
          past xs n l f = elim (below n (length xs)) [
            | inr ge ↦ omega (arith, l, ge)
            | inl lt ↦ absurd (nothing xs n lt f)
          ]
            where
              below : (m n : ℕ) → (m < n) ⊎ (n ≤ m)
              below m n = grind arith

              nothing : (ys : List (Cell A I)) (m : ℕ) → m < length ys → slice_get ys m ≡ None → ⊥
              nothing [] m l f = absurd (omega arith)
              nothing (y ∷ ys) zero l f = absurd cc
              nothing (y ∷ ys) (suc m) l f = nothing ys m (omega arith) f
      go (Some c) e = let k_in : k < length old = slice_get_within old k c e in
          rw (slice_get-get_or mid k c (omega (arith, len, k_in)))
          (subst (λ x. CellTurned part makes took turned x (get_or mid k c)) (get_or_from_slice_get old k c c e) (h k c k_in))

  kept_outs : (o o' : Option (Cell A I)) (b : ℕ) → TurnedAt o o' → SameOut (out_of o b) (out_of o' b)
  kept_outs None None b h = tt
  kept_outs None (Some d) b h = absurd h
  kept_outs (Some c) None b h = absurd h
  kept_outs (Some c) (Some d) b h = h.outs b

  kept_ins : (o o' : Option (Cell A I)) (a : ℕ) → TurnedAt o o' → SameIn (in_of o a) (in_of o' a)
  kept_ins None None b h = tt
  kept_ins None (Some d) b h = absurd h
  kept_ins (Some c) None b h = absurd h
  kept_ins (Some c) (Some d) a h = h.ins a

  kept_boxes : (o o' : Option (Cell A I)) (b : ℕ) → TurnedAt o o' → box_of o' b ≡ box_of o b
  kept_boxes None None b h = refl
  kept_boxes None (Some d) b h = absurd h
  kept_boxes (Some c) None b h = absurd h
  kept_boxes (Some c) (Some d) b h = h.edges.edges b

  kept_numbers : (o o' : Option (Cell A I)) (k : ℕ) → TurnedAt o o' → cell_number o' k ≡ cell_number o k
  kept_numbers None None b h = refl
  kept_numbers None (Some d) b h = absurd h
  kept_numbers (Some c) None b h = absurd h
  kept_numbers (Some c) (Some d) k h = h.edges.actor

  pub kept_turned : (old mid : List (Cell A I)) → ((k : ℕ) → TurnedAt (slice_get old k) (slice_get mid k)) → Kept old mid
  kept_turned old mid h = record {
    outs = λ x y. kept_outs (slice_get old x) (slice_get mid x) y (h x);
    ins = λ x y. kept_ins (slice_get old y) (slice_get mid y) x (h y);
    boxes = λ a b. kept_boxes (slice_get old a) (slice_get mid a) b (h a);
    numbers = λ k. kept_numbers (slice_get old k) (slice_get mid k) k (h k);
  }

  abbrev has_memory : Option (Cell A I) → Type 0
  has_memory None = Unit {0}
  has_memory (Some c) = c.has_failed ≡ false

  did_at : (o o' : Option (Cell A I)) → has_memory o' → TurnedAt o o' → DidAt o o'
  did_at None None m h = tt
  did_at None (Some d) m h = absurd h
  did_at (Some c) None m h = absurd h
  did_at (Some c) (Some d) m h = h.memory m

  abbrev pub notes_at : (o o' : Option (Cell A I)) → DidAt o o' → List (Noted I)
  notes_at None None h = []
  notes_at None (Some d) h = []
  notes_at (Some c) None h = []
  notes_at (Some c) (Some d) h = h.notes

  did_journal : (o o' : Option (Cell A I)) (h : DidAt o o') → journal_of o' ≡ journal_of o ++ entries_of (notes_at o o' h)
  did_journal None None h = refl
  did_journal None (Some d) h = absurd h
  did_journal (Some c) None h = absurd h
  did_journal (Some c) (Some d) h = h.journal

  did_emptied : (o o' : Option (Cell A I)) (h : DidAt o o') (a : ℕ) → Emptied (in_of o a) (taken_from a (notes_at o o' h)) (in_of o' a)
  did_emptied None None h a = emptied_none
  did_emptied None (Some d) h a = absurd h
  did_emptied (Some c) None h a = absurd h
  did_emptied (Some c) (Some d) h a = h.emptied a

  did_said : (o o' : Option (Cell A I)) (h : DidAt o o') (b : ℕ) → box_of o b ≡ true
      → ring_sent (out_of o' b) ++ waits_of o' b ≡ ring_sent (out_of o b) ++ (waits_of o b ++ sent_to b (notes_at o o' h))
  did_said None None h b e = absurd cc
  did_said None (Some d) h b e = absurd h
  did_said (Some c) None h b e = absurd h
  did_said (Some c) (Some d) h b e = h.said b e

  did_pushes : (o o' : Option (Cell A I)) (h : DidAt o o') (b : ℕ) → 0 < length (waits_of o' b)
      → length (ring_sent (out_of o b)) + ring_free (out_of o b) ≤ length (ring_sent (out_of o' b))
  did_pushes None None h b l = omega arith
  did_pushes None (Some d) h b l = absurd h
  did_pushes (Some c) None h b l = absurd h
  did_pushes (Some c) (Some d) h b l = h.pushes b l

-- ---- what looks leave

module _ {T : Type 0} where
  looked_sent : (a b : Option (Producer T Global AnyItems)) → LookedOut a b → ring_sent b ≡ ring_sent a
  looked_sent None None h = refl
  looked_sent None (Some q) h = absurd h
  looked_sent (Some p) None h = absurd h
  looked_sent (Some p) (Some q) h = h.1

  looked_received : (a b : Option (Consumer T Global AnyItems)) → LookedIn a b → ring_received b ≡ ring_received a
  looked_received None None h = refl
  looked_received None (Some q) h = absurd h
  looked_received (Some p) None h = absurd h
  looked_received (Some p) (Some q) h = h.1

  level_lists : (o : Option (Producer T Global AnyItems)) (i : Option (Consumer T Global AnyItems)) → is_some o ≡ is_some i
      → ((p : Producer T Global AnyItems) (c : Consumer T Global AnyItems) → o ≡ Some p → i ≡ Some c → Level p c)
      → ring_received i ++ ring_known i ≡ ring_sent o
  level_lists None None e h = refl
  level_lists None (Some c) e h = absurd cc
  level_lists (Some p) None e h = absurd cc
  level_lists (Some p) (Some c) e h = (h p c refl refl).items

  known_counts : (o : Option (Producer T Global AnyItems)) (i : Option (Consumer T Global AnyItems)) → is_some o ≡ is_some i
      → ((p : Producer T Global AnyItems) (c : Consumer T Global AnyItems) → o ≡ Some p → i ≡ Some c → Known p c)
      → length (ring_received i) + length (ring_known i) ≡ length (ring_sent o)
  known_counts None None e h = refl
  known_counts None (Some c) e h = absurd cc
  known_counts (Some p) None e h = absurd cc
  known_counts (Some p) (Some c) e h = (h p c refl refl).items

  small_in : (o : Option (Producer T Global AnyItems)) (i : Option (Consumer T Global AnyItems)) → is_some o ≡ is_some i
      → ((p : Producer T Global AnyItems) (c : Consumer T Global AnyItems) → o ≡ Some p → i ≡ Some c → IsOneRing p c) → IsSmall i
  small_in o None e h = tt
  small_in None (Some c) e h = absurd cc
  small_in (Some p) (Some c) e h = (h p c refl refl).small

  room_out : (o : Option (Producer T Global AnyItems)) (i : Option (Consumer T Global AnyItems)) → is_some o ≡ true → is_some i ≡ true
      → ((p : Producer T Global AnyItems) (c : Consumer T Global AnyItems) → o ≡ Some p → i ≡ Some c → IsOneRing p c)
      → ((p : Producer T Global AnyItems) (c : Consumer T Global AnyItems) → o ≡ Some p → i ≡ Some c → Known p c)
      → 256 + length (ring_received i) ≤ ring_free o + length (ring_sent o)
  room_out None i e f h k = absurd cc
  room_out (Some p) None e f h k = absurd cc
  room_out (Some p) (Some c) e f h k = omega (arith, (k p c refl refl).slots, (h p c refl refl).size)

  pub level_known : (p : Producer T Global AnyItems) (c : Consumer T Global AnyItems) → Level p c → Known p c
  level_known p c h = record { items = sym (length-append (received c) (known_items c)) ∙ ap (λ xs. length xs) h.items; slots = h.slots }

  none_out : (i : Option (Consumer T Global AnyItems)) → is_some i ≡ false → i ≡ None
  none_out None h = refl
  none_out (Some c) h = absurd cc

module _ {A I : Type 0} where
  abbrev rest_journal : Option (A × Post I × Bool) → List JournalEntry
  rest_journal None = []
  rest_journal (Some r) = entries_in r.1

  abbrev rest_clock : Option (A × Post I × Bool) → ℕ
  rest_clock None = 0
  rest_clock (Some r) = clock_of r.1

  abbrev rest_waits : Option (A × Post I × Bool) → ℕ → List (Stamped I)
  rest_waits None b = []
  rest_waits (Some r) b = waits r.1 b

  abbrev rest_failed : Option (A × Post I × Bool) → Bool
  rest_failed None = false
  rest_failed (Some r) = r.2

  abbrev pub actor_at : Option (Cell A I) → A → A
  actor_at None d = d
  actor_at (Some c) d = c.actor

  abbrev rest_actor : Option (A × Post I × Bool) → A → A
  rest_actor None d = d
  rest_actor (Some r) d = r.0

  abbrev failed_at : Option (Cell A I) → Bool
  failed_at None = false
  failed_at (Some c) = c.has_failed

  journal_rest : (o : Option (Cell A I)) → journal_of o ≡ rest_journal (rest_of o)
  journal_rest None = refl
  journal_rest (Some c) = refl

  clock_rest : (o : Option (Cell A I)) → clock_in o ≡ rest_clock (rest_of o)
  clock_rest None = refl
  clock_rest (Some c) = refl

  waits_rest : (o : Option (Cell A I)) (b : ℕ) → waits_of o b ≡ rest_waits (rest_of o) b
  waits_rest None b = refl
  waits_rest (Some c) b = refl

  failed_rest : (o : Option (Cell A I)) → failed_at o ≡ rest_failed (rest_of o)
  failed_rest None = refl
  failed_rest (Some c) = refl

  actor_rest : (o : Option (Cell A I)) (d : A) → actor_at o d ≡ rest_actor (rest_of o) d
  actor_rest None d = refl
  actor_rest (Some c) d = refl

  pub same_journal : (o o' : Option (Cell A I)) → rest_of o' ≡ rest_of o → journal_of o' ≡ journal_of o
  same_journal o o' e = journal_rest o' ∙ ap (λ r. rest_journal r) e ∙ sym (journal_rest o)

  pub same_clock : (o o' : Option (Cell A I)) → rest_of o' ≡ rest_of o → clock_in o' ≡ clock_in o
  same_clock o o' e = clock_rest o' ∙ ap (λ r. rest_clock r) e ∙ sym (clock_rest o)

  pub same_waits : (o o' : Option (Cell A I)) (b : ℕ) → rest_of o' ≡ rest_of o → waits_of o' b ≡ waits_of o b
  same_waits o o' b e = waits_rest o' b ∙ ap (λ r. rest_waits r b) e ∙ sym (waits_rest o b)

  pub same_failed : (o o' : Option (Cell A I)) → rest_of o' ≡ rest_of o → failed_at o' ≡ failed_at o
  same_failed o o' e = failed_rest o' ∙ ap (λ r. rest_failed r) e ∙ sym (failed_rest o)

  pub same_actor : (o o' : Option (Cell A I)) (d : A) → rest_of o' ≡ rest_of o → actor_at o' d ≡ actor_at o d
  same_actor o o' d e = actor_rest o' d ∙ ap (λ r. rest_actor r d) e ∙ sym (actor_rest o d)

  pub actor_get : (cells : List (Cell A I)) (k : ℕ) (d : A) → get_or (map (λ (c : Cell A I). c.actor) cells) k d ≡ actor_at (slice_get cells k) d
  actor_get [] k d = refl
  actor_get (c ∷ cells) zero d = refl
  actor_get (c ∷ cells) (suc k) d = actor_get cells k d

  pub none_failed : (cells : List (Cell A I)) (k : ℕ) → list_any (λ (c : Cell A I). c.has_failed) cells ≡ false → failed_at (slice_get cells k) ≡ false
  none_failed [] k h = refl
  none_failed (c ∷ cells) zero h = left c.has_failed (list_any (λ (c : Cell A I). c.has_failed) cells) h
    where
      left : (s t : Bool) → (s || t) ≡ false → s ≡ false
      left true t h = absurd cc
      left false t h = refl
  none_failed (c ∷ cells) (suc k) h = none_failed cells k (right c.has_failed (list_any (λ (c : Cell A I). c.has_failed) cells) h)
    where
      right : (s t : Bool) → (s || t) ≡ false → t ≡ false
      right true t h = absurd cc
      right false t h = h

  -- a net after looks at all edges
  pub net_read : (cells : List (Cell A I)) (edges : List (ℕ × ℕ)) → Linked cells edges → ((a b : ℕ) → LevelAt cells a b) → IsNet cells edges
  net_read cells edges l h = record { linked = l; known = λ a b p c out into. level_known p c (h a b p c out into) }

  no_box : (o : Option (Cell A I)) (b : ℕ) → box_of o b ≡ false → waits_of o b ≡ []
  no_box None b h = refl
  no_box (Some c) b h = go (get_or c.post.boxes.items b None) h
    where
      go : (q : Option (VecDeque (Stamped I) Global)) → is_some q ≡ false → box_items q ≡ []
      go None e = refl
      go (Some q) e = absurd cc

module _ {A P I : Type 0} (part : A → P) (makes : Makes P I) (took : A → ℕ → I → List (Deed I) → A → Type 0) (turned : A → List (Deed I) → A → Type 0) where
  memory_at : (o : Option (Cell A I)) → failed_at o ≡ false → has_memory part makes took turned o
  memory_at None h = tt
  memory_at (Some c) h = h

  did_actor : (o o' : Option (Cell A I)) (h : DidAt part makes took turned o o') (k : ℕ) (d : A) → is_some o ≡ true → cell_number o k ≡ k
      → ActorDid part makes took turned k (actor_at o d) (clock_in o) (notes_at part makes took turned o o' h) (actor_at o' d) (clock_in o')
  did_actor None o' h k d s e = absurd cc
  did_actor (Some c) None h k d s e = absurd h
  did_actor (Some c) (Some x) h k d s e = subst (λ n. ActorDid part makes took turned n c.actor (clock_of c.post) h.notes x.actor (clock_of x.post)) e h.did

  no_notes : (o o' : Option (Cell A I)) (h : DidAt part makes took turned o o') → o ≡ None → notes_at part makes took turned o o' h ≡ []
  no_notes None None h e = refl
  no_notes None (Some d) h e = absurd h
  no_notes (Some c) o' h e = absurd cc

  some_at : (cells : List (Cell A I)) (k : ℕ) → k < length cells → is_some (slice_get cells k) ≡ true
  some_at [] k h = absurd (omega arith)
  some_at (c ∷ cells) zero h = refl
  some_at (c ∷ cells) (suc k) h = some_at cells k (omega arith)

  length_actors : (cells : List (Cell A I)) → length (map (λ (c : Cell A I). c.actor) cells) ≡ length cells
  length_actors [] = refl
  length_actors (c ∷ cells) = ap (λ n. suc n) (length_actors cells)

  pub phase_done : (old mid new : List (Cell A I)) (edges : List (ℕ × ℕ)) → length mid ≡ length old → length new ≡ length mid → IsNet old edges
      → ((k : ℕ) (d : Cell A I) → k < length old → CellTurned part makes took turned (get_or old k d) (get_or mid k d)) → Looked mid new
      → ((a b : ℕ) → LevelAt new a b)
      → list_any (λ (c : Cell A I). c.has_failed) new ≡ false → NetPhase part makes took turned (view_of old edges) (view_of new edges)
  phase_done old mid new edges len len' net turns looked level fine = record {
    notes = notes;
    size = length_actors new ∙ len' ∙ len ∙ sym (length_actors old);
    actors = λ k d k_in. rw (
      actor_get old k d,
      actor_get new k d,
      same_actor (slice_get mid k) (slice_get new k) d (looked.rest k),
      same_clock (slice_get mid k) (slice_get new k) (looked.rest k),
    )
        (did_actor (slice_get old k) (slice_get mid k) (did k) k d (some_at old k (omega (arith, length_actors old, k_in))) (net.linked.numbers k));
    none = λ k past. no_notes (slice_get old k) (slice_get mid k) (did k) (slice_get_past old k (omega (arith, length_actors old, past)));
    journals = λ k. same_journal (slice_get mid k) (slice_get new k) (looked.rest k)
        ∙ did_journal part makes took turned (slice_get old k) (slice_get mid k) (did k);
    edges = λ a b. refl;
    carries = λ a b e. carries a b e;
    apart = λ a b e. apart a b e;
    known = λ a b. prefix_length (ring_known (in_end old a b)) (taken_from a (notes b)) (known_taken a b);
    pushed = λ a b. by_edge a b (is_edge edges a b) refl;
  }
    where
      at : (k : ℕ) → TurnedAt part makes took turned (slice_get old k) (slice_get mid k)
      at = turned_at part makes took turned old mid len turns

      did : (k : ℕ) → DidAt part makes took turned (slice_get old k) (slice_get mid k)
      did k = did_at part makes took turned (slice_get old k) (slice_get mid k)
          (memory_at (slice_get mid k) (sym (same_failed (slice_get mid k) (slice_get new k) (looked.rest k)) ∙ none_failed new k fine)) (at k)

      notes : ℕ → List (Noted I)
      notes k = notes_at part makes took turned (slice_get old k) (slice_get mid k) (did k)

      linked : Linked new edges
      linked = linked_kept mid new edges (kept_looked mid new looked) (linked_kept old mid edges (kept_turned part makes took turned old mid at) net.linked)

      both : (a b : ℕ) → is_some (out_end old a b) ≡ is_some (in_end old a b)
      both a b = net.linked.outs a b ∙ sym (net.linked.ins a b)

      emptied : (a b : ℕ) → Emptied (in_end old a b) (taken_from a (notes b)) (in_end mid a b)
      emptied a b = did_emptied part makes took turned (slice_get old b) (slice_get mid b) (did b) a

      known_taken : (a b : ℕ) → IsPrefix (ring_known (in_end old a b)) (taken_from a (notes b))
      known_taken a b = (emptied a b).known (small_in (out_end old a b) (in_end old a b) (both a b) (net.linked.joined a b))

      more : (a b : ℕ) → ring_received (in_end new a b) ≡ ring_received (in_end old a b) ++ taken_from a (notes b)
      more a b = looked_received (in_end mid a b) (in_end new a b) (looked.ins a b) ∙ (emptied a b).received

      said : (a b : ℕ) → is_edge edges a b ≡ true
          → ring_sent (out_end new a b) ++ waits_of (slice_get new a) b ≡ ring_sent (out_end old a b) ++ (waits_of (slice_get old a) b ++ sent_to b (notes a))
      said a b e = rw (looked_sent (out_end mid a b) (out_end new a b) (looked.outs a b), same_waits (slice_get mid a) (slice_get new a) b (looked.rest a))
          (did_said part makes took turned (slice_get old a) (slice_get mid a) (did a) b (net.linked.boxes a b ∙ e))

      level_new : (a b : ℕ) → ring_received (in_end new a b) ++ ring_known (in_end new a b) ≡ ring_sent (out_end new a b)
      level_new a b = level_lists (out_end new a b) (in_end new a b) (linked.outs a b ∙ sym (linked.ins a b)) (level a b)

      carries : (a b : ℕ) → is_edge edges a b ≡ true
          → (ring_known (in_end old a b) ++ waits_of (slice_get old a) b) ++ sent_to b (notes a)
          ≡ taken_from a (notes b) ++ (ring_known (in_end new a b) ++ waits_of (slice_get new a) b)
      carries a b e = carried (ring_received (in_end old a b)) (ring_known (in_end old a b))
          (ring_sent (out_end old a b)) (waits_of (slice_get old a) b) (sent_to b (notes a)) (taken_from a (notes b))
          (ring_received (in_end new a b)) (ring_known (in_end new a b)) (ring_sent (out_end new a b)) (waits_of (slice_get new a) b)
          (more a b) (known_taken a b) (known_counts (out_end old a b) (in_end old a b) (both a b) (net.known a b)) (said a b e) (level_new a b)

      apart : (a b : ℕ) → is_edge edges a b ≡ false → taken_from a (notes b) ≡ []
      apart a b e =
          let was : in_end old a b ≡ None = none_out (in_end old a b) (net.linked.ins a b ∙ e) in
          let is : in_end new a b ≡ None = none_out (in_end new a b) (linked.ins a b ∙ e) in
          sym (ap (λ i. ring_received i ++ taken_from a (notes b)) was) ∙ sym (more a b) ∙ ap (λ i. ring_received i) is

      by_edge : (a b : ℕ) (t : Bool) → is_edge edges a b ≡ t
          → min 256 (length (ring_known (in_end old a b) ++ waits_of (slice_get old a) b))
          ≤ length (taken_from a (notes b)) + length (ring_known (in_end new a b))
      by_edge a b false e = rw (none_out (in_end old a b) (net.linked.ins a b ∙ e), no_box (slice_get old a) b (net.linked.boxes a b ∙ e)) (omega arith)
      by_edge a b true e = pushed (ring_received (in_end old a b)) (ring_known (in_end old a b))
          (ring_sent (out_end old a b)) (waits_of (slice_get old a) b) (sent_to b (notes a)) (taken_from a (notes b))
          (ring_received (in_end new a b)) (ring_known (in_end new a b))
          (ring_sent (out_end new a b)) (waits_of (slice_get new a) b) (ring_free (out_end old a b))
          (more a b) (carries a b e)
          (λ h. rw (looked_sent (out_end mid a b) (out_end new a b) (looked.outs a b)) (did_pushes part makes took turned (slice_get old a)
          (slice_get mid a) (did a) b (subst (λ xs. 0 < length xs) (same_waits (slice_get mid a) (slice_get new a) b (looked.rest a)) h)))
          (room_out (out_end old a b) (in_end old a b) (net.linked.outs a b ∙ e) (net.linked.ins a b ∙ e) (net.linked.joined a b) (net.known a b))
          (level_new a b)

  pub net_after : (old mid new : List (Cell A I)) (edges : List (ℕ × ℕ)) → length mid ≡ length old → IsNet old edges
      → ((k : ℕ) (d : Cell A I) → k < length old → CellTurned part makes took turned (get_or old k d) (get_or mid k d)) → Looked mid new
      → ((a b : ℕ) → LevelAt new a b) → IsNet new edges
  net_after old mid new edges len net turns looked level = net_read new edges
      (linked_kept mid new edges (kept_looked mid new looked)
      (linked_kept old mid edges (kept_turned part makes took turned old mid (turned_at part makes took turned old mid len turns)) net.linked)) level

  pub linked_after : (old mid : List (Cell A I)) (edges : List (ℕ × ℕ)) → length mid ≡ length old → IsNet old edges
      → ((k : ℕ) (d : Cell A I) → k < length old → CellTurned part makes took turned (get_or old k d) (get_or mid k d)) → Linked mid edges
  linked_after old mid edges len net turns =
      linked_kept old mid edges (kept_turned part makes took turned old mid (turned_at part makes took turned old mid len turns)) net.linked
