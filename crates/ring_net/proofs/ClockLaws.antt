-- Levelled clocks, and a call at a mark.
use Rattle.std.proofs.Common.{◌≡◌, ◌≢◌, ◌≤◌, ◌<◌, ◌+◌, ℕ, zero, suc, Bool, true, List, [], ◌∷◌, ◌++◌, length, get_or, map}
use Rattle.std.proofs.Common.{Option, Some, None, refl, ap, sym, subst, ◌∙◌, arith, append_assoc, inl, inr}
use Rattle.std.proofs.Math.ListN.{set}
use Rattle.std.specs.Prelude.{slice_get, is_some}
use Rattle.std.specs.Option.{option_map}
use Rattle.std.specs.List.{AllByRecursion}
use Rattle.std.proofs.lemmas.List.{length-set, get_or_default}
use Rattle.std.proofs.lemmas.Bool.Decides.{eqb_tells}
use Rattle.std.proofs.lemmas.Option.{slice_get-map, slice_get-get_or, get_or_from_slice_get}
use Rattle.ring_net.specs.declared.cell.Cell.{Cell}
use Rattle.ring_net.specs.Deeds.{Deed, Makes, Replay, IsDeedOf, Counted, sent_by}
use Rattle.ring_net.specs.Posts.{actor_of, clock_of, has_edge, Moved, Pauses}
use Rattle.ring_net.specs.Ends.{ring_known}
use Rattle.ring_net.specs.Cells.{with_clock}
use Rattle.ring_net.specs.Clocks.{LevelsAll, PausesCell, KeepsEnds, PausesAt}
use Rattle.ring_net.specs.Nets.{Linked, IsNet, out_of, in_of, out_end, in_end, box_of, waits_of, journal_of, clock_in, cell_number, view_of}
use Rattle.ring_net.specs.Phases.{is_edge, IsGreatest, OnlyClocks, Levelled, AllAt, Between}
use Rattle.ring_net.proofs.EdgeReads.{slice_get-set_same, slice_get-set_other}
use Rattle.ring_net.proofs.NetPhases.{actor_get, actor_at}

-- ---- lists

pub same_list : {X : Type 0} (xs ys : List X) → length xs ≡ length ys → ((k : ℕ) (d : X) → k < length xs → get_or xs k d ≡ get_or ys k d) → xs ≡ ys
same_list [] [] h f = refl
same_list [] (y ∷ ys) h f = absurd (omega arith)
same_list (x ∷ xs) [] h f = absurd (omega arith)
same_list (x ∷ xs) (y ∷ ys) h f = both (f 0 x (omega arith)) (same_list xs ys (omega arith) (λ k d l. f (suc k) d (omega arith)))
  where
    both : {Z : Type 0} {a b : Z} {us vs : List Z} → a ≡ b → us ≡ vs → a ∷ us ≡ b ∷ vs
    both e g = cc

pub get_or-map_in : {X Y : Type 0} (f : X → Y) (xs : List X) (k : ℕ) (d : X) (e : Y) → k < length xs → get_or (map f xs) k e ≡ f (get_or xs k d)
get_or-map_in f [] k d e h = absurd (omega arith)
get_or-map_in f (x ∷ xs) zero d e h = refl
get_or-map_in f (x ∷ xs) (suc k) d e h = get_or-map_in f xs k d e (omega arith)

pub length-map : {X Y : Type 0} (f : X → Y) (xs : List X) → length (map f xs) ≡ length xs
length-map f [] = refl
length-map f (x ∷ xs) = ap (λ n. suc n) (length-map f xs)

module _ {A I : Type 0} where
  -- each cell got the clock
  pub all_clocked : (old new : List (Cell A I)) (clock n : ℕ) → length new ≡ length old → length old ≤ n
      → ((k : ℕ) (d : Cell A I) → k < n → get_or new k d ≡ with_clock clock (get_or old k d)) → new ≡ map (with_clock clock) old
  all_clocked old new clock n len all h = same_list new (map (with_clock clock) old) (len ∙ sym (length-map (with_clock clock) old))
      (λ k d l. let k_in : k < length old = omega (arith, len, l) in h k d (omega (arith, k_in, all)) ∙ sym (get_or-map_in (with_clock clock) old k d d k_in))

  -- ---- what stays

  map_out : (c : ℕ) (o : Option (Cell A I)) (b : ℕ) → out_of (option_map (with_clock c) o) b ≡ out_of o b
  map_out c None b = refl
  map_out c (Some x) b = refl

  map_in : (c : ℕ) (o : Option (Cell A I)) (b : ℕ) → in_of (option_map (with_clock c) o) b ≡ in_of o b
  map_in c None b = refl
  map_in c (Some x) b = refl

  map_box : (c : ℕ) (o : Option (Cell A I)) (b : ℕ) → box_of (option_map (with_clock c) o) b ≡ box_of o b
  map_box c None b = refl
  map_box c (Some x) b = refl

  map_number : (c : ℕ) (o : Option (Cell A I)) (k : ℕ) → cell_number (option_map (with_clock c) o) k ≡ cell_number o k
  map_number c None b = refl
  map_number c (Some x) b = refl

  map_waits : (c : ℕ) (o : Option (Cell A I)) (b : ℕ) → waits_of (option_map (with_clock c) o) b ≡ waits_of o b
  map_waits c None b = refl
  map_waits c (Some x) b = refl

  map_journal : (c : ℕ) (o : Option (Cell A I)) → journal_of (option_map (with_clock c) o) ≡ journal_of o
  map_journal c None = refl
  map_journal c (Some x) = refl

  map_actors : (c : ℕ) (cells : List (Cell A I)) → map (λ (z : Cell A I). z.actor) (map (with_clock c) cells) ≡ map (λ (z : Cell A I). z.actor) cells
  map_actors c [] = refl
  map_actors c (x ∷ cells) = ap (λ zs. x.actor ∷ zs) (map_actors c cells)

  pub keeps_clock : (c : ℕ) (cells : List (Cell A I)) → KeepsEnds cells (map (with_clock c) cells)
  keeps_clock c cells = record {
    outs = λ a b. ap (λ o. out_of o b) (slice_get-map (with_clock c) cells a) ∙ map_out c (slice_get cells a) b;
    ins = λ a b. ap (λ o. in_of o a) (slice_get-map (with_clock c) cells b) ∙ map_in c (slice_get cells b) a;
    boxes = λ a b. ap (λ o. box_of o b) (slice_get-map (with_clock c) cells a) ∙ map_box c (slice_get cells a) b;
    numbers = λ k. ap (λ o. cell_number o k) (slice_get-map (with_clock c) cells k) ∙ map_number c (slice_get cells k) k;
  }

  pub keeps_level : (old new : List (Cell A I)) → LevelsAll old new → KeepsEnds old new
  keeps_level old new l = subst (λ cells. KeepsEnds old cells) (sym l.all) (keeps_clock l.clock old)

  pub keeps_then : (x y z : List (Cell A I)) → KeepsEnds x y → KeepsEnds y z → KeepsEnds x z
  keeps_then x y z h k = record {
    outs = λ a b. k.outs a b ∙ h.outs a b;
    ins = λ a b. k.ins a b ∙ h.ins a b;
    boxes = λ a b. k.boxes a b ∙ h.boxes a b;
    numbers = λ n. k.numbers n ∙ h.numbers n;
  }

  pub keeps_pause : (cells : List (Cell A I)) (k : ℕ) (x y : Cell A I) → k < length cells → slice_get cells k ≡ Some x → PausesCell x y
      → KeepsEnds cells (set cells k y)
  keeps_pause cells k x y k_in is p = record {
    outs = λ a b. by_index a (λ n. out_end (set cells k y) n b ≡ out_end cells n b)
        (rw (here, is, ap (λ (z : Cell A I). z.rings) p.only) refl) (λ ne. ap (λ o. out_of o b) (slice_get-set_other cells k a y ne));
    ins = λ a b. by_index b (λ n. in_end (set cells k y) a n ≡ in_end cells a n)
        (rw (here, is, ap (λ (z : Cell A I). z.ins) p.only) refl) (λ ne. ap (λ o. in_of o a) (slice_get-set_other cells k b y ne));
    boxes = λ a b. by_index a (λ n. box_of (slice_get (set cells k y) n) b ≡ box_of (slice_get cells n) b)
        (rw (here, is) (p.edges.edges b)) (λ ne. ap (λ o. box_of o b) (slice_get-set_other cells k a y ne));
    numbers = λ n. by_index n (λ n. cell_number (slice_get (set cells k y) n) n ≡ cell_number (slice_get cells n) n)
        (rw (here, is) p.edges.actor) (λ ne. ap (λ o. cell_number o n) (slice_get-set_other cells k n y ne));
  }
    where
      here : slice_get (set cells k y) k ≡ Some y
      here = slice_get-set_same cells k y k_in

      by_index : (n : ℕ) (Q : ℕ → Type 0) → Q k → (n ≢ k → Q n) → Q n
      by_index n Q h f = elim (eqb_tells n k) [ inl s ↦ subst (λ m. Q m) (sym s.1) h | inr ne ↦ f ne.1 ]

  pub net_keeps : (old new : List (Cell A I)) (edges : List (ℕ × ℕ)) → KeepsEnds old new → IsNet old edges → IsNet new edges
  net_keeps old new edges k h = record {
    linked = record {
      joined = λ a b p c out into. h.linked.joined a b p c (sym (k.outs a b) ∙ out) (sym (k.ins a b) ∙ into);
      outs = λ a b. ap is_some (k.outs a b) ∙ h.linked.outs a b;
      ins = λ a b. ap is_some (k.ins a b) ∙ h.linked.ins a b;
      boxes = λ a b. k.boxes a b ∙ h.linked.boxes a b;
      apart = h.linked.apart;
      numbers = λ n. k.numbers n ∙ h.linked.numbers n;
    };
    known = λ a b p c out into. h.known a b p c (sym (k.outs a b) ∙ out) (sym (k.ins a b) ∙ into);
  }

  -- ---- what the layer above sees

  clock_get : (cells : List (Cell A I)) (k : ℕ) (d : Cell A I) → k < length cells → clock_in (slice_get cells k) ≡ clock_of (get_or cells k d).post
  clock_get cells k d h = ap (λ o. clock_in o) (slice_get-get_or cells k d h)

  some_cell : (cells : List (Cell A I)) (k : ℕ) → k < length cells → Cell A I
  some_cell [] k h = absurd (omega arith)
  some_cell (c ∷ cells) k h = c

  pub greatest_view : (old new : List (Cell A I)) (edges : List (ℕ × ℕ)) (l : LevelsAll old new)
      → IsGreatest (length (view_of old edges).actors) (view_of old edges).clock l.clock
  greatest_view old new edges l = record {
    bound = λ k h. let k_in : k < length old = omega (arith, h, length-map (λ (z : Cell A I). z.actor) old) in
        subst (λ n. n ≤ l.clock) (sym (clock_get old k (some_cell old k k_in) k_in)) (l.bound k (some_cell old k k_in) k_in);
    here = l.here;
    within = omega (arith, l.within, length-map (λ (z : Cell A I). z.actor) old);
    is = clock_get old l.here (some_cell old l.here l.within) l.within ∙ l.is (some_cell old l.here l.within);
  }

  pub level_view : (old new : List (Cell A I)) (edges : List (ℕ × ℕ)) (l : LevelsAll old new) → AllAt (view_of new edges) l.clock
  level_view old new edges l k h =
      let k_in : k < length old = omega (
        arith,
        h,
        ap (λ cells. length (map (λ (z : Cell A I). z.actor) cells)) l.all,
        ap (λ zs. length zs) (map_actors l.clock old),
        length-map (λ (z : Cell A I). z.actor) old,
      ) in
      ap (λ cells. clock_in (slice_get cells k)) l.all
      ∙ ap (λ o. clock_in o)
      (slice_get-map (with_clock l.clock) old k ∙ ap (λ o. option_map (with_clock l.clock) o) (slice_get-get_or old k (some_cell old k k_in) k_in))

  pub only_clocks : (old new : List (Cell A I)) (edges : List (ℕ × ℕ)) → LevelsAll old new → OnlyClocks (view_of old edges) (view_of new edges)
  only_clocks old new edges l = subst (λ cells. OnlyClocks (view_of old edges) (view_of cells edges)) (sym l.all) (record {
    actors = map_actors l.clock old;
    journals = λ k. ap (λ o. journal_of o) (slice_get-map (with_clock l.clock) old k) ∙ map_journal l.clock (slice_get old k);
    edges = λ a b. refl;
    channels = λ a b. ap (λ o. ring_known o ++ waits_of (slice_get (map (with_clock l.clock) old) a) b) ((keeps_clock l.clock old).ins a b)
        ∙ ap (λ ws. ring_known (in_end old a b) ++ ws)
        (ap (λ o. waits_of o b) (slice_get-map (with_clock l.clock) old a) ∙ map_waits l.clock (slice_get old a) b);
    rings = λ a b. ap (λ o. length (ring_known o)) ((keeps_clock l.clock old).ins a b);
  })

  pub levelled : (old new : List (Cell A I)) (edges : List (ℕ × ℕ)) → LevelsAll old new → Levelled (view_of old edges) (view_of new edges)
  levelled old new edges l =
      record { only = only_clocks old new edges l; clock = l.clock; greatest = greatest_view old new edges l; level = level_view old new edges l }

module _ {I : Type 0} where
  counted_rises : (c d : ℕ) (ds : List (Deed I)) → Counted c ds d → c ≤ d
  counted_rises c d [] h = omega (arith, h)
  counted_rises c d (x ∷ xs) h = let k = counted_rises (c + 1) d xs h.1 in omega (arith, k)

module _ {A P I : Type 0} (part : A → P) (makes : Makes P I) (moves : A → List (Deed I) → A → Type 0) where
  pub between : (k : ℕ) (old new : List (Cell A I)) (edges : List (ℕ × ℕ)) (answer : Bool) → IsNet old edges → k < length old
      → PausesAt part makes moves k old new answer → Between part makes moves k (view_of old edges) (view_of new edges) answer
  between k old new edges answer net k_in p = record {
    deeds = ds;
    from = p.before.clock;
    to = p.after.clock;
    greatest = greatest_view old p.first edges p.before;
    level = level_view second new edges p.after;
    counted = subst (λ c. Counted c ds p.after.clock) x_clock (subst (λ c. Counted (clock_of x.post) ds c) last m.wrote.clocks);
    own = subst (λ n. AllByRecursion (IsDeedOf n) ds) x_number m.wrote.own;
    none = m.none;
    answer = pauses.none;
    size = ap (λ zs. length zs) (only_clocks second new edges p.after).actors ∙ length-map (λ (z : Cell A I). z.actor) second ∙ length-set'
        ∙ sym (length-map (λ (z : Cell A I). z.actor) p.first) ∙ ap (λ zs. length zs) (only_clocks old p.first edges p.before).actors;
    paused = λ d. rw (actor_old d, actor_new d) m.moved;
    replay = λ d. rw (actor_old d, actor_new d) (subst (λ n. Replay makes n (part x.actor) ds (part p.cell.actor)) x_number m.replay);
    others = λ j d ne. ap (λ zs. get_or zs j d) (only_clocks second new edges p.after).actors ∙ actor_get second j d
        ∙ ap (λ o. actor_at o d) (slice_get-set_other p.first k j p.cell ne) ∙ sym (actor_get p.first j d)
        ∙ ap (λ zs. get_or zs j d) (only_clocks old p.first edges p.before).actors;
    journal = (only_clocks second new edges p.after).journals k ∙ ap (λ o. journal_of o) at_second ∙ m.wrote.entries
        ∙ ap (λ es. es ++ map (λ (d : Deed I). d.entry) ds) (sym (ap (λ o. journal_of o) at_first) ∙ (only_clocks old p.first edges p.before).journals k);
    journals = λ j ne. (only_clocks second new edges p.after).journals j ∙ ap (λ o. journal_of o) (slice_get-set_other p.first k j p.cell ne)
        ∙ (only_clocks old p.first edges p.before).journals j;
    edges = λ a b. refl;
    channel = λ b e. (only_clocks second new edges p.after).channels k b ∙ middle b e
        ∙ ap (λ xs. xs ++ sent_by b ds) ((only_clocks old p.first edges p.before).channels k b);
    channels = λ a b ne. (only_clocks second new edges p.after).channels a b ∙ aside a b ne ∙ (only_clocks old p.first edges p.before).channels a b;
    rings = λ a b. (only_clocks second new edges p.after).rings a b ∙ ap (λ o. length (ring_known o)) (kept.ins a b)
        ∙ (only_clocks old p.first edges p.before).rings a b;
  }
    where
      d0 : Cell A I
      d0 = some_cell old k k_in

      second : List (Cell A I)
      second = set p.first k p.cell

      x : Cell A I
      x = get_or p.first k d0

      len_first : length p.first ≡ length old
      len_first = ap (λ cells. length cells) p.before.all ∙ length-map (with_clock p.before.clock) old

      first_in : k < length p.first
      first_in = omega (arith, len_first, k_in)

      at_first : slice_get p.first k ≡ Some x
      at_first = slice_get-get_or p.first k d0 first_in

      at_second : slice_get second k ≡ Some p.cell
      at_second = slice_get-set_same p.first k p.cell first_in

      length-set' : length second ≡ length p.first
      length-set' = length-set p.first k p.cell

      pauses : Pauses part makes moves x.actor x.post p.cell.actor p.cell.post answer
      pauses = p.is d0

      m : Moved part makes moves x.actor x.post p.cell.actor p.cell.post
      m = pauses.moved

      ds : List (Deed I)
      ds = m.deeds

      kept : KeepsEnds p.first second
      kept = keeps_pause p.first k x p.cell first_in at_first (p.only d0)

      first_linked : Linked p.first edges
      first_linked = (net_keeps old p.first edges (keeps_level old p.first p.before) net).linked

      x_number : actor_of x.post ≡ k
      x_number = sym (ap (λ o. cell_number o k) at_first) ∙ first_linked.numbers k

      x_clock : clock_of x.post ≡ p.before.clock
      x_clock = sym (ap (λ o. clock_in o) at_first)
          ∙ level_view old p.first edges p.before k (omega (arith, first_in, length-map (λ (z : Cell A I). z.actor) p.first))

      get_second : (d : Cell A I) → get_or second k d ≡ p.cell
      get_second d = get_or_from_slice_get second k p.cell d at_second

      last : clock_of p.cell.post ≡ p.after.clock
      last = elim (eqb_tells p.after.here k) [
        | inl s ↦ sym (ap (λ (z : Cell A I). clock_of z.post) (get_second d0))
            ∙ subst (λ n. clock_of (get_or second n d0).post ≡ p.after.clock) s.1 (p.after.is d0)
        | inr ne ↦
            let here_in : p.after.here < length p.first = omega (arith, p.after.within, length-set') in
            let low : p.after.clock ≡ p.before.clock =
            sym (p.after.is d0) ∙ sym (clock_get second p.after.here d0 p.after.within)
            ∙ ap (λ o. clock_in o) (slice_get-set_other p.first k p.after.here p.cell ne.1)
            ∙ level_view old p.first edges p.before p.after.here (omega (arith, here_in, length-map (λ (z : Cell A I). z.actor) p.first)) in
            let up : clock_of x.post ≤ clock_of p.cell.post = counted_rises (clock_of x.post) (clock_of p.cell.post) ds m.wrote.clocks in
            let bound : clock_of (get_or second k d0).post ≤ p.after.clock = p.after.bound k d0 (omega (arith, length-set', first_in)) in
            let is : clock_of (get_or second k d0).post ≡ clock_of p.cell.post = ap (λ (z : Cell A I). clock_of z.post) (get_second d0) in
            omega (arith, low, up, bound, is, x_clock)
      ]

      actor_old : (d : A) → get_or (map (λ (z : Cell A I). z.actor) old) k d ≡ x.actor
      actor_old d = sym (ap (λ zs. get_or zs k d) (only_clocks old p.first edges p.before).actors) ∙ actor_get p.first k d ∙ ap (λ o. actor_at o d) at_first

      actor_new : (d : A) → get_or (map (λ (z : Cell A I). z.actor) new) k d ≡ p.cell.actor
      actor_new d = ap (λ zs. get_or zs k d) (only_clocks second new edges p.after).actors ∙ actor_get second k d ∙ ap (λ o. actor_at o d) at_second

      has_box : (b : ℕ) → is_edge edges k b ≡ true → has_edge x.post b ≡ true
      has_box b e = sym (ap (λ o. box_of o b) at_first) ∙ first_linked.boxes k b ∙ e

      middle : (b : ℕ) → is_edge edges k b ≡ true
          → ring_known (in_end second k b) ++ waits_of (slice_get second k) b
          ≡ (ring_known (in_end p.first k b) ++ waits_of (slice_get p.first k) b) ++ sent_by b ds
      middle b e = ap (λ o. ring_known o ++ waits_of (slice_get second k) b) (kept.ins k b)
          ∙ ap (λ ws. ring_known (in_end p.first k b) ++ ws)
          (ap (λ o. waits_of o b) at_second ∙ m.wrote.boxes b (has_box b e) ∙ ap (λ ws. ws ++ sent_by b ds) (sym (ap (λ o. waits_of o b) at_first)))
          ∙ sym (append_assoc (ring_known (in_end p.first k b)) (waits_of (slice_get p.first k) b) (sent_by b ds))

      aside : (a b : ℕ) → a ≢ k
          → ring_known (in_end second a b) ++ waits_of (slice_get second a) b ≡ ring_known (in_end p.first a b) ++ waits_of (slice_get p.first a) b
      aside a b ne = ap (λ o. ring_known o ++ waits_of (slice_get second a) b) (kept.ins a b)
          ∙ ap (λ o. ring_known (in_end p.first a b) ++ waits_of o b) (slice_get-set_other p.first k a p.cell ne)

  -- the cell is paused at its index, between two levellings
  pub pauses_at : (old first new : List (Cell A I)) (k : ℕ) (d y : Cell A I) (answer : Bool) → k < length old → LevelsAll old first
      → PausesCell (get_or first k d) y
      → Pauses part makes moves (get_or first k d).actor (get_or first k d).post y.actor y.post answer → LevelsAll (set first k y) new
      → PausesAt part makes moves k old new answer
  pauses_at old first new k d y answer k_in l only pauses m = record {
    first = first;
    cell = y;
    before = l;
    is = λ e. subst (λ (z : Cell A I). Pauses part makes moves z.actor z.post y.actor y.post answer) (same e) pauses;
    only = λ e. subst (λ (z : Cell A I). PausesCell z y) (same e) only;
    after = m;
  }
    where
      len_first : length first ≡ length old
      len_first = ap (λ cells. length cells) l.all ∙ length-map (with_clock l.clock) old

      same : (e : Cell A I) → get_or first k d ≡ get_or first k e
      same e = get_or_default first k d e (omega (arith, len_first, k_in))

module _ {A I : Type 0} where
  pub keeps_pause_at : (old first : List (Cell A I)) (k : ℕ) (d y : Cell A I) → k < length old → LevelsAll old first
      → PausesCell (get_or first k d) y → KeepsEnds old (set first k y)
  keeps_pause_at old first k d y k_in l only =
      let len_first : length first ≡ length old = ap (λ cells. length cells) l.all ∙ length-map (with_clock l.clock) old in
      let within : k < length first = omega (arith, len_first, k_in) in
      keeps_then old first (set first k y) (keeps_level old first l) (keeps_pause first k (get_or first k d) y within (slice_get-get_or first k d within) only)
