-- A net in which nothing has happened, and marks.
use Rattle.std.proofs.Common.{◌≡◌, ◌<◌, ℕ, zero, suc, List, [], ◌∷◌, ◌++◌, length, get_or, map, min, max}
use Rattle.std.proofs.Common.{◌-◌, ◌^◌, ◌≤◌, ◌+◌, ◌⊎◌, inl, inr, refl, ap, sym, ◌∙◌, arith}
use Rattle.std.specs.Prelude.{slice_get, sum_by}
use Rattle.std.proofs.lemmas.List.{get_or_default}
use Rattle.std.proofs.lemmas.List.Sums.{sum-map}
use Rattle.ring_net.specs.declared.cell.Cell.{Cell}
use Rattle.ring_net.specs.Posts.{entries_in}
use Rattle.ring_net.specs.Nets.{waits_of, journal_of, view_of}
use Rattle.ring_net.specs.Phases.{is_edge, IsNewNet, Marked, CountsAll}
use Rattle.ring_net.specs.Fresh.{Fresh}

module _ {A I : Type 0} where
  pub new_fresh : (cells : List (Cell A I)) (edges edges' : List (ℕ × ℕ)) (actors : List A) → edges' ≡ edges → Fresh cells edges
      → map (λ (c : Cell A I). c.actor) cells ≡ actors → IsNewNet actors edges (view_of cells edges')
  new_fresh cells edges edges' actors e f h = record {
    all = h;
    journals = f.journals;
    clocks = f.clocks;
    edge = λ a b. ap (λ es. is_edge es a b) e;
    channels = λ a b. ap (λ xs. xs ++ waits_of (slice_get cells a) b) (f.rings a b) ∙ f.boxes a b;
    rings = λ a b. ap (λ xs. length xs) (f.rings a b);
  }

  length_of : (cells : List (Cell A I)) (k : ℕ) → k < length cells
      → get_or (map (λ (c : Cell A I). length (entries_in c.post)) cells) k 0 ≡ length (journal_of (slice_get cells k))
  length_of [] k h = absurd (omega arith)
  length_of (c ∷ cells) zero h = refl
  length_of (c ∷ cells) (suc k) h = length_of cells k (omega arith)

  same_length : {X Y : Type 0} (f : Cell A I → X) (g : Cell A I → Y) (cells : List (Cell A I)) → length (map f cells) ≡ length (map g cells)
  same_length f g [] = refl
  same_length f g (c ∷ cells) = ap (λ n. suc n) (same_length f g cells)

  length_map : {X : Type 0} (f : Cell A I → X) (cells : List (Cell A I)) → length (map f cells) ≡ length cells
  length_map f [] = refl
  length_map f (c ∷ cells) = ap (λ n. suc n) (length_map f cells)

  pub marked_lengths : (cells : List (Cell A I)) (edges : List (ℕ × ℕ)) (old new : List (List ℕ)) (mark : List ℕ)
      → mark ≡ map (λ (c : Cell A I). length (entries_in c.post)) cells → new ≡ old ++ mark ∷ []
      → Marked (view_of cells edges) old new
  marked_lengths cells edges old new mark e f = record {
    mark = mark;
    marks = f;
    size = ap (λ xs. length xs) e ∙ same_length (λ (c : Cell A I). length (entries_in c.post)) (λ (c : Cell A I). c.actor) cells;
    lengths = λ k h. ap (λ xs. get_or xs k 0) e ∙ length_of cells k (omega (arith, h, length_map (λ (c : Cell A I). c.actor) cells));
  }

  pub counts_all : (cells : List (Cell A I)) (edges : List (ℕ × ℕ)) (count : ℕ)
      → count ≡ min (sum_by (λ (c : Cell A I). length (entries_in c.post)) cells) (2 ^ 64 - 1) → CountsAll (view_of cells edges) count
  counts_all cells edges count e = record {
    each = map (λ (c : Cell A I). length (entries_in c.post)) cells;
    size = same_length (λ (c : Cell A I). length (entries_in c.post)) (λ (c : Cell A I). c.actor) cells;
    lengths = λ k h. length_of cells k (omega (arith, h, length_map (λ (c : Cell A I). c.actor) cells));
    total = e ∙ ap (λ n. min n (2 ^ 64 - 1)) (sym (sum-map (λ (c : Cell A I). length (entries_in c.post)) cells));
  }

-- the greatest of the first ones
pub record Greatest {X : Type 0} (f : X → ℕ) (xs : List X) (i g : ℕ) : Type 0 where
  pub bound : (k : ℕ) (d : X) → k < i → f (get_or xs k d) ≤ g
  pub is : (k : ℕ) × (k < length xs) × ((d : X) → f (get_or xs k d) ≡ g)

pub greatest_more : {X : Type 0} (f : X → ℕ) (xs : List X) (i g m : ℕ) (x : X) → i < length xs → x ≡ get_or xs i x → m ≡ max g (f x)
    → Greatest f xs i g → Greatest f xs (i + 1) m
greatest_more {X} f xs i g m x i_in is_x is_m h = record {
  bound = λ k d below. elim (last k below) [
    | inl lt ↦ omega (arith, h.bound k d lt, is_m)
    | inr e ↦ omega (arith, is_m, here k d e)
  ];
  is = elim (either g (f x)) [
    | inl le ↦ (i, i_in, λ d. here i d refl ∙ omega (arith, is_m, le))
    | inr ge ↦ (h.is.0, h.is.1, λ d. h.is.2 d ∙ omega (arith, is_m, ge))
  ];
}
  where
    last : (k : ℕ) → k < i + 1 → (k < i) ⊎ (k ≡ i)
    last k below = grind arith

    either : (a b : ℕ) → (a ≤ b) ⊎ (b ≤ a)
    either a b = grind arith

    here : (k : ℕ) (d : X) → k ≡ i → f (get_or xs k d) ≡ f x
    here k d e = ap f (ap (λ n. get_or xs n d) e ∙ get_or_default xs i d x i_in ∙ sym is_x)
