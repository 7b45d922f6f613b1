-- Fields of a part that are the same whatever stands behind it.
use Rattle.std.proofs.Common.{◌≡◌, ℕ, ◌≤◌, Bool, true, false, List, ◌++◌, length, take, drop, refl, sym, ap, ◌∙◌, arith}
use Rattle.std.specs.Prelude.{if◌then◌else◌}
use Rattle.std.proofs.lemmas.Bool.{cond-true, cond-false, cond_both, both_ways}
use Rattle.std.proofs.lemmas.List.{take-append-drop, length-take-le}
use Rattle.pcap_form.specs.Blocks.{begins_section}
use Rattle.pcap_form.proofs.Rows.{AllRight}
use Rattle.pcap_form.proofs.Fronts.{begins-append}

-- Of a kind of parts: what must be there for its fields to be read, and that they then don't change with what stands behind.
pub record IsLocal (fields : List ℕ → List (ℕ × Bool)) (size : List ℕ → ℕ) (Enough : List ℕ → Type 0) : Type 0 where
  pub some : (xs : List ℕ) → Enough xs → 4 ≤ length xs
  pub same_size : (xs ys : List ℕ) → Enough xs → size (xs ++ ys) ≡ size xs
  pub same : (xs ys : List ℕ) → Enough xs → length xs ≡ size xs → fields (xs ++ ys) ≡ fields xs
  pub enough : (xs : List ℕ) → AllRight (fields xs) → Enough xs
  pub short : (xs : List ℕ) → AllRight (fields xs) → size xs ≤ length xs
  pub front : (xs : List ℕ) → AllRight (fields xs) → Enough (take (size xs) xs)

-- ---- parts of two kinds, by whether they begin a section

abbrev pub EnoughIf : (One Two : List ℕ → Type 0) → List ℕ → Type 0
EnoughIf One Two xs = (4 ≤ length xs) × (begins_section xs ≡ true → One xs) × (begins_section xs ≡ false → Two xs)

begins-take : (xs : List ℕ) (n : ℕ) → 4 ≤ length (take n xs) → begins_section (take n xs) ≡ begins_section xs
begins-take xs n long = sym (begins-append (take n xs) (drop n xs) long) ∙ ap begins_section (take-append-drop n xs)

pub begins-take_at : (xs : List ℕ) (n : ℕ) → 4 ≤ n → n ≤ length xs → begins_section (take n xs) ≡ begins_section xs
begins-take_at xs n long within = begins-take xs n (omega (arith, length-take-le n xs within, long))

either : {P : Type 0} (b : Bool) → (b ≡ true → P) → (b ≡ false → P) → P
either true one two = one refl
either false one two = two refl

same_if : {A : Type 0} (b : Bool) (u u' v v' : A) → (b ≡ true → u ≡ u') → (b ≡ false → v ≡ v') → (if b then u else v) ≡ (if b then u' else v')
same_if true u u' v v' one two = one refl
same_if false u u' v v' one two = two refl

same_behind : {A : Type 0} (u v : List ℕ → A) (xs ys : List ℕ) → 4 ≤ length xs → (begins_section xs ≡ true → u (xs ++ ys) ≡ u xs)
    → (begins_section xs ≡ false → v (xs ++ ys) ≡ v xs)
    → (if begins_section (xs ++ ys) then u (xs ++ ys) else v (xs ++ ys)) ≡ (if begins_section xs then u xs else v xs)
same_behind u v xs ys long one two =
    ap (λ (b : Bool). if b then u (xs ++ ys) else v (xs ++ ys)) (begins-append xs ys long)
    ∙ same_if (begins_section xs) (u (xs ++ ys)) (u xs) (v (xs ++ ys)) (v xs) one two

rows_if : (b : Bool) (one two : List (ℕ × Bool)) → AllRight (if b then one else two) → (b ≡ true → AllRight one) × (b ≡ false → AllRight two)
rows_if true one two rows = (λ e. rows, λ e. absurd cc)
rows_if false one two rows = (λ e. absurd cc, λ e. rows)

front_one : (One Two : List ℕ → Type 0) (xs : List ℕ) (n : ℕ) → ((ys : List ℕ) → One ys → 4 ≤ length ys) → begins_section xs ≡ true → One (take n xs)
    → EnoughIf One Two (take n xs)
front_one One Two xs n some begins e =
    let long = some (take n xs) e in (long, λ is. e, λ no. absurd (both_ways (begins_section (take n xs)) no (begins-take xs n long ∙ begins)))

front_two : (One Two : List ℕ → Type 0) (xs : List ℕ) (n : ℕ) → ((ys : List ℕ) → Two ys → 4 ≤ length ys) → begins_section xs ≡ false → Two (take n xs)
    → EnoughIf One Two (take n xs)
front_two One Two xs n some other e =
    let long = some (take n xs) e in (long, λ is. absurd (both_ways (begins_section (take n xs)) (begins-take xs n long ∙ other) is), λ no. e)

pub if_local : (f g : List ℕ → List (ℕ × Bool)) (s t : List ℕ → ℕ) (One Two : List ℕ → Type 0) → IsLocal f s One → IsLocal g t Two
    → IsLocal (λ xs. if begins_section xs then f xs else g xs) (λ xs. if begins_section xs then s xs else t xs) (EnoughIf One Two)
if_local f g s t One Two one two = record {
  some = λ xs e. e.0;
  same_size = λ xs ys e. same_behind s t xs ys e.0 (λ b. one.same_size xs ys (e.1 b)) (λ b. two.same_size xs ys (e.2 b));
  same = λ xs ys e whole. same_behind f g xs ys e.0
      (λ b. one.same xs ys (e.1 b) (whole ∙ cond-true (begins_section xs) (s xs) (t xs) b))
      (λ b. two.same xs ys (e.2 b) (whole ∙ cond-false (begins_section xs) (s xs) (t xs) b));
  enough = λ xs rows.
      let r = rows_if (begins_section xs) (f xs) (g xs) rows in (
        either (begins_section xs) (λ b. one.some xs (one.enough xs (r.0 b))) (λ b. two.some xs (two.enough xs (r.1 b))),
        λ b. one.enough xs (r.0 b),
        λ b. two.enough xs (r.1 b),
      );
  short = λ xs rows.
      let r = rows_if (begins_section xs) (f xs) (g xs) rows in
      cond_both (begins_section xs) (s xs) (t xs) (λ n. n ≤ length xs) (λ b. one.short xs (r.0 b)) (λ b. two.short xs (r.1 b));
  front = λ xs rows.
      let r = rows_if (begins_section xs) (f xs) (g xs) rows in
      cond_both (begins_section xs) (s xs) (t xs) (λ n. EnoughIf One Two (take n xs))
      (λ b. front_one One Two xs (s xs) one.some b (one.front xs (r.0 b)))
      (λ b. front_two One Two xs (t xs) two.some b (two.front xs (r.1 b)));
}
