-- Messages behind an opening.
use Rattle.std.proofs.Common.{◌≡◌, ℕ, ◌≤◌, ◌+◌, max, List, [], ◌∷◌, ◌++◌, length, take, drop, cond, eqb, leb, ltb, Bool, true, false}
use Rattle.std.proofs.Common.{refl, sym, ap, ◌∙◌, subst, arith}
use Rattle.std.specs.Prelude.{◌&&◌}
use Rattle.std.specs.List.{flat_map}
use Rattle.std.proofs.lemmas.Bool.{le-ltb, cond-false, and_from, and_parts, eq-eqb, eqb-true, le-leb, leb-true}
use Rattle.std.proofs.lemmas.List.{append-nil, drop_all, drop_at, drop-append-le}
use Rattle.bgp_types.specs.Header.{kind_in}
use Rattle.imported_sessions.specs.declared.heard.Opening.{Opening}
use Rattle.imported_sessions.specs.declared.heard.Stage.{Stage}
use Rattle.imported_sessions.specs.declared.heard.Stage.TheVariants.{Nothing, Open, Whole}
use Rattle.imported_sessions.specs.Messages.{opening_len}
use Rattle.imported_sessions.specs.Heard.{opening_of, behind}

-- whether a second message is part of the opening
abbrev pub joins : (first next : List ℕ) → Bool
joins first next = (eqb (kind_in next) 4) && leb (length first + length next) 4096

one_or_two : (t : Bool) → (1 ≤ cond t 2 1) × (cond t 2 1 ≤ 2)
one_or_two true = (omega arith, omega arith)
one_or_two false = (omega arith, omega arith)

-- the messages behind the opening from the n-th on, and one more message
pub one_more_behind : (all : List (List ℕ)) (message : List ℕ) (n : ℕ) → n ≤ length all
    → drop (max (opening_len (all ++ message ∷ [])) n) (all ++ message ∷ []) ≡ drop (max (opening_len all) n) all ++ behind all message
unfolding behind
one_more_behind [] message n within =
    drop_all (max 1 n) (message ∷ []) (omega arith) ∙ sym (ap (λ (xs : List (List ℕ)). xs ++ []) (drop_all (max 0 n) [] (omega arith)))
one_more_behind (a ∷ []) message n within = by_test (joins a message) where
  by_test : (t : Bool) → drop (max (cond t 2 1) n) (a ∷ message ∷ []) ≡ drop (max 1 n) (a ∷ []) ++ cond (ltb 1 (cond t 2 1)) [] (message ∷ [])
  by_test true =
      drop_all (max 2 n) (a ∷ message ∷ []) (omega arith) ∙ sym (ap (λ (xs : List (List ℕ)). xs ++ []) (drop_all (max 1 n) (a ∷ []) (omega arith)))
  by_test false =
      let one : max 1 n ≡ 1 = omega (arith, within) in
      ap (λ k. drop k (a ∷ message ∷ [])) one ∙ sym (ap (λ k. drop k (a ∷ []) ++ message ∷ []) one)
one_more_behind (a ∷ b ∷ all) message n within =
    let len = cond (joins a b) 2 1 in
    let few : len ≤ 2 = (one_or_two (joins a b)).1 in
    drop-append-le (max len n) (a ∷ b ∷ all) (message ∷ []) (omega (arith, few, within))
    ∙ ap (λ xs. drop (max len n) (a ∷ b ∷ all) ++ xs)
    (sym (cond-false (ltb (length (a ∷ b ∷ all)) len) [] (message ∷ []) (le-ltb (length (a ∷ b ∷ all)) len (omega (arith, few)))))

-- the messages behind the opening, and those of more messages
pub behind_more : (before more : List (List ℕ))
    → drop (opening_len (before ++ more)) (before ++ more)
    ≡ drop (opening_len before) before ++ drop (max (opening_len (before ++ more)) (length before)) (before ++ more)
behind_more [] more = let same : max (opening_len more) 0 ≡ opening_len more = omega arith in ap (λ n. drop n more) (sym same)
behind_more (a ∷ []) [] = refl
behind_more (a ∷ []) (b ∷ more) =
    let len = cond (joins a b) 2 1 in
    let some : 1 ≤ len = (one_or_two (joins a b)).0 in
    let same : max len 1 ≡ len = omega (arith, some) in
    ap (λ n. drop n (a ∷ b ∷ more)) (sym same)
behind_more (a ∷ b ∷ before) more =
    let len = cond (joins a b) 2 1 in
    let few : len ≤ 2 = (one_or_two (joins a b)).1 in
    let size : length (a ∷ b ∷ before) ≡ max len (length (a ∷ b ∷ before)) = omega (arith, few) in
    drop-append-le len (a ∷ b ∷ before) more (omega (arith, few))
    ∙ ap (λ xs. drop len (a ∷ b ∷ before) ++ xs) (sym (drop_at (a ∷ b ∷ before) more (max len (length (a ∷ b ∷ before))) size))

-- ---- one message more for an opening

-- what a message does to an opening, and what of it is behind it
abbrev pub Takes : List (List ℕ) → List ℕ → Opening → List (List ℕ) → Type 0
Takes all message new after = (new ≡ opening_of (all ++ message ∷ [])) × (after ≡ behind all message)

abbrev pub opening_from : Stage → List ℕ → Opening
opening_from stage octets = record { stage = stage; octets = octets }

module _ (message : List ℕ) where
  pub takes_first : (all : List (List ℕ)) (old : Opening) → old ≡ opening_of all → old.stage ≡ Nothing → Takes all message (opening_from Open message) []
  unfolding opening_of behind
  takes_first [] old e stage = (ap (opening_from Open) (sym (append-nil message)), refl)
  takes_first (a ∷ []) old e stage = let s = ap (λ (o : Opening). o.stage) e in absurd cc
  takes_first (a ∷ b ∷ all) old e stage = let s = ap (λ (o : Opening). o.stage) e in absurd cc

  pub takes_joined : (all : List (List ℕ)) (old : Opening) → old ≡ opening_of all → old.stage ≡ Open → kind_in message ≡ 4
      → length old.octets + length message ≤ 4096 → Takes all message (opening_from Whole (old.octets ++ message)) []
  unfolding opening_of behind
  takes_joined [] old e stage kind room = let s = ap (λ (o : Opening). o.stage) e in absurd cc
  takes_joined (a ∷ []) old e stage kind room =
      let octets : old.octets ≡ a = ap (λ (o : Opening). o.octets) e ∙ append-nil a in
      let fits : length a + length message ≤ 4096 = subst (λ (xs : List ℕ). length xs + length message ≤ 4096) octets room in
      let t = joins a message in
      let both : t ≡ true = and_from (eqb (kind_in message) 4) (leb (length a + length message) 4096) (eq-eqb (kind_in message) 4 kind)
      (le-leb (length a + length message) 4096 fits) in
      by_test t both octets
    where
      by_test : (t : Bool) → t ≡ true → old.octets ≡ a
          → (opening_from Whole (old.octets ++ message)
          ≡ opening_from Whole (flat_map (λ (m : List ℕ). m) (take (cond t 2 1) (a ∷ message ∷ []))))
          × ([] ≡ cond (ltb 1 (cond t 2 1)) [] (message ∷ []))
      by_test true e octets =
          (ap (opening_from Whole) (ap (λ (xs : List ℕ). xs ++ message) octets ∙ ap (λ (xs : List ℕ). a ++ xs) (sym (append-nil message))), refl)
      by_test false e octets = absurd cc
  takes_joined (a ∷ b ∷ all) old e stage kind room = let s = ap (λ (o : Opening). o.stage) e in absurd cc

  pub takes_apart : (all : List (List ℕ)) (old : Opening) → old ≡ opening_of all → old.stage ≡ Open
      → (kind_in message ≡ 4 → length old.octets + length message ≤ 4096 → ⊥) → Takes all message (opening_from Whole old.octets) (message ∷ [])
  unfolding opening_of behind
  takes_apart [] old e stage apart = let s = ap (λ (o : Opening). o.stage) e in absurd cc
  takes_apart (a ∷ []) old e stage apart =
      let octets : old.octets ≡ a = ap (λ (o : Opening). o.octets) e ∙ append-nil a in
      by_test (joins a message) refl octets
    where
      by_test : (t : Bool) → (joins a message) ≡ t → old.octets ≡ a
          → (opening_from Whole old.octets ≡ opening_from Whole (flat_map (λ (m : List ℕ). m) (take (cond t 2 1) (a ∷ message ∷ []))))
          × (message ∷ [] ≡ cond (ltb 1 (cond t 2 1)) [] (message ∷ []))
      by_test true e octets =
          let parts = and_parts (eqb (kind_in message) 4) (leb (length a + length message) 4096) e in
          let fits = leb-true (length a + length message) 4096 parts.1 in
          absurd (apart (eqb-true (kind_in message) 4 parts.0) (subst (λ (xs : List ℕ). length xs + length message ≤ 4096) (sym octets) fits))
      by_test false e octets = (ap (opening_from Whole) (octets ∙ sym (append-nil a)), refl)
  takes_apart (a ∷ b ∷ all) old e stage apart = let s = ap (λ (o : Opening). o.stage) e in absurd cc

  pub takes_later : (all : List (List ℕ)) (old : Opening) → old ≡ opening_of all → old.stage ≡ Whole → Takes all message old (message ∷ [])
  unfolding opening_of behind
  takes_later [] old e stage = let s = ap (λ (o : Opening). o.stage) e in absurd cc
  takes_later (a ∷ []) old e stage = let s = ap (λ (o : Opening). o.stage) e in absurd cc
  takes_later (a ∷ b ∷ all) old e stage = by_test (joins a b) e where
    by_test : (t : Bool) → old ≡ opening_from Whole (flat_map (λ (m : List ℕ). m) (take (cond t 2 1) (a ∷ b ∷ all)))
        → (old ≡ opening_from Whole (flat_map (λ (m : List ℕ). m) (take (cond t 2 1) (a ∷ b ∷ (all ++ message ∷ [])))))
        × (message ∷ [] ≡ cond (ltb (length (a ∷ b ∷ all)) (cond t 2 1)) [] (message ∷ []))
    by_test true e = (e, sym (cond-false (ltb (length (a ∷ b ∷ all)) 2) [] (message ∷ []) (le-ltb (length (a ∷ b ∷ all)) 2 (omega arith))))
    by_test false e = (e, sym (cond-false (ltb (length (a ∷ b ∷ all)) 1) [] (message ∷ []) (le-ltb (length (a ∷ b ∷ all)) 1 (omega arith))))
