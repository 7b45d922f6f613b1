-- In the order of rounds the packets of one actor keep their order.
use Rattle.std.proofs.Common.{◌≡◌, ℕ, zero, suc, ◌+◌, ◌<◌, ◌≤◌, Bool, true, false, List, [], ◌∷◌, ◌++◌, length, take, get_or}
use Rattle.std.proofs.Common.{Option, Some, None, refl, sym, ap, ◌∙◌, subst, arith, cond, count_by}
use Rattle.std.specs.Prelude.{◌==◌, filter_map, is_some, slice_get}
use Rattle.std.specs.Option.{option_map}
use Rattle.std.specs.List.{cons_option, enumerate_from, filter, flat_map}
use Rattle.std.specs.List.Sorted.{IsNonDecreasingBy, ties}
use Rattle.std.specs.Ordering.{nat_cmp, is_lt}
use Rattle.std.proofs.Math.Seq.{take-append_seam}
use Rattle.std.proofs.lemmas.Bool.Decides.{nat_tests}
use Rattle.std.proofs.lemmas.List.{append_assoc, length-append}
use Rattle.std.proofs.lemmas.List.Kept.{IsNonDecreasingBy-filter}
use Rattle.std.proofs.lemmas.List.Sums.{sum_by-append}
use Rattle.std.proofs.lemmas.Option.{get_or_from_slice_get}
use Rattle.tcp_seq.proofs.Lookups.{get-append_right}
use Rattle.bgp_types.specs.Rising.{in_rising}
use Rattle.attr_codec.proofs.SortLaws.{sort_rises}
use Rattle.ring_net.specs.declared.entry.JournalEntry.{JournalEntry}
use Rattle.entry_rounds.specs.Rounds.{entries_of, entry_rounds, round_at, round_of}
use Rattle.entry_rounds.proofs.Marks.{rounds_rise}
use Rattle.lab_setup.proofs.Lists.{get_numbered}
use Rattle.lab_capture.specs.Captures.{timed_at, timed, AreByRound}
use Rattle.lab_capture.specs.declared.timed.Timed.{Timed}

-- ---- filters and counts

count_more : {A : Type 0} (f : A → Bool) (xs : List A) (x : A) → count_by f (xs ++ x ∷ []) ≡ count_by f xs + cond (f x) 1 0
count_more f xs x = let e = sum_by-append (λ y. cond (f y) 1 0) xs (x ∷ []) in omega (arith, e)

swap_at : {A : Type 0} (f g : A → Bool) (x : A) (ys zs : List A) (a b : Bool) → f x ≡ a → g x ≡ b → filter f ys ≡ filter g zs
    → filter f (cond b (x ∷ ys) ys) ≡ filter g (cond a (x ∷ zs) zs)
swap_at f g x ys zs true true e e' rest =
    ap (λ (t : Bool). cond t (x ∷ filter f ys) (filter f ys)) e ∙ ap (λ (xs : List _). x ∷ xs) rest
    ∙ sym (ap (λ (t : Bool). cond t (x ∷ filter g zs) (filter g zs)) e')
swap_at f g x ys zs true false e e' rest = rest ∙ sym (ap (λ (t : Bool). cond t (x ∷ filter g zs) (filter g zs)) e')
swap_at f g x ys zs false true e e' rest = ap (λ (t : Bool). cond t (x ∷ filter f ys) (filter f ys)) e ∙ rest
swap_at f g x ys zs false false e e' rest = rest

swap_more : {A : Type 0} (f g : A → Bool) (x : A) (ys zs : List A) → filter f ys ≡ filter g zs
    → filter f (cond (g x) (x ∷ ys) ys) ≡ filter g (cond (f x) (x ∷ zs) zs)
swap_more f g x ys zs rest = swap_at f g x ys zs (f x) (g x) refl refl rest

filter_swap : {A : Type 0} (f g : A → Bool) (xs : List A) → filter f (filter g xs) ≡ filter g (filter f xs)
filter_swap f g [] = refl
filter_swap f g (x ∷ xs) = swap_more f g x (filter g xs) (filter f xs) (filter_swap f g xs)

map_more : {A B : Type 0} (g : A → Option B) (x : A) (xs ys : List A) (o : Option B) → g x ≡ o → filter_map g ys ≡ filter_map g xs
    → filter_map g (cond (is_some (g x)) (x ∷ ys) ys) ≡ cons_option (g x) (filter_map g xs)
map_more g x xs ys None e rest =
    ap (λ (t : Bool). filter_map g (cond t (x ∷ ys) ys)) (ap is_some e) ∙ rest ∙ sym (ap (λ (p : Option _). cons_option p (filter_map g xs)) e)
map_more g x xs ys (Some y) e rest = ap (λ (t : Bool). filter_map g (cond t (x ∷ ys) ys)) (ap is_some e) ∙ ap (cons_option (g x)) rest

-- what gives nothing may be left out before
map_of_filter : {A B : Type 0} (g : A → Option B) (xs : List A) → filter_map g (filter (λ x. is_some (g x)) xs) ≡ filter_map g xs
map_of_filter g [] = refl
map_of_filter g (x ∷ xs) = map_more g x xs (filter (λ y. is_some (g y)) xs) (g x) refl (map_of_filter g xs)

-- ---- one order

filter_same : {A : Type 0} (f g : A → Bool) → ((x : A) → f x ≡ g x) → (xs : List A) → filter f xs ≡ filter g xs
filter_same f g same [] = refl
filter_same f g same (x ∷ xs) = λ i. cond (same x i) (x ∷ filter_same f g same xs i) (filter_same f g same xs i)

abbrev tied : Timed → Timed → Bool
tied = ties (λ x y. is_lt (nat_cmp x.round y.round))

tied_is : (x y : Timed) → (y.round == x.round) ≡ tied x y
tied_is x y = grind (arith, nat_tests)

in_order : (all packets : List Timed) → AreByRound all packets → packets ≡ in_rising (λ p. p.round) all
in_order all packets by = sort_rises (λ (p : Timed). p.round) all packets by.rise (λ x.
    sym (filter_same (λ (y : Timed). y.round == x.round) (tied x) (tied_is x) packets)
    ∙ (by.each x.round ∙ filter_same (λ (y : Timed). y.round == x.round) (tied x) (tied_is x) all))

one_order : (all one other : List Timed) → AreByRound all one → AreByRound all other → one ≡ other
one_order all one other a b = in_order all one a ∙ sym (in_order all other b)

-- What gives something keeps its order, if its rounds don't fall.
pub kept_order : {B : Type 0} (g : Timed → Option B) (all packets : List Timed) → AreByRound all packets
    → IsNonDecreasingBy (λ p. p.round) (filter (λ p. is_some (g p)) all) → filter_map g packets ≡ filter_map g all
kept_order {B} g all packets by rises =
    let has : Timed → Bool = λ (p : Timed). is_some (g p) in
    let own : AreByRound (filter has all) (filter has packets) = record {
      rise = IsNonDecreasingBy-filter (λ (p : Timed). p.round) has packets by.rise;
      each = λ round. filter_swap (λ (p : Timed). p.round == round) has packets ∙ ap (filter has) (by.each round)
          ∙ filter_swap has (λ (p : Timed). p.round == round) all;
    } in
    let itself : AreByRound (filter has all) (filter has all) = record { rise = rises; each = λ round. refl } in
    sym (map_of_filter g packets) ∙ ap (filter_map g) (one_order (filter has all) (filter has packets) (filter has all) own itself) ∙ map_of_filter g all

-- ---- rounds that don't fall

abbrev pub RisesFrom : ℕ → List Timed → Type 0
RisesFrom low [] = Unit {0}
RisesFrom low (p ∷ ps) = (low ≤ p.round) × RisesFrom p.round ps

rises_lower : (low lower : ℕ) (ps : List Timed) → lower ≤ low → RisesFrom low ps → RisesFrom lower ps
rises_lower low lower [] le rises = tt
rises_lower low lower (p ∷ ps) le rises = (omega (arith, le, rises.0), rises.1)

all_above : (low : ℕ) (ps : List Timed) → RisesFrom low ps → (j : ℕ) (d : Timed) → j < length ps → low ≤ (get_or ps j d).round
all_above low [] rises j d below = absurd (omega (arith, below))
all_above low (p ∷ ps) rises zero d below = rises.0
all_above low (p ∷ ps) rises (suc j) d below = omega (arith, rises.0, all_above p.round ps rises.1 j d (omega (arith, below)))

rising : (low : ℕ) (ps : List Timed) → RisesFrom low ps → IsNonDecreasingBy (λ p. p.round) ps
rising low [] rises i j d le below = absurd (omega (arith, below))
rising low (p ∷ ps) rises zero zero d le below = omega arith
rising low (p ∷ ps) rises zero (suc j) d le below = all_above p.round ps rises.1 j d (omega (arith, below))
rising low (p ∷ ps) rises (suc i) zero d le below = absurd (omega (arith, le))
rising low (p ∷ ps) rises (suc i) (suc j) d le below = rising p.round ps rises.1 i j d (omega (arith, le)) (omega (arith, below))

-- ---- the packets of one actor

-- what passes is of an entry of the actor
abbrev pub IsOwn : (passes : List ℕ → Bool) → (actor : ℕ) → JournalEntry → Option (List ℕ) → Type 0
IsOwn passes actor entry None = Unit {0}
IsOwn passes actor entry (Some octets) = passes octets ≡ true → entry.actor ≡ actor

abbrev pub AreOwn : (passes : List ℕ → Bool) → (actor : ℕ) → List JournalEntry → List (Option (List ℕ)) → Type 0
AreOwn passes actor [] [] = Unit {0}
AreOwn passes actor (entry ∷ entries) (tap ∷ taps) = IsOwn passes actor entry tap × AreOwn passes actor entries taps
AreOwn passes actor entries taps = ⊥

module _ (passes : List ℕ → Bool) (actor : ℕ) (marks : List (List ℕ)) (journal : List JournalEntry) where
  abbrev rounds : List ℕ
  rounds = entry_rounds marks journal

  abbrev round_behind : List JournalEntry → ℕ
  round_behind front = round_of marks actor (entries_of actor front)

  abbrev passing : List Timed → List Timed
  passing ps = filter (λ (p : Timed). passes p.octets) ps

  -- one entry more doesn't lower it
  behind_more : (front : List JournalEntry) (entry : JournalEntry) → round_behind front ≤ round_behind (front ++ entry ∷ [])
  behind_more front entry =
      let n = entries_of actor front in
      let counted = count_more (λ (e : JournalEntry). e.actor == actor) front entry in
      elim (entry.actor == actor) as (λ (b : Bool). (entry.actor == actor) ≡ b → round_behind front ≤ round_behind (front ++ entry ∷ [])) [
        | true ↦ λ e.
            let more : entries_of actor (front ++ entry ∷ []) ≡ entries_of actor front + 1 =
            counted ∙ ap (λ (b : Bool). entries_of actor front + cond b 1 0) e in
            subst (λ (n : ℕ). round_behind front ≤ round_of marks actor n) (sym more) (rounds_rise marks actor (entries_of actor front))
        | false ↦ λ e.
            let same : entries_of actor (front ++ entry ∷ []) ≡ entries_of actor front =
            counted ∙ ap (λ (b : Bool). entries_of actor front + cond b 1 0) e ∙ (let none : n + 0 ≡ n = omega arith in none) in
            subst (λ (n : ℕ). round_behind front ≤ round_of marks actor n) (sym same) (omega arith)
      ] refl

  -- the round of an entry of the actor
  round_here : (front rest : List JournalEntry) (entry : JournalEntry) (n : ℕ) → journal ≡ front ++ entry ∷ rest → n ≡ length front → entry.actor ≡ actor
      → get_or rounds n 0 ≡ round_behind front
  round_here front rest entry n is size own =
      let there : slice_get journal n ≡ Some entry =
      ap (λ (es : List JournalEntry). slice_get es n) is ∙ get-append_right front (entry ∷ rest) n 0 (omega (arith, size)) in
      let before : take n journal ≡ front =
      ap (take n) is ∙ ap (λ (m : ℕ). take m (front ++ entry ∷ rest)) size ∙ take-append_seam front (entry ∷ rest) in
      get_or_from_slice_get rounds n (round_at marks journal (n, entry)) 0
      (get_numbered (round_at marks journal) journal n ∙ ap (option_map (λ (e : JournalEntry). round_at marks journal (n, e))) there)
      ∙ ap (λ (a : ℕ). round_of marks a (entries_of a (take n journal))) own
      ∙ ap (λ (es : List JournalEntry). round_of marks actor (entries_of actor es)) before

  rises_along : (front entries : List JournalEntry) (n : ℕ) (taps : List (Option (List ℕ))) → journal ≡ front ++ entries → n ≡ length front
      → AreOwn passes actor entries taps → RisesFrom (round_behind front) (passing (flat_map (timed_at rounds) (enumerate_from n taps)))
  rises_along front [] n [] is size own = tt
  rises_along front [] n (tap ∷ taps) is size own = absurd own
  rises_along front (entry ∷ entries) n [] is size own = absurd own
  rises_along front (entry ∷ entries) n (tap ∷ taps) is size own =
      let further : journal ≡ (front ++ entry ∷ []) ++ entries = is ∙ sym (append_assoc front (entry ∷ []) entries) in
      let longer : n + 1 ≡ length (front ++ entry ∷ []) = omega (arith, size, length-append front (entry ∷ [])) in
      let rest = rises_along (front ++ entry ∷ []) entries (n + 1) taps further longer own.1 in
      with_tap tap own.0 (rises_lower (round_behind (front ++ entry ∷ [])) (round_behind front)
      (passing (flat_map (timed_at rounds) (enumerate_from (n + 1) taps))) (behind_more front entry) rest)
    where
      later : List Timed
      later = flat_map (timed_at rounds) (enumerate_from (n + 1) taps)

      with_tap : (t : Option (List ℕ)) → IsOwn passes actor entry t → RisesFrom (round_behind front) (passing later)
          → RisesFrom (round_behind front) (passing (timed_at rounds (n, t) ++ later))
      with_tap None own rises = rises
      with_tap (Some octets) own rises = elim (passes octets)
          as (λ (b : Bool). passes octets ≡ b → RisesFrom (round_behind front) (cond b (one ∷ passing later) (passing later))) [
            | true ↦ λ e.
                let here : get_or rounds n 0 ≡ round_behind front = round_here front entries entry n is size (own e) in
                (omega (arith, here), subst (λ (r : ℕ). RisesFrom r (passing later)) (sym here) rises)
            | false ↦ λ e. rises
          ] refl
        where
          one : Timed
          one = record { round = get_or rounds n 0; place = count_by (λ r. r == get_or rounds n 0) (take n rounds); octets = octets }

  pub rounds_rise_along : (taps : List (Option (List ℕ))) → AreOwn passes actor journal taps
      → IsNonDecreasingBy (λ p. p.round) (passing (timed rounds taps))
  rounds_rise_along taps own = rising (round_behind []) (passing (timed rounds taps)) (rises_along [] journal 0 taps refl refl own)
