-- Packets with their rounds and places.
use Rattle.std.proofs.Common.{◌≡◌, ◌≢◌, ◌==◌, ◌+◌, ◌<◌, ◌≤◌, ℕ, Bool, true, false, cond, List, [], ◌∷◌, ◌++◌}
use Rattle.std.proofs.Common.{length, map, take, set, get_or, count_by, Option, Some, None, refl, sym, ap, ◌∙◌, subst, below_more, arith}
use Rattle.std.specs.Prelude.{All, IfSome}
use Rattle.std.specs.List.{AllByRecursion, filter, enumerate_from}
use Rattle.std.specs.List.Sorted.{ties}
use Rattle.std.specs.Ordering.{nat_cmp, is_lt}
use Rattle.std.proofs.lemmas.Bool.{eqb-true}
use Rattle.std.proofs.lemmas.Bool.Decides.{nat_tests}
use Rattle.std.proofs.lemmas.List.{append-nil, get_or-set_same, get_or-set_other, get_or_append_left, get_or_push, length-map, length-take-le}
use Rattle.std.proofs.lemmas.List.Elements.{All-from_recursion, All-nil, All-push, recursion_from_All}
use Rattle.std.proofs.lemmas.List.FromFn.{length-enumerate_from}
use Rattle.std.proofs.lemmas.List.Sums.{count_by-le-length, count_by_more_no, count_by_more_yes, prefix_len-le-length}
use Rattle.ring_net.specs.declared.entry.JournalEntry.{JournalEntry}
use Rattle.attr_codec.proofs.SortLaws.{sort_rises}
use Rattle.bgp_types.specs.Rising.{in_rising}
use Rattle.entry_rounds.specs.Rounds.{entry_rounds, round_at}
use Rattle.pcap_form.specs.Written.{AreShort}
use Rattle.lab_capture.specs.Captures.{AreByRound, captured}
use Rattle.lab_capture.specs.Places.{timed_if}
use Rattle.lab_capture.specs.Tapping.{AllShort, IsShort}
use Rattle.lab_capture.specs.declared.timed.Timed.{Timed}

-- ---- the order of rounds

filter_same : {A : Type 0} (f g : A → Bool) → ((x : A) → f x ≡ g x) → (xs : List A) → filter f xs ≡ filter g xs
filter_same f g same [] = refl
filter_same f g same (x ∷ xs) = λ i. cond (same x i) (x ∷ filter_same f g same xs i) (filter_same f g same xs i)

module _ {A : Type 0} (key : A → ℕ) where
  abbrev tied : A → A → Bool
  tied = ties (λ x y. is_lt (nat_cmp (key x) (key y)))

  tied_is : (x y : A) → (key y == key x) ≡ tied x y
  tied_is x y = grind (arith, nat_tests)

  -- what has the key of this one is what ties with it
  pub of_key : (x : A) (xs ys : List A) → filter (tied x) ys ≡ filter (tied x) xs
      → filter (λ y. key y == key x) ys ≡ filter (λ y. key y == key x) xs
  of_key x xs ys e = filter_same (λ y. key y == key x) (tied x) (tied_is x) ys ∙ (e ∙ sym (filter_same (λ y. key y == key x) (tied x) (tied_is x) xs))

-- packets have one order
in_order : (all packets : List Timed) → AreByRound all packets → packets ≡ in_rising (λ p. p.round) all
in_order all packets by = sort_rises (λ (p : Timed). p.round) all packets by.rise (λ x.
    sym (filter_same (λ (y : Timed). y.round == x.round) (tied (λ (p : Timed). p.round) x) (tied_is (λ (p : Timed). p.round) x) packets)
    ∙ (by.each x.round ∙ filter_same (λ (y : Timed). y.round == x.round) (tied (λ (p : Timed). p.round) x) (tied_is (λ (p : Timed). p.round) x) all))

pub one_order : (all one other : List Timed) → AreByRound all one → AreByRound all other → one ≡ other
one_order all one other a b = in_order all one a ∙ sym (in_order all other b)

-- ---- counts by round

pub counts_more : (rounds counts : List ℕ) (i round : ℕ) → i < length rounds → round ≡ get_or rounds i 0 → round < length counts
    → ((r : ℕ) → r < length counts → get_or counts r 0 ≡ count_by (λ x. x == r) (take i rounds))
    → (r : ℕ) → r < length counts → get_or (set counts round (get_or counts round 0 + 1)) r 0 ≡ count_by (λ x. x == r) (take (i + 1) rounds)
counts_more rounds counts i round below is fits so_far r r_below = by_test (round == r) refl where
  at_it : (t : Bool) → (round == r) ≡ t → (get_or rounds i 0 == r) ≡ t
  at_it t e = ap (λ (n : ℕ). n == r) (sym is) ∙ e

  by_test : (t : Bool) → (round == r) ≡ t → get_or (set counts round (get_or counts round 0 + 1)) r 0 ≡ count_by (λ x. x == r) (take (i + 1) rounds)
  by_test true e =
      let same : round ≡ r = eqb-true round r e in
      let one : get_or (set counts round (get_or counts round 0 + 1)) r 0 ≡ get_or counts r 0 + 1 =
      subst (λ (n : ℕ). get_or (set counts round (get_or counts round 0 + 1)) n 0 ≡ get_or counts n 0 + 1) same
      (get_or-set_same counts round (get_or counts round 0 + 1) 0 fits) in
      one ∙ (ap (λ (n : ℕ). n + 1) (so_far r r_below) ∙ sym (count_by_more_yes (λ x. x == r) rounds i 0 below (at_it true e)))
  by_test false e =
      let other : r ≢ round = λ same. grind (arith, nat_tests) in
      get_or-set_other counts round r (get_or counts round 0 + 1) 0 other
      ∙ (so_far r r_below ∙ sym (count_by_more_no (λ x. x == r) rounds i 0 below (at_it false e)))

-- no more than there are entries so far
pub counts_low : (rounds counts : List ℕ) (i r : ℕ) → i < length rounds → get_or counts r 0 ≡ count_by (λ x. x == r) (take i rounds) → get_or counts r 0 ≤ i
counts_low rounds counts i r below is =
    let few = count_by-le-length (λ x. x == r) (take i rounds) in
    let size : length (take i rounds) ≡ i = length-take-le i rounds (omega (arith, below)) in
    omega (arith, few, size, is)

abbrev HasPlace : (rounds places : List ℕ) (k : ℕ) → Type 0
HasPlace rounds places k = get_or places k 0 ≡ count_by (λ r. r == get_or rounds k 0) (take k rounds)

pub places_more : (rounds places more : List ℕ) (i place : ℕ) → length places ≡ i → ((k : ℕ) → k < i → HasPlace rounds places k)
    → place ≡ count_by (λ r. r == get_or rounds i 0) (take i rounds) → more ≡ places ++ place ∷ [] → (k : ℕ) → k < i + 1 → HasPlace rounds more k
places_more rounds places more i place size so_far is added = below_more (HasPlace rounds more) i
    (λ k h. ap (λ (l : List ℕ). get_or l k 0) added ∙ (get_or_append_left places (place ∷ []) 0 k (omega (arith, h, size)) ∙ so_far k h))
    (ap (λ (l : List ℕ). get_or l i 0) added ∙ (get_or_push places place 0 i size ∙ is))

-- the rounds of entries are no later than the last mark
pub rounds_end : (marks : List (List ℕ)) (journal : List JournalEntry) → All (λ round. round < length marks + 1) (entry_rounds marks journal)
rounds_end marks journal = All-from_recursion (λ round. round < length marks + 1) (entry_rounds marks journal) (each (enumerate_from 0 journal)) where
  each : (xs : List (ℕ × JournalEntry)) → AllByRecursion (λ round. round < length marks + 1) (map (round_at marks journal) xs)
  each [] = tt
  each (x ∷ xs) = (below (round_at marks journal x) (prefix_len-le-length _ marks), each xs) where
    below : (n : ℕ) → n ≤ length marks → n < length marks + 1
    below n le = omega (arith, le)

-- as many as there are entries
pub rounds_many : (marks : List (List ℕ)) (journal : List JournalEntry) → length (entry_rounds marks journal) ≡ length journal
rounds_many marks journal = length-map (enumerate_from 0 journal) (round_at marks journal) ∙ length-enumerate_from 0 journal

-- ---- packets

pub none_short : AllShort []
none_short = All-nil (λ (p : Timed). IsShort p.octets)

pub short_more : (packets : List Timed) (round place : ℕ) (packet : Option (List ℕ)) → AllShort packets → IfSome packet IsShort
    → AllShort (packets ++ timed_if round place packet)
short_more packets round place None all one = subst AllShort (sym (append-nil packets)) all
short_more packets round place (Some octets) all one =
    All-push (λ (p : Timed). IsShort p.octets) packets (record { round = round; place = place; octets = octets }) all one

pub short_captured : (packets : List Timed) → AllShort packets → AreShort (map captured packets)
short_captured packets all = each packets (recursion_from_All (λ (p : Timed). IsShort p.octets) packets all) where
  each : (xs : List Timed) → AllByRecursion (λ p. IsShort p.octets) xs → AreShort (map captured xs)
  each [] short = tt
  each (x ∷ xs) short = (short.0, each xs short.1)
