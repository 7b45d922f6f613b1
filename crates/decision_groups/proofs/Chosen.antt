-- What the choice is, said of each candidate beside it, and that the champions of the groups decide it.
use Rattle.std.proofs.Common.{◌≡◌, ℕ, ◌==◌, nat_lt, Bool, true, false, not, ◌&&◌, ◌||◌, cond, List, []}
use Rattle.std.proofs.Common.{◌∷◌, Option, Some, None, refl, sym, ap, ◌∙◌, subst, arith}
use Rattle.std.specs.Prelude.{Contains, option_map}
use Rattle.std.specs.List.{filter, list_any, AllByRecursion}
use Rattle.std.specs.List.Sorted.{IsStrictlySortedBy}
use Rattle.std.specs.Map.{keys_of}
use Rattle.std.specs.Cmp.{IsTotalOrder, IsStrictWeakOrder}
use Rattle.std.specs.Ordering.{is_lt, ordering_reverse}
use Rattle.std.specs.declared.cmp.Ordering.{Ordering}
use Rattle.std.specs.declared.cmp.Ordering.TheVariants.{Less, Equal, Greater}
use Rattle.std.proofs.lemmas.Bool.Decides.{nat_tests}
use Rattle.std.proofs.lemmas.Cmp.{tied_itself}
use Rattle.std.proofs.lemmas.List.Elements.{filter_passes, All-contains}
use Rattle.std.proofs.lemmas.List.MinMax.{IsStrictWeakOrder-by_number, ranks_by}
use Rattle.std.proofs.lemmas.Map.Keys.{sorted_head, sorted_tail}
use Rattle.std.proofs.lemmas.Map.Lookups.{CmpEqualImpliesEq}
use Rattle.bgp_types.specs.declared.rank.Rank.{Rank}
use Rattle.decision_core.specs.Choice.{has_lower_med, keep, left_of, first, choice}
use Rattle.decision_core.specs.Search.{in_turn, leads, is_nearer, best_by}
use Rattle.decision_core.proofs.Filters.{IsStrictWeakOrder-in_turn, irreflexive, first-keep}
use Rattle.decision_core.proofs.NineRules.{on, on_order, leads_order, is_nearer_order, left_of-in_three, choice-none}
use Rattle.decision_core.proofs.AnyOrder.{Contains-filter, Contains-keep, keep-unbeaten, in_turn-equal}
use Rattle.decision_groups.specs.Champions.{neighbour_group}
use Rattle.decision_groups.specs.Groups.{beats_in_group, beats_without_med}
use Rattle.decision_groups.proofs.Members.{Contains-cases, Contains-first, nothing_in_none, filter-contains, keep-contains}

-- ---- lists in the order of names

-- earlier in the order of names
abbrev pub is_earlier : {K : Type 0} → (K → K → Ordering) → K × Rank → K × Rank → Bool
is_earlier R c d = is_lt (R c.0 d.0)

key_of : {K X : Type 0} (P : K → Type 0) (es : List (K × X)) (e : K × X) → AllByRecursion P (keys_of es) → Contains es e → P e.0
key_of P [] e h there = nothing_in_none e there
key_of P (d ∷ es) e h there = Contains-cases d e es there (λ same. subst (λ c. P c.0) same h.0) (λ further. key_of P es e h.1 further)

not_less-itself : {K : Type 0} {R : K → K → Ordering} → IsTotalOrder R → (j k : K) → j ≡ k → is_lt (R k j) ≡ false
not_less-itself {R = R} o j k same = ap (λ i. is_lt (R k i)) same ∙ ap is_lt (tied_itself o k)

not_less-back : {K : Type 0} {R : K → K → Ordering} → IsTotalOrder R → (j k : K) → R j k ≡ Less → is_lt (R k j) ≡ false
not_less-back o j k less = ap is_lt (o.antisymm k j ∙ ap ordering_reverse less)

-- nothing is earlier than the first
first-earliest : {K X : Type 0} {R : K → K → Ordering} → IsTotalOrder R → (es : List (K × X)) (c d : K × X) → IsStrictlySortedBy R (keys_of es)
    → first es ≡ Some c → Contains es d → is_lt (R d.0 c.0) ≡ false
first-earliest o [] c d s h there = nothing_in_none d there
first-earliest {R = R} o (e ∷ es) c d s h there =
    let same : e ≡ c = cc in
    subst (λ z. is_lt (R d.0 z.0) ≡ false) same
    (Contains-cases e d es there
    (λ here. not_less-itself o e.0 d.0 (ap (λ z. z.0) here))
    (λ further. not_less-back o e.0 d.0 (key_of (λ q. R e.0 q ≡ Less) es d (sorted_head R e.0 (keys_of es) s) further)))

keys_of_cond : {K X : Type 0} (P : K → Type 0) (b : Bool) (e : K × X) (es : List (K × X)) → P e.0 → AllByRecursion P (keys_of es)
    → AllByRecursion P (keys_of (cond b (e ∷ es) es))
keys_of_cond P true e es here h = (here, h)
keys_of_cond P false e es here h = h

keys_of-filter : {K X : Type 0} (P : K → Type 0) (p : K × X → Bool) (es : List (K × X)) → AllByRecursion P (keys_of es)
    → AllByRecursion P (keys_of (filter p es))
keys_of-filter P p [] h = tt
keys_of-filter P p (e ∷ es) h = keys_of_cond P (p e) e (filter p es) h.0 (keys_of-filter P p es h.1)

sorted_of_cond : {K X : Type 0} (R : K → K → Ordering) (b : Bool) (e : K × X) (es : List (K × X)) → AllByRecursion (λ q. R e.0 q ≡ Less) (keys_of es)
    → IsStrictlySortedBy R (keys_of es) → IsStrictlySortedBy R (keys_of (cond b (e ∷ es) es))
unfolding IsStrictlySortedBy
sorted_of_cond R true e es above s = (above, s)
sorted_of_cond R false e es above s = s

pub sorted-filter : {K X : Type 0} (R : K → K → Ordering) (p : K × X → Bool) (es : List (K × X)) → IsStrictlySortedBy R (keys_of es)
    → IsStrictlySortedBy R (keys_of (filter p es))
sorted-filter R p [] s = s
sorted-filter R p (e ∷ es) s =
    sorted_of_cond R (p e) e (filter p es) (keys_of-filter (λ q. R e.0 q ≡ Less) p es (sorted_head R e.0 (keys_of es) s))
    (sorted-filter R p es (sorted_tail R e.0 (keys_of es) s))

sorted-keep : {K X : Type 0} (R : K → K → Ordering) (rule : K × X → K × X → Bool) (es : List (K × X)) → IsStrictlySortedBy R (keys_of es)
    → IsStrictlySortedBy R (keys_of (keep rule es))
unfolding keep
sorted-keep R rule es s = sorted-filter R (λ x. not (list_any (λ y. rule y x) es)) es s

-- of those that a rule keeps, the first is better by it or earlier than each other
unbeaten_cases : (a b f : Bool) → a ≡ false → (b ≡ false → f ≡ false) → (a || (not b && f)) ≡ false
unbeaten_cases true b f h k = cc
unbeaten_cases false true f h k = refl
unbeaten_cases false false f h k = k refl

pub first-unbeaten : {K : Type 0} {R : K → K → Ordering} → IsTotalOrder R → (rule : K × Rank → K × Rank → Bool) → IsStrictWeakOrder rule
    → (es : List (K × Rank)) (c d : K × Rank) → IsStrictlySortedBy R (keys_of es) → first (keep rule es) ≡ Some c → Contains es d
    → in_turn rule (is_earlier R) d c ≡ false
first-unbeaten {R = R} o rule order es c d s h there =
    let in_kept = Contains-first (keep rule es) c h in
    let unbeaten = λ (y : _) (y_there : Contains es y). keep-unbeaten rule es c y in_kept y_there in
    unbeaten_cases (rule d c) (rule c d) (is_lt (R d.0 c.0)) (unbeaten d there)
    (λ apart. first-earliest o (keep rule es) c d (sorted-keep R rule es s) h
    (keep-contains rule es d there (λ y y_there. order.chain y c d (unbeaten y y_there) apart)))

-- ---- what the choice is

-- better by the rules after MED, or equal by them and earlier
abbrev comes_nearer : {K : Type 0} → (K → K → Ordering) → K × Rank → K × Rank → Bool
comes_nearer R = in_turn (λ c d. is_nearer c.1 d.1) (is_earlier R)

-- the rules up to MED leave it, beside one that no other leads
pub record IsLeft {K : Type 0} (cs : List (K × Rank)) (c d : K × Rank) : Type 0 where
  pub there : Contains cs d
  pub unled : leads c.1 d.1 ≡ false
  pub med : (e : K × Rank) → Contains cs e → leads c.1 e.1 ≡ false → has_lower_med e.1 d.1 ≡ false

pub record IsChosen {K : Type 0} (R : K → K → Ordering) (cs : List (K × Rank)) (c : K × Rank) : Type 0 where
  pub there : Contains cs c
  pub unled : (d : K × Rank) → Contains cs d → leads d.1 c.1 ≡ false
  pub med : (d : K × Rank) → Contains cs d → leads c.1 d.1 ≡ false → has_lower_med d.1 c.1 ≡ false
  pub nearest : (d : K × Rank) → IsLeft cs c d → in_turn (λ c d. is_nearer c.1 d.1) (is_earlier R) d c ≡ false

pub chosen : {K : Type 0} {R : K → K → Ordering} → IsTotalOrder R → (cs : List (K × Rank)) (c : K × Rank) → IsStrictlySortedBy R (keys_of cs)
    → first (left_of cs) ≡ Some c → IsChosen R cs c
chosen {K} {R} o cs c s h =
    let led : List (K × Rank) = keep (on leads) cs in
    let least : List (K × Rank) = keep (on has_lower_med) led in
    let is : first (keep (on is_nearer) least) ≡ Some c = ap first (sym (left_of-in_three cs)) ∙ h in
    let in_near = Contains-first (keep (on is_nearer) least) c is in
    let in_least = Contains-keep (on is_nearer) least c in_near in
    let in_led = Contains-keep (on has_lower_med) led c in_least in
    let in_all = Contains-keep (on leads) cs c in_led in
    let unled = λ (d : K × Rank) (there : Contains cs d). keep-unbeaten (on leads) cs c d in_led there in
    let leads_too = λ (d : K × Rank) (there : Contains cs d) (apart : leads c.1 d.1 ≡ false).
    keep-contains (on leads) cs d there (λ y y_there. leads_order.chain y.1 c.1 d.1 (unled y y_there) apart) in
    record {
      there = in_all;
      unled = unled;
      med = λ d there apart. keep-unbeaten (on has_lower_med) led c d in_least (leads_too d there apart);
      nearest = λ d l. first-unbeaten o (on is_nearer) (on_order is_nearer is_nearer_order) least c d
          (sorted-keep R (on has_lower_med) led (sorted-keep R (on leads) cs s)) is
          (keep-contains (on has_lower_med) led d (leads_too d l.there l.unled)
          (λ e in_led_e. l.med e (Contains-keep (on leads) cs e in_led_e) (keep-unbeaten (on leads) cs e c in_led_e in_all)));
    }

neither_less : (a : Ordering) → is_lt a ≡ false → is_lt (ordering_reverse a) ≡ false → a ≡ Equal
neither_less Less h k = cc
neither_less Equal h k = refl
neither_less Greater h k = cc

also_left : {K : Type 0} (R : K → K → Ordering) (cs : List (K × Rank)) (c d : K × Rank) → IsChosen R cs c → IsChosen R cs d → IsLeft cs c d
also_left R cs c d a b = record {
  there = b.there;
  unled = b.unled c a.there;
  med = λ e there apart. b.med e there (leads_order.chain d.1 c.1 e.1 (a.unled d b.there) apart);
}

pub one_chosen : {K : Type 0} {R : K → K → Ordering} → IsTotalOrder R → CmpEqualImpliesEq R → (cs : List (K × Rank)) (c d : K × Rank)
    → IsChosen R cs c → IsChosen R cs d → c.0 ≡ d.0
one_chosen {R = R} o exact cs c d a b =
    let equal = in_turn-equal (is_nearer c.1 d.1) (is_nearer d.1 c.1) (is_earlier R c d)
    (is_earlier R d c) (b.nearest c (also_left R cs d c b a)) (a.nearest d (also_left R cs c d a b)) in
    exact c.0 d.0 (neither_less (R c.0 d.0) equal.2 (ap is_lt (sym (o.antisymm d.0 c.0)) ∙ equal.3))

pub left-none : {K : Type 0} (cs : List (K × Rank)) → first (left_of cs) ≡ None → cs ≡ []
unfolding choice
left-none cs h = choice-none cs (ap (option_map (λ c. c.0)) h)

choice_cases : {K : Type 0} {R : K → K → Ordering} → IsTotalOrder R → CmpEqualImpliesEq R → (cs : List (K × Rank)) (c : K × Rank)
    → IsStrictlySortedBy R (keys_of cs) → IsChosen R cs c → (o : Option (K × Rank)) → first (left_of cs) ≡ o → option_map (λ e. e.0) o ≡ Some c.0
choice_cases o exact cs c s a None h = nothing_in_none c (subst (λ es. Contains es c) (left-none cs h) a.there)
choice_cases o exact cs c s a (Some d) h = ap Some (one_chosen o exact cs d c (chosen o cs d s h) a)

pub choice-chosen : {K : Type 0} {R : K → K → Ordering} → IsTotalOrder R → CmpEqualImpliesEq R → (cs : List (K × Rank)) (c : K × Rank)
    → IsStrictlySortedBy R (keys_of cs) → IsChosen R cs c → choice cs ≡ Some c.0
unfolding choice
choice-chosen o exact cs c s a = choice_cases o exact cs c s a (first (left_of cs)) refl

-- ---- the champion of a group

by_med : IsStrictWeakOrder (λ (a b : Rank). nat_lt a.med b.med)
by_med = IsStrictWeakOrder-by_number (λ rank. rank.med)

pub beats_order : IsStrictWeakOrder beats_in_group
beats_order = IsStrictWeakOrder-in_turn leads (in_turn (λ a b. nat_lt a.med b.med) is_nearer) leads_order
    (IsStrictWeakOrder-in_turn (λ a b. nat_lt a.med b.med) is_nearer by_med is_nearer_order)

-- what it says that the first of two isn't better by the nine rules, or equal and earlier
unbeaten_leads : (a b l l' n n' f : Bool) → ((a || (not b && (l || (not l' && n)))) || (not (b || (not a && (l' || (not l && n')))) && f)) ≡ false → a ≡ false
unbeaten_leads true b l l' n n' f h = cc
unbeaten_leads false b l l' n n' f h = refl

unbeaten_med : (a b l l' n n' f : Bool) → ((a || (not b && (l || (not l' && n)))) || (not (b || (not a && (l' || (not l && n')))) && f)) ≡ false
    → b ≡ false → l ≡ false
unbeaten_med true b l l' n n' f h apart = cc
unbeaten_med false true l l' n n' f h apart = cc
unbeaten_med false false true l' n n' f h apart = cc
unbeaten_med false false false l' n n' f h apart = refl

unbeaten_nearer : (a b l l' n n' f : Bool) → ((a || (not b && (l || (not l' && n)))) || (not (b || (not a && (l' || (not l && n')))) && f)) ≡ false
    → b ≡ false → l' ≡ false → (n || (not n' && f)) ≡ false
unbeaten_nearer true b l l' n n' f h apart equal = cc
unbeaten_nearer false true l l' n n' f h apart equal = cc
unbeaten_nearer false false true l' n n' f h apart equal = cc
unbeaten_nearer false false false true n n' f h apart equal = cc
unbeaten_nearer false false false false n n' f h apart equal = h

lower_within : (m n : ℕ) (l : Bool) → l ≡ false → ((m == n) && l) ≡ false
lower_within m n l h = grind arith

lower_same : (m n : ℕ) (l : Bool) → m ≡ n → ((m == n) && l) ≡ false → l ≡ false
lower_same m n l same h = grind (arith, nat_tests)

pub champion-chosen : {K : Type 0} {R : K → K → Ordering} → IsTotalOrder R → (n : ℕ) (cs : List (K × Rank)) (c : K × Rank)
    → IsStrictlySortedBy R (keys_of cs) → ((d : K × Rank) → Contains cs d → d.1.neighbour ≡ n) → best_by (λ c d. beats_in_group c.1 d.1) cs ≡ Some c
    → IsChosen R cs c
champion-chosen {K} {R} o n cs c s one_neighbour h =
    let order = on_order {K = K} beats_in_group beats_order in
    let is : first (keep (on beats_in_group) cs) ≡ Some c = first-keep (on beats_in_group) order cs ∙ h in
    let there = Contains-keep (on beats_in_group) cs c (Contains-first (keep (on beats_in_group) cs) c is) in
    let unbeaten = λ (d : K × Rank) (d_there : Contains cs d). first-unbeaten o (on beats_in_group) order cs c d s is d_there in
    record {
      there = there;
      unled = λ d d_there. unbeaten_leads (leads d.1 c.1) (leads c.1 d.1) (nat_lt d.1.med c.1.med)
          (nat_lt c.1.med d.1.med) (is_nearer d.1 c.1) (is_nearer c.1 d.1) (is_earlier R d c) (unbeaten d d_there);
      med = λ d d_there apart. lower_within d.1.neighbour c.1.neighbour (nat_lt d.1.med c.1.med) (unbeaten_med (leads d.1 c.1) (leads c.1 d.1)
          (nat_lt d.1.med c.1.med) (nat_lt c.1.med d.1.med) (is_nearer d.1 c.1) (is_nearer c.1 d.1) (is_earlier R d c) (unbeaten d d_there) apart);
      nearest = λ d l. unbeaten_nearer (leads d.1 c.1) (leads c.1 d.1) (nat_lt d.1.med c.1.med) (nat_lt c.1.med d.1.med)
          (is_nearer d.1 c.1) (is_nearer c.1 d.1) (is_earlier R d c) (unbeaten d l.there) l.unled
          (lower_same c.1.neighbour d.1.neighbour (nat_lt c.1.med d.1.med)
          (one_neighbour c there ∙ sym (one_neighbour d l.there)) (l.med c there (irreflexive leads leads_order c.1)));
    }

-- ---- the champions decide

not_before_leads : (a b n n' f : Bool) → ((a || (not b && n)) || (not (b || (not a && n')) && f)) ≡ false → a ≡ false
not_before_leads true b n n' f h = cc
not_before_leads false b n n' f h = refl

not_before_nearer : (a b n n' f : Bool) → ((a || (not b && n)) || (not (b || (not a && n')) && f)) ≡ false → b ≡ false → (n || (not n' && f)) ≡ false
not_before_nearer true b n n' f h apart = cc
not_before_nearer false true n n' f h apart = cc
not_before_nearer false false n n' f h apart = h

under_test : (b l : Bool) → (b ≡ true → (b && l) ≡ false) → (b && l) ≡ false
under_test true l h = h refl
under_test false l h = refl

-- a candidate's group has a champion, which doesn't come before this candidate
pub record IsHeaded {K : Type 0} (R : K → K → Ordering) (cs : List (K × Rank)) (w d : K × Rank) : Type 0 where
  pub head : K × Rank
  pub is_chosen : IsChosen R (neighbour_group d.1.neighbour cs) head
  pub not_before : in_turn (λ c d. beats_without_med c.1 d.1) (is_earlier R) head w ≡ false

same_number : (m n : ℕ) → m ≡ n → (m == n) ≡ true
same_number m n h = grind (arith, nat_tests)

equal_numbers : (m n : ℕ) → (m == n) ≡ true → m ≡ n
equal_numbers m n h = grind (arith, nat_tests)

pub in_own_group : {K : Type 0} (cs : List (K × Rank)) (n : ℕ) (d : K × Rank) → Contains cs d → d.1.neighbour ≡ n → Contains (neighbour_group n cs) d
in_own_group cs n d there is = filter-contains (λ c. c.1.neighbour == n) cs d there (same_number d.1.neighbour n is)

pub out_of_group : {K : Type 0} (cs : List (K × Rank)) (n : ℕ) (d : K × Rank) → Contains (neighbour_group n cs) d → Contains cs d
out_of_group cs n d there = Contains-filter (λ c. c.1.neighbour == n) cs d there

pub of_group : {K : Type 0} (cs : List (K × Rank)) (n : ℕ) (d : K × Rank) → Contains (neighbour_group n cs) d → d.1.neighbour ≡ n
of_group {K} cs n d there =
    let test = λ (c : K × Rank). c.1.neighbour == n in
    equal_numbers d.1.neighbour n (All-contains (λ c. test c ≡ true) (filter test cs) d (filter_passes test cs) there)

nearer_order : {K : Type 0} {R : K → K → Ordering} → IsTotalOrder R → IsStrictWeakOrder (comes_nearer R)
nearer_order {K} {R} o = IsStrictWeakOrder-in_turn (on is_nearer) (is_earlier R) (on_order is_nearer is_nearer_order) (ranks_by o (λ (c : K × Rank). c.0))

pub champions-decide : {K : Type 0} {R : K → K → Ordering} → IsTotalOrder R → (cs : List (K × Rank)) (w : K × Rank)
    → IsChosen R (neighbour_group w.1.neighbour cs) w → ((d : K × Rank) → Contains cs d → IsHeaded R cs w d) → IsChosen R cs w
champions-decide {K} {R} o cs w own headed =
    let head_unled = λ (d : K × Rank) (e : IsHeaded R cs w d). not_before_leads (leads e.head.1 w.1)
    (leads w.1 e.head.1) (is_nearer e.head.1 w.1) (is_nearer w.1 e.head.1) (is_earlier R e.head w) e.not_before in
    record {
      there = out_of_group cs w.1.neighbour w own.there;
      unled = λ d there. let e = headed d there in
          leads_order.chain d.1 e.head.1 w.1 (e.is_chosen.unled d (in_own_group cs d.1.neighbour d there refl)) (head_unled d e);
      med = λ d there apart. under_test (d.1.neighbour == w.1.neighbour) (nat_lt d.1.med w.1.med)
          (λ same. own.med d (filter-contains (λ c. c.1.neighbour == w.1.neighbour) cs d there same) apart);
      nearest = λ d l. let e = headed d l.there in
          let in_group = in_own_group cs d.1.neighbour d l.there refl in
          let led_head : leads w.1 e.head.1 ≡ false = leads_order.chain w.1 d.1 e.head.1 l.unled (e.is_chosen.unled d in_group) in
          let nearer_head = not_before_nearer (leads e.head.1 w.1) (leads w.1 e.head.1)
          (is_nearer e.head.1 w.1) (is_nearer w.1 e.head.1) (is_earlier R e.head w) e.not_before led_head in
          let left : IsLeft (neighbour_group d.1.neighbour cs) e.head d = record {
            there = in_group;
            unled = leads_order.chain e.head.1 w.1 d.1 (head_unled d e) l.unled;
            med = λ f f_there apart. l.med f (out_of_group cs d.1.neighbour f f_there) (leads_order.chain w.1 e.head.1 f.1 led_head apart);
          } in
          (nearer_order o).chain d e.head w (e.is_chosen.nearest d left) nearer_head;
    }

-- one name, one candidate
pub same_name : {K X : Type 0} {R : K → K → Ordering} → IsTotalOrder R → (es : List (K × X)) (c d : K × X) → IsStrictlySortedBy R (keys_of es)
    → Contains es c → Contains es d → c.0 ≡ d.0 → c ≡ d
same_name o [] c d s c_there d_there is = nothing_in_none c c_there
same_name {R = R} o (e ∷ es) c d s c_there d_there is =
    let above = sorted_head R e.0 (keys_of es) s in
    Contains-cases e c es c_there
    (λ c_here. Contains-cases e d es d_there
    (λ d_here. sym c_here ∙ d_here)
    (λ d_further. let less = key_of (λ q. R e.0 q ≡ Less) es d above d_further in
    let equal : R e.0 d.0 ≡ Equal = ap (R e.0) (sym is ∙ ap (λ z. z.0) (sym c_here)) ∙ tied_itself o e.0 in cc))
    (λ c_further. Contains-cases e d es d_there
    (λ d_here. let less = key_of (λ q. R e.0 q ≡ Less) es c above c_further in
    let equal : R e.0 c.0 ≡ Equal = ap (R e.0) (is ∙ ap (λ z. z.0) (sym d_here)) ∙ tied_itself o e.0 in cc)
    (λ d_further. same_name o es c d (sorted_tail R e.0 (keys_of es) s) c_further d_further is))
