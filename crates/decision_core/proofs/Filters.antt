-- Filters by rules that are orders, one after another.
use Rattle.std.proofs.Common.{◌≡◌, Bool, true, false, not, ◌&&◌, ◌||◌, cond, List, [], ◌∷◌, Option, Some, None, refl, sym, ap, ◌∙◌, subst, arith}
use Rattle.std.specs.List.{list_any, filter, fold}
use Rattle.std.specs.Cmp.{IsStrictWeakOrder}
use Rattle.std.proofs.lemmas.List.Elements.{filter_agree}
use Rattle.decision_core.specs.Choice.{keep, first}
use Rattle.decision_core.specs.Search.{in_turn, pick, best_by}

-- ---- orders

in_turn-one_way : (rxy ryx sxy syx : Bool) → (rxy ≡ true → ryx ≡ false) → (sxy ≡ true → syx ≡ false) → (rxy || (not ryx && sxy)) ≡ true
    → (ryx || (not rxy && syx)) ≡ false
in_turn-one_way rxy ryx sxy syx r s h = grind arith

in_turn-chain : (rxy ryx ryz rzy rxz rzx sxy syz sxz : Bool) → (rxy ≡ false → ryz ≡ false → rxz ≡ false) → (ryz ≡ false → rzx ≡ false → ryx ≡ false)
    → (rzx ≡ false → rxy ≡ false → rzy ≡ false) → (sxy ≡ false → syz ≡ false → sxz ≡ false) → (rxy || (not ryx && sxy)) ≡ false
    → (ryz || (not rzy && syz)) ≡ false → (rxz || (not rzx && sxz)) ≡ false
in_turn-chain rxy ryx ryz rzy rxz rzx sxy syz sxz a b c d h k = grind arith

pub IsStrictWeakOrder-in_turn : {X : Type 0} (r s : X → X → Bool) → IsStrictWeakOrder r → IsStrictWeakOrder s → IsStrictWeakOrder (in_turn r s)
IsStrictWeakOrder-in_turn r s o p = record {
  one_way = λ x y. in_turn-one_way (r x y) (r y x) (s x y) (s y x) (o.one_way x y) (p.one_way x y);
  chain = λ x y z. in_turn-chain (r x y) (r y x) (r y z) (r z y) (r x z) (r z x) (s x y)
      (s y z) (s x z) (o.chain x y z) (o.chain y z x) (o.chain z x y) (p.chain x y z);
}

flag-one_way : (a b : Bool) → (a && not b) ≡ true → (b && not a) ≡ false
flag-one_way a b h = grind arith

flag-chain : (a b c : Bool) → (a && not b) ≡ false → (b && not c) ≡ false → (a && not c) ≡ false
flag-chain a b c h k = grind arith

pub IsStrictWeakOrder-by_flag : {X : Type 0} (flag : X → Bool) → IsStrictWeakOrder (λ a b. flag a && not (flag b))
IsStrictWeakOrder-by_flag flag = record {
  one_way = λ x y. flag-one_way (flag x) (flag y);
  chain = λ x y z. flag-chain (flag x) (flag y) (flag z);
}

-- an order of keys is one of what has them
pub IsStrictWeakOrder-on : {X Y : Type 0} (key : X → Y) (lt : Y → Y → Bool) → IsStrictWeakOrder lt → IsStrictWeakOrder (λ a b. lt (key a) (key b))
IsStrictWeakOrder-on key lt o = record {
  one_way = λ x y. o.one_way (key x) (key y);
  chain = λ x y z. o.chain (key x) (key y) (key z);
}

not_itself : (b : Bool) → (b ≡ true → b ≡ false) → b ≡ false
not_itself true h = h refl
not_itself false h = refl

pub irreflexive : {X : Type 0} (lt : X → X → Bool) → IsStrictWeakOrder lt → (x : X) → lt x x ≡ false
irreflexive lt o x = not_itself (lt x x) (o.one_way x x)

-- ---- a rule and then others, as the code tests it

-- ---- which elements pass

any_of_cond : {X : Type 0} (p : X → Bool) (b : Bool) (x : X) (xs : List X) (r : Bool) → list_any p xs ≡ r → list_any p (cond b (x ∷ xs) xs) ≡ ((b && p x) || r)
any_of_cond p true x xs r h = rw h refl
any_of_cond p false x xs r h = h

pub list_any-filter : {X : Type 0} (p q : X → Bool) (xs : List X) → list_any p (filter q xs) ≡ list_any (λ x. q x && p x) xs
list_any-filter p q [] = refl
list_any-filter p q (x ∷ xs) = any_of_cond p (q x) x (filter q xs) (list_any (λ y. q y && p y) xs) (list_any-filter p q xs)

filter_of_cond : {X : Type 0} (p : X → Bool) (b : Bool) (x : X) (xs ys : List X) → filter p xs ≡ ys
    → filter p (cond b (x ∷ xs) xs) ≡ cond (b && p x) (x ∷ ys) ys
filter_of_cond p true x xs ys h = rw h refl
filter_of_cond p false x xs ys h = h

pub filter-filter : {X : Type 0} (p q : X → Bool) (xs : List X) → filter p (filter q xs) ≡ filter (λ x. q x && p x) xs
filter-filter p q [] = refl
filter-filter p q (x ∷ xs) = filter_of_cond p (q x) x (filter q xs) (filter (λ y. q y && p y) xs) (filter-filter p q xs)

or_false-left : (a b : Bool) → (a || b) ≡ false → a ≡ false
or_false-left true b h = h
or_false-left false b h = refl

or_false-right : (a b : Bool) → (a || b) ≡ false → b ≡ false
or_false-right true b h = cc
or_false-right false b h = h

or_false : (a b : Bool) → a ≡ false → b ≡ false → (a || b) ≡ false
or_false a b h k = rw (h, k) refl

both_true : (a b : Bool) → a ≡ true → b ≡ true → (a && b) ≡ true
both_true a b h k = rw (h, k) refl

or_true-left : (a b : Bool) → a ≡ true → (a || b) ≡ true
or_true-left a b h = rw h refl

or_true-right : (a b : Bool) → b ≡ true → (a || b) ≡ true
or_true-right true b h = refl
or_true-right false b h = h

or_true-cases : {C : Type 0} (a b : Bool) → (a || b) ≡ true → (a ≡ true → C) → (b ≡ true → C) → C
or_true-cases true b h left right = left refl
or_true-cases false b h left right = right h

-- what passes none of one test passes none of a narrower one
pub list_any-narrower : {X : Type 0} (p q : X → Bool) → ((x : X) → p x ≡ false → q x ≡ false) → (xs : List X) → list_any p xs ≡ false → list_any q xs ≡ false
list_any-narrower p q weak [] h = refl
list_any-narrower p q weak (x ∷ xs) h = or_false (q x) (list_any q xs) (weak x (or_false-left (p x) (list_any p xs) h))
    (list_any-narrower p q weak xs (or_false-right (p x) (list_any p xs) h))

same_cons : {X : Type 0} (b c : Bool) (x : X) (ys zs : List X) → b ≡ c → ys ≡ zs → cond b (x ∷ ys) ys ≡ cond c (x ∷ zs) zs
same_cons b c x ys zs h k = rw (h, k) refl

-- two tests that agree at each element that another one refuses, where it refuses all
pub filter_agree_where : {X : Type 0} (bad p q : X → Bool) → ((x : X) → bad x ≡ false → p x ≡ q x) → (xs : List X) → list_any bad xs ≡ false
    → filter p xs ≡ filter q xs
filter_agree_where bad p q same [] h = refl
filter_agree_where bad p q same (x ∷ xs) h =
    same_cons (p x) (q x) x (filter p xs) (filter q xs) (same x (or_false-left (bad x) (list_any bad xs) h))
    (filter_agree_where bad p q same xs (or_false-right (bad x) (list_any bad xs) h))

-- ---- the best of a list

-- an element of the list that no other one is better than
pub record Tops {X : Type 0} (lt : X → X → Bool) (top : X) (xs : List X) : Type 0 where
  pub least : list_any (λ y. lt y top) xs ≡ false
  pub there : (p : X → Bool) → p top ≡ true → list_any p xs ≡ true

-- the best one so far, from one on: nothing is better, and what stands before it is worse
pub record BestFrom {X : Type 0} (lt : X → X → Bool) (x : X) (rest all : List X) : Type 0 where
  pub best : X
  pub is : fold (pick lt) (Some x) rest ≡ Some best
  pub tops : Tops lt best all
  pub leads : first (filter (λ z. not (lt best z)) all) ≡ Some best

first_kept : {X : Type 0} (b : Bool) (x : X) (xs : List X) (r : Option X) → b ≡ true → Some x ≡ r → first (cond b (x ∷ xs) xs) ≡ r
first_kept b x xs r h k = rw h k

first_dropped : {X : Type 0} (b : Bool) (x : X) (xs : List X) (r : Option X) → b ≡ false → first xs ≡ r → first (cond b (x ∷ xs) xs) ≡ r
first_dropped b x xs r h k = rw h k

not_false : (b : Bool) → b ≡ false → not b ≡ true
not_false b h = rw h refl

double_not : (b : Bool) → not b ≡ false → b ≡ true
double_not true h = refl
double_not false h = cc

not_true : (b : Bool) → b ≡ true → not b ≡ false
not_true b h = rw h refl

-- where the second of three is better than the first, the best is better too
above : {X : Type 0} (lt : X → X → Bool) → IsStrictWeakOrder lt → (b x y : X) → lt y x ≡ true → lt y b ≡ false → (c : Bool) → c ≡ lt b x → c ≡ true
above lt o b x y better least true is = refl
above lt o b x y better least false is =
    let no : lt y x ≡ false = o.chain y b x least (sym is) in cc

-- one that the best isn't better than comes before one that it isn't better than
dropped_too : {X : Type 0} (lt : X → X → Bool) → IsStrictWeakOrder lt → (b x y : X) → lt y x ≡ false → lt b x ≡ true → (c : Bool) → c ≡ lt b y → c ≡ true
dropped_too lt o b x y worse beaten true is = refl
dropped_too lt o b x y worse beaten false is =
    let no : lt b x ≡ false = o.chain b y x (sym is) worse in cc

skip_second : {X : Type 0} (a c : Bool) (x y : X) (zs : List X) (r : Option X) → (a ≡ false → c ≡ false) → first (cond a (x ∷ zs) zs) ≡ r
    → first (cond a (x ∷ cond c (y ∷ zs) zs) (cond c (y ∷ zs) zs)) ≡ r
skip_second true c x y zs r both h = h
skip_second false c x y zs r both h = first_dropped c y zs r (both refl) h

best_step : {X : Type 0} (lt : X → X → Bool) → IsStrictWeakOrder lt → (x y : X) (ys : List X) (c : Bool) → c ≡ lt y x
    → BestFrom lt (cond c y x) ys (cond c y x ∷ ys) → BestFrom lt (cond c y x) ys (x ∷ (y ∷ ys))
best_step lt o x y ys true is h =
    let b = h.best in
    let least : lt y b ≡ false = or_false-left (lt y b) (list_any (λ z. lt z b) ys) h.tops.least in
    let behind : lt x y ≡ false = o.one_way y x (sym is) in
    let beaten : lt b x ≡ true = above lt o b x y (sym is) least (lt b x) refl in
    record {
      best = b;
      is = h.is;
      tops = record {
        least = or_false (lt x b) (list_any (λ z. lt z b) (y ∷ ys)) (o.chain x y b behind least) h.tops.least;
        there = λ p holds. or_true-right (p x) (list_any p (y ∷ ys)) (h.tops.there p holds);
      };
      leads = first_dropped (not (lt b x)) x (filter (λ z. not (lt b z)) (y ∷ ys)) (Some b) (not_true (lt b x) beaten) h.leads;
    }
best_step lt o x y ys false is h =
    let b = h.best in
    let least : lt x b ≡ false = or_false-left (lt x b) (list_any (λ z. lt z b) ys) h.tops.least in
    let others : list_any (λ z. lt z b) ys ≡ false = or_false-right (lt x b) (list_any (λ z. lt z b) ys) h.tops.least in
    let least_y : lt y b ≡ false = o.chain y x b (sym is) least in
    record {
      best = b;
      is = h.is;
      tops = record {
        least = or_false (lt x b) (lt y b || list_any (λ z. lt z b) ys) least (or_false (lt y b) (list_any (λ z. lt z b) ys) least_y others);
        there = λ p holds. or_true-cases (p x) (list_any p ys) (h.tops.there p holds) (λ k. or_true-left (p x) (p y || list_any p ys) k)
            (λ k. or_true-right (p x) (p y || list_any p ys) (or_true-right (p y) (list_any p ys) k));
      };
      leads = skip_second (not (lt b x)) (not (lt b y)) x y (filter (λ z. not (lt b z)) ys) (Some b)
          (λ k. not_true (lt b y) (dropped_too lt o b x y (sym is) (double_not (lt b x) k) (lt b y) refl)) h.leads;
    }

best_from : {X : Type 0} (lt : X → X → Bool) → IsStrictWeakOrder lt → (x : X) (xs : List X) → BestFrom lt x xs (x ∷ xs)
best_from lt o x [] = record {
  best = x;
  is = refl;
  tops = record {
    least = or_false (lt x x) false (irreflexive lt o x) refl;
    there = λ p holds. or_true-left (p x) false holds;
  };
  leads = first_kept (not (lt x x)) x [] (Some x) (not_false (lt x x) (irreflexive lt o x)) refl;
}
best_from lt o x (y ∷ ys) =
    let step = best_step lt o x y ys (lt y x) refl (best_from lt o (cond (lt y x) y x) ys) in
    record { best = step.best; is = step.is; tops = step.tops; leads = step.leads }

-- ---- filters by the best

beaten_cases : (b r : Bool) → (b ≡ true → r ≡ true) → (b ≡ false → r ≡ false) → r ≡ b
beaten_cases true r where_true where_false = where_true refl
beaten_cases false r where_true where_false = where_false refl

-- some element is better exactly where the best one is
pub beaten_by_top : {X : Type 0} (lt : X → X → Bool) → IsStrictWeakOrder lt → (top : X) (xs : List X) → Tops lt top xs → (x : X)
    → list_any (λ y. lt y x) xs ≡ lt top x
beaten_by_top lt o top xs t x =
    beaten_cases (lt top x) (list_any (λ y. lt y x) xs) (t.there (λ y. lt y x))
    (λ apart. list_any-narrower (λ y. lt y top) (λ y. lt y x) (λ y below. o.chain y top x below apart) xs t.least)

pub keep-by_top : {X : Type 0} (lt : X → X → Bool) → IsStrictWeakOrder lt → (top : X) (xs : List X) → Tops lt top xs
    → keep lt xs ≡ filter (λ x. not (lt top x)) xs
unfolding keep
keep-by_top lt o top xs t = filter_agree (λ x. not (list_any (λ y. lt y x) xs)) (λ x. not (lt top x)) (λ x. ap not (beaten_by_top lt o top xs t x)) xs

-- the first of those that a rule keeps is the best by it
pub first-keep : {X : Type 0} (lt : X → X → Bool) → IsStrictWeakOrder lt → (xs : List X) → first (keep lt xs) ≡ best_by lt xs
unfolding keep
first-keep lt o [] = refl
first-keep lt o (x ∷ xs) =
    let b = best_from lt o x xs in
    ap first (keep-by_top lt o b.best (x ∷ xs) b.tops) ∙ b.leads ∙ sym b.is

-- ---- two rules, one after the other

pub Tops-in_turn_first : {X : Type 0} (r s : X → X → Bool) (top : X) (xs : List X) → Tops (in_turn r s) top xs → Tops r top xs
Tops-in_turn_first r s top xs t = record {
  least = list_any-narrower (λ y. in_turn r s y top) (λ y. r y top) (λ y h. or_false-left (r y top) (not (r top y) && s y top) h) xs t.least;
  there = t.there;
}

pub Tops-in_turn_second : {X : Type 0} (r s : X → X → Bool) → IsStrictWeakOrder r → (top : X) (xs : List X) → Tops (in_turn r s) top xs
    → Tops s top (filter (λ x. not (r top x)) xs)
Tops-in_turn_second r s o top xs t = record {
  least = list_any-filter (λ y. s y top) (λ x. not (r top x)) xs
      ∙ list_any-narrower (λ y. in_turn r s y top) (λ y. not (r top y) && s y top) (λ y h. or_false-right (r y top) (not (r top y) && s y top) h) xs t.least;
  there = λ p holds. list_any-filter p (λ x. not (r top x)) xs
      ∙ t.there (λ y. not (r top y) && p y) (both_true (not (r top top)) (p top) (not_false (r top top) (irreflexive r o top)) holds);
}

neither : (a b c : Bool) → b ≡ false → (not a && not c) ≡ not (a || (not b && c))
neither a b c h = grind arith

-- a filter by one rule and then by another is one by both in turn
pub keep-keep : {X : Type 0} (r s : X → X → Bool) → IsStrictWeakOrder r → IsStrictWeakOrder s → (xs : List X) → keep s (keep r xs) ≡ keep (in_turn r s) xs
unfolding keep
keep-keep r s o p [] = refl
keep-keep {X} r s o p (x ∷ xs) =
    let all : List X = x ∷ xs in
    let both = IsStrictWeakOrder-in_turn r s o p in
    let b = best_from (in_turn r s) both x xs in
    let left : List X = filter (λ z. not (r b.best z)) all in
    let by_first = Tops-in_turn_first r s b.best all b.tops in
    ap (keep s) (keep-by_top r o b.best all by_first)
    ∙ keep-by_top s p b.best left (Tops-in_turn_second r s o b.best all b.tops)
    ∙ filter-filter (λ z. not (s b.best z)) (λ z. not (r b.best z)) all
    ∙ filter_agree_where (λ z. r z b.best) (λ z. not (r b.best z) && not (s b.best z))
    (λ z. not (in_turn r s b.best z)) (λ z h. neither (r b.best z) (r z b.best) (s b.best z) h) all by_first.least
    ∙ sym (keep-by_top (in_turn r s) both b.best all b.tops)

some_same : {X : Type 0} (x y : X) → Some x ≡ Some y → x ≡ y
some_same x y h = cc

Tops-at : {X : Type 0} (lt : X → X → Bool) (x y : X) (xs : List X) → x ≡ y → Tops lt x xs → Tops lt y xs
Tops-at lt x y xs h t = subst (λ z. Tops lt z xs) h t

pub best_by-tops : {X : Type 0} (lt : X → X → Bool) → IsStrictWeakOrder lt → (xs : List X) (top : X) → best_by lt xs ≡ Some top → Tops lt top xs
best_by-tops lt o [] top is = cc
best_by-tops lt o (x ∷ xs) top is =
    let b = best_from lt o x xs in
    let same : b.best ≡ top = some_same b.best top (sym b.is ∙ is) in
    Tops-at lt b.best top (x ∷ xs) same b.tops

pub best_by-none : {X : Type 0} (lt : X → X → Bool) → IsStrictWeakOrder lt → (xs : List X) → best_by lt xs ≡ None → xs ≡ []
best_by-none lt o [] is = refl
best_by-none lt o (x ∷ xs) is = let b = best_from lt o x xs in let no : Some b.best ≡ None = sym b.is ∙ is in cc

-- ---- a rule leaves something

filter-none_of_cond : {X : Type 0} (b : Bool) (x : X) (xs : List X) → cond b (x ∷ xs) xs ≡ [] → (b ≡ false) × (xs ≡ [])
filter-none_of_cond true x xs h = cc
filter-none_of_cond false x xs h = (refl, h)

filter-none : {X : Type 0} (p : X → Bool) (xs : List X) → filter p xs ≡ [] → list_any p xs ≡ false
filter-none p [] h = refl
filter-none p (x ∷ xs) h =
    let parts = filter-none_of_cond (p x) x (filter p xs) h in
    or_false (p x) (list_any p xs) parts.0 (filter-none p xs parts.1)

-- where an order says at least what the rule says, the least element is left
pub keep-none : {X : Type 0} (rule lt : X → X → Bool) → IsStrictWeakOrder lt → ((x y : X) → lt x y ≡ false → rule x y ≡ false) → (xs : List X)
    → keep rule xs ≡ [] → xs ≡ []
unfolding keep
keep-none rule lt o weaker [] h = refl
keep-none {X} rule lt o weaker (x ∷ xs) h =
    let all : List X = x ∷ xs in
    let b = best_from lt o x xs in
    let stays = not_false (list_any (λ y. rule y b.best) all)
    (list_any-narrower (λ y. lt y b.best) (λ y. rule y b.best) (λ y. weaker y b.best) all b.tops.least) in
    let some = b.tops.there (λ z. not (list_any (λ y. rule y z) all)) stays in
    let none = filter-none (λ z. not (list_any (λ y. rule y z) all)) all h in
    cc
