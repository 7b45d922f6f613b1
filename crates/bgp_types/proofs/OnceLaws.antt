-- A list of prefixes, each once, where it first stands.
use Rattle.std.proofs.Common.{◌≡◌, ℕ, suc, ◌+◌, ◌-◌, ◌*◌, ◌/◌, ◌^◌, ◌<◌, ◌≤◌, List, [], ◌∷◌, ◌++◌, length, Bool}
use Rattle.std.proofs.Common.{true, false, cond, eqb, refl, sym, ap, ◌∙◌, subst, arith, append_assoc}
use Rattle.std.specs.Prelude.{◌&&◌, ◌↔◌, ◌⊎◌, Contains, not}
use Rattle.std.specs.List.{AllByRecursion, IsDistinct, list_any, position_or_len}
use Rattle.std.proofs.Common.{inl, inr}
use Rattle.std.proofs.lemmas.Bool.{eqb-true}
use Rattle.std.proofs.lemmas.Bool.Decides.{nat_tests}
use Rattle.std.proofs.lemmas.List.{append-nil}
use Rattle.std.proofs.lemmas.List.Elements.{Contains-append_left, Contains-append_right, Contains-push, Contains-push_cases, Contains-append_cases}
use Rattle.std.proofs.lemmas.Nat.{shl-shr, shr_split}
use Rattle.std.proofs.lemmas.Map.Views.{Contains-from_any}
use Rattle.bgp_types.specs.Prefixes.{PrefixValue, IsPrefix, cleared, prefix_of, same_prefix, put_once, once_after, first_index, EachOnce}
use Rattle.bgp_types.specs.Rising.{IsRising}
use Rattle.bgp_types.proofs.ManyLaws.{either_false}

-- ---- members

module _ {A : Type 0} where
  none_in : (x : A) → Contains [] x → ⊥
  none_in x (k, low, is) = omega arith

  one_in : (x y : A) → Contains (x ∷ []) y → x ≡ y
  one_in x y c = by_case (Contains-push_cases [] x y c) where
    by_case : Contains [] y ⊎ (x ≡ y) → x ≡ y
    by_case (inl c) = absurd (none_in y c)
    by_case (inr e) = e

  first_or : (x : A) (xs : List A) (y : A) → Contains (x ∷ xs) y → (x ≡ y) ⊎ Contains xs y
  first_or x xs y c = by_case (Contains-append_cases (x ∷ []) xs y c) where
    by_case : Contains (x ∷ []) y ⊎ Contains xs y → (x ≡ y) ⊎ Contains xs y
    by_case (inl c) = inl (one_in x y c)
    by_case (inr c) = inr c

  first_in : (x : A) (xs : List A) → Contains (x ∷ xs) x
  first_in x xs = Contains-append_left (x ∷ []) xs x (Contains-push [] x)

  later_in : (x : A) (xs : List A) (y : A) → Contains xs y → Contains (x ∷ xs) y
  later_in x xs y c = Contains-append_right (x ∷ []) xs y c

  each_of : (P : A → Type 0) (xs : List A) → ((x : A) → Contains xs x → P x) → AllByRecursion P xs
  each_of P [] h = tt
  each_of P (x ∷ xs) h = (h x (first_in x xs), each_of P xs (λ y c. h y (later_in x xs y c)))

  of_each : (P : A → Type 0) (xs : List A) (y : A) → AllByRecursion P xs → Contains xs y → P y
  of_each P [] y all c = absurd (none_in y c)
  of_each P (x ∷ xs) y all c = by_case (of_each P xs y all.1) (first_or x xs y c) where
    by_case : (Contains xs y → P y) → (x ≡ y) ⊎ Contains xs y → P y
    by_case later (inl e) = subst P e all.0
    by_case later (inr c) = later c

  all_push : (P : A → Type 0) (xs : List A) (x : A) → AllByRecursion P xs → P x → AllByRecursion P (xs ++ x ∷ [])
  all_push P [] x all here = (here, tt)
  all_push P (y ∷ xs) x all here = (all.0, all_push P xs x all.1 here)

  -- ---- indices

  found : (test : A → Bool) (xs : List A) (y : A) → test y ≡ true → Contains xs y → position_or_len test xs < length xs
  found test [] y e c = absurd (none_in y c)
  found test (x ∷ xs) y e c = by_test (test x) refl (first_or x xs y c) (found test xs y e) where
    by_test : (t : Bool) → test x ≡ t → (x ≡ y) ⊎ Contains xs y → (Contains xs y → position_or_len test xs < length xs)
        → cond (not t) (1 + position_or_len test xs) 0 < suc (length xs)
    by_test true f d later = omega arith
    by_test false f (inl s) later = absurd (let g : test x ≡ true = ap test s ∙ e in cc)
    by_test false f (inr d) later = let h = later d in omega arith

  missed : (test : A → Bool) (xs : List A) → list_any test xs ≡ false → position_or_len test xs ≡ length xs
  missed test [] e = refl
  missed test (x ∷ xs) e =
      let h = either_false (test x) (list_any test xs) e in
      let later : position_or_len test xs ≡ length xs = missed test xs h.1 in
      rw h.0 (omega arith)

  index_before : (test : A → Bool) (xs ys : List A) → position_or_len test xs < length xs → position_or_len test (xs ++ ys) ≡ position_or_len test xs
  index_before test [] ys low = absurd (omega arith)
  index_before test (x ∷ xs) ys low = by_test (test x) low (index_before test xs ys) where
    by_test : (t : Bool) → cond (not t) (1 + position_or_len test xs) 0 < suc (length xs)
        → (position_or_len test xs < length xs → position_or_len test (xs ++ ys) ≡ position_or_len test xs)
        → cond (not t) (1 + position_or_len test (xs ++ ys)) 0 ≡ cond (not t) (1 + position_or_len test xs) 0
    by_test true low later = refl
    by_test false low later = ap (λ n. 1 + n) (later (omega arith))

  index_behind : (test : A → Bool) (xs : List A) (y : A) → list_any test xs ≡ false → test y ≡ true → position_or_len test (xs ++ y ∷ []) ≡ length xs
  index_behind test [] y none e = rw e refl
  index_behind test (x ∷ xs) y none e =
      let h = either_false (test x) (list_any test xs) none in
      let later : position_or_len test (xs ++ y ∷ []) ≡ length xs = index_behind test xs y h.1 e in
      rw h.0 (omega arith)

  -- ---- rising lists

  rising_by : (f g : A → ℕ) (xs : List A) → AllByRecursion (λ x. f x ≡ g x) xs → IsRising f xs → IsRising g xs
  rising_by f g [] same rise = tt
  rising_by f g (x ∷ xs) same rise = (above xs same.1 rise.0, rising_by f g xs same.1 rise.1) where
    above : (ys : List A) → AllByRecursion (λ y. f y ≡ g y) ys → AllByRecursion (λ y. f x < f y) ys → AllByRecursion (λ y. g x < g y) ys
    above [] e up = tt
    above (y ∷ ys) e up = (let s = same.0 in let t = e.0 in let u = up.0 in omega arith, above ys e.1 up.1)

  rising_push : (f : A → ℕ) (xs : List A) (y : A) → IsRising f xs → AllByRecursion (λ x. f x < f y) xs → IsRising f (xs ++ y ∷ [])
  rising_push f [] y rise below = (tt, tt)
  rising_push f (x ∷ xs) y rise below = (all_push (λ z. f x < f z) xs y rise.0 below.0, rising_push f xs y rise.1 below.1)

  -- rising lists with the same members are one list
  one_list : (f : A → ℕ) (xs ys : List A) → IsRising f xs → IsRising f ys → ((z : A) → Contains xs z → Contains ys z)
      → ((z : A) → Contains ys z → Contains xs z) → xs ≡ ys
  one_list f [] [] r s h k = refl
  one_list f (x ∷ xs) [] r s h k = absurd (none_in x (h x (first_in x xs)))
  one_list f [] (y ∷ ys) r s h k = absurd (none_in y (k y (first_in y ys)))
  one_list f (x ∷ xs) (y ∷ ys) r s h k = let head = same in let tail = one_list f xs ys r.1 s.1 forth back in cc where
    heads : (y ≡ x) ⊎ Contains ys x → (x ≡ y) ⊎ Contains xs y → x ≡ y
    heads (inl e) there = sym e
    heads (inr c) (inl e) = e
    heads (inr c) (inr d) =
        absurd (let up : f y < f x = of_each (λ z. f y < f z) ys x s.0 c in let down : f x < f y = of_each (λ z. f x < f z) xs y r.0 d in omega arith)

    same : x ≡ y
    same = heads (first_or y ys x (h x (first_in x xs))) (first_or x xs y (k y (first_in y ys)))

    forth : (z : A) → Contains xs z → Contains ys z
    forth z c = by_case (first_or y ys z (h z (later_in x xs z c))) where
      by_case : (y ≡ z) ⊎ Contains ys z → Contains ys z
      by_case (inl e) = absurd (let up : f x < f z = of_each (λ w. f x < f w) xs z r.0 c in let level : f x ≡ f z = ap f (same ∙ e) in omega arith)
      by_case (inr d) = d

    back : (z : A) → Contains ys z → Contains xs z
    back z c = by_case (first_or x xs z (k z (later_in y ys z c))) where
      by_case : (x ≡ z) ⊎ Contains xs z → Contains xs z
      by_case (inl e) = absurd (let up : f y < f z = of_each (λ w. f y < f w) ys z s.0 c in let level : f y ≡ f z = ap f (sym same ∙ e) in omega arith)
      by_case (inr d) = d

-- ---- prefixes

pub same_itself : (p : PrefixValue) → same_prefix p p ≡ true
same_itself p =
    let a : eqb p.address p.address ≡ true = grind (arith, nat_tests) in
    let l : eqb p.len p.len ≡ true = grind (arith, nat_tests) in
    rw (a, l) refl

pub is_same : (p q : PrefixValue) → same_prefix p q ≡ true → p ≡ q
is_same p q e = by_test (eqb p.address q.address) (eqb p.len q.len) refl refl e where
  by_test : (a l : Bool) → eqb p.address q.address ≡ a → eqb p.len q.len ≡ l → (a && l) ≡ true → p ≡ q
  by_test true true f g e = let a = eqb-true _ _ f in let l = eqb-true _ _ g in grind arith
  by_test true false f g e = absurd cc
  by_test false l f g e = absurd cc

-- prefixes whose indices rise are distinct
rising_distinct : (index : PrefixValue → ℕ) (ps : List PrefixValue) → IsRising index ps → IsDistinct same_prefix ps
unfolding IsDistinct
rising_distinct index [] rise = tt
rising_distinct index (p ∷ ps) rise = (apart ps rise.0, rising_distinct index ps rise.1) where
  unlike : (q : PrefixValue) (t : Bool) → same_prefix p q ≡ t → index p < index q → t ≡ false
  unlike q true e up = absurd (let level : index p ≡ index q = ap index (is_same p q e) in omega arith)
  unlike q false e up = refl

  apart : (qs : List PrefixValue) → AllByRecursion (λ q. index p < index q) qs → AllByRecursion (λ q. same_prefix p q ≡ false) qs
  apart [] up = tt
  apart (q ∷ qs) up = (unlike q (same_prefix p q) refl up.0, apart qs up.1)

-- one more prefix at the end
module _ (front seen : List PrefixValue) (p : PrefixValue) (so_far : EachOnce front seen) where
  same_indices : AllByRecursion (λ q. first_index front q ≡ first_index (front ++ p ∷ []) q) seen
  same_indices = each_of (λ q. first_index front q ≡ first_index (front ++ p ∷ []) q) seen
      (λ q c. sym (index_before (same_prefix q) front (p ∷ []) (found (same_prefix q) front q (same_itself q) ((so_far.members q).0 c))))

  still : IsRising (first_index (front ++ p ∷ [])) seen
  still = rising_by (first_index front) (first_index (front ++ p ∷ [])) seen same_indices so_far.in_order

  stays : list_any (same_prefix p) seen ≡ true → EachOnce (front ++ p ∷ []) seen
  stays e = record {
    members = λ q. (λ c. Contains-append_left front (p ∷ []) q ((so_far.members q).0 c), λ c. by_case q (Contains-push_cases front p q c));
    distinct = so_far.distinct;
    in_order = still;
  }
    where
      by_case : (q : PrefixValue) → Contains front q ⊎ (p ≡ q) → Contains seen q
      by_case q (inl c) = (so_far.members q).1 c
      by_case q (inr s) = subst (λ (x : PrefixValue). Contains seen x) s (Contains-from_any is_same p seen e)

  new : list_any (same_prefix p) seen ≡ false → list_any (same_prefix p) front ≡ false
  new e = by_test (list_any (same_prefix p) front) refl where
    by_test : (t : Bool) → list_any (same_prefix p) front ≡ t → t ≡ false
    by_test false f = refl
    by_test true f =
        let low : position_or_len (same_prefix p) seen < length seen =
        found (same_prefix p) seen p (same_itself p) ((so_far.members p).1 (Contains-from_any is_same p front f)) in
        let none : position_or_len (same_prefix p) seen ≡ length seen = missed (same_prefix p) seen e in
        absurd (omega arith)

  below : list_any (same_prefix p) seen ≡ false → AllByRecursion (λ q. first_index (front ++ p ∷ []) q < first_index (front ++ p ∷ []) p) seen
  below e = each_of (λ q. first_index (front ++ p ∷ []) q < first_index (front ++ p ∷ []) p) seen (λ q c.
      let low : first_index front q < length front = found (same_prefix q) front q (same_itself q) ((so_far.members q).0 c) in
      let before : first_index (front ++ p ∷ []) q ≡ first_index front q = index_before (same_prefix q) front (p ∷ []) low in
      let last : first_index (front ++ p ∷ []) p ≡ length front = index_behind (same_prefix p) front p (new e) (same_itself p) in
      rw (before, last) low)

  joins : list_any (same_prefix p) seen ≡ false → EachOnce (front ++ p ∷ []) (seen ++ p ∷ [])
  joins e = record {
    members = λ q. (λ c. forth q (Contains-push_cases seen p q c), λ c. back q (Contains-push_cases front p q c));
    distinct = rising_distinct (first_index (front ++ p ∷ [])) (seen ++ p ∷ []) rise;
    in_order = rise;
  }
    where
      rise : IsRising (first_index (front ++ p ∷ [])) (seen ++ p ∷ [])
      rise = rising_push (first_index (front ++ p ∷ [])) seen p still (below e)

      last : (xs : List PrefixValue) (q : PrefixValue) → p ≡ q → Contains (xs ++ p ∷ []) q
      last xs q s = subst (λ (x : PrefixValue). Contains (xs ++ p ∷ []) x) s (Contains-push xs p)

      forth : (q : PrefixValue) → Contains seen q ⊎ (p ≡ q) → Contains (front ++ p ∷ []) q
      forth q (inl c) = Contains-append_left front (p ∷ []) q ((so_far.members q).0 c)
      forth q (inr s) = last front q s

      back : (q : PrefixValue) → Contains front q ⊎ (p ≡ q) → Contains (seen ++ p ∷ []) q
      back q (inl c) = Contains-append_left seen (p ∷ []) q ((so_far.members q).1 c)
      back q (inr s) = last seen q s

  pub EachOnce-push : EachOnce (front ++ p ∷ []) (put_once seen p)
  EachOnce-push = by_test (list_any (same_prefix p) seen) refl where
    by_test : (t : Bool) → list_any (same_prefix p) seen ≡ t → EachOnce (front ++ p ∷ []) (cond t seen (seen ++ p ∷ []))
    by_test true e = stays e
    by_test false e = joins e

each_from : (front seen prefixes : List PrefixValue) → EachOnce front seen → EachOnce (front ++ prefixes) (once_after seen prefixes)
each_from front seen [] so_far = subst (λ (xs : List PrefixValue). EachOnce xs seen) (sym (append-nil front)) so_far
each_from front seen (p ∷ prefixes) so_far =
    subst (λ (xs : List PrefixValue). EachOnce xs (once_after (put_once seen p) prefixes)) (append_assoc front (p ∷ []) prefixes)
    (each_from (front ++ p ∷ []) (put_once seen p) prefixes (EachOnce-push front seen p so_far))

pub EachOnce-none : EachOnce [] []
unfolding IsDistinct
EachOnce-none = record { members = λ p. (λ c. c, λ c. c); distinct = tt; in_order = tt }

pub each_once : (prefixes once : List PrefixValue) → (once ≡ once_after [] prefixes) ↔ EachOnce prefixes once
each_once prefixes once = (
  λ e. subst (λ (xs : List PrefixValue). EachOnce prefixes xs) (sym e) is,
  λ other. one_list (first_index prefixes) once (once_after [] prefixes) other.in_order is.in_order
      (λ z c. (is.members z).1 ((other.members z).0 c)) (λ z c. (other.members z).1 ((is.members z).0 c)),
)
  where
    is : EachOnce prefixes (once_after [] prefixes)
    is = each_from [] [] prefixes EachOnce-none

-- ---- each is a prefix

cleared_again : (len address : ℕ) → cleared len (cleared len address) ≡ cleared len address
cleared_again len address = ap (λ (n : ℕ). n * 2 ^ (32 - len)) (shl-shr (address / 2 ^ (32 - len)) (32 - len))

cleared_le : (len address : ℕ) → cleared len address ≤ address
cleared_le len address = let h = shr_split address (32 - len) in omega arith

-- what an address begins with is a prefix
pub IsPrefix-prefix_of : (len address : ℕ) → len ≤ 32 → address < 2 ^ 32 → IsPrefix (prefix_of len address)
IsPrefix-prefix_of len address short fits =
    let le = cleared_le len address in
    record { len = short; address = omega arith; clear = cleared_again len address }

put_each : (seen : List PrefixValue) (p : PrefixValue) → AllByRecursion IsPrefix seen → IsPrefix p → AllByRecursion IsPrefix (put_once seen p)
put_each seen p each here = by_test (list_any (same_prefix p) seen) where
  by_test : (t : Bool) → AllByRecursion IsPrefix (cond t seen (seen ++ p ∷ []))
  by_test true = each
  by_test false = all_push IsPrefix seen p each here

pub once_each : (seen ps : List PrefixValue) → AllByRecursion IsPrefix seen → AllByRecursion IsPrefix ps → AllByRecursion IsPrefix (once_after seen ps)
once_each seen [] each more = each
once_each seen (p ∷ ps) each more = once_each (put_once seen p) ps (put_each seen p each more.0) more.1
