-- One further attribute, and what the attributes say.
use Rattle.std.proofs.Common.{◌≡◌, ℕ, List, [], ◌∷◌, ◌++◌, Bool, true, false, cond, eqb, Option, Some, None, Result, Ok, Err, refl, sym, ap, ◌∙◌, arith, subst}
use Rattle.std.specs.Prelude.{◌≢◌, is_some, bit_and}
use Rattle.std.proofs.lemmas.List.{append-nil}
use Rattle.std.proofs.lemmas.Bool.{eqb-true}
use Rattle.std.proofs.lemmas.Bool.Decides.{nat_tests}
use Rattle.bgp_types.specs.declared.attrs.Aggregator.{Aggregator}
use Rattle.bgp_types.specs.declared.attrs.Origin.{Origin}
use Rattle.bgp_types.specs.declared.attrs.RawAttr.{RawAttr}
use Rattle.bgp_types.specs.declared.message.Notice.{Notice}
use Rattle.bgp_types.specs.declared.path.PathPart.{PathPart}
use Rattle.bgp_types.specs.Faults.{ok_in, origin_in, path_in, next_hop_in, med_in, aggregator_in, other_in, kept_raw, attr_of}
use Rattle.bgp_types.specs.Found.{said, as4_path_in, as4_aggregator_in, unless_wide, join, kept}
use Rattle.bgp_types.specs.Values.{is_other}
use Rattle.bgp_types.specs.WireAttrs.{WireAttr}
use Rattle.attr_codec.specs.declared.said.Said.{Said}
use Rattle.attr_codec.specs.Saying.{attributes_said, with_kept, with_attr}

pub not_eq : (m n : ℕ) → m ≢ n → eqb m n ≡ false
not_eq m n h = grind (arith, nat_tests)

-- a look-up after a further attribute of a type that wasn't there
pub found_last : {B : Type 0} (read : Option WireAttr → B) (k : ℕ) (before : List WireAttr) (a : WireAttr) → attr_of a.kind before ≡ None
    → read (attr_of k (before ++ a ∷ [])) ≡ cond (eqb a.kind k) (read (Some a)) (read (attr_of k before))
found_last read k [] a h = by_test (eqb a.kind k) where
  by_test : (t : Bool) → read (cond t (Some a) None) ≡ cond t (read (Some a)) (read None)
  by_test true = refl
  by_test false = refl
found_last {B} read k (b ∷ before) a h = by_test (eqb b.kind a.kind) refl h (eqb b.kind k) refl (found_last read k before a) where
  by_test : (t : Bool) → eqb b.kind a.kind ≡ t → cond t (Some b) (attr_of a.kind before) ≡ None → (u : Bool) → eqb b.kind k ≡ u
      → (attr_of a.kind before ≡ None → read (attr_of k (before ++ a ∷ [])) ≡ cond (eqb a.kind k) (read (Some a)) (read (attr_of k before)))
      → read (cond u (Some b) (attr_of k (before ++ a ∷ []))) ≡ cond (eqb a.kind k) (read (Some a)) (read (cond u (Some b) (attr_of k before)))
  by_test true e h u f ih = absurd cc
  by_test false e h false f ih = ih h
  by_test false e h true f ih = let n : eqb a.kind k ≡ false = grind (arith, nat_tests) in ap (λ (t : Bool). cond t (read (Some a)) (read (Some b))) (sym n)

-- ---- the unknown ones

kept_append : (xs ys : List WireAttr) → kept (xs ++ ys) ≡ kept xs ++ kept ys
kept_append [] ys = refl
kept_append (x ∷ xs) ys = joined (is_other x.kind) (kept_raw x) (kept (xs ++ ys)) (kept xs) (kept ys) (kept_append xs ys) where
  joined : (b : Bool) (o : Option RawAttr) (zs xs ys : List RawAttr) → zs ≡ xs ++ ys → cond b (join o zs) zs ≡ cond b (join o xs) xs ++ ys
  joined true None zs xs ys e = e
  joined true (Some r) zs xs ys e = ap (λ (ws : List RawAttr). r ∷ ws) e
  joined false o zs xs ys e = e

unknown_last : (before : List WireAttr) (a : WireAttr) → kept (before ++ a ∷ []) ≡ cond (is_other a.kind) (with_kept (kept_raw a) (kept before)) (kept before)
unknown_last before a = kept_append before (a ∷ []) ∙ last (is_other a.kind) (kept_raw a) (kept before) where
  last : (t : Bool) (o : Option RawAttr) (xs : List RawAttr) → xs ++ cond t (join o []) [] ≡ cond t (with_kept o xs) xs
  last true None xs = append-nil xs
  last true (Some r) xs = refl
  last false o xs = append-nil xs

-- ---- by type

either : {Q : Type 0} (k j : ℕ) → (k ≡ j → Q) → (k ≢ j → Q) → Q
either {Q} k j same_kind other_kinds = by_test (eqb k j) refl where
  by_test : (t : Bool) → eqb k j ≡ t → Q
  by_test true e = same_kind (eqb-true _ _ e)
  by_test false e = other_kinds (λ same. grind (arith, nat_tests))

pub is_unknown : (k : ℕ) → k ≢ 1 → k ≢ 2 → k ≢ 3 → k ≢ 4 → k ≢ 5 → k ≢ 6 → k ≢ 7 → k ≢ 17 → k ≢ 18 → is_other k ≡ true
is_unknown k n1 n2 n3 n4 n5 n6 n7 n17 n18 = grind (arith, nat_tests)

kind_cases : (P : ℕ → Type 0) → P 1 → P 2 → P 3 → P 4 → P 5 → P 6 → P 7 → P 17 → P 18
    → ((k : ℕ) → k ≢ 1 → k ≢ 2 → k ≢ 3 → k ≢ 4 → k ≢ 5 → k ≢ 6 → k ≢ 7 → k ≢ 17 → k ≢ 18 → P k) → (k : ℕ) → P k
kind_cases P p1 p2 p3 p4 p5 p6 p7 p17 p18 other k =
    either k 1 (λ e. subst P (sym e) p1) (λ n1.
    either k 2 (λ e. subst P (sym e) p2) (λ n2.
    either k 3 (λ e. subst P (sym e) p3) (λ n3.
    either k 4 (λ e. subst P (sym e) p4) (λ n4.
    either k 5 (λ e. subst P (sym e) p5) (λ n5.
    either k 6 (λ e. subst P (sym e) p6) (λ n6.
    either k 7 (λ e. subst P (sym e) p7) (λ n7.
    either k 17 (λ e. subst P (sym e) p17) (λ n17.
    either k 18 (λ e. subst P (sym e) p18) (λ n18. other k n1 n2 n3 n4 n5 n6 n7 n17 n18)))))))))

-- what an attribute can say in each field
record Says : Type 0 where
  origin : Option Origin
  path : Option (List PathPart)
  next_hop : Option ℕ
  med : Option ℕ
  aggregator : Option Aggregator
  as4_path : Option (List PathPart)
  as4_aggregator : Option Aggregator
  unknown : List RawAttr

abbrev field_by_field : ℕ → Says → Said → Said
field_by_field k n s = record {
  origin = cond (eqb k 1) n.origin s.origin;
  path = cond (eqb k 2) n.path s.path;
  next_hop = cond (eqb k 3) n.next_hop s.next_hop;
  med = cond (eqb k 4) n.med s.med;
  atomic = cond (eqb k 6) true s.atomic;
  aggregator = cond (eqb k 7) n.aggregator s.aggregator;
  as4_path = cond (eqb k 17) n.as4_path s.as4_path;
  as4_aggregator = cond (eqb k 18) n.as4_aggregator s.as4_aggregator;
  unknown = cond (is_other k) n.unknown s.unknown;
}

abbrev by_kind : ℕ → Says → Said → Said
by_kind k n s =
    cond (eqb k 1) (record s { origin = n.origin })
    (cond (eqb k 2) (record s { path = n.path })
    (cond (eqb k 3) (record s { next_hop = n.next_hop })
    (cond (eqb k 4) (record s { med = n.med })
    (cond (eqb k 5) s
    (cond (eqb k 6) (record s { atomic = true })
    (cond (eqb k 7) (record s { aggregator = n.aggregator })
    (cond (eqb k 17) (record s { as4_path = n.as4_path })
    (cond (eqb k 18) (record s { as4_aggregator = n.as4_aggregator })
    (record s { unknown = n.unknown })))))))))

shape : (n : Says) (s : Said) (k : ℕ) → field_by_field k n s ≡ by_kind k n s
shape n s =
    kind_cases (λ k. field_by_field k n s ≡ by_kind k n s) refl refl refl refl refl refl refl refl refl
    (λ k n1 n2 n3 n4 n5 n6 n7 n17 n18.
    rw (
      not_eq k 1 n1,
      not_eq k 2 n2,
      not_eq k 3 n3,
      not_eq k 4 n4,
      not_eq k 5 n5,
      not_eq k 6 n6,
      not_eq k 7 n7,
      not_eq k 17 n17,
      not_eq k 18 n18,
      is_unknown k n1 n2 n3 n4 n5 n6 n7 n17 n18,
    ) refl)

pub said_step : (wide : Bool) (before : List WireAttr) (a : WireAttr) → attr_of a.kind before ≡ None
    → attributes_said wide (before ++ a ∷ []) ≡ with_attr wide a (attributes_said wide before)
unfolding attributes_said with_attr
said_step wide before a h =
    let n : Says = record {
      origin = ok_in (origin_in a);
      path = ok_in (path_in wide a);
      next_hop = ok_in (next_hop_in a);
      med = ok_in (med_in a);
      aggregator = ok_in (aggregator_in wide a);
      as4_path = unless_wide wide (as4_path_in (Some a));
      as4_aggregator = unless_wide wide (as4_aggregator_in (Some a));
      unknown = with_kept (kept_raw a) (kept before);
    } in
    rw (
      found_last (said origin_in) 1 before a h,
      found_last (said (path_in wide)) 2 before a h,
      found_last (said next_hop_in) 3 before a h,
      found_last (said med_in) 4 before a h,
      found_last is_some 6 before a h,
      found_last (said (aggregator_in wide)) 7 before a h,
      found_last (λ o. unless_wide wide (as4_path_in o)) 17 before a h,
      found_last (λ o. unless_wide wide (as4_aggregator_in o)) 18 before a h,
      unknown_last before a,
    ) (shape n (attributes_said wide before) a.kind)

-- ---- an unknown one

ok_else : (t : Bool) (n : Notice) (o o' : Option RawAttr) → (let r : Result (Option RawAttr) Notice = cond t (Err n) (Ok o) in r) ≡ Ok o' → o ≡ o'
ok_else true n o o' e = absurd cc
ok_else false n o o' e = cc

pub other_ok : (a : WireAttr) (o : Option RawAttr) → other_in a ≡ Ok o → kept_raw a ≡ o
unfolding other_in
other_ok a o e = ok_else (eqb (bit_and a.flags 128) 0) _ (kept_raw a) o e

pub with_other : (wide : Bool) (a : WireAttr) (s : Said) (u : List RawAttr) → a.kind ≢ 1 → a.kind ≢ 2 → a.kind ≢ 3 → a.kind ≢ 4 → a.kind ≢ 5
    → a.kind ≢ 6 → a.kind ≢ 7 → a.kind ≢ 17 → a.kind ≢ 18 → u ≡ with_kept (kept_raw a) s.unknown
    → (let r : Said = record s { unknown = u } in r) ≡ with_attr wide a s
unfolding with_attr
with_other wide a s u n1 n2 n3 n4 n5 n6 n7 n17 n18 e = rw (
  not_eq a.kind 1 n1,
  not_eq a.kind 2 n2,
  not_eq a.kind 3 n3,
  not_eq a.kind 4 n4,
  not_eq a.kind 5 n5,
  not_eq a.kind 6 n6,
  not_eq a.kind 7 n7,
  not_eq a.kind 17 n17,
  not_eq a.kind 18 n18,
  e,
) refl
