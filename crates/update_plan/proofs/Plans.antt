-- A plan stays one as one prefix after the other, in rising order, joins the last UPDATE that tells the same, or begins another.
use Rattle.std.proofs.Common.{◌≡◌, ◌≢◌, ◌≤◌, ◌<◌, ◌⊎◌, ◌||◌, Bool, true, false, List, [], ◌∷◌, ◌++◌}
use Rattle.std.proofs.Common.{append_assoc, append-nil, Option, refl, sym, ap, ◌∙◌, subst, inl, inr}
use Rattle.std.specs.Prelude.{IsTrue}
use Rattle.std.specs.declared.cmp.Ordering.TheVariants.{Less}
use Rattle.std.specs.Cmp.Lexicographic.{slice_cmp}
use Rattle.std.specs.List.{All, list_any}
use Rattle.std.specs.Ordering.{nat_cmp, is_lt, is_eq}
use Rattle.std.proofs.lemmas.Bool.{false≢true}
use Rattle.std.proofs.lemmas.List.Elements.{All-nil, All-cons, All-head, All-tail, All-push, All-weaker}
use Rattle.std.proofs.lemmas.List.Folds.{list_any-append}
use Rattle.bgp_types.specs.declared.attrs.Attrs.{Attrs}
use Rattle.bgp_types.specs.Prefixes.{PrefixValue, same_prefix}
use Rattle.bgp_types.specs.Tables.{prefix_cmp}
use Rattle.session_value.specs.Sets.{Lists}
use Rattle.update_plan.specs.declared.batch.Batch.{Batch}
use Rattle.update_plan.specs.Codes.{value_code}
use Rattle.update_plan.specs.Gathering.{NoneTells, LastThatTells, AddsToUpdates, with_prefix}
use Rattle.update_plan.specs.Plans.{IsLeastPrefix, IsNext, IsPlan, Without, octets}
use Rattle.update_plan.proofs.Listed.{neither, neither_is, same_itself, is_same, not_below_itself, below_not_above}
use Rattle.update_plan.proofs.Listed.{above_all, rising_apart, rising_push, one_rises, member_has, back_has}
use Rattle.update_plan.proofs.Indices.{found_here, found_other}

-- ---- kinds of prefixes

abbrev pub Kind : Type 1
Kind = PrefixValue → Type 0

-- one prefix more
abbrev pub Plus : Kind → PrefixValue → Kind
Plus Is p x = Is x ⊎ (x ≡ p)

-- the prefix is above all of a kind
abbrev pub Above : Kind → PrefixValue → Type 0
Above Is p = (x : PrefixValue) → Is x → prefix_cmp x p ≡ Less

-- values are the same, or they aren't
pub same_or_apart : (v w : Option Attrs) → (v ≡ w) ⊎ (v ≢ w)
same_or_apart v w = elim (is_eq (slice_cmp nat_cmp (value_code v) (value_code w)))
    as (λ b. is_eq (slice_cmp nat_cmp (value_code v) (value_code w)) ≡ b → (v ≡ w) ⊎ (v ≢ w)) [
      | true ↦ λ e. inl (found_here v w e)
      | false ↦ λ e. inr (found_other v w e)
    ] refl

module _ (to_tell : PrefixValue → Option Attrs) (wide : Bool) where
  abbrev Next : Kind → Batch → Type 0
  Next Is batch = IsNext Is to_tell wide batch

  abbrev Plan : Kind → List Batch → Type 0
  Plan Is batches = IsPlan Is to_tell wide batches

  -- ---- a plan is of a kind, however that is said

  next_of_same : (Is Js : Kind) → ((x : PrefixValue) → Is x → Js x) → ((x : PrefixValue) → Js x → Is x) → (b : Batch) → Next Is b → Next Js b
  next_of_same Is Js to from b n = record {
    first = n.first;
    least = record { is = to n.first n.least.is; least = λ x j. n.least.least x (from x j) };
    told_first = n.told_first;
    later = n.later;
    alike = record {
      rising = n.alike.rising;
      each = All-weaker (λ x. Is x × (to_tell x ≡ b.attrs)) (λ x. Js x × (to_tell x ≡ b.attrs)) (λ x h. (to x h.0, h.1)) (b.prefixes ++ n.later) n.alike.each;
      all = λ x h. n.alike.all x (from x h.0, h.1);
    };
    some = n.some;
    fits = n.fits;
    whole = n.whole;
  }

  pub plan_of_same : (Is Js : Kind) → ((x : PrefixValue) → Is x → Js x) → ((x : PrefixValue) → Js x → Is x) → (bs : List Batch) → Plan Is bs → Plan Js bs
  plan_of_same Is Js to from [] none = λ x j. none x (from x j)
  plan_of_same Is Js to from (b ∷ bs) plan = (
    next_of_same Is Js to from b plan.0,
    plan_of_same (Without Is b.prefixes) (Without Js b.prefixes) (λ x h. (to x h.0, h.1)) (λ x h. (from x h.0, h.1)) bs plan.1,
  )

  -- ---- what is told, and what isn't

  -- where nothing of a kind is to be told this, no UPDATE of its plan tells it
  none_planned : (v : Option Attrs) (Is : Kind) (bs : List Batch) → ((x : PrefixValue) → Is x → to_tell x ≡ v → ⊥) → Plan Is bs → NoneTells v bs
  none_planned v Is [] none plan = All-nil (λ b. b.attrs ≢ v)
  none_planned v Is (b ∷ bs) none plan =
      All-cons (λ c. c.attrs ≢ v) b bs (λ e. none plan.0.first plan.0.least.is (sym plan.0.told_first ∙ e))
      (none_planned v (Without Is b.prefixes) bs (λ x h. none x h.0) plan.1)

  -- each prefix stands in an UPDATE that tells what is to be told of it
  some_tells : (Is : Kind) (bs : List Batch) (x : PrefixValue) → Plan Is bs → Is x → NoneTells (to_tell x) bs → ⊥
  some_tells Is [] x plan is none = plan x is
  some_tells Is (b ∷ bs) x plan is none =
      elim (list_any (same_prefix x) b.prefixes) as (λ t. list_any (same_prefix x) b.prefixes ≡ t → ⊥) [
        | true ↦ λ e. All-head (λ c. c.attrs ≢ to_tell x) b bs none (sym (here e).1)
        | false ↦ λ e. some_tells (Without Is b.prefixes) bs x plan.1 (is, e) (All-tail (λ c. c.attrs ≢ to_tell x) b bs none)
      ] refl
    where
      here : list_any (same_prefix x) b.prefixes ≡ true → Is x × (to_tell x ≡ b.attrs)
      here e = member_has (λ y. Is y × (to_tell y ≡ b.attrs)) x (b.prefixes ++ plan.0.later) plan.0.alike.each
          (list_any-append (same_prefix x) b.prefixes plan.0.later ∙ ap (λ t. t || list_any (same_prefix x) plan.0.later) e)

  -- an UPDATE of a plan tells it of something
  record Told (Is : Kind) (v : Option Attrs) : Type 0 where
    pub prefix : PrefixValue
    pub is : Is prefix
    pub told : to_tell prefix ≡ v

  tells_some : (Is : Kind) (before after : List Batch) (b : Batch) → Plan Is (before ++ b ∷ after) → Told Is b.attrs
  tells_some Is [] after b plan = record { prefix = plan.0.first; is = plan.0.least.is; told = sym plan.0.told_first }
  tells_some Is (c ∷ before) after b plan =
      let t = tells_some (Without Is c.prefixes) before after b plan.1 in
      record { prefix = t.prefix; is = t.is.0; told = t.told }

  -- what an UPDATE leaves of what is to be told the same comes later
  nothing_left : (Is : Kind) (b : Batch) (n : Next Is b) → n.later ≡ [] → (x : PrefixValue) → Without Is b.prefixes x → to_tell x ≡ b.attrs → ⊥
  nothing_left Is b n none x h told =
      let listed : IsTrue (list_any (same_prefix x) b.prefixes) = subst (λ (l : List PrefixValue). IsTrue (list_any (same_prefix x) l))
      (ap (λ (l : List PrefixValue). b.prefixes ++ l) none ∙ append-nil b.prefixes) (n.alike.all x (h.0, told)) in
      false≢true (sym h.1 ∙ listed)

  -- ---- one prefix more, above all others

  module _ (p : PrefixValue) where
    below_all : (Is : Kind) → Above Is p → (P : PrefixValue → Type 0) (xs : List PrefixValue) → All (λ x. Is x × P x) xs → All (λ x. prefix_cmp x p ≡ Less) xs
    below_all Is above P xs h = All-weaker (λ x. Is x × P x) (λ x. prefix_cmp x p ≡ Less) (λ x i. above x i.0) xs h

    least_then : (Is : Kind) → Above Is p → (first : PrefixValue) → IsLeastPrefix Is first → IsLeastPrefix (Plus Is p) first
    least_then Is above first l = record {
      is = inl l.is;
      least = λ x h. elim h [
        | inl is ↦ l.least x is
        | inr e ↦ subst (λ (y : PrefixValue). is_lt (prefix_cmp y first) ≡ false) (sym e) (below_not_above first p (above first l.is))
      ];
    }

    -- an UPDATE that tells something else
    next_other : (Is : Kind) → Above Is p → (b : Batch) → to_tell p ≢ b.attrs → Next Is b → Next (Plus Is p) b
    next_other Is above b other n = record {
      first = n.first;
      least = least_then Is above n.first n.least;
      told_first = n.told_first;
      later = n.later;
      alike = record {
        rising = n.alike.rising;
        each = All-weaker (λ x. Is x × (to_tell x ≡ b.attrs)) (λ x. Plus Is p x × (to_tell x ≡ b.attrs))
            (λ x h. (inl h.0, h.1)) (b.prefixes ++ n.later) n.alike.each;
        all = λ x h. elim h.0 [
          | inl is ↦ n.alike.all x (is, h.1)
          | inr e ↦ absurd (other (ap to_tell (sym e) ∙ h.1))
        ];
      };
      some = n.some;
      fits = n.fits;
      whole = n.whole;
    }

    listed_too : (xs : List PrefixValue) (x : PrefixValue) → IsTrue (list_any (same_prefix x) xs) → IsTrue (list_any (same_prefix x) (xs ++ p ∷ []))
    listed_too xs x h =
        subst IsTrue (sym (list_any-append (same_prefix x) xs (p ∷ []))) (either (list_any (same_prefix x) xs) (list_any (same_prefix x) (p ∷ [])) h)
      where
        either : (a b : Bool) → IsTrue a → IsTrue (a || b)
        either true b h = refl
        either false b h = absurd (false≢true h)

    pub listed_itself : (xs : List PrefixValue) → list_any (same_prefix p) (xs ++ p ∷ []) ≡ true
    listed_itself xs = list_any-append (same_prefix p) xs (p ∷ [])
        ∙ (ap (λ t. list_any (same_prefix p) xs || (t || false)) (same_itself p) ∙ or_true (list_any (same_prefix p) xs))
      where
        or_true : (a : Bool) → (a || true) ≡ true
        or_true true = refl
        or_true false = refl

    pub alike_then : (Is : Kind) → Above Is p → (v : Option Attrs) (xs : List PrefixValue) → to_tell p ≡ v → Lists (λ x. Is x × (to_tell x ≡ v)) xs
        → Lists (λ x. Plus Is p x × (to_tell x ≡ v)) (xs ++ p ∷ [])
    alike_then Is above v xs told l = record {
      rising = rising_push p xs l.rising (below_all Is above (λ x. to_tell x ≡ v) xs l.each);
      each = All-push (λ x. Plus Is p x × (to_tell x ≡ v)) xs p
          (All-weaker (λ x. Is x × (to_tell x ≡ v)) (λ x. Plus Is p x × (to_tell x ≡ v)) (λ x h. (inl h.0, h.1)) xs l.each) (inr refl, told);
      all = λ x h. elim h.0 [
        | inl is ↦ listed_too xs x (l.all x (is, h.1))
        | inr e ↦ subst (λ (y : PrefixValue). IsTrue (list_any (same_prefix y) (xs ++ p ∷ []))) (sym e) (listed_itself xs)
      ];
    }

    whole_then : (b : Batch) (later : List PrefixValue) → (later ≡ [] → 4096 < octets wide b.attrs (b.prefixes ++ p ∷ []))
        → ((next : PrefixValue) (rest : List PrefixValue) → later ≡ next ∷ rest → 4096 < octets wide b.attrs (b.prefixes ++ next ∷ []))
        → (next : PrefixValue) (rest : List PrefixValue) → later ++ p ∷ [] ≡ next ∷ rest → 4096 < octets wide b.attrs (b.prefixes ++ next ∷ [])
    whole_then b [] full whole next rest e =
        let head : p ≡ next = cc in subst (λ (x : PrefixValue). 4096 < octets wide b.attrs (b.prefixes ++ x ∷ [])) head (full refl)
    whole_then b (y ∷ ys) full whole next rest e =
        let head : y ≡ next = cc in subst (λ (x : PrefixValue). 4096 < octets wide b.attrs (b.prefixes ++ x ∷ [])) head (whole y ys refl)

    -- an UPDATE that tells the same, and is full or isn't the last of these
    next_alike : (Is : Kind) → Above Is p → (b : Batch) → to_tell p ≡ b.attrs → (n : Next Is b)
        → (n.later ≡ [] → 4096 < octets wide b.attrs (b.prefixes ++ p ∷ [])) → Next (Plus Is p) b
    next_alike Is above b told n full = record {
      first = n.first;
      least = least_then Is above n.first n.least;
      told_first = n.told_first;
      later = n.later ++ p ∷ [];
      alike = subst (λ (l : List PrefixValue). Lists (λ x. Plus Is p x × (to_tell x ≡ b.attrs)) l)
          (append_assoc b.prefixes n.later (p ∷ [])) (alike_then Is above b.attrs (b.prefixes ++ n.later) told n.alike);
      some = n.some;
      fits = n.fits;
      whole = whole_then b n.later full n.whole;
    }

    next_then : (Is : Kind) → Above Is p → (b : Batch) (n : Next Is b)
        → (to_tell p ≡ b.attrs → n.later ≡ [] → 4096 < octets wide b.attrs (b.prefixes ++ p ∷ [])) → Next (Plus Is p) b
    next_then Is above b n full = elim (same_or_apart (to_tell p) b.attrs) [
      | inl same ↦ next_alike Is above b same n (full same)
      | inr other ↦ next_other Is above b other n
    ]

    -- what an UPDATE leaves
    not_listed : (Is : Kind) → Above Is p → (b : Batch) → Next Is b → list_any (same_prefix p) b.prefixes ≡ false
    not_listed Is above b n =
        (neither (list_any (same_prefix p) b.prefixes) (list_any (same_prefix p) n.later)
        (sym (list_any-append (same_prefix p) b.prefixes n.later)
        ∙ above_all p (b.prefixes ++ n.later) (below_all Is above (λ x. to_tell x ≡ b.attrs) (b.prefixes ++ n.later) n.alike.each))).0

    plus_without : (Is : Kind) → Above Is p → (b : Batch) → Next Is b → (bs : List Batch) → Plan (Plus (Without Is b.prefixes) p) bs
        → Plan (Without (Plus Is p) b.prefixes) bs
    plus_without Is above b n bs plan = plan_of_same (Plus (Without Is b.prefixes) p) (Without (Plus Is p) b.prefixes)
        (λ x h. elim h [
          | inl w ↦ (inl w.0, w.1)
          | inr e ↦ (inr e, ap (λ (y : PrefixValue). list_any (same_prefix y) b.prefixes) e ∙ not_listed Is above b n)
        ])
        (λ x w. elim w.0 [
          | inl is ↦ inl (is, w.1)
          | inr e ↦ inr e
        ])
        bs plan

    -- ---- it joins

    none_later : (Is : Kind) (b : Batch) (n : Next Is b) (bs : List Batch) → Plan (Without Is b.prefixes) bs → NoneTells b.attrs bs
        → (later : List PrefixValue) → n.later ≡ later → later ≡ []
    none_later Is b n bs plan none [] e = refl
    none_later Is b n bs plan none (y ∷ ys) e =
        let alike = subst (λ (l : List PrefixValue). Lists (λ x. Is x × (to_tell x ≡ b.attrs)) (b.prefixes ++ l)) e n.alike in
        let is = All-head (λ x. Is x × (to_tell x ≡ b.attrs)) y ys (back_has (λ x. Is x × (to_tell x ≡ b.attrs)) b.prefixes (y ∷ ys) alike.each) in
        absurd (some_tells (Without Is b.prefixes) bs y plan (is.0, rising_apart b.prefixes ys y alike.rising)
        (subst (λ (v : Option Attrs). NoneTells v bs) (sym is.1) none))

    pub push_some : (xs : List PrefixValue) → xs ++ p ∷ [] ≢ []
    push_some [] e = absurd cc
    push_some (x ∷ xs) e = absurd cc

    module _ (Is : Kind) (above : Above Is p) (b : Batch) (told : b.attrs ≡ to_tell p) (fits : octets wide b.attrs (b.prefixes ++ p ∷ []) ≤ 4096) where
      next_joined : (n : Next Is b) → n.later ≡ [] → Next (Plus Is p) (with_prefix b p)
      next_joined n none = record {
        first = n.first;
        least = least_then Is above n.first n.least;
        told_first = n.told_first;
        later = [];
        alike = subst (λ (l : List PrefixValue). Lists (λ x. Plus Is p x × (to_tell x ≡ b.attrs)) l) (sym (append-nil (b.prefixes ++ p ∷ [])))
            (alike_then Is above b.attrs b.prefixes (sym told) (subst (λ (l : List PrefixValue). Lists (λ x. Is x × (to_tell x ≡ b.attrs)) l)
            (ap (λ (l : List PrefixValue). b.prefixes ++ l) none ∙ append-nil b.prefixes) n.alike));
        some = push_some b.prefixes;
        fits = fits;
        whole = λ next rest e. absurd cc;
      }

      rest_joined : (bs : List Batch) → Plan (Without Is b.prefixes) bs → Plan (Without (Plus Is p) (b.prefixes ++ p ∷ [])) bs
      rest_joined bs plan = plan_of_same (Without Is b.prefixes) (Without (Plus Is p) (b.prefixes ++ p ∷ []))
          (λ x w. (
            inl w.0,
            list_any-append (same_prefix x) b.prefixes (p ∷ []) ∙ neither_is (list_any (same_prefix x) b.prefixes)
                (same_prefix x p || false) w.1 (neither_is (same_prefix x p) false (apart x (above x w.0)) refl),
          ))
          (λ x w. elim w.0 [
            | inl is ↦ (
              is,
              (neither (list_any (same_prefix x) b.prefixes) (list_any (same_prefix x) (p ∷ []))
                  (sym (list_any-append (same_prefix x) b.prefixes (p ∷ [])) ∙ w.1)).0,
            )
            | inr e ↦ absurd (false≢true (sym w.1 ∙ (ap (λ (y : PrefixValue). list_any (same_prefix y) (b.prefixes ++ p ∷ [])) e ∙ listed_itself b.prefixes)))
          ])
          bs plan
        where
          apart : (x : PrefixValue) → prefix_cmp x p ≡ Less → same_prefix x p ≡ false
          apart x l = elim (same_prefix x p) as (λ t. same_prefix x p ≡ t → same_prefix x p ≡ false) [
            | true ↦ λ e. absurd (false≢true (sym (not_below_itself p) ∙ (ap (λ (y : PrefixValue). is_lt (prefix_cmp y p)) (sym (is_same x p e)) ∙ ap is_lt l)))
            | false ↦ λ e. e
          ] refl

    pub plan_joined : (before : List Batch) (Is : Kind) → Above Is p → (b : Batch) (after : List Batch) → b.attrs ≡ to_tell p
        → octets wide b.attrs (b.prefixes ++ p ∷ []) ≤ 4096 → NoneTells b.attrs after
        → Plan Is (before ++ b ∷ after) → Plan (Plus Is p) (before ++ with_prefix b p ∷ after)
    plan_joined [] Is above b after told fits none plan =
        (next_joined Is above b told fits plan.0 (none_later Is b plan.0 after plan.1 none plan.0.later refl), rest_joined Is above b told fits after plan.1)
    plan_joined (c ∷ before) Is above b after told fits none plan =
        let some = tells_some (Without Is c.prefixes) before after b plan.1 in (
          next_then Is above c plan.0 (λ same empty. absurd (nothing_left Is c plan.0 empty some.prefix some.is (some.told ∙ (told ∙ same)))),
          plus_without Is above c plan.0 (before ++ with_prefix b p ∷ after)
              (plan_joined before (Without Is c.prefixes) (λ x w. above x w.0) b after told fits none plan.1),
        )

    -- ---- it begins another

    abbrev pub Begun : Batch
    Begun = record { attrs = to_tell p; prefixes = p ∷ [] }

    pub alone : (Is : Kind) → ((x : PrefixValue) → Is x → ⊥) → Lists (λ x. Plus Is p x × (to_tell x ≡ to_tell p)) (p ∷ [])
    alone Is none = record {
      rising = one_rises p;
      each = All-cons (λ x. Plus Is p x × (to_tell x ≡ to_tell p)) p [] (inr refl, refl) (All-nil (λ x. Plus Is p x × (to_tell x ≡ to_tell p)));
      all = λ x h. elim h.0 [
        | inl is ↦ absurd (none x is)
        | inr e ↦ subst (λ (y : PrefixValue). IsTrue (list_any (same_prefix y) (p ∷ []))) (sym e) (listed_itself [])
      ];
    }

    module _ (fits : octets wide (to_tell p) (p ∷ []) ≤ 4096) where
      next_begun : (Is : Kind) → ((x : PrefixValue) → Is x → ⊥) → Next (Plus Is p) Begun
      next_begun Is none = record {
        first = p;
        least = record {
          is = inr refl;
          least = λ x h. elim h [
            | inl is ↦ absurd (none x is)
            | inr e ↦ subst (λ (y : PrefixValue). is_lt (prefix_cmp y p) ≡ false) (sym e) (not_below_itself p)
          ];
        };
        told_first = refl;
        later = [];
        alike = alone Is none;
        some = push_some [];
        fits = fits;
        whole = λ next rest e. absurd cc;
      }

      pub plan_begun : (bs : List Batch) (Is : Kind) → Above Is p → Plan Is bs
          → ((before : List Batch) (b : Batch) (after : List Batch)
          → LastThatTells (to_tell p) bs before b after → 4096 < octets wide (to_tell p) (b.prefixes ++ p ∷ []))
          → Plan (Plus Is p) (bs ++ Begun ∷ [])
      plan_begun [] Is above none full = (
        next_begun Is none,
        λ x w. elim w.0 [
          | inl is ↦ none x is
          | inr e ↦ false≢true (sym w.1 ∙ (ap (λ (y : PrefixValue). list_any (same_prefix y) (p ∷ [])) e ∙ listed_itself []))
        ],
      )
      plan_begun (c ∷ bs) Is above plan full = (
        next_then Is above c plan.0 (λ same empty.
            let last : LastThatTells (to_tell p) (c ∷ bs) [] c bs = record {
              is = refl;
              told = sym same;
              last = none_planned (to_tell p) (Without Is c.prefixes) bs (λ x w told. nothing_left Is c plan.0 empty x w (told ∙ same)) plan.1;
            } in
            subst (λ (v : Option Attrs). 4096 < octets wide v (c.prefixes ++ p ∷ [])) same (full [] c bs last)),
        plus_without Is above c plan.0 (bs ++ Begun ∷ []) (plan_begun bs (Without Is c.prefixes) (λ x w. above x w.0) plan.1
            (λ before b after last. full (c ∷ before) b after (record { is = ap (λ (l : List Batch). c ∷ l) last.is; told = last.told; last = last.last }))),
      )

    -- ---- it is added

    pub plan_adds : (Is : Kind) (old new : List Batch) → Above Is p → octets wide (to_tell p) (p ∷ []) ≤ 4096
        → AddsToUpdates wide (to_tell p) p old new → Plan Is old → Plan (Plus Is p) new
    plan_adds Is old new above fits (inl joins) plan =
        let there = joins.there in
        let none : NoneTells joins.batch.attrs joins.after = subst (λ (v : Option Attrs). NoneTells v joins.after) (sym there.told) there.last in
        let room : octets wide joins.batch.attrs (joins.batch.prefixes ++ p ∷ []) ≤ 4096 =
        subst (λ (v : Option Attrs). octets wide v (joins.batch.prefixes ++ p ∷ []) ≤ 4096) (sym there.told) joins.fits in
        subst (Plan (Plus Is p)) (sym joins.effect)
        (plan_joined joins.before Is above joins.batch joins.after there.told room none (subst (Plan Is) there.is plan))
    plan_adds Is old new above fits (inr begins) plan = subst (Plan (Plus Is p)) (sym begins.effect) (plan_begun fits old Is above plan begins.full)
