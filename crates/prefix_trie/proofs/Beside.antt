-- A prefix that gets a node beside all that stands from an index down, below a fork.
use Rattle.std.proofs.Common.{◌≡◌, ◌≢◌, ℕ, ◌≤◌, ◌<◌, true, List, [], ◌∷◌, ◌++◌, length, Option, Some, None}
use Rattle.std.proofs.Common.{refl, sym, ap, subst, ◌∙◌, arith, slice_get, inl, inr, ◌⊎◌}
use Rattle.std.specs.Prelude.{IfSome, option_map}
use Rattle.std.specs.List.{Contains}
use Rattle.std.proofs.lemmas.List.Elements.{Contains-append_right, Contains-append_cases}
use Rattle.bgp_types.specs.Prefixes.{PrefixValue, IsPrefix, Covers}
use Rattle.prefix_trie.proofs.Sides.{ends_first, begins_later, ends_later}
use Rattle.prefix_trie.specs.Halves.{middle, past, Within, IsFork}
use Rattle.prefix_trie.proofs.Halves.{positive, middle_le_past, fork_low, fork_high}
use Rattle.prefix_trie.specs.declared.node.Node.{Node}
use Rattle.prefix_trie.specs.Arena.{nowhere, value_at, entries_at, indices_at, AreApart}
use Rattle.prefix_trie.specs.Adding.{leaf, IsForkOf, IsHalf, CanAdd, IsAdded}
use Rattle.prefix_trie.proofs.Apart.{both_apart, first_or_rest, in_none}
use Rattle.prefix_trie.proofs.Deeper.{fork_early, fork_late}
use Rattle.prefix_trie.proofs.Frames.{Stays, stays}
use Rattle.prefix_trie.proofs.Levels.{at_node}
use Rattle.prefix_trie.proofs.Adding.{beside_early, beside_late}
use Rattle.prefix_trie.proofs.Branches.{Stands}

-- Where both addresses lie in one half of a prefix, their fork lies there.
fork_within : (q f : PrefixValue) (low high a b : ℕ) → IsPrefix q → IsHalf q low high → IsFork a b f → low ≤ a → b < high → Within low high q.len f
fork_within q f low high a b is half fork from to = elim half [
  | inl early ↦
      let start = early.0 in
      let end = early.1 in
      let le = middle_le_past q is.len in
      subst (λ (x : ℕ). Within x high q.len f) (sym start) (subst (λ (x : ℕ). Within q.address x q.len f) (sym end)
      (fork_early q f a b is fork (omega (arith, start, from)) (omega (arith, end, to, le)) (omega (arith, end, to))))
  | inr late ↦
      let start = late.0 in
      let end = late.1 in
      subst (λ (x : ℕ). Within x high q.len f) (sym start) (subst (λ (x : ℕ). Within (middle q) x q.len f) (sym end)
      (fork_late q f a b is fork (omega (arith, start, from)) (omega (arith, end, to)) (omega (arith, start, from))))
]

module _ (nodes fs : List Node) (p : PrefixValue) (fresh spare index : ℕ) (n m : Node)
    (was : slice_get nodes index ≡ Some n) (can : CanAdd nodes p fresh spare index) (many : length fs ≡ length nodes)
    (others : (r : ℕ) → r ≢ fresh → r ≢ spare → slice_get fs r ≡ slice_get nodes r) (new : slice_get fs fresh ≡ Some (leaf p))
    (there : slice_get fs spare ≡ Some m) where
  few_now : length fs ≤ nowhere
  few_now = let few = can.few in omega (arith, many, few)

  not_fresh : (r : ℕ) → Contains (indices_at nodes index) r → r ≢ fresh
  not_fresh r inside e =
      can.apart.0 (subst (Contains (spare ∷ indices_at nodes index)) e (Contains-append_right (spare ∷ []) (indices_at nodes index) r inside))

  not_spare : (r : ℕ) → Contains (indices_at nodes index) r → r ≢ spare
  not_spare r inside e = can.apart.1.0 (subst (Contains (indices_at nodes index)) e inside)

  fresh_not_spare : fresh ≡ spare → ⊥
  fresh_not_spare e = can.apart.0 (0, omega arith, sym e)

  kept : (values : List (Option ℕ)) → Stays nodes fs values values index
  kept values = stays nodes fs values values few_now index can.trie
      (λ r inside. record { node = others r (not_fresh r inside) (not_spare r inside); value = refl })

  stood : (values : List (Option ℕ)) → Stands fs values index (entries_at nodes values index) (indices_at nodes index)
  stood values = let k = kept values in record { entries = k.entries; indices = k.indices; trie = k.trie }

  is_n : IsPrefix n.prefix
  is_n = (at_node nodes index n was can.trie).branching.is

  at_now : slice_get fs index ≡ Some n
  at_now = (kept []).root ∙ was

  -- whatever the order of the indices
  forked_added : (ps : List ℕ)
      → ((values : List (Option ℕ)) → value_at values fresh ≡ None → value_at values spare ≡ None
      → Stands fs values spare (entries_at nodes values index) (spare ∷ ps))
      → Contains ps fresh → AreApart ps
      → ((r : ℕ) → Contains ps r → (r ≡ fresh) ⊎ Contains (indices_at nodes index) r)
      → ((q : PrefixValue) (low high : ℕ) → IsPrefix q → IsHalf q low high
      → Within low high q.len p → Within low high q.len n.prefix → Within low high q.len m.prefix)
      → IsAdded nodes fs p fresh spare index spare true
  forked_added ps stands has apart sub between =
      let s = stands [] refl refl in
      record {
        entries = λ values f g. (stands values f g).entries;
        trie = s.trie;
        node = ap (option_map (λ (m : Node). m.prefix)) new;
        there = subst (λ (xs : List ℕ). Contains xs fresh) (sym s.indices) (Contains-append_right (spare ∷ []) ps fresh has);
        apart = subst AreApart (sym s.indices)
            ((λ inside. elim (sub spare inside) [ inl e ↦ fresh_not_spare (sym e) | inr old ↦ not_spare spare old refl ]), apart);
        among = λ r inside. elim (first_or_rest spare ps r (subst (λ (xs : List ℕ). Contains xs r) s.indices inside)) [
          | inl e ↦ inr (inr (e, refl))
          | inr below ↦ elim (sub r below) [ inl e ↦ inr (inl e) | inr old ↦ inl old ]
        ];
        others = λ r away fr sp. others r fr sp;
        as_many = many;
        within = λ q low high is half w old. subst (λ (o : Option Node). IfSome o (λ m. Within low high q.len m.prefix)) (sym there)
            (between q low high is half w (subst (λ (o : Option Node). IfSome o (λ m. Within low high q.len m.prefix)) was old));
      }

  -- before what stands
  before_added : m ≡ record { prefix = m.prefix; zero = fresh; one = index } → IsFork p.address n.prefix.address m.prefix
      → p.address < n.prefix.address → past p ≤ n.prefix.address → IsAdded nodes fs p fresh spare index spare true
  before_added named fork less ends =
      let ps = indices_at nodes index in
      forked_added (fresh ∷ ps)
      (λ values f g. beside_early fs values few_now index spare n m.prefix fork.is (entries_at nodes values index) ps at_now g (stood values) fresh p can.is
      new f (there ∙ ap Some named) (fork_low p m.prefix n.prefix.address can.is fork ends) (fork_high n.prefix m.prefix p.address is_n fork less))
      (0, omega arith, refl) ((λ inside. not_fresh fresh inside refl), can.apart.1.1) (λ r inside. first_or_rest fresh ps r inside)
      (λ q low high is half w u. let some = positive n.prefix in let from = w.from in let to = u.to in
      fork_within q m.prefix low high p.address n.prefix.address is half fork from (omega (arith, some, to)))

  -- behind what stands
  behind_added : m ≡ record { prefix = m.prefix; zero = index; one = fresh } → IsFork n.prefix.address p.address m.prefix
      → n.prefix.address < p.address → past n.prefix ≤ p.address → IsAdded nodes fs p fresh spare index spare true
  behind_added named fork less ends =
      let ps = indices_at nodes index in
      forked_added (ps ++ (fresh ∷ []))
      (λ values f g. beside_late fs values few_now index spare n m.prefix fork.is (entries_at nodes values index) ps at_now g (stood values) fresh p can.is
      new f (there ∙ ap Some named) (fork_low n.prefix m.prefix p.address is_n fork ends) (fork_high p m.prefix n.prefix.address can.is fork less))
      (Contains-append_right ps (fresh ∷ []) fresh (0, omega arith, refl))
      (both_apart ps (fresh ∷ []) can.apart.1.1 ((λ inside. in_none fresh inside), tt)
      (λ r left right. elim (first_or_rest fresh [] r right) [ inl e ↦ not_fresh r left e | inr no_more ↦ in_none r no_more ]))
      (λ r inside. elim (Contains-append_cases ps (fresh ∷ []) r inside) [
        | inl old ↦ inr old
        | inr last ↦ elim (first_or_rest fresh [] r last) [ inl e ↦ inl e | inr no_more ↦ absurd (in_none r no_more) ]
      ])
      (λ q low high is half w u. let some = positive p in let from = u.from in let to = w.to in
      fork_within q m.prefix low high n.prefix.address p.address is half fork from (omega (arith, some, to)))

  -- A node beside one that stands, whose prefix neither covers nor is covered.
  pub beside_added : (Covers n.prefix p → ⊥) → (Covers p n.prefix → ⊥) → IsForkOf p fresh n.prefix index m → IsAdded nodes fs p fresh spare index spare true
  beside_added above below order = elim order [
    | inl early ↦ before_added early.2 early.1 early.0 (ends_first n.prefix p is_n can.is above below early.0)
    | inr late ↦
        let less = begins_later n.prefix p is_n can.is above below late.0 in
        behind_added late.2 late.1 less (ends_later n.prefix p is_n can.is above below less)
  ]
