-- A change of one rank keeps each group the candidates of its neighbour AS.
use Rattle.std.proofs.Common.{◌≡◌, ℕ, ◌==◌, Bool, true, false, cond, List, [], ◌∷◌, Option, Some, None, refl, sym, ap, ◌∙◌, arith}
use Rattle.std.specs.Prelude.{unwrap_or}
use Rattle.std.specs.Map.{keys_of}
use Rattle.std.specs.BTreeMap.{is_at}
use Rattle.std.specs.Ordering.{match_ordering}
use Rattle.std.specs.declared.cmp.Ordering.{Ordering}
use Rattle.std.specs.declared.cmp.Ordering.TheVariants.{Less, Equal, Greater}
use Rattle.std.proofs.lemmas.Bool.Decides.{nat_tests}
use Rattle.std.proofs.lemmas.Cmp.{eq_by_cmp_equiv}
use Rattle.std.proofs.lemmas.Map.Keys.{IsDistinct-from_sorted}
use Rattle.std.proofs.lemmas.Map.Entries.{option_filter, lookup-filter-values}
use Rattle.bgp_types.specs.declared.rank.From.{From}
use Rattle.bgp_types.specs.declared.rank.Rank.{Rank}
use Rattle.decision_groups.specs.Order.{RankedSource, from_order, IsInOrder, rank_at, with_rank, without_source}
use Rattle.decision_groups.specs.Champions.{neighbour_group}
use Rattle.decision_groups.specs.Groups.{some_members}
use Rattle.decision_groups.proofs.Entries.{remove_absent, remove_undoes, filter-insert_kept, filter-insert_lost, filter-remove}
use Rattle.decision_groups.proofs.OrderLaws.{from_order_total, from_order_exact}

-- ---- which candidates a group has

group-with_own : (n : ℕ) (es : List RankedSource) (from : From) (rank : Rank) → IsInOrder es → (n == rank.neighbour) ≡ true
    → neighbour_group n (with_rank es from rank) ≡ with_rank (neighbour_group n es) from rank
group-with_own n es from rank s own =
    filter-insert_kept from_order_total from_order_exact (λ r. r.neighbour == n) from rank (grind (arith, nat_tests)) es s

group-with_other : (n : ℕ) (es : List RankedSource) (from : From) (rank : Rank) → IsInOrder es → (n == rank.neighbour) ≡ false
    → neighbour_group n (with_rank es from rank) ≡ without_source (neighbour_group n es) from
group-with_other n es from rank s other =
    filter-insert_lost from_order_total (λ r. r.neighbour == n) from rank (grind (arith, nat_tests)) es s

group-without : (n : ℕ) (es : List RankedSource) (from : From) → IsInOrder es
    → neighbour_group n (without_source es from) ≡ without_source (neighbour_group n es) from
group-without n es from s = filter-remove from_order_total (λ r. r.neighbour == n) from es s

group-rank : (n : ℕ) (es : List RankedSource) (from : From) → IsInOrder es
    → rank_at (neighbour_group n es) from ≡ option_filter (λ r. r.neighbour == n) (rank_at es from)
group-rank n es from s =
    lookup-filter-values (eq_by_cmp_equiv from_order_total) (λ r. r.neighbour == n) from es (IsDistinct-from_sorted from_order (keys_of es) s)

-- no rank of it, or one that another neighbour told
abbrev IsElsewhere : ℕ → Option Rank → Type 0
IsElsewhere n None = Unit {0}
IsElsewhere n (Some old) = (n == old.neighbour) ≡ false

filtered_out : (n : ℕ) (o : Option Rank) → IsElsewhere n o → option_filter (λ r. r.neighbour == n) o ≡ None
filtered_out n None h = refl
filtered_out n (Some old) h = let apart : (old.neighbour == n) ≡ false = grind (arith, nat_tests) in rw apart refl

group-absent : (n : ℕ) (es : List RankedSource) (from : From) (o : Option Rank) → IsInOrder es → o ≡ rank_at es from → IsElsewhere n o
    → rank_at (neighbour_group n es) from ≡ None
group-absent n es from o s is apart = group-rank n es from s ∙ ap (option_filter (λ r. r.neighbour == n)) (sym is) ∙ filtered_out n o apart

group-kept : (n : ℕ) (es : List RankedSource) (from : From) (o : Option Rank) → IsInOrder es → o ≡ rank_at es from → IsElsewhere n o
    → without_source (neighbour_group n es) from ≡ neighbour_group n es
group-kept n es from o s is apart = remove_absent (is_at (from_order from)) (neighbour_group n es) (group-absent n es from o s is apart)

-- ---- what is kept of a group

members-some : (es : List RankedSource) → unwrap_or (some_members es) [] ≡ es
members-some [] = refl
members-some (e ∷ es) = refl

some-placed : (a : Ordering) (c d e : RankedSource) (cs ds es : List RankedSource)
    → some_members (match_ordering a (c ∷ cs) (d ∷ ds) (e ∷ es)) ≡ Some (match_ordering a (c ∷ cs) (d ∷ ds) (e ∷ es))
some-placed Less c d e cs ds es = refl
some-placed Equal c d e cs ds es = refl
some-placed Greater c d e cs ds es = refl

some-with : (es : List RankedSource) (from : From) (rank : Rank) → some_members (with_rank es from rank) ≡ Some (with_rank es from rank)
some-with [] from rank = refl
some-with (e ∷ es) from rank = some-placed (from_order from e.0) (from, rank) (e.0, rank) e (e ∷ es) es (with_rank es from rank)

-- what a group is once a rank joined it, and once one left it
abbrev joined : Option (List RankedSource) → From → Rank → Option (List RankedSource)
joined group from rank = Some (with_rank (unwrap_or group []) from rank)

abbrev left : Option (List RankedSource) → From → Option (List RankedSource)
left group from = some_members (without_source (unwrap_or group []) from)

joined-group : (es : List RankedSource) (from : From) (rank : Rank) (group : Option (List RankedSource)) → group ≡ some_members es
    → joined group from rank ≡ some_members (with_rank es from rank)
joined-group es from rank group is = ap (λ g. joined g from rank) is ∙ ap (λ ms. Some (with_rank ms from rank)) (members-some es) ∙ sym (some-with es from rank)

left-group : (es : List RankedSource) (from : From) (group : Option (List RankedSource)) → group ≡ some_members es
    → left group from ≡ some_members (without_source es from)
left-group es from group is = ap (λ g. left g from) is ∙ ap (λ ms. some_members (without_source ms from)) (members-some es)

-- ---- a rank that joined its group

join_step : (b : Bool) (n : ℕ) (es : List RankedSource) (from : From) (rank : Rank) (o : Option Rank) (g h : Option (List RankedSource))
    → (n == rank.neighbour) ≡ b → IsInOrder es → o ≡ rank_at es from → (b ≡ false → IsElsewhere n o) → g ≡ some_members (neighbour_group n es)
    → h ≡ cond b (joined g from rank) g → h ≡ some_members (neighbour_group n (with_rank es from rank))
join_step true n es from rank o g h own s is apart before after =
    after ∙ joined-group (neighbour_group n es) from rank g before ∙ ap some_members (sym (group-with_own n es from rank s own))
join_step false n es from rank o g h other s is apart before after =
    after ∙ before ∙ ap some_members (sym (group-with_other n es from rank s other ∙ group-kept n es from o s is (apart refl)))

-- one that is new, or that replaces one of the same neighbour
pub group-joined : (n : ℕ) (es : List RankedSource) (from : From) (rank : Rank) (o : Option Rank) (g h : Option (List RankedSource)) → IsInOrder es
    → o ≡ rank_at es from → ((n == rank.neighbour) ≡ false → IsElsewhere n o) → g ≡ some_members (neighbour_group n es)
    → h ≡ cond (n == rank.neighbour) (joined g from rank) g → h ≡ some_members (neighbour_group n (with_rank es from rank))
group-joined n es from rank o g h s is apart before after = join_step (n == rank.neighbour) n es from rank o g h refl s is apart before after

pub group-joined_new : (n : ℕ) (es : List RankedSource) (from : From) (rank : Rank) (g h : Option (List RankedSource)) → IsInOrder es
    → None ≡ rank_at es from → g ≡ some_members (neighbour_group n es) → h ≡ cond (n == rank.neighbour) (joined g from rank) g
    → h ≡ some_members (neighbour_group n (with_rank es from rank))
group-joined_new n es from rank g h s is before after = group-joined n es from rank None g h s is (λ _. tt) before after

pub group-joined_same : (n : ℕ) (es : List RankedSource) (from : From) (rank old : Rank) (g h : Option (List RankedSource)) → IsInOrder es
    → Some old ≡ rank_at es from → old.neighbour ≡ rank.neighbour → g ≡ some_members (neighbour_group n es)
    → h ≡ cond (n == rank.neighbour) (joined g from rank) g → h ≡ some_members (neighbour_group n (with_rank es from rank))
group-joined_same n es from rank old g h s is same before after = group-joined n es from rank (Some old) g h s is (λ other. rw same other) before after

-- ---- one that left the group of another neighbour too

move_step : (b c : Bool) (n : ℕ) (es : List RankedSource) (from : From) (rank old : Rank) (g h i : Option (List RankedSource))
    → (n == rank.neighbour) ≡ b → (n == old.neighbour) ≡ c → (old.neighbour ≡ rank.neighbour → ⊥) → IsInOrder es → Some old ≡ rank_at es from
    → g ≡ some_members (neighbour_group n es) → h ≡ cond b (joined g from rank) g → i ≡ cond c (left h from) h
    → i ≡ some_members (neighbour_group n (with_rank es from rank))
move_step true true n es from rank old g h i own earlier moved s is before middle after = absurd (moved (grind (arith, nat_tests)))
move_step true false n es from rank old g h i own elsewhere moved s is before middle after =
    after ∙ join_step true n es from rank (Some old) g h own s is (λ no. cc) before middle
move_step false true n es from rank old g h i other earlier moved s is before middle after =
    after ∙ left-group (neighbour_group n es) from h (middle ∙ before) ∙ ap some_members (sym (group-with_other n es from rank s other))
move_step false false n es from rank old g h i other elsewhere moved s is before middle after =
    after ∙ join_step false n es from rank (Some old) g h other s is (λ _. elsewhere) before middle

pub group-moved : (n : ℕ) (es : List RankedSource) (from : From) (rank old : Rank) (g h i : Option (List RankedSource))
    → (old.neighbour ≡ rank.neighbour → ⊥) → IsInOrder es → Some old ≡ rank_at es from → g ≡ some_members (neighbour_group n es)
    → h ≡ cond (n == rank.neighbour) (joined g from rank) g → i ≡ cond (n == old.neighbour) (left h from) h
    → i ≡ some_members (neighbour_group n (with_rank es from rank))
group-moved n es from rank old g h i = move_step (n == rank.neighbour) (n == old.neighbour) n es from rank old g h i refl refl

-- ---- one that joined its group and left it again

undo_step : (b : Bool) (n : ℕ) (es : List RankedSource) (from : From) (rank : Rank) (g h i : Option (List RankedSource)) → IsInOrder es
    → rank_at es from ≡ None → g ≡ some_members (neighbour_group n es) → h ≡ cond b (joined g from rank) g → i ≡ cond b (left h from) h
    → i ≡ some_members (neighbour_group n es)
undo_step true n es from rank g h i s absent before middle after =
    after ∙ left-group (with_rank (neighbour_group n es) from rank) from h (middle ∙ joined-group (neighbour_group n es) from rank g before)
    ∙ ap some_members (remove_undoes from_order_total from rank (neighbour_group n es) (group-absent n es from None s (sym absent) tt))
undo_step false n es from rank g h i s absent before middle after = after ∙ middle ∙ before

pub group-undone : (n : ℕ) (es : List RankedSource) (from : From) (rank : Rank) (g h i : Option (List RankedSource)) → IsInOrder es
    → rank_at es from ≡ None → g ≡ some_members (neighbour_group n es) → h ≡ cond (n == rank.neighbour) (joined g from rank) g
    → i ≡ cond (n == rank.neighbour) (left h from) h → i ≡ some_members (neighbour_group n es)
group-undone n es from rank g h i = undo_step (n == rank.neighbour) n es from rank g h i

-- ---- one that left its group

leave_step : (b : Bool) (n : ℕ) (es : List RankedSource) (from : From) (old : Rank) (g h : Option (List RankedSource)) → (n == old.neighbour) ≡ b
    → IsInOrder es → Some old ≡ rank_at es from → g ≡ some_members (neighbour_group n es) → h ≡ cond b (left g from) g
    → h ≡ some_members (neighbour_group n (without_source es from))
leave_step true n es from old g h own s is before after =
    after ∙ left-group (neighbour_group n es) from g before ∙ ap some_members (sym (group-without n es from s))
leave_step false n es from old g h other s is before after =
    after ∙ before ∙ ap some_members (sym (group-without n es from s ∙ group-kept n es from (Some old) s is other))

pub group-left : (n : ℕ) (es : List RankedSource) (from : From) (old : Rank) (g h : Option (List RankedSource)) → IsInOrder es
    → Some old ≡ rank_at es from → g ≡ some_members (neighbour_group n es) → h ≡ cond (n == old.neighbour) (left g from) g
    → h ≡ some_members (neighbour_group n (without_source es from))
group-left n es from old g h = leave_step (n == old.neighbour) n es from old g h refl

pub group-not_there : (n : ℕ) (es : List RankedSource) (from : From) (g : Option (List RankedSource)) → IsInOrder es → None ≡ rank_at es from
    → g ≡ some_members (neighbour_group n es) → g ≡ some_members (neighbour_group n (without_source es from))
group-not_there n es from g s is before = before ∙ ap some_members (sym (group-without n es from s ∙ group-kept n es from None s is tt))
