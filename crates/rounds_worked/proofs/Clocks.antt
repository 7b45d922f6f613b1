-- The clocks of four events.
use Rattle.std.proofs.Common.{◌≡◌, ◌<◌, ◌+◌, ℕ, zero, suc, max, ◌==◌, Bool, cond, List, [], ◌∷◌, ◌++◌, refl, sym, ap, ◌∙◌, subst, inl, inr, lit<, arith}
use Rattle.std.proofs.lemmas.Option.{same_Some}
use Rattle.graft_actors.specs.Actors.{Router, FarSide, Operator}
use Rattle.run_clocks.specs.Clocks.{ClockedEvent, IsStamp, clock_behind, FollowsClocks, AreClocked}
use Rattle.rounds_worked.specs.Clocks.{sends, takes, begins_at, goes_on, four_at}
use Rattle.rounds_worked.proofs.Marks.{heads, tails, apart}
use Rattle.rounds_worked.proofs.Routers.{zero_not}

-- ---- clocks that follow

no_more : (more later : List ClockedEvent) (e : ClockedEvent) → [] ≡ more ++ e ∷ later → ⊥
no_more [] later e is = let apart : [] ≡ e ∷ later = is in cc
no_more (x ∷ more) later e is = let apart : [] ≡ x ∷ (more ++ e ∷ later) = is in cc

first : FollowsClocks [] (sends 1)
first = record { stamp = 0; is_stamp = inl ((λ x. refl), refl); is = refl }

second : FollowsClocks (sends 1 ∷ []) (takes 2)
second = record { stamp = 1; is_stamp = inr (Router 0, refl, refl); is = refl }

third : FollowsClocks (sends 1 ∷ takes 2 ∷ []) (begins_at 3)
third = record { stamp = 0; is_stamp = inl ((λ x. refl), refl); is = refl }

fourth : FollowsClocks (sends 1 ∷ takes 2 ∷ begins_at 3 ∷ []) (goes_on 4)
fourth = record { stamp = 0; is_stamp = inl ((λ x. refl), refl); is = refl }

pub four_follow : AreClocked (four_at 1 2 3 4)
four_follow [] later e is = subst (FollowsClocks []) (heads _ _ _ _ is) first
four_follow (x ∷ []) later e is =
    let rest = tails _ _ _ _ is in
    subst (λ x. FollowsClocks (x ∷ []) e) (heads _ _ _ _ is) (subst (FollowsClocks (sends 1 ∷ [])) (heads _ _ _ _ rest) second)
four_follow (x ∷ y ∷ []) later e is =
    let rest = tails _ _ _ _ is in let more = tails _ _ _ _ rest in
    subst (λ x. FollowsClocks (x ∷ y ∷ []) e) (heads _ _ _ _ is) (subst (λ y. FollowsClocks (sends 1 ∷ y ∷ []) e) (heads _ _ _ _ rest)
    (subst (FollowsClocks (sends 1 ∷ takes 2 ∷ [])) (heads _ _ _ _ more) third))
four_follow (x ∷ y ∷ z ∷ []) later e is =
    let rest = tails _ _ _ _ is in let more = tails _ _ _ _ rest in let last = tails _ _ _ _ more in
    subst (λ x. FollowsClocks (x ∷ y ∷ z ∷ []) e) (heads _ _ _ _ is) (subst (λ y. FollowsClocks (sends 1 ∷ y ∷ z ∷ []) e) (heads _ _ _ _ rest)
    (subst (λ z. FollowsClocks (sends 1 ∷ takes 2 ∷ z ∷ []) e) (heads _ _ _ _ more)
    (subst (FollowsClocks (sends 1 ∷ takes 2 ∷ begins_at 3 ∷ [])) (heads _ _ _ _ last) fourth)))
four_follow (x ∷ y ∷ z ∷ u ∷ more) later e is = absurd (no_more more later e (tails _ _ _ _ (tails _ _ _ _ (tails _ _ _ _ (tails _ _ _ _ is)))))

-- ---- clocks that don't

not_zero : (n : ℕ) → 0 ≡ n + 1 → ⊥
not_zero n e = absurd (omega (arith, e))

pub all_zero : AreClocked (four_at 0 0 0 0) → ⊥
all_zero are = let f = are [] (takes 0 ∷ begins_at 0 ∷ goes_on 0 ∷ []) (sends 0) refl in not_zero (max 0 f.stamp) f.is

none_from : (q : ℕ) → ◌≡◌ {A = ℕ} (cond (0 == suc q) 1 0) 1 → ⊥
none_from q e = apart 0 1 (lit< tt) (sym (ap (λ (t : Bool). cond t 1 0) (zero_not q)) ∙ e)

-- what the second event takes has stamp 1
stamp_is : (stamp : ℕ) → IsStamp (sends 1 ∷ []) (takes 1) stamp → 1 ≡ stamp
stamp_is stamp (inl none) = absurd (apart 0 1 (lit< tt) (sym (none.0 (Router 0))))
stamp_is stamp (inr (Router zero, one, is)) = same_Some 1 stamp is
stamp_is stamp (inr (Router (suc q), one, is)) = absurd (none_from q one)
stamp_is stamp (inr (FarSide p, one, is)) = absurd (apart 0 1 (lit< tt) one)
stamp_is stamp (inr (Operator, one, is)) = absurd (apart 0 1 (lit< tt) one)

pub stamp_forgotten : AreClocked (four_at 1 1 2 3) → ⊥
stamp_forgotten are =
    let f = are (sends 1 ∷ []) (begins_at 2 ∷ goes_on 3 ∷ []) (takes 1) refl in
    apart 1 2 (lit< tt) (f.is ∙ ap (λ s. max (clock_behind (Router 1) (sends 1 ∷ [])) s + 1) (sym (stamp_is f.stamp f.is_stamp)))

pub not_above_all : AreClocked (four_at 1 2 2 3) → ⊥
not_above_all are = apart 2 3 (lit< tt) (are (sends 1 ∷ takes 2 ∷ []) (goes_on 3 ∷ []) (begins_at 2) refl).is

no_stamp : (stamp : ℕ) → IsStamp (sends 1 ∷ takes 2 ∷ begins_at 3 ∷ []) (goes_on 3) stamp → stamp ≡ 0
no_stamp stamp (inl none) = none.1
no_stamp stamp (inr some) = absurd (apart 0 1 (lit< tt) some.1)

pub not_levelled : AreClocked (four_at 1 2 3 3) → ⊥
not_levelled are =
    let f = are (sends 1 ∷ takes 2 ∷ begins_at 3 ∷ []) [] (goes_on 3) refl in
    apart 3 4 (lit< tt) (f.is ∙ ap (λ s. max (clock_behind (Router 1) (sends 1 ∷ takes 2 ∷ begins_at 3 ∷ [])) s + 1) (no_stamp f.stamp f.is_stamp))
