-- The next router to be asked: what is found on the way through the routers.
use Rattle.std.proofs.Common.{◌≡◌, ◌⊎◌, ◌<◌, ◌≤◌, ◌+◌, ℕ, inl, inr, sym, subst, ◌∙◌, arith}
use Rattle.std.specs.Prelude.{◌≢◌}
use Rattle.std.proofs.lemmas.Bool.{cases_eq}
use Rattle.graft_steps.specs.Landings.{IsNextToAsk, AreAllAsked}

pub all_before : (source target start : ℕ) → AreAllAsked source target start start
all_before source target start m from below = absurd (omega arith)

pub one_more : (source target n start : ℕ) → AreAllAsked source target n start → (n ≡ source) ⊎ (n ≡ target) → AreAllAsked source target (n + 1) start
one_more source target n start all this m from below = by_order (cases_eq m n) where
  by_order : (m ≡ n) ⊎ (m ≢ n) → (m ≡ source) ⊎ (m ≡ target)
  by_order (inl is) = subst (λ (x : ℕ). (x ≡ source) ⊎ (x ≡ target)) (sym is) this
  by_order (inr other) = all m from (omega arith)

pub next_to_ask : (a source b target routers n start : ℕ) → a ≡ source → b ≡ target → AreAllAsked a b n start → start ≤ n → n < routers → n ≢ a → n ≢ b
    → IsNextToAsk source target routers start n
next_to_ask a source b target routers n start e f all from below not_a not_b = record {
  from = from;
  known = below;
  not_source = λ is. not_a (is ∙ sym e);
  not_target = λ is. not_b (is ∙ sym f);
  first = subst (λ (x : ℕ). AreAllAsked x target n start) e (subst (λ (x : ℕ). AreAllAsked a x n start) f all);
}

pub rests : (a source b target routers n start : ℕ) → a ≡ source → b ≡ target → AreAllAsked a b n start → routers ≤ n → AreAllAsked source target routers start
rests a source b target routers n start e f all end m from below =
    subst (λ (x : ℕ). (m ≡ x) ⊎ (m ≡ target)) e (subst (λ (x : ℕ). (m ≡ a) ⊎ (m ≡ x)) f (all m from (omega arith)))
