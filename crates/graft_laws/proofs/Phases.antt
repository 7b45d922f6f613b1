-- What is found at one place tells the phase.
use Rattle.std.proofs.Common.{◌≡◌, ◌==◌, cond, ℕ, List, ◌∷◌, Option, Some, refl, arith}
use Rattle.std.proofs.lemmas.Bool.Decides.{nat_tests}
use Rattle.graft_steps.specs.declared.refusal.Refusal.{Refusal}
use Rattle.graft_steps.specs.declared.refusal.Outcome.TheVariants.{Accepted, Refused}
use Rattle.session_value.specs.Sessions.{SessionValue}
use Rattle.graft_model.specs.Parts.{Errand, Leaving, Owing, Asking as ToAnswer, Live, Frozen, Mesh, Moved, Back, Done, GraftOrder, Report}
use Rattle.graft_laws.specs.Phases.{Ordered, Stored, Halted, Moving, Landed, Asking, Confirmed, Returning, Declined}
use Rattle.graft_laws.specs.Phases.{Cleared, Phase, Busy, place_by, mesh_by, orders_by, reports_by}

-- ---- at a router

pub live_session : (phase : Phase) (s t : SessionValue) (o : Option Errand) (r : ℕ) → Live t o ≡ place_by phase s r → t ≡ s
live_session (Busy q k u Ordered) s t o r e = grind (arith, nat_tests)
live_session _ s t o r e = grind (arith, nat_tests)

-- a session with a graft that is stored for it
pub stored_at : (phase : Phase) (s t : SessionValue) (r k u : ℕ) → Live t (Some (Leaving (record { graft = k; target = u }))) ≡ place_by phase s r
    → (phase ≡ Busy r k u Stored) × (t ≡ s)
stored_at (Busy q l v Stored) s t r k u e = grind (arith, nat_tests)
stored_at _ s t r k u e = absurd (grind (arith, nat_tests))

pub halted_at : (phase : Phase) (s t : SessionValue) (r k u : ℕ) → Frozen t (record { graft = k; target = u }) ≡ place_by phase s r
    → (phase ≡ Busy r k u Halted) × (t ≡ s)
halted_at (Busy q l v Halted) s t r k u e = grind (arith, nat_tests)
halted_at _ s t r k u e = absurd (grind (arith, nat_tests))

-- a session that has landed, and word of that is owed
pub owing_at : (phase : Phase) (s t : SessionValue) (r k q n : ℕ)
    → Live t (Some (Owing (record { graft = k; source = q; next = n }))) ≡ place_by phase s r → (phase ≡ Busy q k r (Landed n)) × (t ≡ s)
owing_at (Busy q l v (Landed m)) s t r k u n e = grind (arith, nat_tests)
owing_at _ s t r k u n e = absurd (grind (arith, nat_tests))

-- one that has landed, where a router was asked
pub asking_at : (phase : Phase) (s t : SessionValue) (r k q n : ℕ)
    → Live t (Some (ToAnswer (record { graft = k; source = q; next = n }))) ≡ place_by phase s r → (phase ≡ Busy q k r (Asking n)) × (t ≡ s)
asking_at (Busy q l v (Asking m)) s t r k u n e = grind (arith, nat_tests)
asking_at _ s t r k u n e = absurd (grind (arith, nat_tests))

-- ---- between routers

pub moved_in : (phase : Phase) (p : ℕ) (s t : SessionValue) (a b k : ℕ) (rest : List Mesh) → Moved k p t ∷ rest ≡ mesh_by phase p s a b
    → (phase ≡ Busy a k b Moving) × (t ≡ s)
moved_in (Busy q l v Moving) p s t a b k rest e = grind (arith, nat_tests)
moved_in (Busy q l v Confirmed) p s t a b k rest e = absurd (grind (arith, nat_tests))
moved_in (Busy q l v (Returning refusal)) p s t a b k rest e = absurd (grind (arith, nat_tests))
moved_in _ p s t a b k rest e = absurd cc

pub back_in : (phase : Phase) (p : ℕ) (s t : SessionValue) (refusal : Refusal) (a b k : ℕ) (rest : List Mesh)
    → Back k p t refusal ∷ rest ≡ mesh_by phase p s a b
    → (phase ≡ Busy b k a (Returning refusal)) × (t ≡ s)
back_in (Busy q l v (Returning other)) p s t refusal a b k rest e = grind (arith, nat_tests)
back_in (Busy q l v Moving) p s t refusal a b k rest e = absurd (grind (arith, nat_tests))
back_in (Busy q l v Confirmed) p s t refusal a b k rest e = absurd (grind (arith, nat_tests))
back_in _ p s t refusal a b k rest e = absurd cc

pub done_in : (phase : Phase) (p : ℕ) (s : SessionValue) (a b k : ℕ) (rest : List Mesh) → Done k p ∷ rest ≡ mesh_by phase p s a b → phase ≡ Busy b k a Confirmed
done_in (Busy q l v Confirmed) p s a b k rest e = grind (arith, nat_tests)
done_in (Busy q l v Moving) p s a b k rest e = absurd (grind (arith, nat_tests))
done_in (Busy q l v (Returning refusal)) p s a b k rest e = absurd (grind (arith, nat_tests))
done_in _ p s a b k rest e = absurd cc

-- ---- from and to the operator

pub order_in : (phase : Phase) (p r : ℕ) (o : GraftOrder) (rest : List GraftOrder) → o ∷ rest ≡ orders_by phase p r
    → (phase ≡ Busy r o.graft o.target Ordered) × (o.peering ≡ p)
order_in (Busy q k t Ordered) p r o rest e = grind (arith, nat_tests)
order_in _ p r o rest e = absurd cc

pub refusal_in : (phase : Phase) (r k : ℕ) (refusal : Refusal) (rest : List Report)
    → record { graft = k; outcome = Refused refusal } ∷ rest ≡ reports_by phase r
    → (t : ℕ) × (phase ≡ Busy r k t (Declined refusal))
refusal_in (Busy q l v (Declined other)) r k refusal rest e = (v, grind (arith, nat_tests))
refusal_in (Busy q l v Cleared) r k refusal rest e = absurd (grind (arith, nat_tests))
refusal_in _ r k refusal rest e = absurd cc

pub success_in : (phase : Phase) (r k : ℕ) (rest : List Report) → record { graft = k; outcome = Accepted } ∷ rest ≡ reports_by phase r
    → (t : ℕ) × (phase ≡ Busy r k t Cleared)
success_in (Busy q l v Cleared) r k rest e = (v, grind (arith, nat_tests))
success_in (Busy q l v (Declined refusal)) r k rest e = absurd (grind (arith, nat_tests))
success_in _ r k rest e = absurd cc

-- ---- another session at the same place

pub place_for : (phase : Phase) (s t : SessionValue) (o : Option Errand) (r x : ℕ) → place_by phase s r ≡ Live s o
    → cond (x == r) (Live t o) (place_by phase s x) ≡ place_by phase t x
place_for (Busy q k u Ordered) s t o r x e = grind (arith, nat_tests)
place_for _ s t o r x e = grind (arith, nat_tests)

-- where a session is live, none is on its way
pub mesh_for : (phase : Phase) (s t : SessionValue) (o : Option Errand) (r p a b : ℕ) → place_by phase s r ≡ Live s o
    → mesh_by phase p s a b ≡ mesh_by phase p t a b
mesh_for (Busy q k u Moving) s t o r p a b e = absurd (grind (arith, nat_tests))
mesh_for (Busy q k u (Returning refusal)) s t o r p a b e = absurd (grind (arith, nat_tests))
mesh_for _ s t o r p a b e = refl
