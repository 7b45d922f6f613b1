-- A peering that stands somewhere has one session in the world.
use Rattle.std.proofs.Common.{◌≡◌, ◌==◌, cond, ℕ, zero, suc, ◌<◌, ◌≤◌, ◌+◌, Bool, true, false, List, [], ◌∷◌, ◌++◌, refl, ap, ◌∙◌, arith}
use Rattle.std.proofs.lemmas.Bool.Decides.{nat_tests}
use Rattle.std.proofs.lemmas.List.{append-nil}
use Rattle.std.specs.Prelude.{◌≢◌}
use Rattle.std.specs.List.{flat_map, range_with_len}
use Rattle.session_value.specs.Sessions.{SessionValue}
use Rattle.graft_model.specs.Setups.{Setup, routers_in, router_numbers}
use Rattle.graft_model.specs.Parts.{Mesh, Told, Moved, Back, Asked, Answered, Done, World}
use Rattle.graft_model.specs.Claims.{sessions_at, sessions_on, sessions_of}
use Rattle.graft_laws.specs.Phases.{Ordered, Stored, Halted, Moving, Landed, Asking, Confirmed, Returning}
use Rattle.graft_laws.specs.Phases.{Declined, Cleared, Phase, Idle, Busy, place_by, mesh_by, InBounds}
use Rattle.graft_laws.specs.Owned.{mesh_items_on, Stands}

-- ---- lists joined over numbers

pub flat_same : {A : Type 0} (f g : ℕ → List A) (xs : List ℕ) → ((k : ℕ) → f k ≡ g k) → flat_map f xs ≡ flat_map g xs
flat_same f g [] h = refl
flat_same f g (x ∷ xs) h = cc (h x, flat_same f g xs h)

flat_none : {A : Type 0} (f : ℕ → List A) (xs : List ℕ) → ((k : ℕ) → f k ≡ []) → flat_map f xs ≡ []
flat_none f [] h = refl
flat_none f (x ∷ xs) h = ap (λ (y : List _). y ++ flat_map f xs) (h x) ∙ flat_none f xs h

flat_past : {A : Type 0} (f : ℕ → List A) (a n q : ℕ) → q < a → ((k : ℕ) → k ≢ q → f k ≡ []) → flat_map f (range_with_len a n) ≡ []
flat_past f a zero q l h = refl
flat_past f a (suc n) q l h = ap (λ (y : List _). y ++ flat_map f (range_with_len (a + 1) n)) (h a (λ is. omega arith))
    ∙ flat_past f (a + 1) n q (omega arith) h

-- one number has all
flat_one : {A : Type 0} (f : ℕ → List A) (a n q : ℕ) (c : List A) → a ≤ q → q < a + n → f q ≡ c → ((k : ℕ) → k ≢ q → f k ≡ [])
    → flat_map f (range_with_len a n) ≡ c
flat_one f a zero q c l m here none = absurd (omega arith)
flat_one f a (suc n) q c l m here none = by_test (a == q) refl (λ below. flat_one f (a + 1) n q c (omega arith) (omega arith) here none) where
  by_test : (b : Bool) → (a == q) ≡ b → (a < q → flat_map f (range_with_len (a + 1) n) ≡ c) → f a ++ flat_map f (range_with_len (a + 1) n) ≡ c
  by_test true is later =
      let same : a ≡ q = grind (arith, nat_tests) in
      ap (λ (y : List _). f a ++ y) (flat_past f (a + 1) n q (omega arith) none) ∙ (append-nil (f a) ∙ (ap f same ∙ here))
  by_test false is later =
      let differs : a ≢ q = grind (arith, nat_tests) in
      ap (λ (y : List _). y ++ flat_map f (range_with_len (a + 1) n)) (none a differs) ∙ later (omega arith)

flat2_none : {A : Type 0} (f : ℕ → ℕ → List A) (xs : List ℕ) → ((a b : ℕ) → f a b ≡ []) → flat_map (λ a. flat_map (f a) xs) xs ≡ []
flat2_none f xs h = flat_none (λ a. flat_map (f a) xs) xs (λ a. flat_none (f a) xs (h a))

flat2_one : {A : Type 0} (f : ℕ → ℕ → List A) (n j k : ℕ) (c : List A) → j < n → k < n → f j k ≡ c → ((a b : ℕ) → a ≢ j → f a b ≡ [])
    → ((a b : ℕ) → b ≢ k → f a b ≡ [])
    → flat_map (λ a. flat_map (f a) (range_with_len 0 n)) (range_with_len 0 n) ≡ c
flat2_one f n j k c jl kl here rows columns =
    flat_one (λ a. flat_map (f a) (range_with_len 0 n)) 0 n j c (omega arith) (omega arith)
    (flat_one (f j) 0 n k c (omega arith) (omega arith) here (λ b ne. columns j b ne))
    (λ a ne. flat_none (f a) (range_with_len 0 n) (λ b. rows a b ne))

-- ---- sessions among items

item_step : (p : ℕ) (x : Mesh) (items : List Mesh) → flat_map (sessions_on p) items ≡ flat_map (sessions_on p) (mesh_items_on p items)
    → flat_map (sessions_on p) (x ∷ items) ≡ flat_map (sessions_on p) (mesh_items_on p (x ∷ items))
item_step p (Told prefix route) items h = h
item_step p (Moved k q s) items h = by_test (q == p) refl where
  by_test : (b : Bool) → (q == p) ≡ b
      → cond b (s ∷ []) [] ++ flat_map (sessions_on p) items ≡ flat_map (sessions_on p) (cond b (Moved k q s ∷ mesh_items_on p items) (mesh_items_on p items))
  by_test true is = cc (ap (λ b. cond b (s ∷ []) []) is, h)
  by_test false is = h
item_step p (Back k q s refusal) items h = by_test (q == p) refl where
  by_test : (b : Bool) → (q == p) ≡ b
      → cond b (s ∷ []) [] ++ flat_map (sessions_on p) items
      ≡ flat_map (sessions_on p) (cond b (Back k q s refusal ∷ mesh_items_on p items) (mesh_items_on p items))
  by_test true is = cc (ap (λ b. cond b (s ∷ []) []) is, h)
  by_test false is = h
item_step p (Asked k q) items h = h
item_step p (Answered k q) items h = h
item_step p (Done k q) items h = by_test (q == p) where
  by_test : (b : Bool) → flat_map (sessions_on p) items ≡ flat_map (sessions_on p) (cond b (Done k q ∷ mesh_items_on p items) (mesh_items_on p items))
  by_test true = h
  by_test false = h

-- the sessions of a peering are those of its own items
pub items_of : (p : ℕ) (items : List Mesh) → flat_map (sessions_on p) items ≡ flat_map (sessions_on p) (mesh_items_on p items)
items_of p [] = refl
items_of p (x ∷ items) = item_step p x items (items_of p items)

-- ---- by phases

abbrev held_by : Phase → SessionValue → ℕ → List SessionValue
held_by phase s r = sessions_at (place_by phase s r)

abbrev moves_by : Phase → ℕ → SessionValue → ℕ → ℕ → List SessionValue
moves_by phase p s a b = flat_map (sessions_on p) (mesh_by phase p s a b)

abbrev all_by : ℕ → Phase → ℕ → SessionValue → List SessionValue
all_by n phase p s =
    flat_map (held_by phase s) (range_with_len 0 n) ++ flat_map (λ a. flat_map (moves_by phase p s a) (range_with_len 0 n)) (range_with_len 0 n)

-- it is held at one router
at_router : (n : ℕ) (phase : Phase) (p q : ℕ) (s : SessionValue) → q < n → held_by phase s q ≡ s ∷ [] → ((k : ℕ) → k ≢ q → held_by phase s k ≡ [])
    → ((a b : ℕ) → moves_by phase p s a b ≡ []) → all_by n phase p s ≡ s ∷ []
at_router n phase p q s below here none moves =
    cc (flat_one (held_by phase s) 0 n q (s ∷ []) (omega arith) (omega arith) here none, flat2_none (moves_by phase p s) (range_with_len 0 n) moves)

-- it is on its way from one router to another
on_the_way : (n : ℕ) (phase : Phase) (p j k : ℕ) (s : SessionValue) → j < n → k < n → ((r : ℕ) → held_by phase s r ≡ []) → moves_by phase p s j k ≡ s ∷ []
    → ((a b : ℕ) → a ≢ j → moves_by phase p s a b ≡ []) → ((a b : ℕ) → b ≢ k → moves_by phase p s a b ≡ []) → all_by n phase p s ≡ s ∷ []
on_the_way n phase p j k s jl kl none here rows columns =
    cc (flat_none (held_by phase s) (range_with_len 0 n) none, flat2_one (moves_by phase p s) n j k (s ∷ []) jl kl here rows columns)

one_by : (setup : Setup) (phase : Phase) (p : ℕ) (s : SessionValue) → InBounds setup phase → all_by (routers_in setup) phase p s ≡ s ∷ []
one_by setup (Idle q) p s l = at_router _ (Idle q) p q s l (grind (arith, nat_tests)) (λ k ne. grind (arith, nat_tests)) (λ a b. refl)
one_by setup (Busy q k t Ordered) p s l = at_router _ (Busy q k t Ordered) p q s l.0 (grind (arith, nat_tests)) (λ k ne. grind (arith, nat_tests)) (λ a b. refl)
one_by setup (Busy q k t Stored) p s l = at_router _ (Busy q k t Stored) p q s l.0 (grind (arith, nat_tests)) (λ k ne. grind (arith, nat_tests)) (λ a b. refl)
one_by setup (Busy q k t Halted) p s l = at_router _ (Busy q k t Halted) p q s l.0 (grind (arith, nat_tests)) (λ k ne. grind (arith, nat_tests)) (λ a b. refl)
one_by setup (Busy q k t Moving) p s l = on_the_way _ (Busy q k t Moving) p q t s l.0 l.1 (λ r. grind (arith, nat_tests))
    (grind (arith, nat_tests)) (λ a b ne. grind (arith, nat_tests)) (λ a b ne. grind (arith, nat_tests))
one_by setup (Busy q k t (Landed n)) p s l =
    at_router _ (Busy q k t (Landed n)) p t s l.1 (grind (arith, nat_tests)) (λ k ne. grind (arith, nat_tests)) (λ a b. grind (arith, nat_tests))
one_by setup (Busy q k t (Asking n)) p s l =
    at_router _ (Busy q k t (Asking n)) p t s l.1 (grind (arith, nat_tests)) (λ k ne. grind (arith, nat_tests)) (λ a b. grind (arith, nat_tests))
one_by setup (Busy q k t Confirmed) p s l =
    at_router _ (Busy q k t Confirmed) p t s l.1 (grind (arith, nat_tests)) (λ k ne. grind (arith, nat_tests)) (λ a b. grind (arith, nat_tests))
one_by setup (Busy q k t (Returning refusal)) p s l =
    on_the_way _ (Busy q k t (Returning refusal)) p t q s l.1 l.0 (λ r. grind (arith, nat_tests))
    (grind (arith, nat_tests)) (λ a b ne. grind (arith, nat_tests)) (λ a b ne. grind (arith, nat_tests))
one_by setup (Busy q k t (Declined refusal)) p s l =
    at_router _ (Busy q k t (Declined refusal)) p q s l.0 (grind (arith, nat_tests)) (λ k ne. grind (arith, nat_tests)) (λ a b. refl)
one_by setup (Busy q k t Cleared) p s l = at_router _ (Busy q k t Cleared) p t s l.1 (grind (arith, nat_tests)) (λ k ne. grind (arith, nat_tests)) (λ a b. refl)

-- ---- in the world

pub one_session : (setup : Setup) (w : World) (p : ℕ) (phase : Phase) (s : SessionValue) → Stands setup w p phase s → sessions_of setup w p ≡ s ∷ []
one_session setup w p phase s b =
    let held : flat_map (λ r. sessions_at ((w.router r).places p)) (router_numbers setup) ≡ flat_map (held_by phase s) (router_numbers setup) =
    flat_same (λ r. sessions_at ((w.router r).places p)) (held_by phase s) (router_numbers setup) (λ r. ap sessions_at (b.places r)) in
    let moves : flat_map (λ a. flat_map (λ c. flat_map (sessions_on p) (w.mesh a c)) (router_numbers setup)) (router_numbers setup)
    ≡ flat_map (λ a. flat_map (moves_by phase p s a) (router_numbers setup)) (router_numbers setup) =
    flat_same (λ a. flat_map (λ c. flat_map (sessions_on p) (w.mesh a c)) (router_numbers setup))
    (λ a. flat_map (moves_by phase p s a) (router_numbers setup)) (router_numbers setup)
    (λ a. flat_same (λ c. flat_map (sessions_on p) (w.mesh a c)) (moves_by phase p s a)
    (router_numbers setup) (λ c. items_of p (w.mesh a c) ∙ ap (flat_map (sessions_on p)) (b.mesh a c))) in
    ap (λ (x : List SessionValue).
    x ++ flat_map (λ a. flat_map (λ c. flat_map (sessions_on p) (w.mesh a c)) (router_numbers setup)) (router_numbers setup)) held
    ∙ (ap (λ (x : List SessionValue). flat_map (held_by phase s) (router_numbers setup) ++ x) moves ∙ one_by setup phase p s b.bounds)
