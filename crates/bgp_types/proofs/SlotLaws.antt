-- Attributes of known types, at most one of each, before those of unknown types.
use Rattle.std.proofs.Common.{◌≡◌, ℕ, List, [], ◌∷◌, ◌++◌, Bool, true, false, cond, eqb, Option, Some, None, refl, sym, ap, ◌∙◌, arith, subst}
use Rattle.std.specs.Prelude.{◌≢◌}
use Rattle.std.specs.List.{AllByRecursion}
use Rattle.std.proofs.lemmas.Bool.Decides.{nat_tests}
use Rattle.bgp_types.specs.Faults.{own_fault, attr_of, kept_raw}
use Rattle.bgp_types.specs.Found.{join, kept}
use Rattle.bgp_types.specs.Reads.{Differ}
use Rattle.bgp_types.specs.Values.{is_other}
use Rattle.bgp_types.specs.WireAttrs.{WireAttr, IsWireAttr, wire_kind}

-- what is asked of each attribute that is written
pub record IsGood (wide : Bool) (a : WireAttr) : Type 0 where
  pub sound : IsWireAttr a
  pub own : own_fault wide a ≡ None

-- no attribute, or one of this type
pub data IsSlot (wide : Bool) (kind : ℕ) : List WireAttr → Type 0 where
  none : IsSlot wide kind []
  one : (a : WireAttr) → a.kind ≡ kind → IsGood wide a → IsSlot wide kind (a ∷ [])

-- the type is none of these
abbrev pub is_fresh : ℕ → List ℕ → Bool
is_fresh kind [] = true
is_fresh kind (k ∷ kinds) = cond (eqb k kind) false (is_fresh kind kinds)

abbrev pub joined : List (List WireAttr) → List WireAttr → List WireAttr
joined [] others = others
joined (slot ∷ slots) others = slot ++ joined slots others

abbrev pub AreSlots : Bool → List ℕ → List (List WireAttr) → Type 0
AreSlots wide [] [] = Unit {0}
AreSlots wide (k ∷ kinds) (slot ∷ slots) = IsSlot wide k slot × (is_other k ≡ false) × (is_fresh k kinds ≡ true) × AreSlots wide kinds slots
AreSlots wide [] (slot ∷ slots) = ⊥
AreSlots wide (k ∷ kinds) [] = ⊥

-- the slot of a type
abbrev pub head_of : List WireAttr → Option WireAttr
head_of [] = None
head_of (a ∷ _) = Some a

abbrev pub slot_of : ℕ → List ℕ → List (List WireAttr) → Option WireAttr
slot_of kind [] slots = None
slot_of kind (k ∷ kinds) [] = None
slot_of kind (k ∷ kinds) (slot ∷ slots) = cond (eqb k kind) (head_of slot) (slot_of kind kinds slots)

-- ---- all of them

all_slot : (P : WireAttr → Type 0) (wide : Bool) (k : ℕ) (slot rest : List WireAttr) → IsSlot wide k slot
    → ((a : WireAttr) → a.kind ≡ k → IsGood wide a → P a) → AllByRecursion P rest → AllByRecursion P (slot ++ rest)
all_slot P wide k _ rest none h all = all
all_slot P wide k _ rest (one a e g) h all = (h a e g, all)

pub all_good : (wide : Bool) (kinds : List ℕ) (slots : List (List WireAttr)) (others : List WireAttr) → AreSlots wide kinds slots
    → AllByRecursion (IsGood wide) others → AllByRecursion (IsGood wide) (joined slots others)
all_good wide [] [] others s all = all
all_good wide [] (slot ∷ slots) others s all = absurd s
all_good wide (k ∷ kinds) [] others s all = absurd s
all_good wide (k ∷ kinds) (slot ∷ slots) others s all =
    all_slot (IsGood wide) wide k slot (joined slots others) s.0 (λ a e g. g) (all_good wide kinds slots others s.3 all)

-- ---- types differ

not_fresh : (k j : ℕ) (kinds : List ℕ) → is_fresh k (j ∷ kinds) ≡ true → (eqb j k ≡ false) × (is_fresh k kinds ≡ true)
not_fresh k j kinds e = by_test (eqb j k) e where
  by_test : (t : Bool) → cond t false (is_fresh k kinds) ≡ true → (t ≡ false) × (is_fresh k kinds ≡ true)
  by_test true e = absurd cc
  by_test false e = (refl, e)

others_apart : (k : ℕ) (others : List WireAttr) → is_other k ≡ false → AllByRecursion (λ a. is_other a.kind ≡ true) others
    → AllByRecursion (λ a. wire_kind a ≢ k) others
others_apart k [] o all = tt
others_apart k (a ∷ others) o all = (λ e. true_false (sym all.0 ∙ (ap is_other e ∙ o)), others_apart k others o all.1) where
  true_false : true ≡ false → ⊥
  true_false e = cc

apart : (wide : Bool) (k : ℕ) (kinds : List ℕ) (slots : List (List WireAttr)) (others : List WireAttr) → is_other k ≡ false → is_fresh k kinds ≡ true
    → AreSlots wide kinds slots → AllByRecursion (λ a. is_other a.kind ≡ true) others → AllByRecursion (λ a. wire_kind a ≢ k) (joined slots others)
apart wide k [] [] others o fresh s all = others_apart k others o all
apart wide k [] (slot ∷ slots) others o fresh s all = absurd s
apart wide k (j ∷ kinds) [] others o fresh s all = absurd s
apart wide k (j ∷ kinds) (slot ∷ slots) others o fresh s all =
    let f = not_fresh k j kinds fresh in
    let differs = f.0 in
    all_slot (λ a. wire_kind a ≢ k) wide j slot (joined slots others) s.0
    (λ a e g. λ same. absurd (grind (arith, nat_tests))) (apart wide k kinds slots others o f.1 s.3 all)

differ_slot : (wide : Bool) (k : ℕ) (slot rest : List WireAttr) → IsSlot wide k slot → AllByRecursion (λ a. wire_kind a ≢ k) rest
    → Differ wire_kind rest → Differ wire_kind (slot ++ rest)
differ_slot wide k _ rest none all differ = differ
differ_slot wide k _ rest (one a e g) all differ = (subst (λ (n : ℕ). AllByRecursion (λ b. wire_kind b ≢ n) rest) (sym e) all, differ)

pub all_differ : (wide : Bool) (kinds : List ℕ) (slots : List (List WireAttr)) (others : List WireAttr) → AreSlots wide kinds slots
    → AllByRecursion (λ a. is_other a.kind ≡ true) others → Differ wire_kind others → Differ wire_kind (joined slots others)
all_differ wide [] [] others s all differ = differ
all_differ wide [] (slot ∷ slots) others s all differ = absurd s
all_differ wide (k ∷ kinds) [] others s all differ = absurd s
all_differ wide (k ∷ kinds) (slot ∷ slots) others s all differ =
    differ_slot wide k slot (joined slots others) s.0 (apart wide k kinds slots others s.1 s.2 s.3 all) (all_differ wide kinds slots others s.3 all differ)

-- ---- look-ups

find_none : (k : ℕ) (xs : List WireAttr) → AllByRecursion (λ a. wire_kind a ≢ k) xs → attr_of k xs ≡ None
find_none k [] all = refl
find_none k (x ∷ xs) all =
    let t : eqb x.kind k ≡ false = differs x.kind k all.0 in
    ap (λ (b : Bool). cond b (Some x) (attr_of k xs)) t ∙ find_none k xs all.1
  where
    differs : (m k : ℕ) → (m ≡ k → ⊥) → eqb m k ≡ false
    differs m k h = grind (arith, nat_tests)

find_here : (wide : Bool) (k : ℕ) (slot rest : List WireAttr) → IsSlot wide k slot → AllByRecursion (λ a. wire_kind a ≢ k) rest
    → attr_of k (slot ++ rest) ≡ head_of slot
find_here wide k _ rest none all = find_none k rest all
find_here wide k _ rest (one a e g) all = let t : eqb a.kind k ≡ true = grind (arith, nat_tests) in ap (λ (b : Bool). cond b (Some a) (attr_of k rest)) t

find_past : (wide : Bool) (j k : ℕ) (slot rest : List WireAttr) → IsSlot wide j slot → eqb j k ≡ false → attr_of k (slot ++ rest) ≡ attr_of k rest
find_past wide j k _ rest none f = refl
find_past wide j k _ rest (one a e g) f = ap (λ (b : Bool). cond b (Some a) (attr_of k rest)) (ap (λ (n : ℕ). eqb n k) e ∙ f)

pub find_slot : (wide : Bool) (k : ℕ) (kinds : List ℕ) (slots : List (List WireAttr)) (others : List WireAttr) → is_other k ≡ false
    → AreSlots wide kinds slots → AllByRecursion (λ a. is_other a.kind ≡ true) others → attr_of k (joined slots others) ≡ slot_of k kinds slots
find_slot wide k [] [] others o s all = find_none k others (others_apart k others o all)
find_slot wide k [] (slot ∷ slots) others o s all = absurd s
find_slot wide k (j ∷ kinds) [] others o s all = absurd s
find_slot wide k (j ∷ kinds) (slot ∷ slots) others o s all = by_test (eqb j k) refl (find_slot wide k kinds slots others o s.3 all) where
  by_test : (t : Bool) → eqb j k ≡ t → attr_of k (joined slots others) ≡ slot_of k kinds slots
      → attr_of k (slot ++ joined slots others) ≡ cond t (head_of slot) (slot_of k kinds slots)
  by_test true f ih = let e : j ≡ k = grind (arith, nat_tests) in subst (λ (n : ℕ). attr_of n (slot ++ joined slots others) ≡ head_of slot) e
      (find_here wide j slot (joined slots others) s.0 (apart wide j kinds slots others s.1 s.2 s.3 all))
  by_test false f ih = find_past wide j k slot (joined slots others) s.0 f ∙ ih

-- ---- the unknown ones

kept_slot : (wide : Bool) (k : ℕ) (slot rest : List WireAttr) → IsSlot wide k slot → is_other k ≡ false → kept (slot ++ rest) ≡ kept rest
kept_slot wide k _ rest none o = refl
kept_slot wide k _ rest (one a e g) o = ap (λ (b : Bool). cond b (join (kept_raw a) (kept rest)) (kept rest)) (ap is_other e ∙ o)

pub kept_slots : (wide : Bool) (kinds : List ℕ) (slots : List (List WireAttr)) (others : List WireAttr) → AreSlots wide kinds slots
    → kept (joined slots others) ≡ kept others
kept_slots wide [] [] others s = refl
kept_slots wide [] (slot ∷ slots) others s = absurd s
kept_slots wide (k ∷ kinds) [] others s = absurd s
kept_slots wide (k ∷ kinds) (slot ∷ slots) others s = kept_slot wide k slot (joined slots others) s.0 s.1 ∙ kept_slots wide kinds slots others s.3
