-- The policies of a session's name, over the input and over the laboratory that it describes.
use Rattle.std.proofs.Common.{◌≡◌, ℕ, suc, ◌+◌, ◌<◌, Bool, true, false, cond, List, [], ◌∷◌, ◌++◌, map, Option}
use Rattle.std.proofs.Common.{Some, None, length, take, refl, sym, ap, ◌∙◌, slice_index_or, arith}
use Rattle.std.specs.Prelude.{slice_get, find, option_map, option_and_then, unwrap_or}
use Rattle.std.specs.List.{cons_option, filter_map, range_with_len}
use Rattle.std.specs.Str.{bytes_eq}
use Rattle.std.proofs.lemmas.List.Elements.{filter_map-append}
use Rattle.graft_model.specs.Setups.{NamedRules, RouterSetup, rules_for, router_numbers}
use Rattle.lab_tables.specs.declared.input.LabInput.{LabInput}
use Rattle.lab_tables.specs.declared.input.PolicyInput.{PolicyInput}
use Rattle.lab_tables.specs.declared.input.RouterInput.{RouterInput}
use Rattle.lab_setup.specs.Setups.{setup_of, named_rules}
use Rattle.lab_setup.proofs.Ready.{router_there, as_many_routers}
use Rattle.lab_answers.specs.Policies.{rules_of}
use Rattle.lab_answers.proofs.Adding.{one_more}

-- ---- in the loop

pub filtered_more : {X Y : Type 0} (f : X → Option Y) (xs : List X) (i : ℕ) (x : X) (before after : List Y) (o : Option Y) → i < length xs
    → x ≡ slice_index_or xs i x
    → before ≡ filter_map f (take i xs) → o ≡ f x → after ≡ before ++ cons_option o [] → after ≡ filter_map f (take (i + 1) xs)
filtered_more {X} {Y} f xs i x before after o below is so_far here put =
    put ∙ ap (λ (l : List Y). l ++ cons_option o []) so_far ∙ ap (λ (p : Option Y). filter_map f (take i xs) ++ cons_option p []) here
    ∙ sym (ap (filter_map f) (one_more xs i x below is) ∙ filter_map-append f (take i xs) (x ∷ []))

pub none_filtered : (routers : List RouterInput) → [] ≡ filter_map (rules_of None) routers
none_filtered [] = refl
none_filtered (r ∷ routers) = none_filtered routers

-- ---- by number

pub fused : {X Y Z W : Type 0} (k : X → Option Y) (h : Y → Option Z) (g : Z → W) (xs : List X)
    → filter_map (λ x. option_map g (option_and_then h (k x))) xs ≡ filter_map (λ y. option_map g (h y)) (filter_map k xs)
fused {X} {Y} {Z} {W} k h g [] = refl
fused {X} {Y} {Z} {W} k h g (x ∷ xs) = by_key (k x) (fused k h g xs) where
  by_key : (o : Option Y) → filter_map (λ x. option_map g (option_and_then h (k x))) xs ≡ filter_map (λ y. option_map g (h y)) (filter_map k xs)
      → cons_option (option_map g (option_and_then h o)) (filter_map (λ x. option_map g (option_and_then h (k x))) xs)
      ≡ filter_map (λ y. option_map g (h y)) (cons_option o (filter_map k xs))
  by_key None rest = rest
  by_key (Some y) rest = ap (λ (l : List W). cons_option (option_map g (h y)) l) rest

pub by_number : {X Y : Type 0} (F : ℕ → Option Y) (G : X → Option Y) (n : ℕ) (xs : List X) → ((k : ℕ) (x : X) → slice_get xs k ≡ Some x → F (n + k) ≡ G x)
    → filter_map F (range_with_len n (length xs)) ≡ filter_map G xs
by_number F G n [] each = refl
by_number {X} {Y} F G n (x ∷ xs) each =
    let here : n + 0 ≡ n = omega arith in
    ap (λ (o : Option Y). cons_option o (filter_map F (range_with_len (n + 1) (length xs)))) (ap F (sym here) ∙ each 0 x refl)
    ∙ ap (λ (l : List Y). cons_option (G x) l)
    (by_number F G (n + 1) xs (λ k y e. ap F (let index : n + 1 + k ≡ n + suc k = omega arith in index) ∙ each (suc k) y e))

-- ---- by name

same_rules : (name : List ℕ) (ps : List PolicyInput)
    → option_map (λ (policy : NamedRules). policy.rules) (find (λ (policy : NamedRules). bytes_eq name policy.name) (map named_rules ps))
    ≡ option_map (λ (policy : PolicyInput). policy.rules) (find (λ (policy : PolicyInput). bytes_eq name policy.name) ps)
same_rules name [] = refl
same_rules name (p ∷ ps) = by_test (bytes_eq name p.name) (same_rules name ps) where
  by_test : (t : Bool)
      → option_map (λ (policy : NamedRules). policy.rules) (find (λ (policy : NamedRules). bytes_eq name policy.name) (map named_rules ps))
      ≡ option_map (λ (policy : PolicyInput). policy.rules) (find (λ (policy : PolicyInput). bytes_eq name policy.name) ps)
      → option_map (λ (policy : NamedRules). policy.rules)
      (cond t (Some (named_rules p)) (find (λ (policy : NamedRules). bytes_eq name policy.name) (map named_rules ps)))
      ≡ option_map (λ (policy : PolicyInput). policy.rules) (cond t (Some p) (find (λ (policy : PolicyInput). bytes_eq name policy.name) ps))
  by_test true rest = refl
  by_test false rest = rest

module _ (input : LabInput) where
  rules_are : (name : Option (List ℕ)) (r : ℕ) (x : RouterInput) → slice_get input.routers r ≡ Some x → rules_for (setup_of input) r name ≡ rules_of name x
  rules_are None r x there = refl
  rules_are (Some name) r x there =
      ap (λ o. option_map (λ (policy : NamedRules). policy.rules)
      (find (λ (policy : NamedRules). bytes_eq name policy.name) (unwrap_or (option_map (λ (y : RouterSetup). y.policies) o) []))) (router_there
      input r x there)
      ∙ same_rules name x.policies

  -- the rules for a session's name, router by router
  pub rules_over : (name : Option (List ℕ))
      → filter_map (λ r. rules_for (setup_of input) r name) (router_numbers (setup_of input)) ≡ filter_map (rules_of name) input.routers
  rules_over name =
      ap (λ n. filter_map (λ r. rules_for (setup_of input) r name) (range_with_len 0 n)) (as_many_routers input)
      ∙ by_number (λ r. rules_for (setup_of input) r name) (rules_of name) 0 input.routers (λ k x e.
      ap (λ r. rules_for (setup_of input) r name) (let first : 0 + k ≡ k = omega arith in first) ∙ rules_are name k x e)
