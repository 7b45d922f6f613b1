-- What is noted of an input are the routes of the laboratory that it describes.
use Rattle.std.proofs.Common.{◌≡◌, ℕ, zero, suc, ◌+◌, ◌<◌, List, [], ◌∷◌, ◌++◌, map, Option, Some, length, refl, sym, ap, ◌∙◌, slice_index_or, arith}
use Rattle.std.specs.Prelude.{slice_get, option_map}
use Rattle.std.specs.List.{filter_map, flat_map, enumerate_from}
use Rattle.std.proofs.lemmas.List.Folds.{flat_map-map}
use Rattle.bgp_types.specs.declared.attrs.Attrs.{Attrs}
use Rattle.bgp_types.specs.declared.fault.Expected.{Expected}
use Rattle.bgp_types.specs.Header.{frame_at}
use Rattle.bgp_types.specs.Many.{many}
use Rattle.bgp_types.specs.Prefixes.{PrefixValue}
use Rattle.route_policy.specs.Policies.{policy}
use Rattle.route_policy.specs.declared.rule.Rule.{Rule}
use Rattle.bgp_types.specs.declared.attrs.Route.{Route}
use Rattle.session_value.specs.declared.config.SessionConfig.{SessionConfig}
use Rattle.graft_model.specs.Setups.{rules_for, router_numbers}
use Rattle.lab_tables.specs.declared.input.LabInput.{LabInput}
use Rattle.lab_tables.specs.declared.input.PeeringInput.{PeeringInput}
use Rattle.lab_tables.specs.declared.input.RouterInput.{RouterInput}
use Rattle.lab_setup.specs.Setups.{setup_of, router_setup, peering_setup}
use Rattle.one_answer.specs.Settled.{said_in_all}
use Rattle.even_inputs.specs.Announced.{established, announced_by}
use Rattle.even_inputs.specs.Evenness.{Med, med_of, own_meds, announced_route, meds_from, meds_by, let_in}
use Rattle.lab_answers.specs.Noted.{own_med}
use Rattle.lab_answers.specs.declared.imports.Imports.{Imports}
use Rattle.lab_answers.specs.Imports.{meds_of, meds_of_updates, update_in_frame}
use Rattle.lab_answers.specs.Policies.{imports_of}
use Rattle.lab_answers.proofs.PolicyLists.{fused, rules_over}

same_flat : {X Y : Type 0} (f g : X → List Y) → ((x : X) → f x ≡ g x) → (xs : List X) → flat_map f xs ≡ flat_map g xs
same_flat f g each [] = refl
same_flat {X} {Y} f g each (x ∷ xs) = ap (λ (l : List Y). l ++ flat_map f xs) (each x) ∙ ap (λ (l : List Y). g x ++ l) (same_flat f g each xs)

-- the numbers don't matter
unnumbered : {X Y : Type 0} (f : ℕ × X → List Y) (g : X → List Y) → ((n : ℕ) (x : X) → f (n, x) ≡ g x) → (n : ℕ) (xs : List X)
    → flat_map f (enumerate_from n xs) ≡ flat_map g xs
unnumbered f g each n [] = refl
unnumbered {X} {Y} f g each n (x ∷ xs) = ap (λ (l : List Y). l ++ flat_map f (enumerate_from (n + 1) xs)) (each n x)
    ∙ ap (λ (l : List Y). g x ++ l) (unnumbered f g each (n + 1) xs)

-- elements that are made with their numbers keep them
renumbered : {X Y Z : Type 0} (f : ℕ × Y → List Z) (made : ℕ × X → Y) (n : ℕ) (xs : List X)
    → flat_map f (enumerate_from n (map made (enumerate_from n xs))) ≡ flat_map (λ p. f (p.0, made p)) (enumerate_from n xs)
renumbered f made n [] = refl
renumbered {X} {Y} {Z} f made n (x ∷ xs) = ap (λ (l : List Z). f (n, made (n, x)) ++ l) (renumbered f made (n + 1) xs)

module _ (input : LabInput) where
  home_is : (setup_of input).home_as ≡ input.home_as
  unfolding setup_of
  home_is = refl

  routers_are : (setup_of input).routers ≡ map (router_setup input) (enumerate_from 0 input.routers)
  unfolding setup_of
  routers_are = refl

  peerings_are : (setup_of input).peerings ≡ map (peering_setup input) (enumerate_from 0 input.peerings)
  unfolding setup_of
  peerings_are = refl

  -- the networks of all routers
  pub own_over : flat_map (λ (router : RouterInput). map (own_med input.home_as) router.networks) input.routers
      ≡ flat_map (own_meds (setup_of input)) (setup_of input).routers
  own_over = sym (
      ap (flat_map (own_meds (setup_of input))) routers_are
      ∙ flat_map-map (own_meds (setup_of input)) (router_setup input) (enumerate_from 0 input.routers)
      ∙ unnumbered (λ q. own_meds (setup_of input) (router_setup input q)) (λ (router : RouterInput). map (own_med input.home_as) router.networks)
      (λ n x. ap (λ (home_as : ℕ). map (own_med home_as) x.networks) home_is) 0 input.routers)

  module _ (p : ℕ) (x : PeeringInput) where
    abbrev config : SessionConfig
    config = (peering_setup input (p, x)).config

    -- an announced route, as it is and as the routers let it in
    let_in_so : (announced : PrefixValue × Attrs) → meds_of (imports_of input x) announced ≡ meds_from (setup_of input) config announced
    let_in_so announced =
        let g : Route → Med = med_of input.home_as announced.0 in
        let h : List Rule → Option Route = λ rules. policy rules announced.0 x.remote_as (announced_route announced.1) in
        let numbers : List ℕ = router_numbers (setup_of input) in
        ap (λ (l : List Med). med_of input.home_as announced.0 (announced_route announced.1) ∷ l)
        (sym (fused (λ r. rules_for (setup_of input) r x.«import») h g numbers
        ∙ ap (filter_map (λ rules. option_map g (h rules))) (rules_over input x.«import»)))
        ∙ ap (λ (home_as : ℕ). med_of home_as announced.0 (announced_route announced.1)
        ∷ filter_map (λ r. option_map (med_of home_as announced.0) (let_in (setup_of input) config announced r)) numbers) (sym home_is)

    -- all that a remote announces
    pub announced_over : (said : List ℕ) (expected : Expected) (imports : Imports) → said ≡ said_in_all (setup_of input) p (peering_setup input (p, x))
        → expected ≡ established (peering_setup input (p, x)) said → imports ≡ imports_of input x
        → meds_of_updates imports (filter_map (update_in_frame expected) (many frame_at said).0) ≡ meds_by (setup_of input) (p, peering_setup input (p, x))
    announced_over said expected imports is as_read let_in_by =
        ap (λ (i : Imports). meds_of_updates i (filter_map (update_in_frame expected) (many frame_at said).0)) let_in_by
        ∙ ap (λ (e : Expected). meds_of_updates (imports_of input x) (filter_map (update_in_frame e) (many frame_at said).0)) as_read
        ∙ ap (λ (s : List ℕ).
        meds_of_updates (imports_of input x) (filter_map (update_in_frame (established (peering_setup input (p, x)) s)) (many frame_at s).0)) is
        ∙ same_flat (meds_of (imports_of input x)) (meds_from (setup_of input) config) let_in_so
        (flat_map announced_by
        (filter_map (update_in_frame (established (peering_setup input (p, x)) (said_in_all (setup_of input) p (peering_setup input (p, x)))))
        (many frame_at (said_in_all (setup_of input) p (peering_setup input (p, x)))).0))

  -- over all peerings
  pub peerings_over : flat_map (λ q. meds_by (setup_of input) (q.0, peering_setup input q)) (enumerate_from 0 input.peerings)
      ≡ flat_map (meds_by (setup_of input)) (enumerate_from 0 (setup_of input).peerings)
  peerings_over = sym (ap (λ ps. flat_map (meds_by (setup_of input)) (enumerate_from 0 ps)) peerings_are
      ∙ renumbered (meds_by (setup_of input)) (peering_setup input) 0 input.peerings)

-- ---- indices

pub at_index : {A : Type 0} (xs : List A) (i : ℕ) (x : A) → i < length xs → x ≡ slice_index_or xs i x → slice_get xs i ≡ Some x
at_index [] i x below is = absurd (omega (arith, below))
at_index (y ∷ xs) zero x below is = ap (λ z. Some z) (sym is)
at_index (y ∷ xs) (suc i) x below is = at_index xs i x (omega (arith, below)) is
