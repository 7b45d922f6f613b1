use Rattle.std.proofs.Common.{◌≡◌, ◌∙◌, ℕ, List, ap, map}
use Rattle.std.specs.Prelude.{codes}
use Rattle.toml.specs.View.{table_view}
use Rattle.link_bag.specs.declared.plan.Fault.{Fault}
use Rattle.lab_keys.specs.Values.{tables_at}
use Rattle.lab_tables.specs.declared.input.CostInput.{CostInput}
use Rattle.lab_tables.specs.declared.input.LabInput.{LabInput}
use Rattle.lab_tables.specs.declared.input.PeeringInput.{PeeringInput}
use Rattle.lab_tables.specs.declared.input.RouterInput.{RouterInput}
use Rattle.lab_tables.specs.declared.input.Step.{Step}
use Rattle.lab_tables.specs.Peerings.{cost_of, peering_input, fault_of}
use Rattle.lab_tables.specs.Scripts.{step_of}
use Rattle.lab_tables.specs.Expects.{expectation_of}
use Rattle.lab_tables.specs.declared.expectation.ExpectedValue.{ExpectedValue}
use Rattle.lab_tables.specs.Documents.{routers_of, router_names_of, peerings_of, peering_names_of}
use Rattle.lab_tables.proofs.labs.lab_of.Goals as goal

abbrev lab_with : ℕ → List RouterInput → List CostInput → List PeeringInput → List Fault → List Step → List ℕ → List (List ExpectedValue) → LabInput
lab_with h r c p f s t w = record { home_as = h; routers = r; costs = c; peerings = p; faults = f; steps = s; trace = t; expects = w }

lab_same : (h h' : ℕ) (r r' : List RouterInput) (c c' : List CostInput) (p p' : List PeeringInput) (f f' : List Fault) (s s' : List Step) (t t' : List ℕ)
    (w w' : List (List ExpectedValue)) → h ≡ h' → r ≡ r' → c ≡ c' → p ≡ p' → f ≡ f' → s ≡ s' → t ≡ t' → w ≡ w'
    → lab_with h r c p f s t w ≡ lab_with h' r' c' p' f' s' t' w'
lab_same h h' r r' c c' p p' f f' s s' t t' w w' eh er ec ep ef es et ew =
    ap (λ x. lab_with x r c p f s t w) eh
    ∙ ap (λ x. lab_with h' x c p f s t w) er
    ∙ ap (λ x. lab_with h' r' x p f s t w) ec
    ∙ ap (λ x. lab_with h' r' c' x f s t w) ep
    ∙ ap (λ x. lab_with h' r' c' p' x s t w) ef
    ∙ ap (λ x. lab_with h' r' c' p' f' x t w) es
    ∙ ap (λ x. lab_with h' r' c' p' f' s' x w) et
    ∙ ap (λ x. lab_with h' r' c' p' f' s' t' x) ew

pub returns : goal.returns
returns c =
    let doc = table_view c.args.doc.now in
    let routers : c.in_ok-routers.routers ≡ routers_of doc = c.in_ok-routers.ensures in
    let names : c.in_ok-names.names ≡ router_names_of doc = c.in_ok-names.ensures ∙ ap (map (λ r. r.name)) (c.deref.ensures ∙ routers) in
    let peerings : c.in_ok-peerings.peerings ≡ peerings_of doc =
    c.in_ok-peerings.ensures ∙ ap (λ ns. map (peering_input doc ns) (tables_at (codes "peering") doc)) names in
    let remotes : c.in_ok-remotes.remotes ≡ peering_names_of doc = c.in_ok-remotes.ensures ∙ ap (map (λ p. p.name)) (c.deref-2.ensures ∙ peerings) in
    lab_same _ _ _ _ _ _ _ _ _ _ _ _ _ _ _ _
    c.number_or.ensures
    routers
    (c.in_ok-costs.ensures ∙ ap (λ ns. map (cost_of ns) (tables_at (codes "cost") doc)) names)
    peerings
    (c.in_ok-faults.ensures ∙ ap (λ ns. map (fault_of ns) (tables_at (codes "fault") doc)) remotes)
    (c.in_ok-steps.ensures
    ∙ ap (λ ns. map (step_of ns c.deref-3.result.now) (tables_at (codes "step") doc)) names
    ∙ ap (λ ps. map (step_of (router_names_of doc) ps) (tables_at (codes "step") doc)) (c.deref-3.ensures ∙ peerings))
    c.in_ok-trace.ensures
    (c.in_ok-expects.ensures
    ∙ ap (λ ns. map (expectation_of ns c.in_ok-remotes.remotes) (tables_at (codes "expect") doc)) names
    ∙ ap (λ ps. map (expectation_of (router_names_of doc) ps) (tables_at (codes "expect") doc)) remotes)
