use Rattle.std.proofs.Common.{◌≡◌, ◌∙◌, ℕ, List, [], map, ap}
use Rattle.std.specs.Prelude.{Option, None, codes}
use Rattle.std.specs.Option.{option_or}
use Rattle.toml.specs.View.{table_view}
use Rattle.lab_keys.specs.Kinds.{first_of}
use Rattle.lab_keys.specs.Values.{tables_at}
use Rattle.lab_tables.specs.declared.input.LabInput.{LabInput}
use Rattle.lab_tables.specs.declared.input.PeeringInput.{PeeringInput}
use Rattle.lab_tables.specs.declared.input.RouterInput.{RouterInput}
use Rattle.lab_tables.specs.Documents.{routers_of, router_names_of, peerings_of, peering_names_of}
use Rattle.lab_input.specs.declared.bad.BadInput.{BadInput}
use Rattle.lab_input.specs.Names.{each_after, router_again, cost_named, peering_named, fault_named, step_named, expect_named}
use Rattle.lab_input.proofs.Firsts.{first_of_parts}
use Rattle.lab_input.proofs.naming.named.Goals as goal

pub returns : goal.returns
returns c =
    let doc = table_view c.args.doc.now in
    let lab = c.args.lab.now in
    let routers : lab.routers ≡ routers_of doc = ap (λ (l : LabInput). l.routers) c.requires in
    let peerings : lab.peerings ≡ peerings_of doc = ap (λ (l : LabInput). l.peerings) c.requires in
    let names : c.in_ok-names.names ≡ router_names_of doc = c.in_ok-names.ensures ∙ ap (map (λ (r : RouterInput). r.name)) (c.deref.ensures ∙ routers) in
    let remotes : c.in_ok-remotes.remotes ≡ peering_names_of doc =
    c.in_ok-remotes.ensures ∙ ap (map (λ (p : PeeringInput). p.name)) (c.deref-2.ensures ∙ peerings) in
    let again : List RouterInput → Option BadInput = λ rs. each_after router_again [] rs in
    let cost : List (List ℕ) → Option BadInput = λ ns. each_after (cost_named ns) [] (tables_at (codes "cost") doc) in
    let peering : List RouterInput → Option BadInput = λ rs. each_after (peering_named rs) [] (tables_at (codes "peering") doc) in
    let fault : List (List ℕ) → Option BadInput = λ ps. each_after (fault_named ps) [] (tables_at (codes "fault") doc) in
    let step : List (List ℕ) → List (List ℕ) → Option BadInput = λ ns ps. first_of (map (step_named ns ps) (tables_at (codes "step") doc)) in
    let expect : List (List ℕ) → List (List ℕ) → Option BadInput =
    λ ns ps. first_of (map (expect_named ns ps) (tables_at (codes "expect") doc)) in
    let network : List RouterInput → List (List ℕ) → Option BadInput = λ rs ns. option_or (again rs) (option_or (cost ns) (option_or (peering rs) None)) in
    let script : List (List ℕ) → List (List ℕ) → Option BadInput = λ ns ps. option_or (fault ps) (option_or (step ns ps) (option_or (expect ns ps) None)) in
    let front : c.in_ok-network.network ≡ network (routers_of doc) (router_names_of doc) =
    c.in_ok-network.ensures ∙ ap (λ rs. network rs c.in_ok-names.names) (c.deref-3.ensures ∙ routers) ∙ ap (network (routers_of doc)) names in
    let back : c.in_ok-script.script ≡ script (router_names_of doc) (peering_names_of doc) =
    c.in_ok-script.ensures ∙ ap (λ ns. script ns c.in_ok-remotes.remotes) names ∙ ap (script (router_names_of doc)) remotes in
    c.first.ensures ∙ ap (λ o. option_or o c.in_ok-script.script) front
    ∙ ap (option_or (network (routers_of doc) (router_names_of doc))) back
    ∙ first_of_parts (again (routers_of doc)) (cost (router_names_of doc)) (peering (routers_of doc)) (script (router_names_of doc) (peering_names_of doc))
