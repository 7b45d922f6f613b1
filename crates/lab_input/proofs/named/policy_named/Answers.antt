use Rattle.std.proofs.Common.{◌≡◌, ◌∙◌, ℕ, List, [], map, ap, option_copied}
use Rattle.std.specs.Prelude.{Option, None, codes}
use Rattle.std.specs.Option.{option_or, option_map_or}
use Rattle.toml.specs.View.{table_view}
use Rattle.lab_tables.specs.declared.input.RouterInput.{RouterInput}
use Rattle.lab_keys.specs.Values.{text_at, maybe_text}
use Rattle.lab_input.specs.Names.{unknown_at, policies_at}
use Rattle.lab_input.proofs.named.policy_named.Goals as goal

pub returns : goal.returns
returns c =
    let t = table_view c.args.table.now in
    let routers = c.args.routers.now in
    let policies = policies_at routers (text_at (codes "at") t) in
    let names : Option RouterInput → List (List ℕ) = λ r. option_map_or (λ q. map (λ p. p.name) q.policies) r [] in
    let known : names (option_copied c.router_called-router.result) ≡ policies =
    ap names c.router_called-router.ensures ∙ ap (policies_at routers) c.text_at.ensures in
    let imported : c.in_ok-import.import ≡ unknown_at policies (maybe_text (codes "import") t) =
    c.in_ok-import.ensures ∙ ap (λ ps. unknown_at ps (maybe_text (codes "import") t)) known in
    let exported : c.in_ok-export.export ≡ unknown_at policies (maybe_text (codes "export") t) =
    c.in_ok-export.ensures ∙ ap (λ ps. unknown_at ps (maybe_text (codes "export") t)) known in
    c.first-2.ensures ∙ ap (λ o. option_or o c.first.result) imported
    ∙ ap (option_or (unknown_at policies (maybe_text (codes "import") t))) (c.first.ensures ∙ ap (λ o. option_or o None) exported)
