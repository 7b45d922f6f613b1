use Rattle.std.proofs.Common.{◌≡◌, ◌∙◌, ℕ, List, [], ◌∷◌, map, ap}
use Rattle.std.specs.Prelude.{Option, None, codes}
use Rattle.std.specs.Option.{option_or}
use Rattle.toml.specs.View.{table_view}
use Rattle.bgp_types.specs.Texts.{address_text}
use Rattle.lab_keys.specs.Kinds.{first_of}
use Rattle.lab_keys.specs.Values.{text_at, maybe_text}
use Rattle.lab_input.specs.declared.bad.BadInput.{BadInput}
use Rattle.lab_input.specs.Names.{repeated_if, unknown, unknown_at, policies_at, remote_address_of}
use Rattle.lab_input.proofs.Firsts.{first_of_parts}
use Rattle.lab_input.proofs.named.peering_named.Goals as goal

pub returns : goal.returns
returns c =
    let routers = c.args.routers.now in
    let t = table_view c.args.table.now in
    let names : List (List ℕ) = map (λ r. r.name) routers in
    let policies = policies_at routers (text_at (codes "at") t) in
    let name = repeated_if c.args.again.name (text_at (codes "name") t) in
    let at : List (List ℕ) → Option BadInput = λ known. unknown known (text_at (codes "at") t) in
    let remote = repeated_if c.args.again.remote (address_text (remote_address_of t)) in
    let rest = first_of (unknown_at policies (maybe_text (codes "import") t) ∷ unknown_at policies (maybe_text (codes "export") t) ∷ []) in
    let identity : c.in_ok-identity.identity ≡ option_or name (option_or (at names) (option_or remote None)) =
    c.in_ok-identity.ensures ∙ ap (λ known. option_or name (option_or (at known) (option_or remote None))) c.requires in
    c.first.ensures ∙ ap (λ o. option_or o c.in_ok-policy.policy) identity
    ∙ ap (option_or (option_or name (option_or (at names) (option_or remote None)))) c.in_ok-policy.ensures
    ∙ first_of_parts name (at names) remote rest
