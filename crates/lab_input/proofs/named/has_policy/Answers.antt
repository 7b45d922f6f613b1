use Rattle.std.proofs.Common.{◌∙◌, [], map, sym, ap, option_copied}
use Rattle.std.specs.List.{list_any}
use Rattle.std.specs.Option.{option_map_or}
use Rattle.std.specs.Str.{bytes_eq}
use Rattle.lab_tables.proofs.Groups.{any_of_mapped}
use Rattle.lab_input.proofs.named.has_policy.Goals as goal

pub returns-in-Some : goal.returns-in-Some
returns-in-Some c =
    let name = c.args.name.now in
    c.any_policy.ensures ∙ any_of_mapped (bytes_eq name) (λ p. p.name) c.deref.result.now
    ∙ ap (λ ps. list_any (bytes_eq name) (map (λ p. p.name) ps)) c.deref.ensures
    ∙ ap (λ o. list_any (bytes_eq name) (option_map_or (λ r. map (λ p. p.name) r.policies) (option_copied o) [])) (sym c.in-Some.is)
