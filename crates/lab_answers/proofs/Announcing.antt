-- What an UPDATE announces.
use Rattle.std.proofs.Common.{◌≡◌, List, Some, sym, ap, ◌∙◌}
use Rattle.std.specs.List.{flat_map}
use Rattle.std.proofs.lemmas.List.Folds.{flat_map-map}
use Rattle.bgp_types.specs.declared.attrs.Attrs.{Attrs}
use Rattle.bgp_types.specs.declared.attrs.Route.{Route}
use Rattle.bgp_types.specs.declared.message.Update.{Update}
use Rattle.bgp_types.specs.Prefixes.{PrefixValue}
use Rattle.even_inputs.specs.Evenness.{announced_route}
use Rattle.lab_answers.specs.declared.imports.Imports.{Imports}
use Rattle.even_inputs.specs.Announced.{announced_by, with_attrs}
use Rattle.lab_answers.specs.Imports.{meds_of, meds_of_route}

-- the same route to each of its prefixes
pub announced_meds : (imports : Imports) (u : Update) (attrs : Attrs) (route : Route) (nlri : List PrefixValue) → u.attrs ≡ Some attrs
    → route ≡ announced_route attrs → nlri ≡ u.nlri
    → flat_map (λ prefix. meds_of_route imports prefix route) nlri ≡ flat_map (meds_of imports) (announced_by u)
announced_meds imports u attrs route nlri there is same =
    ap (λ (r : Route). flat_map (λ prefix. meds_of_route imports prefix r) nlri) is
    ∙ ap (λ (l : List PrefixValue). flat_map (λ prefix. meds_of_route imports prefix (announced_route attrs)) l) same
    ∙ sym (ap (λ o. flat_map (meds_of imports) (with_attrs u.nlri o)) there ∙ flat_map-map (meds_of imports) (λ prefix. (prefix, attrs)) u.nlri)
