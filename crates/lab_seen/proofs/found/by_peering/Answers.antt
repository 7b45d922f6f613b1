use Rattle.std.proofs.Common.{ap, ◌∙◌}
use Rattle.std.specs.List.{flat_map, range_with_len}
use Rattle.std.proofs.lemmas.List.Folds.{flat_map-map}
use Rattle.std.proofs.lemmas.Result.{IfOk-weaker}
use Rattle.lab_seen.specs.Found.{first_on, places_in, views_in}
use Rattle.lab_seen.proofs.found.by_peering.Goals as goal

pub returns-clause-placement : goal.returns-clause-placement
returns-clause-placement c = IfOk-weaker c.split.result _ _
    (λ seen is. is ∙ ap (flat_map places_in) c.in_ok-slots_of.ensures ∙ flat_map-map places_in (first_on c.args.found) (range_with_len 0 c.args.peerings))
    c.split.ensures.placement

pub returns-clause-sessions : goal.returns-clause-sessions
returns-clause-sessions c = IfOk-weaker c.split.result _ _
    (λ seen is. is ∙ ap (flat_map views_in) c.in_ok-slots_of.ensures ∙ flat_map-map views_in (first_on c.args.found) (range_with_len 0 c.args.peerings))
    c.split.ensures.sessions
