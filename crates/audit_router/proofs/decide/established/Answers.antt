use Rattle.std.proofs.Common.{◌∙◌, ◌+◌, ◌++◌, ◌∷◌, ◌≡◌, [], List, Bool, ap, map, sym, take}
use Rattle.std.proofs.lemmas.List.{map-append, take_more}
use Rattle.graft_model.specs.TableRows.{holds_established}
use Rattle.audit_router.specs.Places.{place_of}
use Rattle.audit_router.specs.declared.place.Place.{Place}
use Rattle.audit_router.proofs.decide.established.Goals as goal

abbrev is_up : Place → Bool
is_up place = holds_established (place_of place)

pub loop-place-preserved : goal.loop-place-preserved
loop-place-preserved c =
    let places : List Place = c.args.places.now in
    let i = c.loop-place.place-index in
    let y : Place = c.place-item.result in
    let more : take (i + 1) places ≡ take i places ++ y ∷ [] =
    take_more places i y c.loop-place-test.true ∙ ap (λ (z : Place). take i places ++ z ∷ []) (sym c.place-item.is) in
    let last : c.loop-place.up.items ++ c.is_up.result ∷ [] ≡ map is_up (take i places) ++ is_up y ∷ [] =
    λ j. c.loop-place.invariant j ++ c.is_up.ensures j ∷ [] in
    let all : map is_up (take (i + 1) places) ≡ map is_up (take i places) ++ is_up y ∷ [] =
    ap (map is_up) more ∙ map-append is_up (take i places) (y ∷ []) in
    c.in_ok-push.ensures.items ∙ last ∙ sym all
