-- What an evacuate step gives, peering by peering.
use Rattle.std.proofs.Common.{◌≡◌, ℕ, suc, ◌+◌, ◌≤◌, Bool, true, false, cond, List, [], ◌∷◌, ◌++◌, length, map, Option}
use Rattle.std.proofs.Common.{refl, sym, ap, ◌∙◌, arith, append_assoc, append-nil, ◌⊎◌, inl, inr, Iter}
use Rattle.std.specs.List.{zip}
use Rattle.std.specs.Slice.Iter.{iter_rest}
use Rattle.std.specs.Iterator.Adapters.{zip_first, zip_second}
use Rattle.std.specs.declared.iter.Zip.{Zip}
use Rattle.std.specs.Prelude.{◌==◌}
use Rattle.graft_edge.specs.declared.ids.PeeringId.{PeeringId}
use Rattle.graft_edge.specs.declared.ids.RouterId.{RouterId}
use Rattle.evacuation.specs.Plans.{TargetList, plan_for}
use Rattle.operator_state.specs.declared.evacuate.Gift.{Gift}
use Rattle.operator_state.specs.declared.grafts.Seat.{Seat}
use Rattle.operator_state.specs.Evacuate.{seated_from, gift_for, gifts_to}

-- no more peerings are seated at a router than there are seats
pub length-seated_from : (p : ℕ) (router : RouterId) (seats : List Seat) → length (seated_from p router seats) ≤ length seats
length-seated_from p router [] = omega arith
length-seated_from p router (seat ∷ seats) = by_test (seat.place.0 == router.0) (length-seated_from (p + 1) router seats) where
  by_test : (b : Bool) → length (seated_from (p + 1) router seats) ≤ length seats
      → length (cond b (record { 0 = p } ∷ seated_from (p + 1) router seats) (seated_from (p + 1) router seats)) ≤ suc (length seats)
  by_test true le = omega (arith, le)
  by_test false le = omega (arith, le)

-- what is given to the peerings that are left
abbrev pub gifts_left : ℕ → RouterId → Zip (Iter PeeringId) (Iter (Option RouterId)) → List Gift
gifts_left first router left = map (gift_for first router) (zip (iter_rest (zip_first left)) (iter_rest (zip_second left)))

module _ (first : ℕ) (router : RouterId) (left : Zip (Iter PeeringId) (Iter (Option RouterId)))
    (gifts total : List Gift) (so_far : gifts ++ gifts_left first router left ≡ total) where
  pub one_more : (then : Zip (Iter PeeringId) (Iter (Option RouterId))) (peering : PeeringId) (target : Option RouterId) (new : List Gift)
      → (iter_rest (zip_first left) ≡ peering ∷ iter_rest (zip_first then)) × (iter_rest (zip_second left) ≡ target ∷ iter_rest (zip_second then))
      → new ≡ gifts ++ gift_for first router (peering, target) ∷ [] → new ++ gifts_left first router then ≡ total
  one_more then peering target new rests new_is =
      ap (λ (xs : List Gift). xs ++ gifts_left first router then) new_is
      ∙ append_assoc gifts (gift_for first router (peering, target) ∷ []) (gifts_left first router then)
      ∙ ap (λ (ps : List PeeringId). gifts ++ map (gift_for first router) (zip ps (target ∷ iter_rest (zip_second then)))) (sym rests.0)
      ∙ ap (λ (ts : List (Option RouterId)). gifts ++ map (gift_for first router) (zip (iter_rest (zip_first left)) ts)) (sym rests.1)
      ∙ so_far

  pub none_left : (iter_rest (zip_first left) ≡ []) ⊎ (iter_rest (zip_second left) ≡ []) → gifts ≡ total
  none_left none = sym (append-nil gifts) ∙ ap (λ (xs : List Gift). gifts ++ xs) (sym (ends none)) ∙ so_far where
    no_second : (ps : List PeeringId) → map (gift_for first router) (zip ps []) ≡ []
    no_second [] = refl
    no_second (p ∷ ps) = refl

    ends : (iter_rest (zip_first left) ≡ []) ⊎ (iter_rest (zip_second left) ≡ []) → gifts_left first router left ≡ []
    ends (inl e) = ap (λ (ps : List PeeringId). map (gift_for first router) (zip ps (iter_rest (zip_second left)))) e
    ends (inr e) = ap (λ (ts : List (Option RouterId)). map (gift_for first router) (zip (iter_rest (zip_first left)) ts)) e
        ∙ no_second (iter_rest (zip_first left))

pub all_gifts : (first : ℕ) (router : RouterId) (left : Zip (Iter PeeringId) (Iter (Option RouterId))) (seats : List Seat) (loads rooms : List ℕ)
    → iter_rest (zip_first left) ≡ seated_from 0 router seats
    → iter_rest (zip_second left) ≡ plan_for rooms router.0 loads (length (seated_from 0 router seats))
    → gifts_left first router left ≡ gifts_to first router seats loads rooms
all_gifts first router left seats loads rooms peerings targets =
    ap (λ (ps : List PeeringId). map (gift_for first router) (zip ps (iter_rest (zip_second left)))) peerings
    ∙ ap (λ (ts : TargetList). map (gift_for first router) (zip (seated_from 0 router seats) ts)) targets
