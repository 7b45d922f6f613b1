-- What a far side's event sends and leaves is determined.
use Rattle.std.proofs.Common.{◌≡◌, ℕ, Bool, List, [], ◌∷◌, ◌++◌, Option, Some, sym, ap, ◌∙◌, subst}
use Rattle.std.specs.Prelude.{max, nat_lt, if◌then◌else◌}
use Rattle.tcp_seq.specs.Endpoint.{Endpoint, PlacedSegment, TakesSegment}
use Rattle.tcp_seq.proofs.Arriving.{leaves_one}
use Rattle.tcp_seq.specs.declared.segment.Way.{Way}
use Rattle.session_value.specs.Cases.{sending}
use Rattle.graft_model.specs.Setups.{Setup, SayStep}
use Rattle.graft_model.specs.Parts.{FarPart, Seg, PointAt}
use Rattle.graft_model.specs.FarRows.{FarTaken, OutwardIn, FarSent, Says, Beats, SendsSegment, TakesIn, Passes, Reaches, Loses, TurnsLink, left_by}
use Rattle.graft_model.specs.Steps.{FarEvent, Say, Send, Take, Pass, Reach, Lose, Point, Beat, far_row}
use Rattle.graft_model.proofs.Same.{same_segment, same_end}

same_some : {A : Type 0} (x y : A) → Some x ≡ Some y → x ≡ y
same_some x y e = cc

say_bytes : (p : ℕ) (x y : List ℕ) → Some (SayStep p x) ≡ Some (SayStep p y) → x ≡ y
say_bytes p x y e = cc

seg_in : (r : ℕ) (g h : PlacedSegment) → Some (OutwardIn r (Seg g)) ≡ Some (OutwardIn r (Seg h)) → g ≡ h
seg_in r g h e = cc

point_in : (r k l : ℕ) → Some (OutwardIn r (PointAt k)) ≡ Some (OutwardIn r (PointAt l)) → k ≡ l
point_in r k l e = cc

module _ (setup : Setup) (p : ℕ) (before a b : FarPart) (taken : Option FarTaken) (sent items : List FarSent) where
  abbrev Same : Type 0
  Same = (items ≡ sent) × (b ≡ a)

  one_says : (step : ℕ) → Says setup p step before taken sent a → Says setup p step before taken items b → Same
  one_says step x y =
      let e : y.bytes ≡ x.bytes = say_bytes p y.bytes x.bytes (sym y.is ∙ x.is) in
      (y.sends ∙ sym x.sends, y.effect ∙ (ap (λ (z : List ℕ). let v : FarPart = record before { end = sending z before.end } in v) e ∙ sym x.effect))

  one_beats : (round : ℕ) → Beats setup p round before taken sent a → Beats setup p round before taken items b → Same
  one_beats round x y = (y.sends ∙ sym x.sends, y.effect ∙ sym x.effect)

  abbrev sent_with : Endpoint → PlacedSegment → FarPart
  sent_with e g = record before { end = e; homeward = before.homeward ++ g ∷ [] }

  one_sends : (from len : ℕ) → SendsSegment from len before taken sent a → SendsSegment from len before taken items b → Same
  one_sends from len x y =
      let g : y.segment ≡ x.segment = same_segment from len before.end y.end x.end y.segment x.segment y.emits x.emits in
      let e : y.end ≡ x.end = same_end from len before.end y.end x.end y.segment x.segment y.emits x.emits in
      (y.sends ∙ sym x.sends, y.effect ∙ (ap (λ (z : Endpoint). sent_with z y.segment) e ∙ (ap (λ (z : PlacedSegment). sent_with x.end z) g ∙ sym x.effect)))

  one_takes : (router : ℕ) → TakesIn router before taken sent a → TakesIn router before taken items b → Same
  one_takes router x y =
      let g : y.segment ≡ x.segment = seg_in router y.segment x.segment (sym y.takes ∙ x.takes) in (
        y.sends ∙ sym x.sends,
        y.effect ∙ (ap (λ (z : PlacedSegment). let v : FarPart = record before { remoteward = before.remoteward ++ z ∷ [] } in v) g ∙ sym x.effect),
      )

  one_passes : (index : ℕ) (keep : Bool) (router : ℕ) → Passes setup index keep router before taken sent a
      → Passes setup index keep router before taken items b → Same
  one_passes index keep router x y =
      let g : y.segment ≡ x.segment = same_some y.segment x.segment (sym y.there ∙ x.there) in (
        y.sends ∙ (ap (λ (z : PlacedSegment). let v : List FarSent = record { router = router; segment = z } ∷ [] in v) g ∙ sym x.sends),
        y.effect ∙ sym x.effect,
      )

  one_reaches : (index : ℕ) (keep : Bool) → Reaches index keep before taken sent a → Reaches index keep before taken items b → Same
  one_reaches index keep x y =
      let g : y.segment ≡ x.segment = same_some y.segment x.segment (sym y.there ∙ x.there) in
      let e : y.end ≡ x.end =
      leaves_one before.end y.end x.end x.segment (subst (λ (z : PlacedSegment). TakesSegment before.end z y.end) g y.arrives) x.arrives in (
        y.sends ∙ sym x.sends,
        y.effect
            ∙ (ap (λ (z : Endpoint). let v : FarPart = record before { end = z; remoteward = left_by keep index before.remoteward } in v) e ∙ sym x.effect),
      )

  one_loses : (way : Way) (index : ℕ) → Loses way index before taken sent a → Loses way index before taken items b → Same
  one_loses way index x y = (y.sends ∙ sym x.sends, y.effect ∙ sym x.effect)

  one_points : (router : ℕ) → TurnsLink router before taken sent a → TurnsLink router before taken items b → Same
  one_points router x y =
      let k : y.graft ≡ x.graft = point_in router y.graft x.graft (sym y.takes ∙ x.takes) in (
        y.sends ∙ sym x.sends,
        y.effect ∙ (ap (λ (z : ℕ). let v : FarPart = record before {
          pointer = if nat_lt before.followed z then router else before.pointer;
          followed = max before.followed z;
        } in v) k ∙ sym x.effect),
      )

pub one_far : (setup : Setup) (p : ℕ) (event : FarEvent) (before a b : FarPart) (taken : Option FarTaken) (sent items : List FarSent)
    → far_row setup p event before taken sent a → far_row setup p event before taken items b → (items ≡ sent) × (b ≡ a)
one_far setup p (Say step) before a b taken sent items x y = one_says setup p before a b taken sent items step x y
one_far setup p (Send from len) before a b taken sent items x y = one_sends setup p before a b taken sent items from len x y
one_far setup p (Take router) before a b taken sent items x y = one_takes setup p before a b taken sent items router x y
one_far setup p (Pass index keep router) before a b taken sent items x y = one_passes setup p before a b taken sent items index keep router x y
one_far setup p (Reach index keep) before a b taken sent items x y = one_reaches setup p before a b taken sent items index keep x y
one_far setup p (Lose way index) before a b taken sent items x y = one_loses setup p before a b taken sent items way index x y
one_far setup p (Point router) before a b taken sent items x y = one_points setup p before a b taken sent items router x y
one_far setup p (Beat round) before a b taken sent items x y = one_beats setup p before a b taken sent items round x y
