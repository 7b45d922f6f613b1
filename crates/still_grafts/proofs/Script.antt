-- Where no graft is open and no step may be ordered, each step of the group at work was ordered: the first that wasn't might be.
use Rattle.std.proofs.Common.{◌≡◌, ◌≢◌, inl, inr, ℕ, zero, suc, ◌<◌, ◌≤◌, Bool, true, false, List, [], ◌∷◌, Option, Some, None, refl, sym, ◌∙◌, arith}
use Rattle.std.specs.Prelude.{slice_get}
use Rattle.std.proofs.lemmas.Bool.{cases_eq}
use Rattle.graft_model.specs.Points.{at}
use Rattle.graft_model.specs.Setups.{Setup, SayStep, ScriptGraft, group_of, graft_at}
use Rattle.graft_model.specs.Parts.{OperatorPart, GraftOrder}
use Rattle.graft_model.specs.Placements.{target_in, placement}
use Rattle.graft_model.specs.OperatorRows.{OrderTo, SayTo, number_by}
use Rattle.graft_model.proofs.Numbers.{steps_rise, groups_rise}
use Rattle.operator_state.specs.Holds.{NothingToOrder}
use Rattle.settled_check.specs.Left.{IsUnsaid, IsUnended, IsUnordered, HasUnissued, IsOpen}

module _ (setup : Setup) (part : OperatorPart) (nothing : NothingToOrder setup part) where
  -- ---- says

  may_say : (n : ℕ) (u : IsUnsaid setup part n) → ((m : ℕ) → m < n → IsUnsaid setup part m → ⊥) → ⊥
  may_say n u none_before = nothing n 0 (SayTo u.peering n ∷ []) (record part { issued = at part.issued n true }) (inl (record {
    alone = refl;
    group = u.group;
    unissued = u.unissued;
    peering = u.peering;
    bytes = u.bytes;
    is = u.is;
    earlier = λ m other below group is. by_value m other below group is (part.issued m) refl;
    takes = refl;
    sends = refl;
    effect = refl;
  })) where
    by_value : (m : ℕ) (other : List ℕ) → m < n → group_of setup m ≡ part.group
        → slice_get setup.steps m ≡ Some (SayStep u.peering other) → (b : Bool) → part.issued m ≡ b
        → part.issued m ≡ true
    by_value m other below group is true e = e
    by_value m other below group is false e = absurd (none_before m below (record { peering = u.peering; bytes = other; is = is; group = group; unissued = e }))

  none_unsaid : (bound n : ℕ) → n < bound → IsUnsaid setup part n → ⊥
  none_unsaid zero n below u = omega (arith, below)
  none_unsaid (suc bound) n below u = may_say n u (λ m less other. none_unsaid bound m (omega (arith, below, less)) other)

  -- ---- grafts

  module _ (over : (g : ScriptGraft) → graft_at setup g.graft ≡ Some g
      → group_of setup g.step < part.group → target_in setup part g ≢ None → part.outcome g.graft ≢ None)
      (none_open : (k : ℕ) → IsOpen setup part k → ⊥) where
    -- a graft that has no outcome and is of the group at work wasn't ordered
    unordered : (g : ScriptGraft) → IsUnended setup part g → (source : Option ℕ) → part.source g.graft ≡ source → IsUnordered setup part g
    unordered g u None is = (u, is)
    unordered g u (Some q) is = absurd (none_open g.graft (g, refl, u, λ none. (let e : Some q ≡ None = sym is ∙ none in cc)))

    may_order : (g : ScriptGraft) → IsUnordered setup part g
        → ((other : ScriptGraft) → other.graft < g.graft → IsUnordered setup part other → ⊥) → ⊥
    may_order g (u, source) none_before = by_target (target_in setup part g) refl where
      earlier : (other : ScriptGraft) → graft_at setup other.graft ≡ Some other
          → other.graft < g.graft → target_in setup part other ≢ None → part.outcome other.graft ≢ None
      earlier other known less made unended = elim (cases_eq (group_of setup other.step) part.group) [
        | inl at_work ↦ none_before other less
            (unordered other (record { known = known; group = at_work; made = made; unended = unended }) (part.source other.graft) refl)
        | inr apart ↦
            let steps : other.step ≤ g.step = steps_rise setup other g known u.known (omega (arith, less)) in
            let groups : group_of setup other.step ≤ group_of setup g.step = groups_rise setup other.step g.step steps in
            let group : group_of setup g.step ≡ part.group = u.group in
            over other known (omega (arith, groups, group, apart)) made unended
      ]

      by_target : (target : Option ℕ) → target_in setup part g ≡ target → ⊥
      by_target None is = u.made is
      by_target (Some target) is =
          let router : ℕ = placement setup part g.peering in
          let order : GraftOrder = record { graft = g.graft; peering = g.peering; target = target } in
          nothing g.step (number_by (slice_get setup.steps g.step) g.graft) (OrderTo router order ∷ [])
          (record part { source = at part.source g.graft (Some router) }) (inr (record {
            graft = g;
            known = u.known;
            by_step = refl;
            named = refl;
            group = u.group;
            target = target;
            is = is;
            unordered = source;
            unended = u.unended;
            earlier = λ other known same less made. earlier other known less made;
            takes = refl;
            sends = refl;
            effect = refl;
          }))

    none_unordered : (bound : ℕ) (g : ScriptGraft) → g.graft < bound → IsUnordered setup part g → ⊥
    none_unordered zero g below u = omega (arith, below)
    none_unordered (suc bound) g below u = may_order g u (λ other less further. none_unordered bound other (omega (arith, below, less)) further)

    pub none_unissued : HasUnissued setup part → ⊥
    none_unissued (inl (n, u)) = none_unsaid (suc n) n (omega arith) u
    none_unissued (inr (g, u)) = none_unordered (suc g.graft) g (omega arith) u
