-- The loop of a walk: which routers were met, and that what is left of the walk is the rest of the whole.
use Rattle.std.proofs.Common.{ℕ, zero, suc, ◌≡◌, ◌<◌, Bool, true, false, List, [], ◌∷◌, length, refl, sym, ap, ◌∙◌, subst, arith, inl, inr, replicate}
use Rattle.std.specs.Prelude.{Contains, slice_index_or, slice_set, ◌↔◌, ◌⊎◌}
use Rattle.std.proofs.lemmas.Bool.{cases_eq}
use Rattle.std.proofs.lemmas.List.{length-replicate, length-set, get_or-set_same, get_or-set_other}
use Rattle.std.proofs.lemmas.List.Elements.{Contains-append_cases, Contains-append_right}
use Rattle.bgp_types.specs.Prefixes.{PrefixValue}
use Rattle.bgp_types.specs.declared.rank.From.{From}
use Rattle.bgp_types.specs.declared.rank.From.TheVariants.{Own, Peering, Router}
use Rattle.graft_edge.specs.declared.ids.RouterId.{RouterId}
use Rattle.graft_edge.specs.declared.ids.PeeringId.{PeeringId}
use Rattle.forward_walk.specs.declared.walk.Walk.{Walk}
use Rattle.forward_walk.specs.declared.walk.Walk.TheVariants.{Leaves, Local, NoRoute, Loop}
use Rattle.forward_walk.specs.Tables.{ForwardMap, forward_map_of}
use Rattle.forward_walk.specs.Walks.{HasEntry, HasNoEntryFor, WalksTo}
use Rattle.forward_walk.specs.Walks.WalksTo.{MetAgain, NoEntry, FromOwn, FromPeering, FromRouter}
use Rattle.forward_walk.proofs.OneWalk.{Answer, answer}

-- The marks are those of the routers that were met.
abbrev pub Marks : List Bool → List RouterId → Type 0
Marks marks met = (r : RouterId) → (slice_index_or marks r.0 false ≡ true) ↔ Contains met r

-- Routers were met as marked, and however the walk goes on at this one, so the whole walk ends.
pub record Goes (tables : List ForwardMap) (address : ℕ) (from : RouterId) (marks : List Bool) (at : RouterId) : Type 0 where
  pub met : List RouterId
  pub marked : Marks marks met
  pub full : length marks ≡ 256
  pub rest : (walk : Walk) → WalksTo tables address met at walk → WalksTo tables address [] from walk

no_marks : (n k : ℕ) → slice_index_or (replicate n false) k false ≡ false
no_marks zero k = refl
no_marks (suc n) zero = refl
no_marks (suc n) (suc k) = no_marks n k

-- at first no router was met
pub sets_out : (tables : List ForwardMap) (address : ℕ) (from : RouterId) → Goes tables address from (replicate 256 false) from
sets_out tables address from = record {
  met = [];
  marked = λ r. (λ t. let e = no_marks 256 r.0 in absurd cc, λ k. absurd (omega (arith, k.1)));
  full = length-replicate 256 false;
  rest = λ walk w. w;
}

first : (at : RouterId) (met : List RouterId) → Contains (at ∷ met) at
first at met = (0, omega arith, refl)

marked_there : (marks : List Bool) (met : List RouterId) (at : RouterId) → at.0 < length marks → Marks marks met → (r : RouterId) → r.0 ≡ at.0
    → slice_index_or (slice_set marks at.0 true) r.0 false ≡ true
marked_there marks met at lt m r same = rw same (get_or-set_same marks at.0 true false lt)

pub alone : (at r : RouterId) (k : ℕ) → k < 1 → slice_index_or (at ∷ []) k r ≡ r → at ≡ r
alone at r zero h e = e
alone at r (suc k) h e = absurd (omega arith)

pub marked_more : (marks : List Bool) (met : List RouterId) (at : RouterId) → at.0 < length marks → Marks marks met
    → Marks (slice_set marks at.0 true) (at ∷ met)
marked_more marks met at lt m r =
    elim (cases_eq r.0 at.0) [
      | inl same ↦
          let one : at ≡ r = ap (λ (n : ℕ). record { 0 = n }) (sym same) in
          (λ _. subst (λ (x : RouterId). Contains (at ∷ met) x) one (first at met), λ _. marked_there marks met at lt m r same)
      | inr differ ↦
          let as_was : slice_index_or (slice_set marks at.0 true) r.0 false ≡ slice_index_or marks r.0 false =
          get_or-set_other marks at.0 r.0 true false differ in (
            λ t. Contains-append_right (at ∷ []) met r ((m r).0 (sym as_was ∙ t)),
            λ k. as_was ∙ (m r).1 (before differ (Contains-append_cases (at ∷ []) met r k)),
          )
    ]
  where
    before : (r.0 ≡ at.0 → ⊥) → Contains (at ∷ []) r ⊎ Contains met r → Contains met r
    before differ (inl k) = absurd (differ (sym (ap (λ (x : RouterId). x.0) (alone at r k.0 k.1 k.2))))
    before differ (inr k) = k

module _ (tables : List ForwardMap) (address : ℕ) (from : RouterId) (marks : List Bool)
    (at : RouterId) (goes : Goes tables address from marks at) (index : ℕ) (here : index ≡ at.0) where
  mark_at : slice_index_or marks index false ≡ slice_index_or marks at.0 false
  mark_at = ap (λ (k : ℕ). slice_index_or marks k false) here

  again : slice_index_or marks index false ≡ true → Contains goes.met at
  again t = (goes.marked at).0 (sym mark_at ∙ t)

  anew : slice_index_or marks index false ≡ false → Contains goes.met at → ⊥
  anew t k = let u = (goes.marked at).1 k in let e = mark_at in cc

  pub ends_again : slice_index_or marks index false ≡ true → Answer tables address from (Loop at)
  ends_again t = answer tables address from (Loop at) (goes.rest (Loop at) (MetAgain (again t)))

  module _ (new : slice_index_or marks index false ≡ false) (table : ForwardMap) (is : table ≡ forward_map_of tables at) where
    pub ends_without : HasNoEntryFor table address → Answer tables address from (NoRoute at)
    ends_without none = answer tables address from (NoRoute at)
        (goes.rest (NoRoute at) (NoEntry (anew new) (subst (λ (t : ForwardMap). HasNoEntryFor t address) is none)))

    module _ (p : PrefixValue) (by : From) (entry : HasEntry table address p by) where
      entry_at : (other : From) → by ≡ other → HasEntry (forward_map_of tables at) address p other
      entry_at other same =
          subst (λ (f : From). HasEntry (forward_map_of tables at) address p f) same (subst (λ (t : ForwardMap). HasEntry t address p by) is entry)

      pub ends_own : by ≡ Own → Answer tables address from (Local at p)
      ends_own same = answer tables address from (Local at p) (goes.rest (Local at p) (FromOwn (anew new) (entry_at Own same)))

      pub ends_out : (peering : PeeringId) → by ≡ Peering peering → Answer tables address from (Leaves at peering p)
      ends_out peering same = answer tables address from (Leaves at peering p)
          (goes.rest (Leaves at peering p) (FromPeering (anew new) (entry_at (Peering peering) same)))

      pub goes_on : at.0 < 256 → (next : RouterId) → by ≡ Router next → Goes tables address from (slice_set marks index true) next
      goes_on fits next same = record {
        met = at ∷ goes.met;
        marked = subst (λ (k : ℕ). Marks (slice_set marks k true) (at ∷ goes.met)) (sym here)
            (marked_more marks goes.met at (omega (arith, goes.full, fits)) goes.marked);
        full = length-set marks index true ∙ goes.full;
        rest = λ walk w. goes.rest walk (FromRouter (anew new) (entry_at (Router next) same) w);
      }
