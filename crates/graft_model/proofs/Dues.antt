-- What becomes due where a prefix is decided.
use Rattle.std.proofs.Common.{◌≡◌, ℕ, ◌≤◌, Bool, true, false, cond, List, Option, Some, None, refl, sym, ap, ◌∙◌, inl, inr, arith}
use Rattle.std.specs.Prelude.{◌≢◌, ◌&&◌, ◌||◌}
use Rattle.std.specs.Ordering.{eq_by_cmp}
use Rattle.std.proofs.lemmas.Bool.Decides.{nat_tests}
use Rattle.std.specs.FinMap as map
use Rattle.bgp_types.specs.declared.message.SessionState.{SessionState}
use Rattle.bgp_types.specs.declared.message.SessionState.TheVariants.{OpenSent, OpenConfirm, Established, Closed}
use Rattle.bgp_types.specs.Prefixes.{PrefixValue, same_prefix}
use Rattle.bgp_types.specs.Tables.{prefix_cmp}
use Rattle.bgp_types.proofs.OnceLaws.{is_same}
use Rattle.bgp_types.proofs.TableLaws.{prefix_total, tied}
use Rattle.route_policy.specs.declared.best.Best.{Best}
use Rattle.loc_rib.specs.Values.{with_best}
use Rattle.session_value.specs.Sessions.{state}
use Rattle.session_value.specs.Sets.{BestRoutes, Prefixes, has}
use Rattle.graft_model.specs.Sets.{Adds}
use Rattle.graft_model.specs.Setups.{Setup, routers_in}
use Rattle.graft_model.specs.Parts.{Place, Vacant, Live, Frozen, Shadow, RouterPart}
use Rattle.graft_model.specs.Decisions.{chosen}
use Rattle.graft_model.specs.RouterRows.{RouterTaken, RouterSent}
use Rattle.graft_model.specs.TableRows.{Decides, is_established, holds_established, only_prefix}
use Rattle.graft_model.specs.Conditions.{HasEstablished}
use Rattle.graft_model.proofs.Same.{same_set}

-- ---- a test that adds nothing

no_more : (a s t : Bool) → t ≡ false → (a || (s && t)) ≡ a
no_more true s t e = refl
no_more false true t e = e
no_more false false t e = refl

adds_none : (before after : Prefixes) (prefix : PrefixValue) (t : Bool) → Adds before (only_prefix prefix t) after → t ≡ false → after ≡ before
adds_none before after prefix t adds none = same_set after before (λ x. adds.members x ∙ no_more (has before x) (same_prefix prefix x) t none)

no_other : (a s t : Bool) → s ≡ false → (a || (s && t)) ≡ a
no_other true s t e = refl
no_other false true t e = absurd cc
no_other false false t e = refl

apart : (x prefix : PrefixValue) → x ≢ prefix → same_prefix prefix x ≡ false
apart x prefix other = by_test (same_prefix prefix x) refl where
  by_test : (t : Bool) → same_prefix prefix x ≡ t → t ≡ false
  by_test false e = refl
  by_test true e = absurd (other (sym (is_same prefix x e)))

adds_at : (before after : Prefixes) (prefix x : PrefixValue) (t : Bool) → Adds before (only_prefix prefix t) after → x ≢ prefix → has after x ≡ has before x
adds_at before after prefix x t adds other = adds.members x ∙ no_other (has before x) (same_prefix prefix x) t (apart x prefix other)

-- ---- which test it is

not_up : (s : SessionState) → (s ≡ Established → ⊥) → is_established s ≡ false
not_up OpenSent never = refl
not_up OpenConfirm never = refl
not_up Established never = absurd (never refl)
not_up Closed never = refl

not_held : (place : Place) → (HasEstablished place → ⊥) → holds_established place ≡ false
not_held Vacant never = refl
not_held (Live session order) never = not_up (state session) never
not_held (Frozen session order) never = not_up (state session) never
not_held (Shadow graft) never = refl

-- ---- the best route to another prefix

key_apart : (x prefix : PrefixValue) → x ≢ prefix → eq_by_cmp prefix_cmp x prefix ≡ false
key_apart x prefix other = by_test (eq_by_cmp prefix_cmp x prefix) refl where
  by_test : (t : Bool) → eq_by_cmp prefix_cmp x prefix ≡ t → t ≡ false
  by_test false e = refl
  by_test true e = absurd (other (tied x prefix e))

best_stays : (routes : BestRoutes) (prefix x : PrefixValue) (best : Option Best) → x ≢ prefix → map.get (with_best routes prefix best) x ≡ map.get routes x
best_stays routes prefix x None other = map.get-remove prefix_total routes prefix x
    ∙ ap (λ (b : Bool). cond b None (map.get routes x)) (key_apart x prefix other)
best_stays routes prefix x (Some best) other = map.get-insert prefix_total routes prefix best x
    ∙ ap (λ (b : Bool). cond b (Some best) (map.get routes x)) (key_apart x prefix other)

-- ---- the row

module _ (setup : Setup) (r : ℕ) (prefix : PrefixValue) (before after : RouterPart) (taken : Option RouterTaken)
    (sent : List RouterSent) (row : Decides setup r prefix before taken sent after) where
  pub itself : after.due_in r ≡ before.due_in r
  itself = elim row.due [
    | inl same ↦ ap (λ (d : ℕ → Prefixes). d r) same.1
    | inr due ↦ adds_none (before.due_in r) (after.due_in r) prefix _ (due.1.routers r) (grind (arith, nat_tests))
  ]

  pub beyond : (q : ℕ) → routers_in setup ≤ q → after.due_in q ≡ before.due_in q
  beyond q above = elim row.due [
    | inl same ↦ ap (λ (d : ℕ → Prefixes). d q) same.1
    | inr due ↦ adds_none (before.due_in q) (after.due_in q) prefix _ (due.1.routers q) (grind (arith, nat_tests))
  ]

  pub no_session : (p : ℕ) → (HasEstablished (before.places p) → ⊥) → after.due_out p ≡ before.due_out p
  no_session p none = elim row.due [
    | inl same ↦ ap (λ (d : ℕ → Prefixes). d p) same.2
    | inr due ↦ adds_none (before.due_out p) (after.due_out p) prefix _ (due.1.peerings p) (not_held (before.places p) none)
  ]

  in_alone : (n : ℕ) (x : PrefixValue) → x ≢ prefix → has (after.due_in n) x ≡ has (before.due_in n) x
  in_alone n x other = elim row.due [
    | inl same ↦ ap (λ (d : ℕ → Prefixes). has (d n) x) same.1
    | inr due ↦ adds_at (before.due_in n) (after.due_in n) prefix x _ (due.1.routers n) other
  ]

  out_alone : (n : ℕ) (x : PrefixValue) → x ≢ prefix → has (after.due_out n) x ≡ has (before.due_out n) x
  out_alone n x other = elim row.due [
    | inl same ↦ ap (λ (d : ℕ → Prefixes). has (d n) x) same.2
    | inr due ↦ adds_at (before.due_out n) (after.due_out n) prefix x _ (due.1.peerings n) other
  ]

  pub alone : (n : ℕ) (x : PrefixValue) → x ≢ prefix
      → (has (after.due_in n) x ≡ has (before.due_in n) x)
      × (has (after.due_out n) x ≡ has (before.due_out n) x) × (map.get after.best x ≡ map.get before.best x)
  alone n x other = (
    in_alone n x other,
    out_alone n x other,
    ap (λ (v : RouterPart). map.get v.best x) row.effect ∙ best_stays before.best prefix x (chosen setup r before prefix) other,
  )
