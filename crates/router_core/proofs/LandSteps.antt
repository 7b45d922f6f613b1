-- A session that moves here: whether it is taken in, and how it lands.
use Rattle.std.proofs.Common.{◌≡◌, ℕ, suc, ◌+◌, ◌<◌, List, [], ◌∷◌, length, get_or, Bool, true, false}
use Rattle.std.proofs.Common.{Option, Some, None, is_some, inl, inr, refl, sym, ap, ◌∙◌, arith}
use Rattle.std.specs.Prelude.{count_by, filter, nat_le, option_map, if◌then◌else◌}
use Rattle.std.proofs.lemmas.Bool.{cases_lt, le-leb}
use Rattle.std.specs.FinMap as map
use Rattle.std.specs.List.{range_with_len}
use Rattle.graft_steps.specs.Refusals.{admit_refusal}
use Rattle.graft_steps.specs.declared.refusal.Refusal.TheVariants.{PolicyMissing, RouterFull}
use Rattle.session_value.specs.Sessions.{SessionValue}
use Rattle.rib_stages.specs.Values.{RibValue, rib_of}
use Rattle.graft_model.specs.GraftRows.{is_taken, taken_in, refusal_of}
use Rattle.graft_model.specs.RouterRows.{BringsIn}
use Rattle.router_tables.specs.Entering.{EntersAll, entry_here, missing_by}
use Rattle.router_core.specs.Parts.{router_part, RouterInvariant}
use Rattle.router_tables.specs.Owned.{HasNoEntry}
use Rattle.router_core.specs.Places.{place_of, place_at}
use Rattle.router_core.specs.declared.fields.Fields.{Fields}
use Rattle.router_core.specs.declared.place.Place.{Place}
use Rattle.router_core.specs.declared.place.Place.TheVariants.{Live, Shadow}
use Rattle.router_core.proofs.PlaceLists.{count_first}
use Rattle.router_tables.proofs.EnterSteps.{brings_all, missing_is}

-- ---- how many places are taken

held_is : (place : Option Place) → is_taken (place_of place) ≡ is_some place
held_is None = refl
held_is (Some (Live s o)) = refl
held_is (Some (Shadow away)) = refl

count_step : (g : ℕ → Bool) (x : Option Place) (xs : List (Option Place)) (k : ℕ) → g k ≡ is_some x
    → length (filter g (range_with_len (k + 1) (length xs))) ≡ count_by is_some xs
    → length (filter g (range_with_len k (length (x ∷ xs)))) ≡ count_by is_some (x ∷ xs)
count_step g x xs k same rest =
    ap (λ (n : ℕ). length (filter g (range_with_len k n))) (let e : length (x ∷ xs) ≡ suc (length xs) = omega arith in e)
    ∙ one (g k) (filter g (range_with_len (k + 1) (length xs))) ∙ (λ i. (if same i then 1 else 0) + rest i) ∙ sym (count_first x xs) where
      one : (b : Bool) (ns : List ℕ) → length (if b then k ∷ ns else ns) ≡ (if b then 1 else 0) + length ns
      one true ns = omega arith
      one false ns = omega arith

count_from : (g : ℕ → Bool) (xs : List (Option Place)) (k : ℕ) → ((i : ℕ) → i < length xs → g (k + i) ≡ is_some (get_or xs i None))
    → length (filter g (range_with_len k (length xs))) ≡ count_by is_some xs
count_from g [] k same = refl
count_from g (x ∷ xs) k same =
    count_step g x xs k (ap g (let e : k ≡ k + 0 = omega arith in e) ∙ same 0 (omega arith))
    (count_from g xs (k + 1) (λ i below. ap g (let e : k + 1 + i ≡ k + suc i = omega arith in e) ∙ same (suc i) (omega (arith, below))))

pub taken_is : (f : Fields) → RouterInvariant f → count_by is_some f.places.places ≡ taken_in f.known.setup (router_part f)
taken_is f keeps =
    sym (count_from (λ n. is_taken (place_of (place_at f.places.places n))) f.places.places 0 (λ i below.
    ap (λ (n : ℕ). is_taken (place_of (place_at f.places.places n))) (let e : 0 + i ≡ i = omega arith in e) ∙ held_is (place_at f.places.places i)))
    ∙ ap (λ (n : ℕ). length (filter (λ p. is_taken (place_of (place_at f.places.places p))) (range_with_len 0 n))) keeps.places

-- ---- why a session isn't taken in

pub refusal_is : (f : Fields) (s : SessionValue) → RouterInvariant f
    → admit_refusal (count_by is_some f.places.places) f.room (missing_by f.policies s.config) ≡ refusal_of f.known.setup f.number.0 (router_part f) s
refusal_is f s keeps =
    λ i. admit_refusal (taken_is f keeps i) (keeps.room i) (missing_is f.known.setup f.number.0 f.policies s.config keeps.policies i)

-- ---- what lands brings in

pub brings_in : (f : Fields) (s : SessionValue) (after : RibValue) → RouterInvariant f → HasNoEntry ((rib_of f.rib).entries s.config.peering.0)
    → EntersAll (rib_of f.rib) s.config.peering.0 (entry_here f.home_as f.policies s) (map.keys s.adj_rib_in) after
    → BringsIn f.known.setup f.number.0 s (after.entries s.config.peering.0)
brings_in f s after keeps none entered =
    brings_all f.known.setup f.number.0 f.home_as f.policies s (rib_of f.rib) after keeps.home_as keeps.policies none entered

-- a session that isn't refused finds room
pub has_room : (held room : ℕ) (missing : Option (List ℕ)) → admit_refusal held room missing ≡ None → held < room
has_room held room missing none = by_test (nat_le room held) refl none
  where
    by_test : (b : Bool) → nat_le room held ≡ b → (if b then Some (RouterFull room) else option_map PolicyMissing missing) ≡ None → held < room
    by_test true e passes = absurd (let x : ⊥ = cc in x)
    by_test false e passes = elim (cases_lt held
        room) [ inl below ↦ below | inr from ↦ absurd (let y : ◌≡◌ {A = Bool} true false = sym (le-leb room held from) ∙ e in let x : ⊥ = cc in x) ]
