-- Lists of values, one more at a time.
use Rattle.std.proofs.Common.{ℕ, ◌≡◌, ◌+◌, ◌<◌, List, [], ◌∷◌, ◌++◌, map, take, length, Option, None, ap, sym, ◌∙◌, slice_index_or, append-nil}
use Rattle.std.proofs.lemmas.List.{map-append}
use Rattle.std.specs.List.{flat_map, enumerate_from}
use Rattle.serde_json.specs.Data.{Data}
use Rattle.lab_input.proofs.Numbered.{flat_map_numbered}
use Rattle.lab_report.specs.declared.lab.SessionView.{SessionView}
use Rattle.lab_report.proofs.Walked.{numbered_more}
use Rattle.report_json.specs.Run.{if_there}

module _ {X : Type 0} (xs : List X) (i : ℕ) (x : X) where
  -- one value for each numbered element
  pub mapped_more : (f : ℕ × X → Data) (so_far after : List Data) (value : Data) → i < length xs → x ≡ slice_index_or xs i x
      → so_far ≡ map f (enumerate_from 0 (take i xs)) → after ≡ so_far ++ value ∷ [] → value ≡ f (i, x)
      → after ≡ map f (enumerate_from 0 (take (i + 1) xs))
  mapped_more f so_far after value lt at so is shown =
      let rest = map-append f (enumerate_from 0 (take i xs)) ((i, x) ∷ []) in
      is ∙ ap (λ v. so_far ++ v ∷ []) shown ∙ ap (λ l. l ++ f (i, x) ∷ []) so ∙ sym (ap (map f) (numbered_more xs i x lt at) ∙ rest)

  -- some values for each numbered element
  pub gathered_more : (f : ℕ × X → List Data) (so_far after : List Data) → i < length xs → x ≡ slice_index_or xs i x
      → so_far ≡ flat_map f (enumerate_from 0 (take i xs)) → after ≡ so_far ++ f (i, x) → after ≡ flat_map f (enumerate_from 0 (take (i + 1) xs))
  gathered_more f so_far after lt at so is = is ∙ ap (λ l. l ++ f (i, x)) so ∙ sym (flat_map_numbered f xs i x lt at)

-- no value for a session that isn't there
pub none_there : (form : SessionView → Data) (values : List Data) (view : Option SessionView) → view ≡ None → values ≡ values ++ if_there form view
none_there form values view none = sym (ap (λ v. values ++ if_there form v) none ∙ append-nil values)
