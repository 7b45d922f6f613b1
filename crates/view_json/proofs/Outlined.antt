-- Sessions with their outlines.
use Rattle.std.proofs.Common.{◌≡◌, ℕ, List, Option, Some, None, map, slice_get, option_map, refl, ap, sym, ◌∙◌}
use Rattle.std.proofs.lemmas.Option.{none-some, same_Some, slice_get-map}
use Rattle.lab_report.specs.declared.lab.SessionView.{SessionView}
use Rattle.timeline_view.specs.declared.outline.Outline.{Outline}
use Rattle.timeline_view.specs.Messages.{outline_of}

module _ (sessions : List SessionView) (outlines : List Outline) (are : outlines ≡ map (λ view. outline_of view.story) sessions) (p : ℕ) where
  outline_there : slice_get outlines p ≡ option_map (λ view. outline_of view.story) (slice_get sessions p)
  outline_there = ap (λ (os : List Outline). slice_get os p) are ∙ slice_get-map (λ (view : SessionView). outline_of view.story) sessions p

  -- the outline of a number is that of the session of this number
  pub outline_is : (view : SessionView) (outline : Outline) → Some view ≡ slice_get sessions p → Some outline ≡ slice_get outlines p
      → outline ≡ outline_of view.story
  outline_is view outline v o =
      same_Some outline (outline_of view.story)
      (o ∙ outline_there ∙ sym (ap (λ (s : Option SessionView). option_map (λ view. outline_of view.story) s) v))

  -- without an outline there is no session
  pub no_session : None ≡ slice_get outlines p → None ≡ slice_get sessions p
  no_session none = by_cases (slice_get sessions p) (none ∙ outline_there) where
    by_cases : (s : Option SessionView) → None ≡ option_map (λ view. outline_of view.story) s → None ≡ s
    by_cases None is = refl
    by_cases (Some view) is = absurd (none-some (outline_of view.story) is)
