-- Where the two OPENs agree on no hold time, no round passes in a story.
use Rattle.std.proofs.Common.{◌≡◌, ℕ, min, false, List, [], ◌∷◌, ◌++◌, Option, Some, None, refl, sym, ap, ◌∙◌, subst, arith}
use Rattle.std.specs.List.{AllByRecursion}
use Rattle.bgp_types.specs.declared.message.OpenMsg as open_type
use Rattle.bgp_types.specs.declared.message.SessionState.{SessionState}
use Rattle.bgp_types.specs.declared.message.SessionState.TheVariants.{OpenSent}
use Rattle.bgp_types.specs.FirstFault.{message_of}
use Rattle.bgp_story.specs.declared.line.Line.{Line}
use Rattle.bgp_story.specs.declared.line.Line.TheVariants.{Put, Got, Tick}
use Rattle.bgp_story.specs.Laws.{IsGotLine}
use Rattle.bgp_story.specs.Legal.{Peering, Allowed, IsGot, opened, got, updated, passed, got_open, open_in, smaller_hold, hold}
use Rattle.bgp_story.specs.Opens.{offers}
use Rattle.bgp_story.specs.Readings.{got_bytes}
use Rattle.bgp_story.proofs.Shapes.{IsAnswer, all_weaken, got_answers}
use Rattle.bgp_story.proofs.Splits.{all_append}
use Rattle.story_readings.specs.Reads.{IsNoTick}

answer_timeless : (line : Line) → IsAnswer line → IsNoTick line
answer_timeless (Put _) a = tt
answer_timeless (Got _) a = tt
answer_timeless (Tick _) a = a

-- the first frame that was got is the OPEN, and stands at the front of all that was got
pub record FirstGot (p : Peering) (lines : List Line) (o : open_type.OpenMsg) : Type 0 where
  pub front : List ℕ
  pub rest : List ℕ
  pub is : got_bytes lines ≡ front ++ rest
  pub got : IsGot front
  pub opens : open_in (message_of (record { state = OpenSent; remote_as = p.remote_as; offered = offers p.first; wide = false }) front) ≡ Some o

pub first_got : (p : Peering) (lines : List Line) (o : open_type.OpenMsg) → AllByRecursion IsGotLine lines → got_open p lines ≡ Some o → FirstGot p lines o
first_got p [] o all e = absurd cc
first_got p (Put m ∷ lines) o all e =
    let x = first_got p lines o all.1 e in record { front = x.front; rest = x.rest; is = x.is; got = x.got; opens = x.opens }
first_got p (Got b ∷ lines) o all e = record { front = b; rest = got_bytes lines; is = refl; got = all.0; opens = e }
first_got p (Tick r ∷ lines) o all e =
    let x = first_got p lines o all.1 e in record { front = x.front; rest = x.rest; is = x.is; got = x.got; opens = x.opens }

module _ (p : Peering) where
  -- of the hold times of the OPENs, once both are there, one is 0
  abbrev pub HasNoHold : List Line → Type 0
  HasNoHold lines = (o : open_type.OpenMsg) → got_open p lines ≡ Some o → min p.first.hold o.hold ≡ 0

  open_kept : (xs ys : List Line) (o : open_type.OpenMsg) → got_open p xs ≡ Some o → got_open p (xs ++ ys) ≡ Some o
  open_kept [] ys o e = absurd cc
  open_kept (Put m ∷ xs) ys o e = open_kept xs ys o e
  open_kept (Got b ∷ xs) ys o e = e
  open_kept (Tick r ∷ xs) ys o e = open_kept xs ys o e

  none_before : (before step lines : List Line) → lines ≡ before ++ step → HasNoHold lines → HasNoHold before
  none_before before step lines e h o k = h o (ap (got_open p) e ∙ open_kept before step o k)

  pub no_hold : (lines : List Line) → HasNoHold lines → hold p lines ≡ 0
  no_hold lines h = by_open (got_open p lines) refl where
    by_open : (o : Option open_type.OpenMsg) → got_open p lines ≡ o → smaller_hold p.first o ≡ 0
    by_open None e = refl
    by_open (Some o) e = h o e

  longer : (before step lines : List Line) → lines ≡ before ++ step → AllByRecursion IsNoTick before → AllByRecursion IsNoTick step
      → AllByRecursion IsNoTick lines
  longer before step lines e a b = subst (AllByRecursion IsNoTick) (sym e) (all_append IsNoTick before step a b)

  pub timeless : (lines : List Line) (state : SessionState) → Allowed p lines state → HasNoHold lines → AllByRecursion IsNoTick lines
  timeless _ _ (opened lines h e) n = subst (AllByRecursion IsNoTick) (sym e) (tt, tt)
  timeless _ _ (got before state bytes answer next lines l o w r e) n =
      longer before (Got bytes ∷ answer) lines e (timeless before state l (none_before before (Got bytes ∷ answer) lines e n))
      (tt, all_weaken IsAnswer IsNoTick answer_timeless answer (got_answers p before state bytes answer next r))
  timeless _ _ (updated before u lines l w c e) n = longer before _ lines e (timeless before _ l (none_before before _ lines e n)) (tt, tt)
  timeless _ _ (passed before state round answer next lines l up h a r e) n =
      let none = no_hold before (none_before before (Tick round ∷ answer) lines e n) in
      absurd (omega (arith, h, none))
