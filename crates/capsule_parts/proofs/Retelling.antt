-- Whether a session has told its story to the end.
use Rattle.std.proofs.Common.{◌≡◌, ◌≢◌, ℕ, Bool, true, false, List, [], sym, ap, ◌∙◌}
use Rattle.std.specs.Prelude.{MatchBool, IsTrue, map}
use Rattle.bgp_types.specs.declared.message.SessionState.TheVariants.{Established}
use Rattle.bgp_story.specs.declared.line.Line.{Line}
use Rattle.bgp_story.specs.Legal.{Peering, IsPeering, is_wide}
use Rattle.bgp_story.specs.States.{state_of}
use Rattle.bgp_story.proofs.Ranges.{peering_of as peering_of_story}
use Rattle.bgp_story.proofs.Shapes.{allowed_of}
use Rattle.session_value.specs.declared.config.SessionConfig.{SessionConfig}
use Rattle.session_value.specs.Sessions.{SessionValue, peering_of, state}
use Rattle.capsule_bytes.specs.declared.parts.PartLine.{PartLine}
use Rattle.capsule_parts.specs.Parts.{part_line, part_lines}
use Rattle.capsule_parts.specs.Retold.{HasBegun, HasTold, IsStoryOf, IsToldSoFar, StaysTold}
use Rattle.capsule_parts.proofs.Told.{begins_told, ends_told}

pub its_peering : (p : Peering) (received : List ℕ) (octets : List PartLine) (story : List Line) → IsStoryOf p received octets story → IsPeering p
its_peering p received octets story is = peering_of_story p story is.state (allowed_of p story is.state is.legal)

pub untold : {A : Type 0} (t : Bool) → t ≡ false → MatchBool t A (¬ A) → ¬ A
untold true e m = absurd cc
untold false e m = m

pub told_match : (session : SessionValue) (octets : List PartLine) (t wide : Bool) (lines : List Line)
    → wide ≡ is_wide (peering_of session.config) session.story → lines ≡ session.story → state session ≡ Established
    → MatchBool t (octets ≡ map (part_line wide) lines) (octets ≢ map (part_line wide) lines) → MatchBool t (HasTold session octets) (¬ HasTold session octets)
told_match session octets true wide lines wides are up same = record {
  established = up;
  spelled = same ∙ ap (λ (w : Bool). map (part_line w) lines) wides
      ∙ ap (λ (xs : List Line). map (part_line (is_wide (peering_of session.config) session.story)) xs) are;
}
told_match session octets false wide lines wides are up other = λ told.
    other (told.spelled
    ∙ ap (λ (xs : List Line). map (part_line (is_wide (peering_of session.config) session.story)) xs) (sym are)
    ∙ ap (λ (w : Bool). map (part_line w) lines) (sym wides))

module _ (config : SessionConfig) (received : List ℕ) (octets : List PartLine) (first session : SessionValue)
    (begun : HasBegun config received first) (stays : StaysTold first session) (story : List Line)
    (is : IsStoryOf (peering_of config) received octets story) (t : Bool)
    (tells : (told : List Line) → IsToldSoFar told octets first → IsTrue t × IsToldSoFar told [] session) where
  pub retold_all : IsTrue t
  retold_all = (tells story (begins_told config received octets story first begun is)).0

  pub retold_story : session.story ≡ story
  retold_story = ends_told story session (tells story (begins_told config received octets story first begun is)).1

  pub has_told : state_of story ≡ Established → HasTold session octets
  has_told up = record {
    established = ap state_of retold_story ∙ up;
    spelled = is.spelled
        ∙ ap (λ (x : SessionConfig). part_lines (peering_of x) story) (sym (stays.config ∙ begun.config_is))
        ∙ ap (part_lines (peering_of session.config)) (sym retold_story);
  }
