-- What a session heard is announced by its remote over the script.
use Rattle.std.proofs.Common.{◌≡◌, ◌≢◌, ℕ, Bool, false, List, [], ◌∷◌, ◌++◌, Option, Some, None, refl, sym, ap, ◌∙◌, subst, append_assoc}
use Rattle.std.specs.Prelude.{fold}
use Rattle.std.specs.FinMap as map
use Rattle.std.specs.List.{AllByRecursion, flat_map}
use Rattle.bgp_types.specs.declared.attrs.Attrs.{Attrs}
use Rattle.bgp_types.specs.declared.fault.Expected.{Expected}
use Rattle.bgp_types.specs.declared.message.OpenMsg as open_type
use Rattle.bgp_types.specs.declared.message.SessionState.{SessionState}
use Rattle.bgp_types.specs.declared.message.SessionState.TheVariants.{OpenSent, OpenConfirm, Established, Closed}
use Rattle.bgp_types.specs.FirstFault.{message_of}
use Rattle.bgp_types.specs.Header.{frame_at}
use Rattle.bgp_types.specs.Many.{many}
use Rattle.bgp_types.specs.Prefixes.{PrefixValue}
use Rattle.bgp_types.specs.Tables.{prefix_cmp}
use Rattle.bgp_types.proofs.FrameLaws.{IsFrame, frame_reads}
use Rattle.bgp_types.proofs.ManyLaws.{many_front}
use Rattle.bgp_story.specs.declared.line.Line.{Line}
use Rattle.bgp_story.specs.declared.line.Line.TheVariants.{Put, Got, Tick}
use Rattle.bgp_story.specs.Legal.{Peering, Allowed, got_open, both_offer, open_in, expected_next}
use Rattle.bgp_story.specs.Opens.{offers}
use Rattle.bgp_story.specs.Readings.{Routes, update_in, hear, heard, got_bytes, unless_closed}
use Rattle.bgp_story.specs.States.{state_of}
use Rattle.bgp_story.proofs.Ranges.{offers_home}
use Rattle.bgp_story.proofs.StoryLaws.{state_is}
use Rattle.session_value.specs.declared.config.SessionConfig.{SessionConfig}
use Rattle.session_value.specs.Sessions.{peering_of}
use Rattle.graft_model.specs.Setups.{PeeringSetup}
use Rattle.graft_laws.proofs.Lists.{all_front}
use Rattle.even_inputs.specs.Announced.{open_at_front, established, updates_in, announced_by}
use Rattle.even_inputs.proofs.Lists.{all_flat, all_given}
use Rattle.even_inputs.proofs.Fronts.{joined}
use Rattle.even_inputs.proofs.Readings.{gots, gots_whole, whole_lines, HasIn, Announces, heard_in}

-- the OPEN that was got, by all that was got
abbrev pub open_of : Peering → List (List ℕ) → Option open_type.OpenMsg
open_of p [] = None
open_of p (f ∷ fs) = open_in (message_of (record { state = OpenSent; remote_as = p.remote_as; offered = offers p.first; wide = false }) f)

pub open_gots : (p : Peering) (lines : List Line) → got_open p lines ≡ open_of p (gots lines)
open_gots p [] = refl
open_gots p (Put _ ∷ lines) = open_gots p lines
open_gots p (Got _ ∷ lines) = refl
open_gots p (Tick _ ∷ lines) = open_gots p lines

module _ (peering : PeeringSetup) where
  abbrev own : Peering
  own = peering_of peering.config

  pub offered : offers own.first ≡ peering.config.offered
  offered = let c : SessionConfig = peering.config in offers_home c.home_as c.home_hold c.identifier c.offered c.unicast

  -- the first message that was got is the first one that was said
  first_open : (f : List ℕ) (said rest : List ℕ) → IsFrame f → said ≡ f ++ rest → (fs : List (List ℕ))
      → open_of own (f ∷ fs) ≡ open_at_front peering (frame_at said)
  first_open f said rest frame e fs =
      ap (λ (b : Bool). open_in (message_of (record { state = OpenSent; remote_as = peering.config.remote_as; offered = b; wide = false }) f)) offered
      ∙ sym (ap (λ (o : Option (List ℕ × List ℕ)). open_at_front peering o) (ap frame_at e ∙ frame rest))

  same_expected : (o u : Option open_type.OpenMsg) → o ≡ u
      → ◌≡◌ {A = Expected} (record { state = Established; remote_as = own.remote_as; offered = offers own.first; wide = both_offer own.first o })
      (record { state = Established; remote_as = own.remote_as; offered = peering.config.offered; wide = both_offer own.first u })
  same_expected o u e =
      ap (λ (b : Bool). record { state = Established; remote_as = own.remote_as; offered = b; wide = both_offer own.first o }) offered
      ∙ ap (λ (x : Option open_type.OpenMsg).
      record { state = Established; remote_as = own.remote_as; offered = peering.config.offered; wide = both_offer own.first x }) e

  module _ (Q : PrefixValue × Attrs → Type 0) (said : List ℕ) (all : AllByRecursion Q (flat_map announced_by (updates_in peering said))) where
    -- each message that was said announces so
    each_frame : AllByRecursion (Announces Q (established peering said)) (many frame_at said).0
    each_frame = all_given (λ u. AllByRecursion Q (announced_by u)) (λ frame. update_in (message_of (established peering said) frame)) (many frame_at said).0
        (all_flat Q announced_by (updates_in peering said) all)

    module _ (lines : List Line) (rest : List ℕ) (is : said ≡ got_bytes lines ++ rest) (whole : AllByRecursion IsFrame (gots lines)) where
      frames : (many frame_at said).0 ≡ gots lines ++ (many frame_at rest).0
      frames = ap (λ (x : List (List ℕ) × List ℕ). x.0)
          (ap (many frame_at) (is ∙ ap (λ (xs : List ℕ). xs ++ rest) (joined lines))
          ∙ many_front frame_at (λ frame. frame) IsFrame frame_reads (gots lines) rest whole)

      got_announce : AllByRecursion (Announces Q (established peering said)) (gots lines)
      got_announce = all_front (Announces Q (established peering said)) (gots lines) (many frame_at rest).0
          (subst (λ (fs : List (List ℕ)). AllByRecursion (Announces Q (established peering said)) fs) frames each_frame)

      read_so : AllByRecursion (Announces Q (expected_next own lines Established)) (gots lines)
      read_so = by_gots (gots lines) refl
        where
          by_gots : (fs : List (List ℕ)) → gots lines ≡ fs → AllByRecursion (Announces Q (expected_next own lines Established)) (gots lines)
          by_gots [] e = subst (λ (xs : List (List ℕ)). AllByRecursion (Announces Q (expected_next own lines Established)) xs) (sym e) tt
          by_gots (f ∷ fs) e =
              let frame : IsFrame f × AllByRecursion IsFrame fs = subst (λ (xs : List (List ℕ)). AllByRecursion IsFrame xs) e whole in
              let front : said ≡ f ++ (flat_map (λ x. x) fs ++ rest) =
              is ∙ ap (λ (xs : List ℕ). xs ++ rest) (joined lines ∙ ap (λ (xs : List (List ℕ)). flat_map (λ x. x) xs) e)
              ∙ append_assoc f (flat_map (λ x. x) fs) rest in
              let same : got_open own lines ≡ open_at_front peering (frame_at said) =
              open_gots own lines ∙ ap (open_of own) e ∙ first_open f said (flat_map (λ x. x) fs ++ rest) frame.0 front fs in
              subst (λ (x : Expected). AllByRecursion (Announces Q x) (gots lines))
              (sym (same_expected (got_open own lines) (open_at_front peering (frame_at said)) same))
              got_announce

    -- what a session heard, which got the first bytes of these, has it
    pub heard_has : (lines : List Line) (state : SessionState) (rest : List ℕ) → Allowed own lines state → said ≡ got_bytes lines ++ rest
        → HasIn Q (heard own lines)
    heard_has lines state rest legal is =
        by_state state refl
      where
        table : Routes
        table = fold (hear (expected_next own lines Established)) map.empty lines

        of_state : state_of lines ≡ state
        of_state = state_is own lines state legal

        as_read : state ≢ Closed → HasIn Q table
        as_read live = heard_in Q (expected_next own lines Established) lines
            (read_so lines rest is (gots_whole lines (whole_lines own lines state legal live)))

        at_state : (s : SessionState) → unless_closed s table ≡ table → s ≡ state → s ≢ Closed → HasIn Q (heard own lines)
        at_state s e same live = subst (λ (t : Routes). HasIn Q t)
            (sym (ap (λ (x : SessionState). unless_closed x table) (of_state ∙ sym same) ∙ e)) (as_read (λ c. live (same ∙ c)))

        by_state : (s : SessionState) → s ≡ state → HasIn Q (heard own lines)
        by_state OpenSent same = at_state OpenSent refl same (λ c. absurd cc)
        by_state OpenConfirm same = at_state OpenConfirm refl same (λ c. absurd cc)
        by_state Established same = at_state Established refl same (λ c. absurd cc)
        by_state Closed same = λ prefix attrs e.
            let f : ◌≡◌ {A = Option Attrs} None (Some attrs) = sym (map.get-empty prefix_cmp prefix)
            ∙ ap (λ (x : SessionState). map.get (unless_closed x table) prefix) (same ∙ sym of_state) ∙ e in absurd cc
