-- What a story tells of a session that got all that its remote said is the reading of what was said.
use Rattle.std.proofs.Common.{◌≡◌, ◌≢◌, ℕ, Bool, List, [], ◌∷◌, ◌++◌, Option, Result, Ok, Err, refl, sym, ap, ◌∙◌, subst, inl, inr, ◌⊎◌}
use Rattle.std.specs.Prelude.{fold}
use Rattle.std.specs.List.{AllByRecursion}
use Rattle.std.proofs.lemmas.List.Sums.{fold-append}
use Rattle.bgp_types.specs.declared.fault.Expected.{Expected}
use Rattle.bgp_types.specs.declared.message.Message.{Message}
use Rattle.bgp_types.specs.declared.message.Message.TheVariants.{OpenMsg, UpdateMsg, NoticeMsg, KeepaliveMsg}
use Rattle.bgp_types.specs.declared.message.Notice.{Notice}
use Rattle.bgp_types.specs.declared.message.OpenMsg as open_type
use Rattle.bgp_types.specs.declared.message.SessionState.{SessionState}
use Rattle.bgp_types.specs.declared.message.SessionState.TheVariants.{OpenSent, OpenConfirm, Established, Closed}
use Rattle.bgp_types.specs.FirstFault.{message_of}
use Rattle.bgp_story.specs.declared.line.Line.{Line}
use Rattle.bgp_story.specs.declared.line.Line.TheVariants.{Put, Got, Tick}
use Rattle.bgp_story.specs.Legal.{Peering, Allowed, IsGot, opened, got, updated, passed, got_open, open_in, both_offer, expected_next, reply_to}
use Rattle.bgp_story.specs.Opens.{offers}
use Rattle.bgp_story.specs.Readings.{Routes, apply_if, update_in, heard, unless_closed}
use Rattle.bgp_story.specs.States.{state_of}
use Rattle.bgp_story.proofs.Grows.{open_stays, heard_grows}
use Rattle.bgp_story.proofs.Shapes.{allowed_of, got_answers}
use Rattle.bgp_story.proofs.StoryLaws.{state_is}
use Rattle.session_value.specs.Sessions.{peering_of}
use Rattle.session_value.proofs.Gets.{heard_then}
use Rattle.graft_model.specs.Setups.{PeeringSetup}
use Rattle.story_readings.specs.Reads.{IsNoTick, StoryReads}
use Rattle.even_inputs.specs.Readings.{Reading, nothing_read, expected_by, opened_with, with_message, unless_ended, read_next, reading_of}
use Rattle.even_inputs.proofs.Readings.{gots}
use Rattle.even_inputs.proofs.Fronts.{one_got, none_got, timeless_parts, BeginWith, begin_with}
use Rattle.even_inputs.proofs.Announcing.{open_of, open_gots, offered}

-- a session that has ended stays as it is, and another one goes on
has_ended : (state : SessionState) (before after : Reading) → state ≡ Closed → unless_ended state before after ≡ before
has_ended state before after e = ap (λ (s : SessionState). unless_ended s before after) e

goes_on : (state : SessionState) (before after : Reading) → state ≢ Closed → unless_ended state before after ≡ after
goes_on OpenSent before after o = refl
goes_on OpenConfirm before after o = refl
goes_on Established before after o = refl
goes_on Closed before after o = absurd (o refl)

-- nothing leads back to OpenSent
never_back : (m : Result Message Notice) → (reply_to m).1 ≡ OpenSent → ⊥
never_back (Ok (OpenMsg _)) e = absurd cc
never_back (Ok (UpdateMsg _)) e = absurd cc
never_back (Ok (NoticeMsg _)) e = absurd cc
never_back (Ok KeepaliveMsg) e = absurd cc
never_back (Err _) e = absurd cc

next_is : (m : Result Message Notice) (answer : List Line) (next : SessionState) → reply_to m ≡ (answer, next) → (reply_to m).1 ≡ next
next_is m answer next r = ap (λ (x : List Line × SessionState). x.1) r

-- in OpenSent nothing was got
none_yet : (p : Peering) (lines : List Line) (state : SessionState) → Allowed p lines state → AllByRecursion IsNoTick lines → state ≡ OpenSent → gots lines ≡ []
none_yet p _ _ (opened lines h e) n s = ap gots e
none_yet p _ _ (got before state bytes answer next lines l o w r e) n s =
    absurd (never_back (message_of (expected_next p before state) bytes) (next_is _ answer next r ∙ s))
none_yet p _ _ (updated before u lines l w c e) n s = absurd cc
none_yet p _ _ (passed before state round answer next lines l up h a r e) n s = absurd (timeless_parts before (Tick round ∷ answer) lines e n).1.0

module _ (peering : PeeringSetup) where
  abbrev own : Peering
  own = peering_of peering.config

  -- what a story tells of its session
  abbrev pub told_by : List Line → SessionState → Reading
  told_by lines state = record { state = state; opened = got_open own lines; adj_rib_in = heard own lines }

  expected_so : (lines : List Line) (state : SessionState) → expected_by peering (told_by lines state) ≡ expected_next own lines state
  expected_so lines state =
      ap (λ (b : Bool). record { state = state; remote_as = own.remote_as; offered = b; wide = both_offer own.first (got_open own lines) })
      (sym (offered peering))

  -- ---- a message is got

  module _ (before : List Line) (state : SessionState) (bytes : List ℕ) (answer : List Line) (next : SessionState) (lines : List Line)
      (legal : Allowed own before state) (timeless : AllByRecursion IsNoTick before) (live : state ≢ Closed) (is_got : IsGot bytes)
      (reply : reply_to (message_of (expected_next own before state) bytes) ≡ (answer, next)) (is : lines ≡ before ++ Got bytes ∷ answer) where
    abbrev read : Result Message Notice
    read = message_of (expected_next own before state) bytes

    state_before : state_of before ≡ state
    state_before = state_is own before state legal

    heard_next : unless_closed (reply_to read).1 (apply_if (heard own before) (update_in read)) ≡ heard own lines
    heard_next =
        ap (λ (s : SessionState). unless_closed s (apply_if (heard own before) (update_in read))) (next_is read answer next reply)
        ∙ ap (λ (s : SessionState). unless_closed next (apply_if (heard own before) (update_in (message_of (expected_next own before s) bytes))))
        (sym state_before)
        ∙ sym (heard_then own before bytes answer next (λ c. live (sym state_before ∙ c)) is_got
        (ap (λ (s : SessionState). reply_to (message_of (expected_next own before s) bytes)) state_before ∙ reply)
        (subst (λ (s : SessionState). Allowed own before s) (sym state_before) legal))
        ∙ ap (heard own) (sym is)

    stays : state ≢ OpenSent → got_open own before ≡ got_open own lines
    stays up = by_state state refl
      where
        later : (s : SessionState) → state ≡ s → state ≢ Closed → got_open own before ≡ got_open own lines
        later OpenSent e o = absurd (up e)
        later OpenConfirm e o = sym (open_stays own before (Got bytes ∷ answer) OpenConfirm (subst (λ (s : SessionState). Allowed own before s) e legal) refl)
            ∙ ap (got_open own) (sym is)
        later Established e o = sym (open_stays own before (Got bytes ∷ answer) Established (subst (λ (s : SessionState). Allowed own before s) e legal) refl)
            ∙ ap (got_open own) (sym is)
        later Closed e o = absurd (o e)

        by_state : (s : SessionState) → state ≡ s → got_open own before ≡ got_open own lines
        by_state s e = later s e live

    opens : state ≡ OpenSent → open_in read ≡ got_open own lines
    opens first =
        let none : gots before ≡ [] = none_yet own before state legal timeless first in
        ap (λ (s : SessionState). open_in (message_of (expected_next own before s) bytes)) first
        ∙ ap (λ (o : Option open_type.OpenMsg). open_in (message_of (record {
          state = OpenSent;
          remote_as = own.remote_as;
          offered = offers own.first;
          wide = both_offer own.first o;
        }) bytes)) (open_gots own before ∙ ap (open_of own) none)
        ∙ sym (open_gots own lines
        ∙ ap (open_of own) (one_got before answer lines bytes (got_answers own before state bytes answer next reply) is
        ∙ ap (λ (fs : List (List ℕ)). fs ++ bytes ∷ []) none))

    opened_next : opened_with state (got_open own before) (open_in read) ≡ got_open own lines
    opened_next = by_state state refl
      where
        by_state : (s : SessionState) → state ≡ s → opened_with s (got_open own before) (open_in read) ≡ got_open own lines
        by_state OpenSent e = opens e
        by_state OpenConfirm e = stays (λ f. (let g : OpenConfirm ≡ OpenSent = sym e ∙ f in absurd cc))
        by_state Established e = stays (λ f. (let g : Established ≡ OpenSent = sym e ∙ f in absurd cc))
        by_state Closed e = absurd (live e)

    read_so : read_next peering (told_by before state) bytes ≡ told_by lines next
    read_so =
        goes_on state (told_by before state) _ live
        ∙ ap (λ (x : Expected). with_message (told_by before state) (message_of x bytes)) (expected_so before state)
        ∙ ap (λ (s : SessionState). record {
          state = s;
          opened = opened_with state (got_open own before) (open_in read);
          adj_rib_in = unless_closed (reply_to read).1 (apply_if (heard own before) (update_in read));
        }) (next_is read answer next reply)
        ∙ ap (λ (o : Option open_type.OpenMsg). record {
          state = next;
          opened = o;
          adj_rib_in = unless_closed (reply_to read).1 (apply_if (heard own before) (update_in read));
        }) opened_next
        ∙ ap (λ (t : Routes). record { state = next; opened = got_open own lines; adj_rib_in = t }) heard_next

  -- ---- a story

  reads_gots : (lines : List Line) (state : SessionState) → Allowed own lines state → AllByRecursion IsNoTick lines
      → fold (read_next peering) nothing_read (gots lines) ≡ told_by lines state
  reads_gots _ _ (opened lines h e) n =
      subst (λ (ls : List Line). fold (read_next peering) nothing_read (gots ls) ≡ told_by ls OpenSent) (sym e) refl
  reads_gots _ _ (got before state bytes answer next lines l o w r e) n =
      let earlier = (timeless_parts before (Got bytes ∷ answer) lines e n).0 in
      ap (fold (read_next peering) nothing_read) (one_got before answer lines bytes (got_answers own before state bytes answer next r) e)
      ∙ fold-append (read_next peering) nothing_read (gots before) (bytes ∷ [])
      ∙ ap (λ (x : Reading). read_next peering x bytes) (reads_gots before state l earlier)
      ∙ read_so before state bytes answer next lines l earlier o w r e
  reads_gots _ _ (updated before u lines l w c e) n =
      let step : List Line = Put (UpdateMsg u) ∷ [] in
      let after : state_of (before ++ step) ≡ Established = ap state_of (sym e) ∙ state_is own lines Established (updated before u lines l w c e) in
      ap (fold (read_next peering) nothing_read) (none_got before lines (Put (UpdateMsg u)) refl e)
      ∙ reads_gots before Established l (timeless_parts before step lines e n).0
      ∙ ap (λ (o : Option open_type.OpenMsg). record { state = Established; opened = o; adj_rib_in = heard own before })
      (sym (open_stays own before step Established l refl) ∙ ap (got_open own) (sym e))
      ∙ ap (λ (t : Routes). record { state = Established; opened = got_open own lines; adj_rib_in = t })
      (sym (heard_grows own before step Established (state_is own before Established l) l (λ f. absurd cc)
      (λ f. (let g : Established ≡ Closed = sym after ∙ f in absurd cc))) ∙ ap (heard own) (sym e))
  reads_gots _ _ (passed before state round answer next lines l up h a r e) n = absurd (timeless_parts before (Tick round ∷ answer) lines e n).1.0

  -- what follows the end of a session changes nothing
  pub stays_ended : (fs : List (List ℕ)) (r : Reading) → r.state ≡ Closed → fold (read_next peering) r fs ≡ r
  stays_ended [] r e = refl
  stays_ended (f ∷ fs) r e = ap (λ (x : Reading). fold (read_next peering) x fs) (has_ended r.state r _ e) ∙ stays_ended fs r e

  pub reads_all : (said : List ℕ) (lines : List Line) (state : SessionState) → StoryReads own said lines state → reading_of peering said ≡ told_by lines state
  reads_all said lines state x =
      ap (fold (read_next peering) nothing_read) begun.is
      ∙ fold-append (read_next peering) nothing_read (gots lines) begun.more
      ∙ ap (λ (r : Reading). fold (read_next peering) r begun.more) (reads_gots lines state legal x.timeless)
      ∙ by_end begun.end
    where
      legal : Allowed own lines state
      legal = allowed_of own lines state x.legal

      begun : BeginWith said lines state
      begun = begin_with own said lines state legal x.timeless x.all

      by_end : (state ≡ Closed) ⊎ (begun.more ≡ []) → fold (read_next peering) (told_by lines state) begun.more ≡ told_by lines state
      by_end (inl closed) = stays_ended begun.more (told_by lines state) closed
      by_end (inr none) = ap (λ (fs : List (List ℕ)). fold (read_next peering) (told_by lines state) fs) none
