-- What a session got, message by message.
use Rattle.std.proofs.Common.{◌≡◌, ◌≢◌, ℕ, ◌+◌, ◌<◌, ◌≤◌, inl, inr, Bool, false, ◌&&◌, List, [], ◌∷◌, ◌++◌, Option, Some, None}
use Rattle.std.proofs.Common.{Result, Ok, Err, length, take, drop, refl, sym, ap, subst, ◌∙◌, slice_index_or}
use Rattle.std.specs.Prelude.{All, IsSome, fold}
use Rattle.std.specs.FinMap as map
use Rattle.std.specs.List.{AllByRecursion}
use Rattle.std.proofs.lemmas.Bool.{false≢true, leb-true}
use Rattle.std.proofs.lemmas.List.{drop_more}
use Rattle.std.proofs.lemmas.List.Elements.{All-from_recursion, All-get_or}
use Rattle.std.proofs.lemmas.List.Sums.{fold_more}
use Rattle.attr_codec.specs.declared.fault.CodecFault.{CodecFault}
use Rattle.attr_codec.specs.declared.fault.CodecFault.TheVariants as stops
use Rattle.attr_codec.specs.Decoding.{Stops}
use Rattle.bgp_types.specs.declared.fault.Expected.{Expected}
use Rattle.bgp_types.specs.declared.fault.HeaderFault.{HeaderFault}
use Rattle.bgp_types.specs.declared.message.Message.{Message}
use Rattle.bgp_types.specs.declared.message.Notice.{Notice}
use Rattle.bgp_types.specs.declared.message.OpenMsg as open_type
use Rattle.bgp_types.specs.declared.message.SessionState.{SessionState}
use Rattle.bgp_types.specs.declared.message.SessionState.TheVariants.{OpenSent, OpenConfirm, Established, Closed}
use Rattle.bgp_types.specs.Faults.{fault_in}
use Rattle.bgp_types.specs.FirstFault.{message_of, with_header}
use Rattle.bgp_types.specs.Header.{frame_at, header_fault}
use Rattle.bgp_story.specs.declared.line.Line.{Line}
use Rattle.bgp_story.specs.declared.line.Line.TheVariants.{Put, Got, Tick}
use Rattle.bgp_story.specs.Laws.{IsGotLine}
use Rattle.bgp_story.specs.Legal.{Peering, IsGot, open_in, got_open, both_offer, expected_next}
use Rattle.bgp_story.specs.Opens.{offers}
use Rattle.bgp_story.specs.Readings.{Routes, update_in, hear, heard, unless_closed}
use Rattle.bgp_story.specs.States.{BeginsStory, state_of}
use Rattle.bgp_story.proofs.HeaderKinds.{got_long}
use Rattle.bgp_story.proofs.Ranges.{offers_home}
use Rattle.bgp_story.proofs.Shapes.{got_in_frames_is}
use Rattle.lab_tables.specs.declared.input.LabInput.{LabInput}
use Rattle.lab_tables.specs.declared.input.PeeringInput.{PeeringInput}
use Rattle.why_view.specs.Stories.{expected_open, identifier_at, message_in, open_of, story_peering, update_of}

-- ---- lines

all_front : {A : Type 0} (P : A → Type 0) (xs ys : List A) → AllByRecursion P (xs ++ ys) → AllByRecursion P xs
all_front P [] ys all = tt
all_front P (x ∷ xs) ys all = (all.0, all_front P xs ys all.1)

-- what a story got are whole messages, or headers with a fault
pub lines_are_got : (remote_as : ℕ) (lines : List Line) → BeginsStory remote_as lines → All IsGotLine lines
lines_are_got remote_as lines begins =
    All-from_recursion IsGotLine lines
    (all_front IsGotLine lines begins.rest (got_in_frames_is begins.peering (lines ++ begins.rest) begins.state begins.legal))

-- the line at an index
pub line_at : (lines : List Line) (i : ℕ) (line : Line) → i < length lines → line ≡ slice_index_or lines i line → All IsGotLine lines → IsGotLine line
line_at lines i line lt at all = subst IsGotLine (sym at) (All-get_or IsGotLine lines i line lt all)

pub bytes_at : (lines : List Line) (i : ℕ) (line : Line) (bytes : List ℕ) → i < length lines → line ≡ slice_index_or lines i line → line ≡ Got bytes
    → All IsGotLine lines → IsGot bytes
bytes_at lines i line bytes lt at is all = subst IsGotLine is (line_at lines i line lt at all)

-- ---- one message

pub long_got : (bytes : List ℕ) → IsGot bytes → 19 ≤ length bytes
long_got bytes got = leb-true 19 (length bytes) (got_long bytes got)

-- octets with a sound header are a whole message
pub is_frame : (bytes : List ℕ) → IsGot bytes → header_fault bytes ≡ None → frame_at bytes ≡ Some (bytes, [])
is_frame bytes (inl frame) sound = frame
is_frame bytes (inr faulty) sound = absurd (false≢true (subst (λ (o : Option HeaderFault). IsSome o) sound faulty.1))

pub none_by_header : (e : Expected) (bytes : List ℕ) (fault : HeaderFault) → header_fault bytes ≡ Some fault → message_in (message_of e bytes) ≡ None
unfolding message_of
none_by_header e bytes fault is = ap (λ f. message_in (with_header f e bytes)) is

pub none_by_fault : (n : Notice) (stop : CodecFault) (read : Result Message Notice) → stop ≡ stops.Wire n → Stops stop (fault_in read) → None ≡ message_in read
none_by_fault n stop read is fault = by_read read (subst (λ (s : CodecFault). Stops s (fault_in read)) is fault) where
  by_read : (r : Result Message Notice) → fault_in r ≡ Some n → None ≡ message_in r
  by_read (Ok message) e = (let f : ◌≡◌ {A = Option Notice} None (Some n) = e in absurd cc)
  by_read (Err fault) e = refl

pub some_message : (read : Result Message Notice) (message : Message) → read ≡ Ok message → message_in read ≡ Some message
some_message read message is = ap message_in is

-- the OPEN and the UPDATE that it is, without a look at its faults
pub same_open : (read : Result Message Notice) → open_of (message_in read) ≡ open_in read
same_open (Ok message) = refl
same_open (Err fault) = refl

pub same_update : (read : Result Message Notice) → update_of (message_in read) ≡ update_in read
same_update (Ok message) = refl
same_update (Err fault) = refl

-- ---- the OPEN

abbrev pub expected_with : SessionState → ℕ → (offered wide : Bool) → Expected
expected_with state remote_as offered wide = record { state = state; remote_as = remote_as; offered = offered; wide = wide }

-- by the input
pub first_expected : (input : LabInput) (p : PeeringInput) → expected_with OpenSent p.remote_as p.as4 false ≡ expected_open (story_peering input p)
first_expected input p = ap (λ o. expected_with OpenSent p.remote_as o false)
    (sym (offers_home input.home_as p.home_hold (identifier_at input p.at.0) p.as4 p.unicast))

-- the line at an index, and those behind it
from_here : (lines : List Line) (i : ℕ) (line : Line) → i < length lines → line ≡ slice_index_or lines i line → drop i lines ≡ line ∷ drop (i + 1) lines
from_here lines i line lt at = drop_more lines i line lt ∙ ap (λ l. l ∷ drop (i + 1) lines) (sym at)

pub opened_here : (p : Peering) (lines : List Line) (i : ℕ) (line : Line) (bytes : List ℕ) → i < length lines → line ≡ slice_index_or lines i line
    → line ≡ Got bytes → got_open p (drop i lines) ≡ open_in (message_of (expected_open p) bytes)
opened_here p lines i line bytes lt at is =
    ap (got_open p) (from_here lines i line lt at) ∙ ap (λ l. got_open p (l ∷ drop (i + 1) lines)) is

pub opened_later : (p : Peering) (lines : List Line) (i : ℕ) (line : Line) → i < length lines → line ≡ slice_index_or lines i line
    → ((bytes : List ℕ) → line ≡ Got bytes → ⊥) → got_open p (drop i lines) ≡ got_open p (drop (i + 1) lines)
opened_later p lines i line lt at none = ap (got_open p) (from_here lines i line lt at) ∙ by_line line none where
  by_line : (l : Line) → ((bytes : List ℕ) → l ≡ Got bytes → ⊥) → got_open p (l ∷ drop (i + 1) lines) ≡ got_open p (drop (i + 1) lines)
  by_line (Put message) other = refl
  by_line (Got bytes) other = absurd (other bytes refl)
  by_line (Tick round) other = refl

-- ---- the routes

-- AS numbers have four octets where both OPENs offer them
pub wide_is : (input : LabInput) (p : PeeringInput) (opened : open_type.OpenMsg)
    → both_offer (story_peering input p).first (Some opened) ≡ (p.as4 && offers opened)
wide_is input p opened = ap (λ b. b && offers opened) (offers_home input.home_as p.home_hold (identifier_at input p.at.0) p.as4 p.unicast)

-- how messages are read once the session is established
pub expected_is : (input : LabInput) (p : PeeringInput) (lines : List Line) (opened : Option open_type.OpenMsg) (wide : Bool)
    → opened ≡ got_open (story_peering input p) lines → wide ≡ both_offer (story_peering input p).first opened
    → expected_with Established p.remote_as p.as4 wide ≡ expected_next (story_peering input p) lines Established
expected_is input p lines opened wide got is =
    ap (expected_with Established p.remote_as p.as4) (is ∙ ap (both_offer (story_peering input p).first) got)
    ∙ ap (λ o. expected_with Established p.remote_as o (both_offer (story_peering input p).first (got_open (story_peering input p) lines)))
    (sym (offers_home input.home_as p.home_hold (identifier_at input p.at.0) p.as4 p.unicast))

-- the routes of one line more
pub heard_more : (e : Expected) (lines : List Line) (i : ℕ) (line : Line) (before after : Routes) → i < length lines → line ≡ slice_index_or lines i line
    → before ≡ fold (hear e) map.empty (take i lines) → after ≡ hear e before line → after ≡ fold (hear e) map.empty (take (i + 1) lines)
heard_more e lines i line before after lt at so_far step =
    step ∙ ap (λ r. hear e r line) so_far ∙ ap (hear e (fold (hear e) map.empty (take i lines))) at
    ∙ sym (fold_more (hear e) map.empty lines i line lt)

-- a closed session has heard nothing
pub heard_closed : (p : Peering) (lines : List Line) → state_of lines ≡ Closed → heard p lines ≡ map.empty
heard_closed p lines closed = ap (λ s. unless_closed s (fold (hear (expected_next p lines Established)) map.empty lines)) closed

pub heard_open : (p : Peering) (lines : List Line) → state_of lines ≢ Closed → heard p lines ≡ fold (hear (expected_next p lines Established)) map.empty lines
heard_open p lines unclosed = by_state (state_of lines) unclosed (fold (hear (expected_next p lines Established)) map.empty lines) where
  by_state : (s : SessionState) → s ≢ Closed → (routes : Routes) → unless_closed s routes ≡ routes
  by_state OpenSent apart routes = refl
  by_state OpenConfirm apart routes = refl
  by_state Established apart routes = refl
  by_state Closed apart routes = absurd (apart refl)
