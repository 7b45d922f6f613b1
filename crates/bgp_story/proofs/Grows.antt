-- What was put, told and heard stays as the story goes on.
use Rattle.std.proofs.Common.{◌≡◌, ◌≢◌, ℕ, List, [], ◌∷◌, ◌++◌, Bool, true, false, Option, Some, Result, Ok, Err, refl, sym, ap, ◌∙◌, subst}
use Rattle.std.specs.Prelude.{fold}
use Rattle.std.specs.FinMap as map
use Rattle.std.specs.List.{AllByRecursion, flat_map}
use Rattle.std.proofs.lemmas.Grind.{flat_map-append}
use Rattle.std.proofs.lemmas.List.Sums.{fold-append}
use Rattle.bgp_types.specs.declared.fault.Expected.{Expected}
use Rattle.bgp_types.specs.declared.message.Message.{Message}
use Rattle.bgp_types.specs.declared.message.Message.TheVariants.{OpenMsg, UpdateMsg, NoticeMsg, KeepaliveMsg}
use Rattle.bgp_types.specs.declared.message.Notice.{Notice}
use Rattle.bgp_types.specs.declared.message.OpenMsg as open_type
use Rattle.bgp_types.specs.declared.message.SessionState.{SessionState}
use Rattle.bgp_types.specs.declared.message.SessionState.TheVariants.{OpenSent, OpenConfirm, Established, Closed}
use Rattle.bgp_types.specs.FirstFault.{message_of}
use Rattle.bgp_types.specs.Spelling.{spell}
use Rattle.bgp_story.specs.declared.line.Line.{Line}
use Rattle.bgp_story.specs.declared.line.Line.TheVariants.{Put, Got, Tick}
use Rattle.bgp_story.specs.Legal.{Peering, Allowed, opened, got, updated, passed, got_open, open_in, both_offer}
use Rattle.bgp_story.specs.Legal.{smaller_hold, is_wide, hold, is_up, expected_next, reply_to}
use Rattle.bgp_story.specs.Opens.{offers}
use Rattle.bgp_story.specs.Readings.{Routes, put_in, put_bytes, got_in, got_bytes, tell, hear, unless_closed, told, heard}
use Rattle.bgp_story.specs.States.{state_of}
use Rattle.bgp_story.proofs.HeaderKinds.{read_of}
use Rattle.bgp_story.proofs.Shapes.{IsAnswer, all_weaken, got_answers}

abbrev pub PutsNoUpdate : Line → Type 0
PutsNoUpdate (Put (OpenMsg _)) = Unit {0}
PutsNoUpdate (Put (UpdateMsg _)) = ⊥
PutsNoUpdate (Put (NoticeMsg _)) = Unit {0}
PutsNoUpdate (Put KeepaliveMsg) = Unit {0}
PutsNoUpdate (Got _) = Unit {0}
PutsNoUpdate (Tick _) = Unit {0}

pub answer_no_update : (line : Line) → IsAnswer line → PutsNoUpdate line
answer_no_update (Put (OpenMsg _)) a = tt
answer_no_update (Put (UpdateMsg _)) a = a
answer_no_update (Put (NoticeMsg _)) a = tt
answer_no_update (Put KeepaliveMsg) a = tt
answer_no_update (Got _) a = tt
answer_no_update (Tick _) a = tt

-- ---- the OPEN that was got

got_open-append : (p : Peering) (xs ys : List Line) (o : open_type.OpenMsg) → got_open p xs ≡ Some o → got_open p (xs ++ ys) ≡ Some o
got_open-append p [] ys o e = absurd cc
got_open-append p (Put _ ∷ xs) ys o e = got_open-append p xs ys o e
got_open-append p (Tick _ ∷ xs) ys o e = got_open-append p xs ys o e
got_open-append p (Got _ ∷ xs) ys o e = e

-- The OPEN of the remote was taken, or there is only the home side's, or the session failed before.
data Stage (p : Peering) (lines : List Line) (state : SessionState) : Type 0 where
  joined : (o : open_type.OpenMsg) → got_open p lines ≡ Some o → Stage p lines state
  alone : lines ≡ Put (OpenMsg p.first) ∷ [] → state ≡ OpenSent → Stage p lines state
  failed : AllByRecursion PutsNoUpdate lines → state ≡ Closed → Stage p lines state

abbrev first_expected : Peering → Expected
first_expected p = record { state = OpenSent; remote_as = p.remote_as; offered = offers p.first; wide = false }

joined_more : (p : Peering) (before step lines : List Line) (state : SessionState) (o : open_type.OpenMsg) → lines ≡ before ++ step
    → got_open p before ≡ Some o → Stage p lines state
joined_more p before step lines state o e f = joined o (ap (got_open p) e ∙ got_open-append p before step o f)

first_got : (p : Peering) (bytes : List ℕ) (answer : List Line) (next : SessionState) (lines : List Line) (r : Result Message Notice)
    → message_of (first_expected p) bytes ≡ r → reply_to r ≡ (answer, next) → AllByRecursion IsAnswer answer
    → lines ≡ Put (OpenMsg p.first) ∷ Got bytes ∷ answer → Stage p lines next
first_got p bytes answer next lines (Ok (OpenMsg o)) g f a e = joined o (ap (got_open p) e ∙ ap open_in g)
first_got p bytes answer next lines (Ok (UpdateMsg u)) g f a e = let r = (read_of (first_expected p) bytes (UpdateMsg u) g).in_state in absurd cc
first_got p bytes answer next lines (Ok KeepaliveMsg) g f a e = let r = (read_of (first_expected p) bytes KeepaliveMsg g).in_state in absurd cc
first_got p bytes answer next lines (Ok (NoticeMsg n)) g f a e =
    failed (subst (λ (x : List Line). AllByRecursion PutsNoUpdate x) (sym e) (tt, (tt, all_weaken IsAnswer PutsNoUpdate answer_no_update answer a)))
    (sym (ap (λ (x : List Line × SessionState). x.1) f))
first_got p bytes answer next lines (Err n) g f a e =
    failed (subst (λ (x : List Line). AllByRecursion PutsNoUpdate x) (sym e) (tt, (tt, all_weaken IsAnswer PutsNoUpdate answer_no_update answer a)))
    (sym (ap (λ (x : List Line × SessionState). x.1) f))

alone_got : (p : Peering) (before : List Line) (state : SessionState) (bytes : List ℕ) (answer : List Line) (next : SessionState) (lines : List Line)
    → before ≡ Put (OpenMsg p.first) ∷ [] → state ≡ OpenSent → reply_to (message_of (expected_next p before state) bytes) ≡ (answer, next)
    → lines ≡ before ++ Got bytes ∷ answer → Stage p lines next
alone_got p before state bytes answer next lines f g r e =
    let same : expected_next p before state ≡ first_expected p =
    ap (λ (x : List Line). expected_next p x state) f ∙ ap (λ (x : SessionState). expected_next p (Put (OpenMsg p.first) ∷ []) x) g in
    first_got p bytes answer next lines (message_of (first_expected p) bytes) refl (ap (λ (x : Expected). reply_to (message_of x bytes)) (sym same) ∙ r)
    (got_answers p before state bytes answer next r) (e ∙ ap (λ (x : List Line). x ++ Got bytes ∷ answer) f)

stage : (p : Peering) (lines : List Line) (state : SessionState) → Allowed p lines state → Stage p lines state
stage p _ _ (opened lines h e) = alone e refl
stage p _ _ (got before state bytes answer next lines l o w r e) = by_stage (stage p before state l) where
  by_stage : Stage p before state → Stage p lines next
  by_stage (joined m f) = joined_more p before (Got bytes ∷ answer) lines next m e f
  by_stage (alone f g) = alone_got p before state bytes answer next lines f g r e
  by_stage (failed f g) = absurd (o g)
stage p _ _ (updated before u lines l w c e) = by_stage (stage p before Established l) where
  by_stage : Stage p before Established → Stage p lines Established
  by_stage (joined m f) = joined_more p before (Put (UpdateMsg u) ∷ []) lines Established m e f
  by_stage (alone f g) = absurd cc
  by_stage (failed f g) = absurd cc
stage p _ _ (passed before state round answer next lines l up h a r e) = by_stage (stage p before state l) where
  by_stage : Stage p before state → Stage p lines next
  by_stage (joined m f) = joined_more p before (Tick round ∷ answer) lines next m e f
  by_stage (alone f g) = let u = ap is_up (sym g) ∙ up in absurd cc
  by_stage (failed f g) = let u = ap is_up (sym g) ∙ up in absurd cc

up_joined : (p : Peering) (lines : List Line) (state : SessionState) → Stage p lines state → is_up state ≡ true → (more : List Line)
    → got_open p (lines ++ more) ≡ got_open p lines
up_joined p lines state (joined o f) up more = got_open-append p lines more o f ∙ sym f
up_joined p lines state (alone f g) up more = let u = ap is_up (sym g) ∙ up in absurd cc
up_joined p lines state (failed f g) up more = let u = ap is_up (sym g) ∙ up in absurd cc

-- the OPEN that was got stays
pub open_stays : (p : Peering) (lines more : List Line) (state : SessionState) → Allowed p lines state → is_up state ≡ true
    → got_open p (lines ++ more) ≡ got_open p lines
open_stays p lines more state l up = up_joined p lines state (stage p lines state l) up more

pub width_stays : (p : Peering) (lines more : List Line) (state : SessionState) → Allowed p lines state → is_up state ≡ true
    → is_wide p (lines ++ more) ≡ is_wide p lines
width_stays p lines more state l up = ap (both_offer p.first) (open_stays p lines more state l up)

pub hold_stays : (p : Peering) (lines more : List Line) (state : SessionState) → Allowed p lines state → is_up state ≡ true
    → hold p (lines ++ more) ≡ hold p lines
hold_stays p lines more state l up = ap (smaller_hold p.first) (open_stays p lines more state l up)

-- ---- octets

put_in_same : (w v : Bool) (line : Line) → PutsNoUpdate line → put_in w line ≡ put_in v line
unfolding spell
put_in_same w v (Put (OpenMsg _)) a = refl
put_in_same w v (Put (UpdateMsg _)) a = absurd a
put_in_same w v (Put (NoticeMsg _)) a = refl
put_in_same w v (Put KeepaliveMsg) a = refl
put_in_same w v (Got _) a = refl
put_in_same w v (Tick _) a = refl

puts_same : (w v : Bool) (lines : List Line) → AllByRecursion PutsNoUpdate lines → flat_map (put_in w) lines ≡ flat_map (put_in v) lines
puts_same w v [] a = refl
puts_same w v (line ∷ lines) a =
    ap (λ (x : List ℕ). x ++ flat_map (put_in w) lines) (put_in_same w v line a.0)
    ∙ ap (λ (x : List ℕ). put_in v line ++ x) (puts_same w v lines a.1)

front_same : (p : Peering) (lines more : List Line) (state : SessionState) → Stage p lines state
    → flat_map (put_in (is_wide p (lines ++ more))) lines ≡ put_bytes p lines
front_same p lines more state (joined o f) =
    ap (λ (x : Option open_type.OpenMsg). flat_map (put_in (both_offer p.first x)) lines) (got_open-append p lines more o f ∙ sym f)
front_same p lines more state (alone f g) = puts_same _ _ lines (subst (λ (x : List Line). AllByRecursion PutsNoUpdate x) (sym f) (tt, tt))
front_same p lines more state (failed f g) = puts_same _ _ lines f

pub put_grows : (p : Peering) (lines more : List Line) (state : SessionState) → Allowed p lines state
    → put_bytes p (lines ++ more) ≡ put_bytes p lines ++ flat_map (put_in (is_wide p (lines ++ more))) more
put_grows p lines more state l =
    flat_map-append (put_in (is_wide p (lines ++ more))) lines more
    ∙ ap (λ (x : List ℕ). x ++ flat_map (put_in (is_wide p (lines ++ more))) more) (front_same p lines more state (stage p lines state l))

pub got_grows : (lines more : List Line) → got_bytes (lines ++ more) ≡ got_bytes lines ++ got_bytes more
got_grows lines more = flat_map-append got_in lines more

-- ---- tables

pub while_open : (state : SessionState) → state ≢ Closed → (routes : Routes) → unless_closed state routes ≡ routes
while_open OpenSent o routes = refl
while_open OpenConfirm o routes = refl
while_open Established o routes = refl
while_open Closed o routes = absurd (o refl)

pub told_grows : (lines more : List Line) → state_of lines ≢ Closed → state_of (lines ++ more) ≢ Closed → told (lines ++ more) ≡ fold tell (told lines) more
told_grows lines more o q =
    while_open (state_of (lines ++ more)) q (fold tell map.empty (lines ++ more))
    ∙ (fold-append tell map.empty lines more
    ∙ ap (λ (x : Routes). fold tell x more) (sym (while_open (state_of lines) o (fold tell map.empty lines))))

heard_front : (p : Peering) (lines more : List Line) (state : SessionState) → Stage p lines state → state ≢ Closed
    → fold (hear (expected_next p (lines ++ more) Established)) map.empty lines ≡ fold (hear (expected_next p lines Established)) map.empty lines
heard_front p lines more state (joined o f) c = ap (λ (x : Option open_type.OpenMsg).
    fold (hear (record { state = Established; remote_as = p.remote_as; offered = offers p.first; wide = both_offer p.first x })) map.empty lines)
    (got_open-append p lines more o f ∙ sym f)
heard_front p lines more state (alone f g) c = only_open (expected_next p (lines ++ more) Established)
    ∙ sym (only_open (expected_next p lines Established)) where
      only_open : (e : Expected) → fold (hear e) map.empty lines ≡ map.empty
      only_open e = ap (λ (x : List Line). fold (hear e) map.empty x) f
heard_front p lines more state (failed f g) c = absurd (c g)

pub heard_grows : (p : Peering) (lines more : List Line) (state : SessionState) → state_of lines ≡ state → Allowed p lines state → state ≢ Closed
    → state_of (lines ++ more) ≢ Closed → heard p (lines ++ more) ≡ fold (hear (expected_next p (lines ++ more) Established)) (heard p lines) more
heard_grows p lines more state s l o q =
    let e : Expected = expected_next p (lines ++ more) Established in
    while_open (state_of (lines ++ more)) q (fold (hear e) map.empty (lines ++ more))
    ∙ (fold-append (hear e) map.empty lines more
    ∙ ap (λ (x : Routes). fold (hear e) x more) (heard_front p lines more state (stage p lines state l) o
    ∙ sym (while_open (state_of lines) (λ c. o (sym s ∙ c)) (fold (hear (expected_next p lines Established)) map.empty lines))))

pub none_told : (lines : List Line) → state_of lines ≡ Closed → told lines ≡ map.empty
none_told lines e = ap (λ (x : SessionState). unless_closed x (fold tell map.empty lines)) e

pub none_heard : (p : Peering) (lines : List Line) → state_of lines ≡ Closed → heard p lines ≡ map.empty
none_heard p lines e = ap (λ (x : SessionState). unless_closed x (fold (hear (expected_next p lines Established)) map.empty lines)) e
