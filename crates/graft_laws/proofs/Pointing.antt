-- The link follows the landings, through every change.
use Rattle.std.proofs.Common.{◌≡◌, ◌==◌, cond, ℕ, ◌<◌, ◌≤◌, Bool, true, false, List, [], ◌∷◌, ◌++◌, Option}
use Rattle.std.proofs.Common.{Some, None, refl, sym, ap, ◌∙◌, subst, arith, inl, inr, ltb, max}
use Rattle.std.proofs.lemmas.Bool.Decides.{nat_tests}
use Rattle.std.proofs.lemmas.List.{append-nil}
use Rattle.std.specs.Prelude.{◌≢◌, ◌⊎◌, filter, slice_get, option_map, unwrap_or}
use Rattle.std.specs.List.{AllByRecursion}
use Rattle.std.proofs.lemmas.List.Elements.{filter-append}
use Rattle.tcp_seq.specs.Endpoint.{PlacedSegment}
use Rattle.session_value.specs.Sessions.{SessionValue, begun}
use Rattle.session_value.specs.declared.config.SessionConfig.{SessionConfig}
use Rattle.graft_model.specs.Setups.{Setup, PeeringSetup, IsSetup, peerings_in, config_of, start_of}
use Rattle.graft_model.specs.Parts.{FarPart, Outward, Seg, PointAt, World}
use Rattle.tcp_seq.specs.declared.segment.Way.{Way}
use Rattle.tcp_seq.specs.declared.segment.Way.TheVariants.{Home, Remote}
use Rattle.graft_model.specs.FarRows.{FarTaken, OutwardIn, SayIn, FarSent, link, with_link, without}
use Rattle.graft_model.specs.First.{first_world, first_far}
use Rattle.graft_model.specs.declared.event.FarEvent.{FarEvent}
use Rattle.graft_model.specs.declared.event.FarEvent.TheVariants.{Say, Send, Take, Pass, Reach, Lose, Point, Beat}
use Rattle.graft_model.specs.Steps.{far_row}
use Rattle.graft_laws.specs.Phases.{Stage, Moving, Landed, Asking, Confirmed, Cleared, Phase, Idle, Busy, only_at, only2}
use Rattle.graft_laws.specs.Log.{is_graft_on}
use Rattle.graft_laws.specs.Owned.{Stands}
use Rattle.graft_laws.specs.Moves.{FarMoves, outward_taken}
use Rattle.graft_laws.specs.Life.{Acts, SameLine, LineGets, LineGives, LineSays, Change, Rests, Lands, Asks, Counts, Confirms, Clears}
use Rattle.graft_laws.specs.Life.{NotesSuccess, Puts, Emits, Arrives, Gets, Ticks, Strays, IsToSay, FarActs, GraftMove, Grafts}
use Rattle.graft_laws.specs.Keeps.{Reached, Has}
use Rattle.graft_laws.specs.Pointing.{home_of, IsUpTo, IsBelowLast, is_word_of, IsPast, HasLandedLast, WordOf, Words, Points}
use Rattle.graft_laws.proofs.Lists.{all_map, all_join, all_back, all_head, filter_none, append_same}
use Rattle.graft_laws.proofs.Logs.{own_known}
use Rattle.graft_laws.proofs.Following.{own_head, at_here, none_only2}
use Rattle.graft_laws.proofs.Deeds.{equal_or_not}
use Rattle.graft_laws.proofs.Grafts.{equal}
use Rattle.graft_laws.proofs.Growth.{LogGrows, log_grows, past_below, idle_ended, above_zero}
use Rattle.graft_laws.proofs.Runs.{always_has_along}

-- ---- the last landing

module _ (setup : Setup) (w v : World) (p : ℕ) (grows : LogGrows w.operator v.operator) where
  past_still : (last : ℕ) → IsPast setup w p last → IsPast setup v p last
  past_still last (inl zero) = inl zero
  past_still last (inr past) = inr (past.0, grows.outcome last past.1)

  landed_still : (phase : Phase) (last : ℕ) → HasLandedLast setup w p phase last → HasLandedLast setup v p phase last
  landed_still (Busy q k t (Landed n)) last is = is
  landed_still (Busy q k t (Asking n)) last is = is
  landed_still (Busy q k t Confirmed) last is = is
  landed_still (Busy q k t Cleared) last is = is
  landed_still _ last past = past_still last past

-- a graft that is under way comes after the last that landed
below_graft : (setup : Setup) (w : World) (p q k t last : ℕ) (stage : Stage) (s : SessionValue) → Stands setup w p (Busy q k t stage) s
    → IsPast setup w p last → last < k
below_graft setup w p q k t last stage s b (inl zero) = subst (λ (x : ℕ). x < k) (sym zero) (above_zero setup p k (own_known setup p k b.log.goes_on.known))
below_graft setup w p q k t last stage s b (inr past) = past_below setup w.operator p q k t last stage b.log past.0 past.1

-- a graft that succeeded has its outcome once it is noted
landed_ended : (setup : Setup) (w v : World) (p q k t r : ℕ) (stage : Stage) (s u : SessionValue) → LogGrows w.operator v.operator
    → Stands setup w p (Busy q k t stage) s → Stands setup v p (Idle r) u → IsPast setup v p k
landed_ended setup w v p q k t r stage s u grows b then =
    let own : is_graft_on setup p k ≡ true = own_known setup p k b.log.goes_on.known in
    inr (own, idle_ended setup v.operator p r k then.log own (grows.source k (λ none. (let e : Some q ≡ None = sym b.log.goes_on.ordered ∙ none in absurd cc))))

-- ---- words, where the router sends none

words_same : (w v : World) (p home last : ℕ) → (v.far p).pointer ≡ (w.far p).pointer → (v.far p).followed ≡ (w.far p).followed
    → ((r : ℕ) → v.outward r p ≡ w.outward r p) → Words w p home last → Words v p home last
words_same w v p home last pointer followed outward words = record {
  all = λ r. subst (λ (x : List Outward). AllByRecursion (IsUpTo last) x) (sym (outward r)) (words.all r);
  elsewhere = λ r ne. subst (λ (x : List Outward). AllByRecursion (IsBelowLast last) x) (sym (outward r)) (words.elsewhere r ne);
  word = by_word words.word;
} where
  by_word : WordOf last home (w.far p) (w.outward home p) → WordOf last home (v.far p) (v.outward home p)
  by_word (inl on_way) = inl (ap (filter (is_word_of last)) (outward home) ∙ on_way.0, subst (λ (x : ℕ). x < last) (sym followed) on_way.1)
  by_word (inr there) = inr (ap (filter (is_word_of last)) (outward home) ∙ there.0, pointer ∙ there.1, followed ∙ there.2)

pub line_words : (w v : World) (p home last : ℕ) → SameLine p w v → Words w p home last → Words v p home last
line_words w v p home last line words =
    words_same w v p home last (ap (λ (x : FarPart). x.pointer) line.far) (ap (λ (x : FarPart). x.followed) line.far) line.outward words

gives : (w v : World) (p r home last : ℕ) (segment : PlacedSegment) → LineGives p r segment w v → Words w p home last → Words v p home last
gives w v p r home last segment line words =
    words_same w v p home last (ap (λ (x : FarPart). x.pointer) line.far) (ap (λ (x : FarPart). x.followed) line.far) line.outward words

says : (w v : World) (p step home last : ℕ) → LineSays p step w v → Words w p home last → Words v p home last
says w v p step home last line words =
    words_same w v p home last (ap (λ (x : FarPart). x.pointer) line.far) (ap (λ (x : FarPart). x.followed) line.far) line.outward words

-- ---- a segment goes to the far side

only_all : {A : Type 0} (P : A → Type 0) (m n : ℕ) (item : A) → P item → AllByRecursion P (only_at m item n)
only_all P m n item here = by_test (n == m) where
  by_test : (b : Bool) → AllByRecursion P (cond b (item ∷ []) [])
  by_test true = (here, tt)
  by_test false = tt

filter_only : {A : Type 0} (test : A → Bool) (items : List A) (m n : ℕ) (item : A) → test item ≡ false
    → filter test (items ++ only_at m item n) ≡ filter test items
filter_only test items m n item e = filter-append test items (only_at m item n)
    ∙ (ap (λ (x : List _). filter test items ++ x) (none (n == m)) ∙ append-nil (filter test items)) where
      none : (b : Bool) → filter test (cond b (item ∷ []) []) ≡ []
      none true = ap (λ b. cond b (item ∷ []) []) e
      none false = refl

segment_words : (w v : World) (p r home last : ℕ) (segment : PlacedSegment) → LineGets p r (Seg segment) w v → Words w p home last → Words v p home last
segment_words w v p r home last segment line words = record {
  all = λ x. subst (λ (y : List Outward). AllByRecursion (IsUpTo last) y) (sym (line.outward x))
      (all_join (IsUpTo last) (w.outward x p) (only_at r (Seg segment) x) (words.all x) (only_all (IsUpTo last) r x (Seg segment) tt));
  elsewhere = λ x ne. subst (λ (y : List Outward). AllByRecursion (IsBelowLast last) y) (sym (line.outward x))
      (all_join (IsBelowLast last) (w.outward x p) (only_at r (Seg segment) x) (words.elsewhere x ne) (only_all (IsBelowLast last) r x (Seg segment) tt));
  word = by_word words.word;
} where
  found : filter (is_word_of last) (v.outward home p) ≡ filter (is_word_of last) (w.outward home p)
  found = ap (filter (is_word_of last)) (line.outward home) ∙ filter_only (is_word_of last) (w.outward home p) r home (Seg segment) refl

  by_word : WordOf last home (w.far p) (w.outward home p) → WordOf last home (v.far p) (v.outward home p)
  by_word (inl on_way) = inl (found ∙ on_way.0, subst (λ (x : FarPart). x.followed < last) (sym line.far) on_way.1)
  by_word (inr there) = inr (found ∙ there.0, ap (λ (x : FarPart). x.pointer) line.far ∙ there.1, ap (λ (x : FarPart). x.followed) line.far ∙ there.2)

-- ---- a session lands

up_to_later : (last k : ℕ) → last < k → (item : Outward) → IsUpTo last item → IsUpTo k item
up_to_later last k l (Seg segment) is = tt
up_to_later last k l (PointAt j) is = omega arith

up_to_below : (last k : ℕ) → last < k → (item : Outward) → IsUpTo last item → IsBelowLast k item
up_to_below last k l (Seg segment) is = tt
up_to_below last k l (PointAt j) is = omega arith

not_word : (k : ℕ) (item : Outward) → IsBelowLast k item → is_word_of k item ≡ false
not_word k (Seg segment) is = refl
not_word k (PointAt j) is = grind (arith, nat_tests)

none_found : (k : ℕ) (items : List Outward) → AllByRecursion (IsBelowLast k) items → filter (is_word_of k) items ≡ []
none_found k items all = filter_none (is_word_of k) items (all_map (IsBelowLast k) (λ (x : Outward). is_word_of k x ≡ false) items (not_word k) all)

followed_up_to : (last home : ℕ) (far : FarPart) (items : List Outward) → WordOf last home far items → far.followed ≤ last
followed_up_to last home far items (inl on_way) = omega (arith, on_way.1)
followed_up_to last home far items (inr there) = omega (arith, there.2)

landing_words : (w v : World) (p home last k t : ℕ) → last < k → LineGets p t (PointAt k) w v → Words w p home last → Words v p t k
landing_words w v p home last k t l line words = record {
  all = λ x. subst (λ (y : List Outward). AllByRecursion (IsUpTo k) y) (sym (line.outward x))
      (all_join (IsUpTo k) (w.outward x p) (only_at t (PointAt k) x)
      (all_map (IsUpTo last) (IsUpTo k) (w.outward x p) (up_to_later last k l) (words.all x)) (only_all (IsUpTo k) t x (PointAt k) (omega arith)));
  elsewhere = λ x ne. subst (λ (y : List Outward). AllByRecursion (IsBelowLast k) y)
      (sym (line.outward x ∙ (ap (λ (y : List Outward). w.outward x p ++ y) (none x ne) ∙ append-nil (w.outward x p)))) (below x);
  word = inl (
    ap (filter (is_word_of k)) (line.outward t) ∙ (filter-append (is_word_of k) (w.outward t p) (only_at t (PointAt k) t)
        ∙ (ap (λ (y : List Outward). y ++ filter (is_word_of k) (only_at t (PointAt k) t)) (none_found k (w.outward t p) (below t)) ∙ own)),
    subst (λ (x : FarPart). x.followed < k) (sym line.far) (lower (followed_up_to last home (w.far p) (w.outward home p) words.word)),
  );
} where
  below : (x : ℕ) → AllByRecursion (IsBelowLast k) (w.outward x p)
  below x = all_map (IsUpTo last) (IsBelowLast k) (w.outward x p) (up_to_below last k l) (words.all x)

  none : (x : ℕ) → x ≢ t → only_at t (PointAt k) x ≡ []
  none x ne = ap (λ b. cond b (PointAt k ∷ []) []) (let e : (x == t) ≡ false = grind (arith, nat_tests) in e)

  own : filter (is_word_of k) (only_at t (PointAt k) t) ≡ PointAt k ∷ []
  own = ap (λ b. filter (is_word_of k) (cond b (PointAt k ∷ []) [])) (equal t) ∙ ap (λ b. cond b (PointAt k ∷ []) []) (equal k)

  lower : (w.far p).followed ≤ last → (w.far p).followed < k
  lower m = omega arith

-- ---- the far side acts

-- it takes an item that is no word of a landing, or none, and its link stays
module _ (w v : World) (p home last : ℕ) (taken : Option FarTaken) (sent : List FarSent) (part : FarPart) (m : FarMoves p taken sent part w v) where
  far_is : v.far p ≡ part
  far_is = ap (λ (f : ℕ → FarPart). f p) m.far ∙ at_here w.far p part

  no_point : part.pointer ≡ (w.far p).pointer → part.followed ≡ (w.far p).followed → ((r : ℕ) → outward_taken p taken r p ≡ []) → Words w p home last
      → Words v p home last
  no_point pointer followed none words =
      words_same w v p home last (ap (λ (x : FarPart). x.pointer) far_is ∙ pointer) (ap (λ (x : FarPart). x.followed) far_is ∙ followed)
      (λ r. ap (λ (x : List Outward). x ++ v.outward r p) (sym (none r)) ∙ m.outward r p) words

  -- what is left of a channel has what all of it had
  left_all : (P : Outward → Type 0) (r : ℕ) → AllByRecursion P (w.outward r p) → AllByRecursion P (v.outward r p)
  left_all P r all = all_back P (outward_taken p taken r p) (v.outward r p) (subst (λ (x : List Outward). AllByRecursion P x) (sym (m.outward r p)) all)

  left_found : (r : ℕ)
      → filter (is_word_of last) (outward_taken p taken r p) ++ filter (is_word_of last) (v.outward r p) ≡ filter (is_word_of last) (w.outward r p)
  left_found r = sym (filter-append (is_word_of last) (outward_taken p taken r p) (v.outward r p)) ∙ ap (filter (is_word_of last)) (m.outward r p)

  taken_words : ((r : ℕ) → filter (is_word_of last) (outward_taken p taken r p) ≡ []) → part.pointer ≡ (w.far p).pointer
      → part.followed ≡ (w.far p).followed → Words w p home last → Words v p home last
  taken_words none pointer followed words = record {
    all = λ r. left_all (IsUpTo last) r (words.all r);
    elsewhere = λ r ne. left_all (IsBelowLast last) r (words.elsewhere r ne);
    word = by_word words.word;
  } where
    found : filter (is_word_of last) (v.outward home p) ≡ filter (is_word_of last) (w.outward home p)
    found = ap (λ (x : List Outward). x ++ filter (is_word_of last) (v.outward home p)) (sym (none home)) ∙ left_found home

    by_word : WordOf last home (w.far p) (w.outward home p) → WordOf last home (v.far p) (v.outward home p)
    by_word (inl on_way) = inl (found ∙ on_way.0, subst (λ (x : ℕ). x < last) (sym (ap (λ (x : FarPart). x.followed) far_is ∙ followed)) on_way.1)
    by_word (inr there) =
        inr (found ∙ there.0, ap (λ (x : FarPart). x.pointer) far_is ∙ (pointer ∙ there.1), ap (λ (x : FarPart). x.followed) far_is ∙ (followed ∙ there.2))

-- a word of a landing is followed, where it is of a later graft than the last that was followed
module _ (w v : World) (p home last r k : ℕ) (sent : List FarSent) (part : FarPart) (m : FarMoves p (Some (OutwardIn r (PointAt k))) sent part w v)
    (effect : part ≡ record (w.far p) { pointer = cond (ltb (w.far p).followed k) r (w.far p).pointer; followed = max (w.far p).followed k })
    (words : Words w p home last) where
  followed_far : (v.far p).followed ≡ max (w.far p).followed k
  followed_far = ap (λ (x : FarPart). x.followed) (far_is w v p home last (Some (OutwardIn r (PointAt k))) sent part m ∙ effect)

  pointer_far : (v.far p).pointer ≡ cond (ltb (w.far p).followed k) r (w.far p).pointer
  pointer_far = ap (λ (x : FarPart). x.pointer) (far_is w v p home last (Some (OutwardIn r (PointAt k))) sent part m ∙ effect)

  up_to : k ≤ last
  up_to = all_head (IsUpTo last) (w.outward r p) m.heads.rest (PointAt k) m.heads.is (words.all r)

  own_channel : r ≢ home → k < last
  own_channel ne = all_head (IsBelowLast last) (w.outward r p) m.heads.rest (PointAt k) m.heads.is (words.elsewhere r ne)

  -- a word of an earlier graft is none of the last
  not_last : k < last → (x : ℕ) → filter (is_word_of last) (only2 r p (PointAt k) x p) ≡ []
  not_last l x = by_tests (x == r) (p == p) where
    no : (k == last) ≡ false
    no = grind (arith, nat_tests)

    by_tests : (a b : Bool) → filter (is_word_of last) (cond a (cond b (PointAt k ∷ []) []) []) ≡ []
    by_tests true true = ap (λ b. cond b (PointAt k ∷ []) []) no
    by_tests true false = refl
    by_tests false b = refl

  earlier_found : k < last → filter (is_word_of last) (v.outward home p) ≡ filter (is_word_of last) (w.outward home p)
  earlier_found l = ap (λ (x : List Outward). x ++ filter (is_word_of last) (v.outward home p)) (sym (not_last l home))
      ∙ left_found w v p home last (Some (OutwardIn r (PointAt k))) sent part m home

  earlier_word : k < last → WordOf last home (w.far p) (w.outward home p) → WordOf last home (v.far p) (v.outward home p)
  earlier_word l (inl on_way) = inl (earlier_found l ∙ on_way.0, subst (λ (x : ℕ). x < last) (sym followed_far) (both (w.far p).followed on_way.1)) where
    both : (f : ℕ) → f < last → max f k < last
    both f b = grind (arith, nat_tests)
  earlier_word l (inr there) =
      inr (earlier_found l ∙ there.0, pointer_far ∙ (stays (w.far p).followed there.2 ∙ there.1), followed_far ∙ most (w.far p).followed there.2)
    where
      stays : (f : ℕ) → f ≡ last → cond (ltb f k) r (w.far p).pointer ≡ (w.far p).pointer
      stays f e = ap (λ b. cond b r (w.far p).pointer) (let g : ltb f k ≡ false = grind (arith, nat_tests) in g)

      most : (f : ℕ) → f ≡ last → max f k ≡ last
      most f e = grind (arith, nat_tests)

  -- the word of the last graft is the one that is on its way
  last_word : k ≡ last → r ≡ home → WordOf last home (w.far p) (w.outward home p) → WordOf last home (v.far p) (v.outward home p)
  last_word is here word =
      let own : is_word_of last (PointAt k) ≡ true = grind (arith, nat_tests) in
      let head : PointAt k ∷ filter (is_word_of last) m.heads.rest ≡ filter (is_word_of last) (w.outward r p) =
      own_head (is_word_of last) (w.outward r p) m.heads.rest (PointAt k) m.heads.is own in
      by_word (head ∙ ap (λ (x : ℕ). filter (is_word_of last) (w.outward x p)) here) word
    where
      took : filter (is_word_of last) (only2 r p (PointAt k) home p) ≡ PointAt last ∷ []
      took = ap (λ (b : Bool). filter (is_word_of last) (cond b (cond (p == p) (PointAt k ∷ []) []) []))
          (let e : (home == r) ≡ true = grind (arith, nat_tests) in e)
          ∙ (ap (λ (b : Bool). filter (is_word_of last) (cond b (PointAt k ∷ []) [])) (equal p)
          ∙ (ap (λ b. cond b (PointAt k ∷ []) []) (let e : (k == last) ≡ true = grind (arith, nat_tests) in e) ∙ ap (λ (x : ℕ). PointAt x ∷ []) is))

      left : PointAt last ∷ filter (is_word_of last) (v.outward home p) ≡ filter (is_word_of last) (w.outward home p)
      left = ap (λ (x : List Outward). x ++ filter (is_word_of last) (v.outward home p)) (sym took)
          ∙ left_found w v p home last (Some (OutwardIn r (PointAt k))) sent part m home

      turned : (f : ℕ) → f < last → cond (ltb f k) r (w.far p).pointer ≡ home
      turned f l = ap (λ b. cond b r (w.far p).pointer) (let g : ltb f k ≡ true = grind (arith, nat_tests) in g) ∙ here

      most : (f : ℕ) → f < last → max f k ≡ last
      most f l = grind (arith, nat_tests)

      by_word : PointAt k ∷ filter (is_word_of last) m.heads.rest ≡ filter (is_word_of last) (w.outward home p)
          → WordOf last home (w.far p) (w.outward home p) → WordOf last home (v.far p) (v.outward home p)
      by_word head (inl on_way) = inr (
        append_same (PointAt last ∷ []) (filter (is_word_of last) (v.outward home p)) [] (left ∙ on_way.0),
        pointer_far ∙ turned (w.far p).followed on_way.1,
        followed_far ∙ most (w.far p).followed on_way.1,
      )
      by_word head (inr there) = absurd (let e : PointAt k ∷ filter (is_word_of last) m.heads.rest ≡ [] = head ∙ there.0 in cc)

  point_words : Words v p home last
  point_words = record {
    all = λ x. left_all w v p home last (Some (OutwardIn r (PointAt k))) sent part m (IsUpTo last) x (words.all x);
    elsewhere = λ x ne. left_all w v p home last (Some (OutwardIn r (PointAt k))) sent part m (IsBelowLast last) x (words.elsewhere x ne);
    word = by_number (equal_or_not k last);
  } where
    by_number : (k ≡ last) ⊎ (k ≢ last) → WordOf last home (v.far p) (v.outward home p)
    by_number (inr ne) = earlier_word (omega (arith, up_to)) words.word
    by_number (inl is) = last_word is (by_place (equal_or_not r home)) words.word where
      by_place : (r ≡ home) ⊎ (r ≢ home) → r ≡ home
      by_place (inl here) = here
      by_place (inr ne) = absurd (let l : k < last = own_channel ne in omega arith)

-- the far side's moves, with its item known
far_as : (w v : World) (p : ℕ) (taken known : Option FarTaken) (sent : List FarSent) (part : FarPart) → taken ≡ known
    → FarMoves p taken sent part w v → FarMoves p known sent part w v
far_as w v p taken known sent part e m = subst (λ (x : Option FarTaken). FarMoves p x sent part w v) e m

lose_stays : (before part : FarPart) (way : Way) (index : ℕ) → part ≡ with_link before way (without index (link before way))
    → (part.pointer ≡ before.pointer) × (part.followed ≡ before.followed)
lose_stays before part Home index e = (ap (λ (x : FarPart). x.pointer) e, ap (λ (x : FarPart). x.followed) e)
lose_stays before part Remote index e = (ap (λ (x : FarPart). x.pointer) e, ap (λ (x : FarPart). x.followed) e)

far_words : (setup : Setup) (w v : World) (p home last : ℕ) (event : FarEvent) (taken : Option FarTaken) (sent : List FarSent) (part : FarPart)
    → far_row setup p event (w.far p) taken sent part → FarMoves p taken sent part w v
    → Words w p home last → Words v p home last
far_words setup w v p home last (Say step) taken sent part row m =
    no_point w v p home last (Some (SayIn step)) sent part (far_as w v p taken (Some (SayIn step)) sent part row.takes m)
    (ap (λ (x : FarPart). x.pointer) row.effect) (ap (λ (x : FarPart). x.followed) row.effect) (λ r. refl)
far_words setup w v p home last (Send from len) taken sent part row m =
    no_point w v p home last None sent part (far_as w v p taken None sent part row.takes m)
    (ap (λ (x : FarPart). x.pointer) row.effect) (ap (λ (x : FarPart). x.followed) row.effect) (λ r. refl)
far_words setup w v p home last (Pass index keep r) taken sent part row m =
    no_point w v p home last None sent part (far_as w v p taken None sent part row.takes m)
    (ap (λ (x : FarPart). x.pointer) row.effect) (ap (λ (x : FarPart). x.followed) row.effect) (λ r. refl)
far_words setup w v p home last (Reach index keep) taken sent part row m =
    no_point w v p home last None sent part (far_as w v p taken None sent part row.takes m)
    (ap (λ (x : FarPart). x.pointer) row.effect) (ap (λ (x : FarPart). x.followed) row.effect) (λ r. refl)
far_words setup w v p home last (Lose way index) taken sent part row m =
    let s = lose_stays (w.far p) part way index row.effect in
    no_point w v p home last None sent part (far_as w v p taken None sent part row.takes m) s.0 s.1 (λ r. refl)
far_words setup w v p home last (Beat round) taken sent part row m =
    no_point w v p home last None sent part (far_as w v p taken None sent part row.takes m)
    (ap (λ (x : FarPart). x.pointer) row.effect) (ap (λ (x : FarPart). x.followed) row.effect) (λ r. refl)
far_words setup w v p home last (Take router) taken sent part row m =
    taken_words w v p home last (Some (OutwardIn router (Seg row.segment))) sent part
    (far_as w v p taken (Some (OutwardIn router (Seg row.segment))) sent part row.takes m)
    (λ r. none_only2 (is_word_of last) (Seg row.segment) router p r p refl) (ap (λ (x : FarPart). x.pointer) row.effect)
    (ap (λ (x : FarPart). x.followed) row.effect)
far_words setup w v p home last (Point router) taken sent part row m =
    point_words w v p home last router row.graft sent part (far_as w v p taken (Some (OutwardIn router (PointAt row.graft))) sent part row.takes m) row.effect

-- ---- every change

same_home : {setup : Setup} {w : World} {phase next : Phase} {s : SessionValue} → GraftMove setup w phase s next → home_of next ≡ home_of phase
same_home Asks = refl
same_home Counts = refl
same_home Confirms = refl
same_home _ = refl

module _ (setup : Setup) (w v : World) (p : ℕ) (grows : LogGrows w.operator v.operator) where
  landed_on : (phase next : Phase) (s : SessionValue) → GraftMove setup w phase s next → (last : ℕ) → Stands setup w p phase s → Stands setup v p next s
      → HasLandedLast setup w p phase last → HasLandedLast setup v p next last
  landed_on _ _ _ Asks last b then is = is
  landed_on _ _ _ Counts last b then is = is
  landed_on _ _ _ Confirms last b then is = is
  landed_on _ _ s (NotesSuccess {q = q} {k = k} {t = t}) last b then is =
      subst (IsPast setup v p) (sym is) (landed_ended setup w v p q k t t Cleared s s grows b then)
  landed_on _ _ _ _ last b then past = past_still setup w v p grows last past

  same_phase : {s t : SessionValue} (phase : Phase) (i : Points setup w p phase s) → Words v p (home_of phase) i.last → Points setup v p phase t
  same_phase phase i words = record { last = i.last; landed = landed_still setup w v p grows phase i.last i.landed; words = words }

  points_then : (phase next : Phase) (s t : SessionValue) → Stands setup w p phase s → Stands setup v p next t → Change setup w v p phase s next t
      → Points setup w p phase s → Points setup v p next t
  points_then _ _ _ _ b then (Rests {phase = phase} line entries) i = same_phase phase i (line_words w v p (home_of phase) i.last line i.words)
  points_then phase next s _ b then (Grafts move line entries) i = record {
    last = i.last;
    landed = landed_on phase next s move i.last b then i.landed;
    words = subst (λ (home : ℕ). Words v p home i.last) (sym (same_home move)) (line_words w v p (home_of phase) i.last line i.words);
  }
  points_then _ _ _ _ b then (Lands {q = q} {k = k} {t = t} {s = s} admitted line entries) i =
      record { last = k; landed = refl; words = landing_words w v p q i.last k t (below_graft setup w p q k t i.last Moving s b i.landed) line i.words }
  points_then _ _ _ _ b then (Clears line entries) i = record { last = i.last; landed = i.landed; words = line_words w v p _ i.last line i.words }
  points_then _ _ _ _ b then (Acts {phase = phase} r errand there (Puts update puts told line entries)) i =
      same_phase phase i (line_words w v p (home_of phase) i.last line i.words)
  points_then _ _ _ _ b then (Acts {phase = phase} r errand there (Emits from len segment end emits line entries)) i =
      same_phase phase i (segment_words w v p r (home_of phase) i.last segment line i.words)
  points_then _ _ _ _ b then (Acts {phase = phase} r errand there (Arrives segment end takes line entries)) i =
      same_phase phase i (gives w v p r (home_of phase) i.last segment line i.words)
  points_then _ _ _ _ b then (Acts {phase = phase} r errand there (Gets bytes gets line entries)) i =
      same_phase phase i (line_words w v p (home_of phase) i.last line i.words)
  points_then _ _ _ _ b then (Acts {phase = phase} r errand there (Ticks round passes line entries)) i =
      same_phase phase i (line_words w v p (home_of phase) i.last line i.words)
  points_then _ _ _ _ b then (Strays {phase = phase} r segment line entries) i = same_phase phase i (gives w v p r (home_of phase) i.last segment line i.words)
  points_then _ _ _ _ b then (IsToSay {phase = phase} step line entries) i = same_phase phase i (says w v p step (home_of phase) i.last line i.words)
  points_then _ _ _ _ b then (FarActs {phase = phase} event taken sent part row m entries) i =
      same_phase phase i (far_words setup w v p (home_of phase) i.last event taken sent part row m i.words)

-- ---- every run

first_points : (setup : Setup) (p : ℕ) (config : SessionConfig) → config_of setup p ≡ Some config
    → Points setup (first_world setup) p (Idle (start_of setup p)) (begun config)
first_points setup p config is = record {
  last = 0;
  landed = inl refl;
  words = record { all = λ r. tt; elsewhere = λ r ne. tt; word = inr (refl, pointer (slice_get setup.peerings p) is, followed (slice_get setup.peerings p)) };
} where
  pointer : (o : Option PeeringSetup) → option_map (λ (x : PeeringSetup). x.config) o ≡ Some config
      → (first_far o).pointer ≡ unwrap_or (option_map (λ (x : PeeringSetup). x.start) o) 0
  pointer None e = refl
  pointer (Some peering) e = refl

  followed : (o : Option PeeringSetup) → (first_far o).followed ≡ 0
  followed None = refl
  followed (Some peering) = refl

pub always_points : (setup : Setup) → IsSetup setup → (w : World) → Reached setup w → (p : ℕ) → p < peerings_in setup → Has setup (Points setup) w p
always_points setup ok = always_has_along setup (Points setup) ok (first_points setup)
    (λ event before after p phase next s t reached step l stands then change i.
    points_then setup before after p (log_grows setup event before after step) phase next s t stands then change i)

-- Where nothing is on its way to the far side, and no graft is under way, the link points to the router of the session.
pub linked : (setup : Setup) (w : World) (p q : ℕ) (s : SessionValue) → Points setup w p (Idle q) s → w.outward q p ≡ [] → (w.far p).pointer ≡ q
linked setup w p q s i none = by_word i.words.word where
  by_word : WordOf i.last q (w.far p) (w.outward q p) → (w.far p).pointer ≡ q
  by_word (inl on_way) = absurd (let e : [] ≡ PointAt i.last ∷ [] = ap (filter (is_word_of i.last)) (sym none) ∙ on_way.0 in cc)
  by_word (inr there) = there.1
