-- The UPDATEs that a legal story puts, and what they change.
use Rattle.std.proofs.Common.{◌≡◌, ◌≢◌, ◌+◌, List, [], ◌∷◌, ◌++◌, Bool, true, false, cond, ◌||◌, Option}
use Rattle.std.proofs.Common.{Some, None, refl, sym, ap, ◌∙◌, ◌⊎◌, inl, inr, subst, arith}
use Rattle.std.specs.Prelude.{fold, Contains, IsSome}
use Rattle.std.specs.FinMap as map
use Rattle.std.specs.Cmp.{eq_by_cmp_equiv}
use Rattle.std.specs.List.{AllByRecursion, list_any}
use Rattle.std.specs.Ordering.{eq_by_cmp}
use Rattle.std.proofs.lemmas.Bool.{false≢true}
use Rattle.std.proofs.lemmas.List.{append-nil}
use Rattle.std.proofs.lemmas.List.Elements.{All-contains, Contains-append_left, Contains-append_right}
use Rattle.std.proofs.lemmas.List.Elements.{Contains-append_cases, Contains-push, Contains-push_cases}
use Rattle.bgp_types.specs.declared.attrs.Attrs.{Attrs}
use Rattle.bgp_types.specs.declared.message.Message.TheVariants.{UpdateMsg}
use Rattle.bgp_types.specs.declared.message.SessionState.{SessionState}
use Rattle.bgp_types.specs.declared.message.SessionState.TheVariants.{Established, Closed}
use Rattle.bgp_types.specs.declared.message.Update.{Update}
use Rattle.bgp_types.specs.Prefixes.{PrefixValue}
use Rattle.bgp_types.specs.Tables.{prefix_cmp}
use Rattle.bgp_types.specs.Writable.{HasAttrsFor}
use Rattle.bgp_types.proofs.TableLaws.{prefix_total, tied}
use Rattle.bgp_story.specs.declared.line.Line.{Line}
use Rattle.bgp_story.specs.declared.line.Line.TheVariants.{Put, Got, Tick}
use Rattle.bgp_story.specs.Legal.{Peering, opened, got, updated, passed, IsOneWay, is_wide, hold, silence}
use Rattle.bgp_story.specs.Readings.{Routes, IsLegal, ChangesTold, announce, apply, told}
use Rattle.bgp_story.specs.States.{state_of, after}
use Rattle.bgp_story.proofs.Grows.{PutsNoUpdate, answer_no_update, told_grows}
use Rattle.bgp_story.proofs.Shapes.{IsAnswer, all_weaken, got_answers, passed_answers, allowed_of}
use Rattle.bgp_story.proofs.Splits.{Cut, behind, ahead, cut_of, some_left}
use Rattle.bgp_story.proofs.StoryLaws.{state_is}
use Rattle.std.proofs.lemmas.List.Sums.{fold-append}

-- ---- where an UPDATE is put

-- what holds where an UPDATE is put after these lines
pub record PutUpdate (p : Peering) (lines : List Line) (u : Update) : Type 0 where
  pub legal : IsLegal p lines Established
  pub way : IsOneWay u (is_wide p lines)
  pub changes : ChangesTold lines u

none_put : (u : Update) (mid ys : List Line) → AllByRecursion PutsNoUpdate (mid ++ Put (UpdateMsg u) ∷ ys) → ⊥
none_put u [] ys a = a.0
none_put u (m ∷ mid) ys a = none_put u mid ys a.1

-- a step that puts no UPDATE
other_step : (p : Peering) (u : Update) (xs ys before step : List Line) → AllByRecursion PutsNoUpdate step
    → ((xs' ys' : List Line) → before ≡ xs' ++ Put (UpdateMsg u) ∷ ys' → PutUpdate p xs' u)
    → xs ++ Put (UpdateMsg u) ∷ ys ≡ before ++ step → PutUpdate p xs u
other_step p u xs ys before step none ih e = by_cut (cut_of xs (Put (UpdateMsg u) ∷ ys) before step e) where
  by_cut : Cut xs (Put (UpdateMsg u) ∷ ys) before step → PutUpdate p xs u
  by_cut (behind mid f g) = absurd (none_put u mid ys (subst (AllByRecursion PutsNoUpdate) g none))
  by_cut (ahead [] f g) = absurd (none_put u [] ys (subst (AllByRecursion PutsNoUpdate) (sym g) none))
  by_cut (ahead (m ∷ mid) f g) = let same : m ≡ Put (UpdateMsg u) = cc in ih xs mid (f ∙ ap (λ (x : Line). xs ++ x ∷ mid) same)

this_update : (p : Peering) (u v : Update) (xs before : List Line) → before ≡ xs → v ≡ u → PutUpdate p before v → PutUpdate p xs u
this_update p u v xs before e f k = subst (λ (x : List Line). PutUpdate p x u) e (subst (PutUpdate p before) f k)

update_step : (p : Peering) (u v : Update) (xs ys before : List Line) → PutUpdate p before v
    → ((xs' ys' : List Line) → before ≡ xs' ++ Put (UpdateMsg u) ∷ ys' → PutUpdate p xs' u)
    → xs ++ Put (UpdateMsg u) ∷ ys ≡ before ++ Put (UpdateMsg v) ∷ [] → PutUpdate p xs u
update_step p u v xs ys before k ih e = by_cut (cut_of xs (Put (UpdateMsg u) ∷ ys) before (Put (UpdateMsg v) ∷ []) e) where
  by_cut : Cut xs (Put (UpdateMsg u) ∷ ys) before (Put (UpdateMsg v) ∷ []) → PutUpdate p xs u
  by_cut (behind [] f g) = let same : v ≡ u = cc in this_update p u v xs before (sym (append-nil before) ∙ sym f) same k
  by_cut (behind (m ∷ mid) f g) = let h : ◌≡◌ {A = List Line} [] (mid ++ Put (UpdateMsg u) ∷ ys) = cc in absurd (some_left mid _ ys h)
  by_cut (ahead [] f g) = let same : v ≡ u = cc in this_update p u v xs before (f ∙ append-nil xs) same k
  by_cut (ahead (m ∷ mid) f g) = let same : m ≡ Put (UpdateMsg u) = cc in ih xs mid (f ∙ ap (λ (x : Line). xs ++ x ∷ mid) same)

no_update : (answer : List Line) → AllByRecursion IsAnswer answer → AllByRecursion PutsNoUpdate answer
no_update answer a = all_weaken IsAnswer PutsNoUpdate answer_no_update answer a

pub put_update : (p : Peering) (lines : List Line) (state : SessionState) → IsLegal p lines state → (u : Update) (xs ys : List Line)
    → lines ≡ xs ++ Put (UpdateMsg u) ∷ ys → PutUpdate p xs u
put_update p _ _ (opened lines h e) u xs ys f = absurd (none_put u xs ys (subst (AllByRecursion PutsNoUpdate) (sym e ∙ f) (tt, tt)))
put_update p _ _ (got before state bytes answer next lines l o w r e) u xs ys f =
    other_step p u xs ys before (Got bytes ∷ answer)
    (tt, no_update answer (got_answers p before state bytes answer next r)) (put_update p before state l u) (sym f ∙ e)
put_update p _ _ (updated before v lines l w c e) u xs ys f =
    update_step p u v xs ys before (record { legal = l; way = w; changes = c }) (put_update p before Established l u) (sym f ∙ e)
put_update p _ _ (passed before state round answer next lines l up h a r e) u xs ys f =
    other_step p u xs ys before (Tick round ∷ answer)
    (tt, no_update answer (passed_answers (hold p before) (silence before + 1) round state answer next r)) (put_update p before state l u) (sym f ∙ e)

-- ---- what is told after it

told_after : (p : Peering) (lines : List Line) (u : Update) → IsLegal p lines Established → told (lines ++ Put (UpdateMsg u) ∷ []) ≡ apply (told lines) u
told_after p lines u l =
    let s : state_of lines ≡ Established = state_is p lines Established (allowed_of p lines Established l) in
    let t : state_of (lines ++ Put (UpdateMsg u) ∷ []) ≡ Established = fold-append after _ lines (Put (UpdateMsg u) ∷ []) ∙ s in
    told_grows lines (Put (UpdateMsg u) ∷ []) (λ e. let x : Established ≡ Closed = sym s ∙ e in cc) (λ e. let x : Established ≡ Closed = sym t ∙ e in cc)

is_among : PrefixValue → List PrefixValue → Bool
is_among p xs = list_any (eq_by_cmp prefix_cmp p) xs

either : (t u : Bool) (new : Option Attrs) (old : Option Attrs) → cond u new (cond t new old) ≡ cond (t || u) new old
either true true new old = refl
either true false new old = refl
either false u new old = refl

get_announced : (a : Attrs) (xs : List PrefixValue) (routes : Routes) (p : PrefixValue)
    → map.get (fold (announce (Some a)) routes xs) p ≡ cond (is_among p xs) (Some a) (map.get routes p)
unfolding is_among
get_announced a [] routes p = refl
get_announced a (x ∷ xs) routes p =
    get_announced a xs (map.insert routes x a) p
    ∙ (ap (λ (o : Option Attrs). cond (is_among p xs) (Some a) o) (map.get-insert prefix_total routes x a p)
    ∙ either (eq_by_cmp prefix_cmp p x) (is_among p xs) (Some a) (map.get routes p))

get_removed : (xs : List PrefixValue) (routes : Routes) (p : PrefixValue) → map.get (fold map.remove routes xs) p ≡ cond (is_among p xs) None (map.get routes p)
unfolding is_among
get_removed [] routes p = refl
get_removed (x ∷ xs) routes p =
    get_removed xs (map.remove routes x) p
    ∙ (ap (λ (o : Option Attrs). cond (is_among p xs) None o) (map.get-remove prefix_total routes x p)
    ∙ either (eq_by_cmp prefix_cmp p x) (is_among p xs) None (map.get routes p))

first_of : (x : PrefixValue) (xs : List PrefixValue) → Contains (x ∷ xs) x
first_of x xs = Contains-append_left (x ∷ []) xs x (Contains-push [] x)

later_of : (x : PrefixValue) (xs : List PrefixValue) (p : PrefixValue) → Contains xs p → Contains (x ∷ xs) p
later_of x xs p c = Contains-append_right (x ∷ []) xs p c

none_of : (p : PrefixValue) → Contains {X = PrefixValue} [] p → ⊥
none_of p c = let l = c.1 in omega (arith, l)

cases_of : (x : PrefixValue) (xs : List PrefixValue) (p : PrefixValue) → Contains (x ∷ xs) p → (x ≡ p) ⊎ Contains xs p
cases_of x xs p c = by_cases (Contains-append_cases (x ∷ []) xs p c) where
  one : Contains {X = PrefixValue} [] p ⊎ (x ≡ p) → (x ≡ p) ⊎ Contains xs p
  one (inl n) = absurd (none_of p n)
  one (inr e) = inl e

  by_cases : Contains (x ∷ []) p ⊎ Contains xs p → (x ≡ p) ⊎ Contains xs p
  by_cases (inl h) = one (Contains-push_cases [] x p h)
  by_cases (inr h) = inr h

or_true : (t u : Bool) → u ≡ true → (t || u) ≡ true
or_true true u e = refl
or_true false u e = e

among : (p : PrefixValue) (xs : List PrefixValue) → Contains xs p → is_among p xs ≡ true
unfolding is_among
among p [] c = absurd (none_of p c)
among p (x ∷ xs) c = by_cases (among p xs) (cases_of x xs p c) where
  by_cases : (Contains xs p → is_among p xs ≡ true) → (x ≡ p) ⊎ Contains xs p → (eq_by_cmp prefix_cmp p x || is_among p xs) ≡ true
  by_cases ih (inl e) = ap (λ (t : Bool). t || is_among p xs) (ap (eq_by_cmp prefix_cmp p) e ∙ (eq_by_cmp_equiv prefix_total).refl p)
  by_cases ih (inr h) = or_true (eq_by_cmp prefix_cmp p x) (is_among p xs) (ih h)

is_there : (p : PrefixValue) (xs : List PrefixValue) → is_among p xs ≡ true → Contains xs p
unfolding is_among
is_there p [] e = absurd (false≢true e)
is_there p (x ∷ xs) e = by_test (is_there p xs) (eq_by_cmp prefix_cmp p x) refl e where
  by_test : (is_among p xs ≡ true → Contains xs p) → (t : Bool) → eq_by_cmp prefix_cmp p x ≡ t → (t || is_among p xs) ≡ true → Contains (x ∷ xs) p
  by_test ih true f g = subst (λ (q : PrefixValue). Contains (x ∷ xs) q) (sym (tied p x f)) (first_of x xs)
  by_test ih false f g = later_of x xs p (ih g)

not_among : (p : PrefixValue) (xs : List PrefixValue) → ¬ Contains xs p → is_among p xs ≡ false
not_among p xs n = by_test (is_among p xs) refl where
  by_test : (t : Bool) → is_among p xs ≡ t → t ≡ false
  by_test true e = absurd (n (is_there p xs e))
  by_test false e = refl

untouched : (attrs : Option Attrs) (xs : List PrefixValue) (routes : Routes) (p : PrefixValue) → is_among p xs ≡ false
    → map.get (fold (announce attrs) routes xs) p ≡ map.get routes p
untouched (Some a) xs routes p e = get_announced a xs routes p ∙ ap (λ (t : Bool). cond t (Some a) (map.get routes p)) e
untouched None [] routes p e = refl
untouched None (x ∷ xs) routes p e = none_told xs routes where
  none_told : (ys : List PrefixValue) (rs : Routes) → map.get (fold (announce None) rs ys) p ≡ map.get rs p
  none_told [] rs = refl
  none_told (y ∷ ys) rs = none_told ys rs

-- ---- the laws

pub announced_attrs : (attrs : Option Attrs) (nlri : List PrefixValue) (prefix : PrefixValue) → HasAttrsFor attrs nlri → Contains nlri prefix → IsSome attrs
announced_attrs None nlri prefix h c = absurd (none_of prefix (subst (λ (xs : List PrefixValue). Contains xs prefix) h c))
announced_attrs (Some a) nlri prefix h c = refl

apply_announced : (attrs : Option Attrs) (nlri : List PrefixValue) (routes : Routes) (prefix : PrefixValue) → HasAttrsFor attrs nlri
    → Contains nlri prefix → map.get (fold (announce attrs) routes nlri) prefix ≡ attrs
apply_announced None nlri routes prefix h c = absurd (none_of prefix (subst (λ (xs : List PrefixValue). Contains xs prefix) h c))
apply_announced (Some a) nlri routes prefix h c = get_announced a nlri routes prefix
    ∙ ap (λ (t : Bool). cond t (Some a) (map.get routes prefix)) (among prefix nlri c)

pub told_changes : (p : Peering) (lines : List Line) (u : Update) (prefix : PrefixValue) → PutUpdate p lines u
    → Contains (u.withdrawn ++ u.nlri) prefix → map.get (told (lines ++ Put (UpdateMsg u) ∷ [])) prefix ≢ map.get (told lines) prefix
told_changes p lines u prefix k c = λ e.
    All-contains (λ q. map.get (apply (told lines) u) q ≢ map.get (told lines) q) (u.withdrawn ++ u.nlri) prefix k.changes c
    (ap (λ (r : Routes). map.get r prefix) (sym (told_after p lines u k.legal)) ∙ e)

pub told_announced : (p : Peering) (lines : List Line) (u : Update) (prefix : PrefixValue) → PutUpdate p lines u → Contains u.nlri prefix
    → map.get (told (lines ++ Put (UpdateMsg u) ∷ [])) prefix ≡ u.attrs
told_announced p lines u prefix k c =
    ap (λ (r : Routes). map.get r prefix) (told_after p lines u k.legal)
    ∙ apply_announced u.attrs u.nlri (fold map.remove (told lines) u.withdrawn) prefix k.way.writable.body.attrs c

pub told_withdrawn : (p : Peering) (lines : List Line) (u : Update) (prefix : PrefixValue) → PutUpdate p lines u → Contains u.withdrawn prefix
    → map.get (told (lines ++ Put (UpdateMsg u) ∷ [])) prefix ≡ None
told_withdrawn p lines u prefix k c = ap (λ (r : Routes). map.get r prefix) (told_after p lines u k.legal) ∙ by_way k.way.one_way where
  by_way : ((u.withdrawn ≢ []) × (u.nlri ≡ [])) ⊎ ((u.withdrawn ≡ []) × (u.nlri ≢ [])) → map.get (apply (told lines) u) prefix ≡ None
  by_way (inl w) =
      ap (λ (xs : List PrefixValue). map.get (fold (announce u.attrs) (fold map.remove (told lines) u.withdrawn) xs) prefix) w.1
      ∙ (get_removed u.withdrawn (told lines) prefix ∙ ap (λ (t : Bool). cond t None (map.get (told lines) prefix)) (among prefix u.withdrawn c))
  by_way (inr w) = absurd (none_of prefix (subst (λ (xs : List PrefixValue). Contains xs prefix) w.0 c))

pub told_others : (p : Peering) (lines : List Line) (u : Update) (prefix : PrefixValue) → PutUpdate p lines u
    → ¬ Contains (u.withdrawn ++ u.nlri) prefix → map.get (told (lines ++ Put (UpdateMsg u) ∷ [])) prefix ≡ map.get (told lines) prefix
told_others p lines u prefix k n =
    ap (λ (r : Routes). map.get r prefix) (told_after p lines u k.legal)
    ∙ (untouched u.attrs u.nlri (fold map.remove (told lines) u.withdrawn) prefix
    (not_among prefix u.nlri (λ c. n (Contains-append_right u.withdrawn u.nlri prefix c)))
    ∙ (get_removed u.withdrawn (told lines) prefix
    ∙ ap (λ (t : Bool). cond t None (map.get (told lines) prefix)) (not_among prefix u.withdrawn (λ c. n (Contains-append_left u.withdrawn u.nlri prefix c)))))
