-- An UPDATE that isn't the next one, and the conditions of its row that are true.
use Rattle.std.proofs.Common.{◌≡◌, ◌≢◌, ◌⊎◌, ℕ, ◌&&◌, not, cond, Bool, true, false, List, [], ◌∷◌, ◌++◌, length}
use Rattle.std.proofs.Common.{Option, Some, None, is_some, refl, sym, ap, ◌∙◌, subst, inl, inr, lit<}
use Rattle.std.specs.List.{AllByRecursion, list_any}
use Rattle.std.specs.List.Sorted.{IsStrictlySortedBy}
use Rattle.std.specs.Ordering.{eq_by_cmp, is_lt}
use Rattle.std.specs.declared.cmp.Ordering.{Ordering}
use Rattle.std.specs.declared.cmp.Ordering.TheVariants.{Less, Equal}
use Rattle.std.specs.FinMap as map
use Rattle.std.proofs.lemmas.List.Elements.{All-cons, All-nil, All-contains, Contains-append_left, recursion_from_All}
use Rattle.std.proofs.lemmas.Map.Views.{Contains-from_any}
use Rattle.std.proofs.lemmas.Option.{same_Some}
use Rattle.bgp_types.specs.declared.attrs.Attrs.{Attrs}
use Rattle.bgp_types.specs.declared.path.PathPart.{PathPart}
use Rattle.bgp_types.specs.declared.path.PathPart.TheVariants.{Sequence}
use Rattle.bgp_types.specs.PathOctets.{path_octets}
use Rattle.bgp_types.specs.Prefixes.{PrefixValue, same_prefix}
use Rattle.bgp_types.specs.Spelling.{spell, spell_attrs, attrs_written}
use Rattle.bgp_types.specs.Tables.{prefix_cmp}
use Rattle.bgp_types.proofs.OnceLaws.{is_same}
use Rattle.bgp_types.proofs.TableLaws.{prefix_total, tied}
use Rattle.bgp_story.specs.WorkedSessions.{ten, attrs_over}
use Rattle.route_policy.specs.Telling.{tell_out}
use Rattle.session_value.specs.Sessions.{SessionValue}
use Rattle.session_value.specs.Sets.{has}
use Rattle.graft_model.specs.Decisions.{to_tell, out_side}
use Rattle.graft_model.specs.Sets.{Lists}
use Rattle.graft_model.specs.Setups.{Setup}
use Rattle.graft_model.specs.Parts.{Vacant, Live, RouterPart}
use Rattle.graft_model.specs.RouterRows.{RouterTaken, RouterSent, IsToTell, PutsSome}
use Rattle.graft_model.specs.SmallWorlds.{config}
use Rattle.graft_worked.specs.Base.{base}
use Rattle.graft_worked.specs.Graft.{at_ten, ten_alone}
use Rattle.graft_worked.specs.Next.{Condition, Least, ToldFirst, Size, Whole, PutsSomeBut, nine, nine_alone, nine_and_ten, longer_at_b, a_two_due, a_second_put}
use Rattle.graft_worked.specs.Puts.{own_at_b, a_to_put, a_has_put, session_told}
use Rattle.graft_worked.specs.Start.{session_joined}
use Rattle.graft_worked.proofs.Points.{at-at}
use Rattle.graft_worked.proofs.Puts.{told_of, some_is_some, due_ten, ten_alone_is, any_ten, drops, puts_update, one_rises, puts_some}
use Rattle.graft_worked.proofs.Sends.{same_session}
use Rattle.graft_worked.proofs.Tens.{empty, got_none, got_it, some_in_none}
use Rattle.graft_worked.proofs.Weaker.{other_number}

-- ---- the row without a condition

-- where its size may be false, of any size
of_row : (but : Condition) (setup : Setup) (r p n m : ℕ) (before : RouterPart) (taken : Option RouterTaken) (sent : List RouterSent) (after : RouterPart)
    → (but ≢ Size → n ≡ m) → PutsSome setup r p n before taken sent after → PutsSomeBut but setup r p m before taken sent after
of_row but setup r p n m before taken sent after size row = record {
  alone = row.alone;
  session = row.session;
  errand = row.errand;
  live = row.live;
  first = row.first;
  is_to_tell = row.is_to_tell;
  least = λ other. row.least;
  attrs = row.attrs;
  told_first = λ other. row.told_first;
  prefixes = row.prefixes;
  later = row.later;
  alike = row.alike;
  size = λ other. row.size ∙ size other;
  next = row.next;
  puts = row.puts;
  due = row.due;
  effect = row.effect;
}

pub none_lost : (but : Condition) (setup : Setup) (r p n : ℕ) (before : RouterPart) (taken : Option RouterTaken) (sent : List RouterSent) (after : RouterPart)
    → PutsSome setup r p n before taken sent after → PutsSomeBut but setup r p n before taken sent after
none_lost but setup r p n before taken sent after row = of_row but setup r p n n before taken sent after (λ other. refl) row

pub row_of : (setup : Setup) (r p n : ℕ) (before : RouterPart) (taken : Option RouterTaken) (sent : List RouterSent) (after : RouterPart)
    → PutsSomeBut Whole setup r p n before taken sent after → PutsSome setup r p n before taken sent after
row_of setup r p n before taken sent after b = record {
  alone = b.alone;
  session = b.session;
  errand = b.errand;
  live = b.live;
  first = b.first;
  is_to_tell = b.is_to_tell;
  least = b.least (λ e. cc);
  attrs = b.attrs;
  told_first = b.told_first (λ e. cc);
  prefixes = b.prefixes;
  later = b.later;
  alike = b.alike;
  size = b.size (λ e. cc);
  next = b.next;
  puts = b.puts;
  due = b.due;
  effect = b.effect;
}

-- ---- size: one prefix is put, as the first two

no_pair : (P : PrefixValue → Type 0) → ((x : PrefixValue) → P x → ten ≡ x) → (prefixes later : List PrefixValue) → length prefixes ≡ 2
    → IsStrictlySortedBy prefix_cmp (prefixes ++ later) → AllByRecursion P (prefixes ++ later) → ⊥
unfolding IsStrictlySortedBy
no_pair P is_ten [] later size rising all = other_number 0 2 (lit< tt) size
no_pair P is_ten (x ∷ []) later size rising all = other_number 1 2 (lit< tt) size
no_pair P is_ten (x ∷ y ∷ prefixes) later size rising all =
    let e : ◌≡◌ {A = Ordering} Equal Less = (λ i. prefix_cmp (is_ten x all.0 i) (is_ten y all.1.0 i)) ∙ rising.0.0 in cc

-- what is to be told on the session with these attributes
abbrev IsAlike : RouterPart → SessionValue → Option Attrs → PrefixValue → Type 0
IsAlike part s attrs x = IsToTell base 0 part 0 s x × (to_tell base 0 part s x ≡ attrs)

pub no_two : PutsSome base 0 0 2 a_to_put None [] a_has_put → ⊥
no_two row =
    no_pair (IsAlike a_to_put row.session row.attrs) (λ x is. ten_alone_is x is.0.0.0) row.prefixes row.later row.size row.alike.rising
    (recursion_from_All (IsAlike a_to_put row.session row.attrs) (row.prefixes ++ row.later) row.alike.each)

pub size_alone : PutsSomeBut Size base 0 0 2 a_to_put None [] a_has_put
size_alone = of_row Size base 0 0 1 2 a_to_put None [] a_has_put (λ other. absurd (other refl)) puts_some

-- ---- the two that are due

abbrev is_nine : PrefixValue → Bool
is_nine x = eq_by_cmp prefix_cmp x nine

got : {A : Type 0} (m : map.FinMap prefix_cmp A) (v : A) (x : PrefixValue) → map.get (map.insert m nine v) x ≡ cond (is_nine x) (Some v) (map.get m x)
got m v x = map.get-insert prefix_total m nine v x

-- what another prefix has is as before
got_other : {A : Type 0} (m : map.FinMap prefix_cmp A) (v : A) (x : PrefixValue) → is_nine x ≡ false → map.get (map.insert m nine v) x ≡ map.get m x
got_other m v x other = got m v x ∙ ap (λ t. cond t (Some v) (map.get m x)) other

two_are : (x : PrefixValue) → has nine_and_ten x ≡ true → (x ≡ nine) ⊎ (x ≡ ten)
two_are x due = by_test (is_nine x) refl where
  by_test : (t : Bool) → is_nine x ≡ t → (x ≡ nine) ⊎ (x ≡ ten)
  by_test true is = inl (tied x nine is)
  by_test false other = inr (sym (ten_alone_is x (sym (ap is_some (got_other ten_alone tt x other)) ∙ due)))

nine_due : has nine_and_ten nine ≡ true
nine_due = ap is_some (got ten_alone tt nine)

ten_due : has nine_and_ten ten ≡ true
ten_due = ap is_some (got_other ten_alone tt ten refl) ∙ due_ten

nine_stays : has nine_alone nine ≡ true
nine_stays = ap is_some (got empty tt nine)

gone_but_nine : (x : PrefixValue) → is_nine x ≡ false → has nine_alone x ≡ false
gone_but_nine x other = ap is_some (got_other empty tt x other) ∙ some_in_none _ x

-- ---- what is to be told of them

abbrev short : Option Attrs
short = Some (attrs_over (65000 ∷ []))

abbrev long : Option Attrs
long = Some (attrs_over (65000 ∷ 65002 ∷ []))

longer : short ≢ long
longer e =
    let paths : ◌≡◌ {A = List PathPart} (Sequence (65000 ∷ []) ∷ []) (Sequence (65000 ∷ 65002 ∷ []) ∷ []) =
    ap (λ (attrs : Attrs). attrs.path) (same_Some (attrs_over (65000 ∷ [])) (attrs_over (65000 ∷ 65002 ∷ [])) e) in cc

long_of : tell_out 65000 (out_side base 0 config) nine (Some longer_at_b) ≡ long
unfolding spell spell_attrs attrs_written path_octets
long_of = refl

abbrev told_of_two : SessionValue → PrefixValue → Option Attrs
told_of_two = to_tell base 0 a_two_due

to_tell_nine : told_of_two session_joined nine ≡ long
to_tell_nine = ap (tell_out 65000 (out_side base 0 config) nine) (got (at_ten own_at_b) longer_at_b nine) ∙ long_of

to_tell_ten : told_of_two session_joined ten ≡ short
to_tell_ten = ap (tell_out 65000 (out_side base 0 config) ten) (got_other (at_ten own_at_b) longer_at_b ten refl ∙ got_it own_at_b) ∙ told_of

is_to_tell : (x : PrefixValue) (attrs : Attrs) → has nine_and_ten x ≡ true → told_of_two session_joined x ≡ Some attrs
    → IsToTell base 0 a_two_due 0 session_joined x
is_to_tell x attrs due is = ((due, some_in_none _ x), (λ e. some_is_some attrs (told_of_two session_joined x) is (sym (got_none x) ∙ e)))

nine_waits : IsToTell base 0 a_two_due 0 session_joined nine
nine_waits = is_to_tell nine (attrs_over (65000 ∷ 65002 ∷ [])) nine_due to_tell_nine

ten_waits : IsToTell base 0 a_two_due 0 session_joined ten
ten_waits = is_to_tell ten (attrs_over (65000 ∷ [])) ten_due to_tell_ten

-- ---- the second one of them is put

abbrev IsShort : PrefixValue → Type 0
IsShort = IsAlike a_two_due session_joined short

not_nine : (x : PrefixValue) → x ≡ nine → told_of_two session_joined x ≡ short → ⊥
not_nine x e is = longer (sym is ∙ (ap (told_of_two session_joined) e ∙ to_tell_nine))

short_alone : Lists IsShort (ten ∷ [])
short_alone = record {
  rising = one_rises;
  each = All-cons IsShort ten [] (ten_waits, to_tell_ten) (All-nil IsShort);
  all = λ x is. elim (two_are x is.0.0.0) [ inl e ↦ absurd (not_nine x e is.1) | inr e ↦ any_ten x (sym e) ];
}

abbrev DropsTen : PrefixValue → Type 0
DropsTen x = has nine_alone x ≡ (has nine_and_ten x && not (list_any (same_prefix x) (ten ∷ [])))

drops_ten : (x : PrefixValue) → DropsTen x
drops_ten x = by_test (is_nine x) refl where
  by_test : (t : Bool) → is_nine x ≡ t → DropsTen x
  by_test true is = subst DropsTen (sym (tied x nine is)) (nine_stays ∙ sym (ap (λ h. h && true) nine_due))
  by_test false other =
      gone_but_nine x other
      ∙ (drops (has ten_alone x) x refl ∙ ap (λ h. h && not (list_any (same_prefix x) (ten ∷ []))) (sym (ap is_some (got_other ten_alone tt x other))))

-- as the first one of all, or with the attributes of the first one
second_put : (but : Condition) (first : PrefixValue) → IsToTell base 0 a_two_due 0 session_joined first
    → (but ≢ Least → (x : PrefixValue) → IsToTell base 0 a_two_due 0 session_joined x → is_lt (prefix_cmp x first) ≡ false)
    → (but ≢ ToldFirst → short ≡ told_of_two session_joined first) → PutsSomeBut but base 0 0 1 a_two_due None [] a_second_put
second_put but first waits least told_first = record {
  alone = (refl, refl);
  session = session_joined;
  errand = None;
  live = record { is = refl };
  first = first;
  is_to_tell = waits;
  least = least;
  attrs = short;
  told_first = told_first;
  prefixes = ten ∷ [];
  later = [];
  alike = short_alone;
  size = λ other. refl;
  next = session_told;
  puts = puts_update;
  due = record { members = drops_ten };
  effect = λ i. record a_second_put {
    places = sym (at-at (λ p. Vacant) 0 (Live session_joined None) (Live session_told None)) i;
    due_out = sym (at-at (λ p. empty) 0 nine_and_ten nine_alone) i;
  };
}

pub least_alone : PutsSomeBut Least base 0 0 1 a_two_due None [] a_second_put
least_alone = second_put Least ten ten_waits (λ other. absurd (other refl)) (λ other. sym to_tell_ten)

nine_is_least : (x : PrefixValue) → (x ≡ nine) ⊎ (x ≡ ten) → is_lt (prefix_cmp x nine) ≡ false
nine_is_least x (inl e) = ap (λ z. is_lt (prefix_cmp z nine)) e
nine_is_least x (inr e) = ap (λ z. is_lt (prefix_cmp z nine)) e

pub told_first_alone : PutsSomeBut ToldFirst base 0 0 1 a_two_due None [] a_second_put
told_first_alone = second_put ToldFirst nine nine_waits (λ other x is. nine_is_least x (two_are x is.0.0)) (λ other. absurd (other refl))

-- ---- both conditions together forbid it

taken_out : (t : Bool) → ◌≡◌ {A = Bool} false (true && not t) → t ≡ true
taken_out true e = refl
taken_out false e = absurd cc

pub no_second : PutsSome base 0 0 1 a_two_due None [] a_second_put → ⊥
no_second row =
    let same : session_joined ≡ row.session = same_session session_joined row.session None row.errand row.live.is in
    let before : is_lt (prefix_cmp nine row.first) ≡ false =
    row.least nine (subst (λ (s : SessionValue). IsToTell base 0 a_two_due 0 s nine) same nine_waits) in
    let first : row.first ≡ nine = by_first row.first before (two_are row.first row.is_to_tell.0.0) in
    let put : list_any (same_prefix ten) row.prefixes ≡ true =
    taken_out (list_any (same_prefix ten) row.prefixes)
    (sym (gone_but_nine ten refl) ∙ (row.due.members ten ∙ ap (λ h. h && not (list_any (same_prefix ten) row.prefixes)) ten_due)) in
    let told : told_of_two row.session ten ≡ row.attrs =
    (All-contains (IsAlike a_two_due row.session row.attrs) (row.prefixes ++ row.later) ten row.alike.each
    (Contains-append_left row.prefixes row.later ten (Contains-from_any is_same ten row.prefixes put))).1 in
    longer (
    sym to_tell_ten ∙ (ap (λ (s : SessionValue). told_of_two s ten) same ∙ (told ∙ (row.told_first ∙ (ap (told_of_two row.session) first
    ∙ (ap (λ (s : SessionValue). told_of_two s nine) (sym same) ∙ to_tell_nine))))))
  where
    by_first : (x : PrefixValue) → is_lt (prefix_cmp nine x) ≡ false → (x ≡ nine) ⊎ (x ≡ ten) → x ≡ nine
    by_first x before (inl e) = e
    by_first x before (inr e) = let apart : ◌≡◌ {A = Bool} true false = sym (ap (λ z. is_lt (prefix_cmp nine z)) e) ∙ before in absurd cc
