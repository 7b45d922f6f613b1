-- A walk over names that keeps the first of those that are nearest.
use Rattle.std.proofs.Common.{◌≡◌, ℕ, ◌+◌, ◌<◌, ◌≤◌, Bool, true, false, cond, ◌&&◌, List, [], ◌∷◌, ◌++◌, refl, sym, ap, ◌∙◌, subst, arith}
use Rattle.std.specs.Prelude.{nat_le, Option, Some, None}
use Rattle.std.specs.Option.{option_or}
use Rattle.std.specs.List.{list_all, find, AllByRecursion}
use Rattle.std.proofs.lemmas.Bool.{false≢true}
use Rattle.std.proofs.lemmas.Bool.Decides.{nat_tests}
use Rattle.std.proofs.lemmas.List.Folds.{find-append}

at_most : (a b : ℕ) → a ≤ b → nat_le a b ≡ true
at_most a b le = grind (arith, nat_tests)

above : (a b : ℕ) → b < a → nat_le a b ≡ false
above a b lt = grind (arith, nat_tests)

is_at_most : (a b : ℕ) → nat_le a b ≡ true → a ≤ b
is_at_most a b e = grind (arith, nat_tests)

is_above : (a b : ℕ) → nat_le a b ≡ false → b < a
is_above a b e = grind (arith, nat_tests)

both : (a b : Bool) → a ≡ true → b ≡ true → (a && b) ≡ true
both true b e f = f
both false b e f = e

not_first : (a b : Bool) → a ≡ false → (a && b) ≡ false
not_first false b e = refl
not_first true b e = absurd (false≢true (sym e))

not_second : (a b : Bool) → b ≡ false → (a && b) ≡ false
not_second false b e = refl
not_second true b e = e

first_of_both : (a b : Bool) → (a && b) ≡ true → a ≡ true
first_of_both true b e = refl
first_of_both false b e = e

-- whether a name is as near as the least distance so far, and may be meant
abbrev leads : {N : Type 0} → (N → ℕ) → (most least : ℕ) → N → Bool
leads d most least name = nat_le (d name) least && nat_le (d name) most

-- Of the names passed, this is the first of the nearest, if one may be meant, and this is its distance.
pub record Leads {N : Type 0} (d : N → ℕ) (most : ℕ) (names : List N) (near : Option N) (least : ℕ) : Type 0 where
  pub found : find (leads d most least) names ≡ near
  pub closest : AllByRecursion (λ name. least ≤ d name) names
  pub bound : least ≤ most + 1
  pub none : near ≡ None → least ≡ most + 1

-- ---- a step

all_closer : {N : Type 0} (d : N → ℕ) (least : ℕ) (names : List N) (name : N) → AllByRecursion (λ n. least ≤ d n) names → d name ≤ least
    → AllByRecursion (λ n. d name ≤ d n) (names ++ name ∷ [])
all_closer d least [] name all le = (omega arith, tt)
all_closer d least (n ∷ ns) name all le = let far = all.0 in (omega arith, all_closer d least ns name all.1 le)

all_more : {N : Type 0} (d : N → ℕ) (least : ℕ) (names : List N) (name : N) → AllByRecursion (λ n. least ≤ d n) names → least ≤ d name
    → AllByRecursion (λ n. least ≤ d n) (names ++ name ∷ [])
all_more d least [] name all le = (le, tt)
all_more d least (n ∷ ns) name all le = (all.0, all_more d least ns name all.1 le)

-- those that are farther away than the new one don't lead any more
none_leads : {N : Type 0} (d : N → ℕ) (most least closer : ℕ) (names : List N) → AllByRecursion (λ n. least ≤ d n) names → closer < least
    → find (leads d most closer) names ≡ None
none_leads d most least closer [] all lt = refl
none_leads d most least closer (n ∷ ns) all lt =
    let far = all.0 in
    let beyond : closer < d n = omega arith in
    ap (λ (t : Bool). cond t (Some n) (find (leads d most closer) ns))
    (not_first (nat_le (d n) closer) (nat_le (d n) most) (above (d n) closer beyond))
    ∙ none_leads d most least closer ns all.1 lt

closer : {N : Type 0} (d : N → ℕ) (most : ℕ) (names : List N) (name : N) (near : Option N) (least : ℕ) → Leads d most names near least → d name < least
    → Leads d most (names ++ name ∷ []) (Some name) (d name)
closer d most names name near least led lt =
    let bound = led.bound in
    let few : d name ≤ most = omega arith in
    let itself : d name ≤ d name = omega arith in
    record {
      found =
          find-append (leads d most (d name)) names (name ∷ [])
          ∙ ap (λ o. option_or o (find (leads d most (d name)) (name ∷ []))) (none_leads d most least (d name) names led.closest lt)
          ∙ ap (λ (t : Bool). cond t (Some name) None)
          (both (nat_le (d name) (d name)) (nat_le (d name) most) (at_most (d name) (d name) itself) (at_most (d name) most few));
      closest = all_closer d least names name led.closest (omega arith);
      bound = omega arith;
      none = λ (e : Some name ≡ None). absurd (cc);
    }

kept : {N : Type 0} (near : Option N) (name : N) (t : Bool) → (near ≡ None → t ≡ false) → option_or near (cond t (Some name) None) ≡ near
kept (Some n) name t none = refl
kept None name t none = ap (λ (b : Bool). cond b (Some name) None) (none refl)

farther : {N : Type 0} (d : N → ℕ) (most : ℕ) (names : List N) (name : N) (near : Option N) (least : ℕ) → Leads d most names near least → least ≤ d name
    → Leads d most (names ++ name ∷ []) near least
farther d most names name near least led le =
    record {
      found =
          find-append (leads d most least) names (name ∷ [])
          ∙ ap (λ o. option_or o (cond (leads d most least name) (Some name) None)) led.found
          ∙ kept near name (leads d most least name)
          (λ e. let open_yet = led.none e in
          let beyond : most < d name = omega arith in
          not_second (nat_le (d name) least) (nat_le (d name) most) (above (d name) most beyond));
      closest = all_more d least names name led.closest le;
      bound = led.bound;
      none = led.none;
    }

-- the same, as a loop says it
pub leads_closer : {N : Type 0} (d : N → ℕ) (most : ℕ) (names longer : List N) (name : N) (near next : Option N) (least less edits : ℕ)
    → edits ≡ d name → longer ≡ names ++ name ∷ [] → next ≡ Some name → less ≡ edits → edits < least → Leads d most names near least
    → Leads d most longer next less
leads_closer d most names longer name near next least less edits is long here there lt led =
    subst (λ l. Leads d most l next less) (sym long)
    (subst (λ o. Leads d most (names ++ name ∷ []) o less) (sym here)
    (subst (λ n. Leads d most (names ++ name ∷ []) (Some name) n) (sym (there ∙ is)) (closer d most names name near least led (omega (arith, is)))))

pub leads_on : {N : Type 0} (d : N → ℕ) (most : ℕ) (names longer : List N) (name : N) (near next : Option N) (least less edits : ℕ)
    → edits ≡ d name → longer ≡ names ++ name ∷ [] → next ≡ near → less ≡ least → least ≤ edits → Leads d most names near least
    → Leads d most longer next less
leads_on d most names longer name near next least less edits is long here there le led =
    subst (λ l. Leads d most l next less) (sym long)
    (subst (λ o. Leads d most (names ++ name ∷ []) o less) (sym here)
    (subst (λ n. Leads d most (names ++ name ∷ []) near n) (sym there) (farther d most names name near least led (omega (arith, is)))))

-- ---- the end

-- a name that was found passes the test, and whatever holds of all
found_all : {N : Type 0} (q r : N → Bool) (names : List N) (m : N) → find q names ≡ Some m → list_all r names ≡ true → (q m ≡ true) × (r m ≡ true)
found_all q r [] m is all = let none : Option _ = None in let same : none ≡ Some m = is in absurd (cc)
found_all q r (n ∷ ns) m is all = by_test (q n) refl is (r n) refl all (found_all q r ns m) where
  by_test : (t : Bool) → q n ≡ t → cond t (Some n) (find q ns) ≡ Some m → (u : Bool) → r n ≡ u → (u && list_all r ns) ≡ true
      → (find q ns ≡ Some m → list_all r ns ≡ true → (q m ≡ true) × (r m ≡ true)) → (q m ≡ true) × (r m ≡ true)
  by_test true passes is true holds all rest = let same : n ≡ m = cc in (ap q (sym same) ∙ passes, ap r (sym same) ∙ holds)
  by_test false fails is true holds all rest = rest is all
  by_test t e is false fails all rest = absurd (false≢true all)

all_at_least : {N : Type 0} (d : N → ℕ) (a least : ℕ) (names : List N) → AllByRecursion (λ n. least ≤ d n) names → a ≤ least
    → list_all (λ other. nat_le a (d other)) names ≡ true
all_at_least d a least [] all le = refl
all_at_least d a least (n ∷ ns) all le =
    let far = all.0 in
    let at : a ≤ d n = omega arith in
    both (nat_le a (d n)) (list_all (λ other. nat_le a (d other)) ns) (at_most a (d n) at) (all_at_least d a least ns all.1 le)

-- a name leads exactly if it may be meant and none is nearer
same_test : {N : Type 0} (d : N → ℕ) (most : ℕ) (names : List N) (near : Option N) (least : ℕ) → Leads d most names near least → (name : N)
    → leads d most least name ≡ (nat_le (d name) most && list_all (λ other. nat_le (d name) (d other)) names)
same_test {N} d most names near least led name = by_most (nat_le (d name) most) refl where
  every : Bool
  every = list_all (λ other. nat_le (d name) (d other)) names

  nearer : (o : Option N) → near ≡ o → every ≡ true → d name ≤ most → d name ≤ least
  nearer None e all few = let open_yet = led.none e in omega arith
  nearer (Some m) e all few =
      let own = found_all (leads d most least) (λ other. nat_le (d name) (d other)) names m (led.found ∙ e) all in
      let there : d m ≤ least = is_at_most (d m) least (first_of_both (nat_le (d m) least) (nat_le (d m) most) own.0) in
      let here : d name ≤ d m = is_at_most (d name) (d m) own.1 in
      omega arith

  by_least : (t : Bool) → nat_le (d name) least ≡ t → d name ≤ most → t ≡ every
  by_least true e few = sym (all_at_least d (d name) least names led.closest (is_at_most (d name) least e))
  by_least false e few = by_all every refl where
    by_all : (u : Bool) → every ≡ u → false ≡ every
    by_all false is = sym is
    by_all true is =
        let far : least < d name = is_above (d name) least e in
        let close : d name ≤ least = nearer near refl is few in
        absurd (omega arith)

  by_most : (t : Bool) → nat_le (d name) most ≡ t → (nat_le (d name) least && nat_le (d name) most) ≡ (nat_le (d name) most && every)
  by_most true e =
      ap (λ (t : Bool). nat_le (d name) least && t) e ∙ last (nat_le (d name) least)
      ∙ by_least (nat_le (d name) least) refl (is_at_most (d name) most e) ∙ ap (λ (t : Bool). t && every) (sym e)
    where
      last : (t : Bool) → (t && true) ≡ t
      last true = refl
      last false = refl
  by_most false e =
      not_second (nat_le (d name) least) (nat_le (d name) most) e ∙ sym (not_first (nat_le (d name) most) every e)

same_find : {N : Type 0} (p q : N → Bool) (names : List N) → ((name : N) → p name ≡ q name) → find p names ≡ find q names
same_find p q [] same = refl
same_find p q (n ∷ ns) same =
    ap (λ (t : Bool). cond t (Some n) (find p ns)) (same n) ∙ ap (λ o. cond (q n) (Some n) o) (same_find p q ns same)

-- what the walk ends with is the first of the nearest
pub leads_at_end : {N : Type 0} (d : N → ℕ) (most : ℕ) (names : List N) (near : Option N) (least : ℕ) → Leads d most names near least
    → near ≡ find (λ name. nat_le (d name) most && list_all (λ other. nat_le (d name) (d other)) names) names
leads_at_end d most names near least led =
    sym led.found
    ∙ same_find (leads d most least) (λ name. nat_le (d name) most && list_all (λ other. nat_le (d name) (d other)) names) names
    (same_test d most names near least led)

pub leads_at_start : {N : Type 0} (d : N → ℕ) (most : ℕ) → Leads d most [] None (most + 1)
leads_at_start d most = record { found = refl; closest = tt; bound = omega arith; none = λ e. refl }
