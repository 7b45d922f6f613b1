-- What one more route changes in what is first, and whether all are even.
use Rattle.std.proofs.Common.{◌≡◌, ℕ, Bool, true, false, cond, List, [], ◌∷◌, ◌++◌, Option, Some, None, refl, sym, ap, ◌∙◌, subst, append_assoc, arith}
use Rattle.std.specs.Prelude.{◌==◌, ◌&&◌, find, option_map, unwrap_or, is_some}
use Rattle.std.specs.List.{list_all}
use Rattle.std.specs.Option.{option_or}
use Rattle.std.proofs.lemmas.Bool.{false≢true}
use Rattle.std.proofs.lemmas.Bool.Decides.{nat_tests}
use Rattle.std.proofs.lemmas.List.Folds.{find-append}
use Rattle.bgp_types.specs.Prefixes.{PrefixValue, same_prefix}
use Rattle.bgp_types.proofs.OnceLaws.{same_itself, is_same}
use Rattle.even_inputs.specs.Evenness.{Med, is_between, first_med, are_even}

-- the first MED among routes, where there is one
abbrev pub first_of : List Med → PrefixValue → ℕ → Option ℕ
first_of meds prefix neighbour = option_map (λ m. m.med) (find (is_between prefix neighbour) meds)

abbrev pub given : Bool → ℕ → Option ℕ
given b med = cond b (Some med) None

same_number : (n : ℕ) → (n == n) ≡ true
same_number n = grind (arith, nat_tests)

equal : (n k : ℕ) → (n == k) ≡ true → n ≡ k
equal n k e = grind (arith, nat_tests)

both : (a b : Bool) → (a && b) ≡ true → (a ≡ true) × (b ≡ true)
both true true e = (refl, refl)
both true false e = absurd (false≢true e)
both false b e = absurd (false≢true e)

-- a route is one to its prefix, from its neighbour AS
pub is_itself : (m : Med) → is_between m.prefix m.neighbour m ≡ true
is_itself m = ap (λ (b : Bool). b && (m.neighbour == m.neighbour)) (same_itself m.prefix) ∙ same_number m.neighbour

pub same_parts : (prefix : PrefixValue) (neighbour : ℕ) (m : Med) → is_between prefix neighbour m ≡ true → (m.prefix ≡ prefix) × (m.neighbour ≡ neighbour)
same_parts prefix neighbour m e =
    let parts = both (same_prefix m.prefix prefix) (m.neighbour == neighbour) e in
    (is_same m.prefix prefix parts.0, equal m.neighbour neighbour parts.1)

or_by : (o : Option Med) (b : Bool) (x : Med)
    → option_map (λ (m : Med). m.med) (option_or o (cond b (Some x) None)) ≡ option_or (option_map (λ (m : Med). m.med) o) (given b x.med)
or_by (Some m) b x = refl
or_by None true x = refl
or_by None false x = refl

-- one more route is the first one where there was none
pub first_more : (meds : List Med) (x : Med) (prefix : PrefixValue) (neighbour : ℕ)
    → first_of (meds ++ x ∷ []) prefix neighbour ≡ option_or (first_of meds prefix neighbour) (given (is_between prefix neighbour x) x.med)
first_more meds x prefix neighbour =
    ap (option_map (λ (m : Med). m.med)) (find-append (is_between prefix neighbour) meds (x ∷ []))
    ∙ or_by (find (is_between prefix neighbour) meds) (is_between prefix neighbour x) x

-- ---- evenness

or_some : {A : Type 0} (o : Option A) (y : A) (rest : Option A) → is_some (option_or o (Some y)) ≡ true
or_some (Some x) y rest = refl
or_some None y rest = refl

found : (front rest : List Med) (m : Med) → is_some (find (is_between m.prefix m.neighbour) (front ++ m ∷ rest)) ≡ true
found front rest m =
    ap (λ (o : Option Med). is_some o) (find-append (is_between m.prefix m.neighbour) front (m ∷ rest)
    ∙ ap (λ (b : Bool). option_or (find (is_between m.prefix m.neighbour) front) (cond b (Some m) (find (is_between m.prefix m.neighbour) rest))) (is_itself m))
    ∙ or_some (find (is_between m.prefix m.neighbour) front) m None

kept_by : (o : Option ℕ) (p : Option ℕ) → is_some o ≡ true → unwrap_or (option_or o p) 0 ≡ unwrap_or o 0
kept_by (Some n) p e = refl
kept_by None p e = absurd (false≢true e)

some_mapped : (o : Option Med) → is_some o ≡ true → is_some (option_map (λ (m : Med). m.med) o) ≡ true
some_mapped (Some m) e = refl
some_mapped None e = absurd (false≢true e)

-- what is first of a route's own kind stays so
first_stays : (front rest : List Med) (m x : Med)
    → first_med ((front ++ m ∷ rest) ++ x ∷ []) m.prefix m.neighbour ≡ first_med (front ++ m ∷ rest) m.prefix m.neighbour
first_stays front rest m x =
    ap (λ (o : Option ℕ). unwrap_or o 0) (first_more (front ++ m ∷ rest) x m.prefix m.neighbour)
    ∙ kept_by (first_of (front ++ m ∷ rest) m.prefix m.neighbour) (given (is_between m.prefix m.neighbour x) x.med)
    (some_mapped (find (is_between m.prefix m.neighbour) (front ++ m ∷ rest)) (found front rest m))

abbrev has : List Med → Med → Bool
has meds m = m.med == first_med meds m.prefix m.neighbour

and_same : (a b c : Bool) → b ≡ c → (a && b) ≡ (a && c)
and_same a b c e = ap (λ (x : Bool). a && x) e

and_joins : (a b c : Bool) → (a && (b && c)) ≡ ((a && b) && c)
and_joins true b c = refl
and_joins false b c = refl

each : (front rest : List Med) (x : Med)
    → list_all (has ((front ++ rest) ++ x ∷ [])) (rest ++ x ∷ []) ≡ (list_all (has (front ++ rest)) rest && has ((front ++ rest) ++ x ∷ []) x)
each front [] x = and_true (has ((front ++ []) ++ x ∷ []) x) where
  and_true : (b : Bool) → (b && true) ≡ b
  and_true true = refl
  and_true false = refl
each front (m ∷ rest) x =
    let joined : front ++ m ∷ rest ≡ (front ++ m ∷ []) ++ rest = sym (append_assoc front (m ∷ []) rest) in
    ap (λ (k : ℕ). (m.med == k) && list_all (has ((front ++ m ∷ rest) ++ x ∷ [])) (rest ++ x ∷ [])) (first_stays front rest m x)
    ∙ and_same (has (front ++ m ∷ rest) m) _ _
    (subst (λ (l : List Med). list_all (has (l ++ x ∷ [])) (rest ++ x ∷ []) ≡ (list_all (has l) rest && has (l ++ x ∷ []) x))
    (sym joined) (each (front ++ m ∷ []) rest x))
    ∙ and_joins (has (front ++ m ∷ rest) m) (list_all (has (front ++ m ∷ rest)) rest) (has ((front ++ m ∷ rest) ++ x ∷ []) x)

-- with one more route all are even where they were, and it has the MED of the first of its kind
pub even_more : (meds : List Med) (x : Med) → are_even (meds ++ x ∷ []) ≡ (are_even meds && (x.med == first_med (meds ++ x ∷ []) x.prefix x.neighbour))
even_more meds x = each [] meds x
