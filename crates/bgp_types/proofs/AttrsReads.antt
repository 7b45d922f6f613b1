-- What is read is in the relation, and what is in the relation is read.
use Rattle.std.proofs.Common.{◌≡◌, ℕ, List, [], ◌∷◌, ◌++◌, Bool, true, false, cond, eqb, Option, Some, None, Result, Ok, refl, sym, ap, ◌∙◌, arith}
use Rattle.std.specs.Prelude.{◌≢◌, is_some}
use Rattle.std.specs.List.{flat_map, AllByRecursion}
use Rattle.std.proofs.lemmas.List.{append-nil}
use Rattle.std.proofs.lemmas.Bool.Decides.{nat_tests}
use Rattle.bgp_types.specs.declared.fault.FoundAttrs.{FoundAttrs}
use Rattle.bgp_types.specs.declared.message.Notice.{Notice}
use Rattle.bgp_types.specs.WireAttrs.{WireAttr}
use Rattle.bgp_types.specs.WireAttrs.{wire_kind}
use Rattle.bgp_types.specs.Many.{many}
use Rattle.bgp_types.specs.WireAttrs.{attr_at, IsWireAttr, attr_octets}
use Rattle.bgp_types.specs.Faults.{bare, own_fault, attr_of, fault_after, earlier_notice, attrs_fault}
use Rattle.bgp_types.specs.Found.{found_in, unless, attrs_in}
use Rattle.bgp_types.specs.Reads.{Differ, ReadsAttrs}
use Rattle.bgp_types.proofs.ManyLaws.{many_again}
use Rattle.bgp_types.proofs.AttrLaws.{attr_takes, attr_reads, no_attr}
use Rattle.bgp_types.specs.OctetLists.{AreOctets}
use Rattle.bgp_types.proofs.TakesLaws.{TakesMany, many_takes}
use Rattle.bgp_types.proofs.OrderLaws.{clean_alone, all_both}

attrs_take : (bytes : List ℕ) → AreOctets bytes → TakesMany attr_octets IsWireAttr bytes (many attr_at bytes)
attrs_take bytes b = many_takes AreOctets attr_at attr_octets IsWireAttr
    (λ c x d e. let t = attr_takes c x d e in record { parts = t.parts; fits = t.sound; rest = t.rest_fits }) bytes b

-- ---- no fault

record IsClean (wide : Bool) (before raws : List WireAttr) (rest : List ℕ) : Type 0 where
  nothing_left : rest ≡ []
  own : AllByRecursion (λ a. own_fault wide a ≡ None) raws
  fresh : AllByRecursion (λ a. attr_of a.kind before ≡ None) raws
  differ : Differ wire_kind raws

first_none : (o p : Option Notice) → earlier_notice o p ≡ None → (o ≡ None) × (p ≡ None)
first_none None p e = (refl, e)
first_none (Some n) p e = absurd cc

after_none : (wide : Bool) (before : List WireAttr) (a : WireAttr) → fault_after wide before a ≡ None
    → (attr_of a.kind before ≡ None) × (own_fault wide a ≡ None)
after_none wide before a e = by_test (attr_of a.kind before) refl e where
  by_test : (o : Option WireAttr) → attr_of a.kind before ≡ o → cond (is_some o) (Some (bare 1)) (own_fault wide a) ≡ None
      → (attr_of a.kind before ≡ None) × (own_fault wide a ≡ None)
  by_test None f e = (f, e)
  by_test (Some b) f e = absurd cc

last_none : (k : ℕ) (before : List WireAttr) (a : WireAttr) → attr_of k (before ++ a ∷ []) ≡ None → (attr_of k before ≡ None) × (k ≢ a.kind)
last_none k [] a e = (refl, λ f. grind (arith, nat_tests))
last_none k (b ∷ before) a e = by_test (eqb b.kind k) (λ f. last_none k before a f) e where
  by_test : (t : Bool) → (attr_of k (before ++ a ∷ []) ≡ None → (attr_of k before ≡ None) × (k ≢ a.kind))
      → cond t (Some b) (attr_of k (before ++ a ∷ [])) ≡ None → (cond t (Some b) (attr_of k before) ≡ None) × (k ≢ a.kind)
  by_test true ih e = absurd cc
  by_test false ih e = ih e

is_clean : (wide : Bool) (before raws : List WireAttr) (rest : List ℕ) → attrs_fault wide before raws rest ≡ None → IsClean wide before raws rest
unfolding attrs_fault
is_clean wide before [] [] e = record { nothing_left = refl; own = tt; fresh = tt; differ = tt }
is_clean wide before [] (b ∷ rest) e = absurd cc
is_clean wide before (a ∷ others) rest e =
    let f = first_none (fault_after wide before a) (attrs_fault wide (before ++ a ∷ []) others rest) e in
    let g = after_none wide before a f.0 in
    let c = is_clean wide (before ++ a ∷ []) others rest f.1 in
    record {
      nothing_left = c.nothing_left;
      own = (g.1, c.own);
      fresh = (
        g.0,
        weaker (λ x. attr_of x.kind (before ++ a ∷ []) ≡ None) (λ x. attr_of x.kind before ≡ None) others (λ x h. (last_none x.kind before a h).0) c.fresh,
      );
      differ = (
        weaker (λ x. attr_of x.kind (before ++ a ∷ []) ≡ None) (λ x. wire_kind x ≢ wire_kind a) others (λ x h. (last_none x.kind before a h).1) c.fresh,
        c.differ,
      );
    }
  where
    weaker : (P Q : WireAttr → Type 0) (xs : List WireAttr) → ((x : WireAttr) → P x → Q x) → AllByRecursion P xs → AllByRecursion Q xs
    weaker P Q xs h all = all_both P P Q xs (λ x p q. h x p) all all

unless_ok : {A : Type 0} (o : Option Notice) (x y : A) → unless o x ≡ Ok y → (o ≡ None) × (x ≡ y)
unless_ok None x y e = (refl, cc)
unless_ok (Some n) x y e = absurd cc

pub attrs_read : (wide : Bool) (bytes : List ℕ) (found : FoundAttrs) → AreOctets bytes → attrs_in wide bytes ≡ Ok found → ReadsAttrs wide bytes found
unfolding attrs_in
attrs_read wide bytes found b e =
    let raws : List WireAttr = (many attr_at bytes).0 in
    let u = unless_ok (attrs_fault wide [] raws (many attr_at bytes).1) (found_in wide raws) found e in
    let c = is_clean wide [] raws (many attr_at bytes).1 u.0 in
    let t = attrs_take bytes b in
    record {
      attrs = raws;
      octets = t.parts ∙ (ap (λ (y : List ℕ). flat_map attr_octets raws ++ y) c.nothing_left ∙ append-nil (flat_map attr_octets raws));
      each = t.fits;
      sound = c.own;
      once = c.differ;
      says = sym u.1;
    }

pub attrs_are : (wide : Bool) (bytes : List ℕ) (found : FoundAttrs) → ReadsAttrs wide bytes found → attrs_in wide bytes ≡ Ok found
unfolding attrs_in
attrs_are wide bytes found r =
    let cut : many attr_at bytes ≡ (r.attrs, []) = ap (many attr_at) (r.octets ∙ sym (append-nil (flat_map attr_octets r.attrs)))
    ∙ many_again attr_at attr_octets IsWireAttr attr_reads r.attrs [] r.each no_attr in
    let clean : attrs_fault wide [] r.attrs [] ≡ None = clean_alone wide r.attrs r.sound r.once in
    ap (λ (m : List WireAttr × List ℕ). unless (attrs_fault wide [] m.0 m.1) (found_in wide m.0)) cut
    ∙ (ap (λ (o : Option Notice). unless o (found_in wide r.attrs)) clean
    ∙ ap (λ (f : FoundAttrs). (let x : Result FoundAttrs Notice = Ok f in x)) (sym r.says))
