-- What reading attributes from left to right keeps.
use Rattle.std.proofs.Common.{◌≡◌, ℕ, ◌<◌, List, [], ◌∷◌, ◌++◌, length, get_or, Bool, true, false, cond, eqb, Option, Some, None}
use Rattle.std.proofs.Common.{Result, Ok, refl, sym, ap, ◌∙◌, arith, subst, append_assoc, get_or-set_other, get_or-set_same}
use Rattle.std.specs.Prelude.{◌≢◌, is_some}
use Rattle.std.proofs.Math.ListN.{set}
use Rattle.std.proofs.lemmas.List.{append-nil}
use Rattle.std.proofs.lemmas.Bool.{eqb-true}
use Rattle.std.proofs.lemmas.Bool.Decides.{nat_tests}
use Rattle.bgp_types.specs.declared.fault.FoundAttrs.{FoundAttrs}
use Rattle.bgp_types.specs.declared.message.Notice.{Notice}
use Rattle.bgp_types.specs.Many.{many, many_within}
use Rattle.bgp_types.specs.WireAttrs.{WireAttr, attr_at}
use Rattle.bgp_types.specs.Faults.{fault_in, bare, own_fault, attr_of, fault_after, earlier_notice, attrs_fault}
use Rattle.bgp_types.specs.Found.{unless, found_in, attrs_in}
use Rattle.bgp_types.proofs.AttrLaws.{attr_reads}
use Rattle.bgp_types.proofs.ManyLaws.{after, after_more, after_stop, many_some}
use Rattle.attr_codec.specs.declared.fault.CodecFault.{CodecFault}
use Rattle.attr_codec.specs.declared.fault.CodecFault.TheVariants as stops
use Rattle.attr_codec.specs.declared.said.Said.{Said}
use Rattle.attr_codec.specs.Decoding.{Stops}
use Rattle.attr_codec.specs.Saying.{attributes_said, all_said, found_of, with_attr}
use Rattle.attr_codec.proofs.SaidLaws.{found_last, said_step}

-- the table says which types there are
pub record IsTable (seen : List Bool) (before : List WireAttr) : Type 0 where
  pub size : length seen ≡ 256
  pub at : (k : ℕ) → k < 256 → get_or seen k false ≡ is_some (attr_of k before)

-- the field so far: the attributes before the rest, of which none has a fault
pub record SoFar (wide : Bool) (bytes rest : List ℕ) (said : Said) (seen : List Bool) : Type 0 where
  pub before : List WireAttr
  pub cut : after before (many attr_at rest) ≡ many attr_at bytes
  pub clean : (others : List WireAttr) (left : List ℕ) → attrs_fault wide [] (before ++ others) left ≡ attrs_fault wide before others left
  pub said_is : said ≡ attributes_said wide before
  pub table : IsTable seen before

pub begins : (wide : Bool) (bytes : List ℕ) (said : Said) (seen : List Bool) → said ≡ attributes_said wide [] → length seen ≡ 256
    → ((k : ℕ) → k < 256 → get_or seen k false ≡ false) → SoFar wide bytes bytes said seen
begins wide bytes said seen s size none =
    record { before = []; cut = refl; clean = λ others left. refl; said_is = s; table = record { size = size; at = none } }

is_none : {A : Type 0} (o : Option A) → is_some o ≡ false → o ≡ None
is_none None e = refl
is_none (Some x) e = absurd cc

-- whether its type stood before
stood : (wide : Bool) (bytes rest : List ℕ) (said : Said) (seen : List Bool) (s : SoFar wide bytes rest said seen) (k : ℕ) (b : Bool) → k < 256
    → get_or seen k false ≡ b → is_some (attr_of k s.before) ≡ b
stood wide bytes rest said seen s k b lt e = sym (s.table.at k lt) ∙ e

table_more : (seen seen' : List Bool) (before : List WireAttr) (a : WireAttr) → IsTable seen before → a.kind < 256 → attr_of a.kind before ≡ None
    → seen' ≡ set seen a.kind true → length seen' ≡ 256 → IsTable seen' (before ++ a ∷ [])
table_more seen seen' before a t lt none e size = record { size = size; at = at } where
  by_test : (k : ℕ) → k < 256 → (b : Bool) → eqb a.kind k ≡ b → get_or (set seen a.kind true) k false ≡ cond b true (is_some (attr_of k before))
  by_test k below true f = let same : a.kind ≡ k = eqb-true _ _ f in let inside : a.kind < length seen = let size = t.size in omega arith in
      subst (λ (j : ℕ). get_or (set seen a.kind true) j false ≡ true) same (rw get_or-set_same refl)
  by_test k below false f = let ne : k ≢ a.kind = (λ same. grind (arith, nat_tests)) in rw get_or-set_other (t.at k below)

  at : (k : ℕ) → k < 256 → get_or seen' k false ≡ is_some (attr_of k (before ++ a ∷ []))
  at k below = ap (λ (xs : List Bool). get_or xs k false) e ∙ (by_test k below (eqb a.kind k) refl ∙ sym (found_last is_some k before a none))

pub goes_on : (wide : Bool) (bytes rest : List ℕ) (said : Said) (seen : List Bool) (a : WireAttr) (later : List ℕ) (said' : Said) (seen' : List Bool)
    → SoFar wide bytes rest said seen
    → attr_at rest ≡ Some (a, later) → a.kind < 256 → get_or seen a.kind false ≡ false → own_fault wide a ≡ None → said' ≡ with_attr wide a said
    → seen' ≡ set seen a.kind true → length seen' ≡ 256 → SoFar wide bytes later said' seen'
unfolding attrs_fault
goes_on wide bytes rest said seen a later said' seen' s e lt new own f k size =
    let n : is_some (attr_of a.kind s.before) ≡ false = stood wide bytes rest said seen s a.kind false lt new in
    let none : attr_of a.kind s.before ≡ None = is_none (attr_of a.kind s.before) n in
    let no_fault : fault_after wide s.before a ≡ None = rw (n, own) refl in
    record {
      before = s.before ++ a ∷ [];
      cut = after_more attr_at attr_reads.shortens s.before rest (a, later) (many attr_at bytes) e s.cut;
      clean = λ others left. ap (λ (xs : List WireAttr). attrs_fault wide [] xs left) (append_assoc s.before (a ∷ []) others)
          ∙ (s.clean (a ∷ others) left ∙ ap (λ (o : Option Notice). earlier_notice o (attrs_fault wide (s.before ++ a ∷ []) others left)) no_fault);
      said_is = f ∙ (ap (with_attr wide a) s.said_is ∙ sym (said_step wide s.before a none));
      table = table_more seen seen' s.before a s.table lt none k size;
    }

fault_unless : {A : Type 0} (o : Option Notice) (x : A) → fault_in (unless o x) ≡ o
fault_unless None x = refl
fault_unless (Some n) x = refl

-- the first fault, by the attributes so far and those to come
rest_fault : (wide : Bool) (bytes rest : List ℕ) (said : Said) (seen : List Bool) (s : SoFar wide bytes rest said seen)
    → fault_in (all_said wide bytes) ≡ attrs_fault wide s.before (many attr_at rest).0 (many attr_at rest).1
unfolding all_said
rest_fault wide bytes rest said seen s =
    fault_unless (attrs_fault wide [] (many attr_at bytes).0 (many attr_at bytes).1) (attributes_said wide (many attr_at bytes).0)
    ∙ (ap (λ (m : List WireAttr × List ℕ). attrs_fault wide [] m.0 m.1) (sym s.cut) ∙ s.clean (many attr_at rest).0 (many attr_at rest).1)

-- the fault of the attribute at the front
front_fault : (wide : Bool) (bytes rest : List ℕ) (said : Said) (seen : List Bool)
    (s : SoFar wide bytes rest said seen) (a : WireAttr) (later : List ℕ) (n : Notice)
    → attr_at rest ≡ Some (a, later) → fault_after wide s.before a ≡ Some n → fault_in (all_said wide bytes) ≡ Some n
unfolding attrs_fault
front_fault wide bytes rest said seen s a later n e f =
    rest_fault wide bytes rest said seen s
    ∙ (ap (λ (m : List WireAttr × List ℕ). attrs_fault wide s.before m.0 m.1) (many_some attr_at attr_reads.shortens rest (a, later) e)
    ∙ ap (λ (o : Option Notice). earlier_notice o (attrs_fault wide (s.before ++ a ∷ []) (many attr_at later).0 (many attr_at later).1)) f)

pub repeats : (wide : Bool) (bytes rest : List ℕ) (said : Said) (seen : List Bool) (s : SoFar wide bytes rest said seen) (a : WireAttr) (later : List ℕ)
    → attr_at rest ≡ Some (a, later) → a.kind < 256 → get_or seen a.kind false ≡ true → fault_in (all_said wide bytes) ≡ Some (bare 1)
repeats wide bytes rest said seen s a later e lt old =
    let n : is_some (attr_of a.kind s.before) ≡ true = stood wide bytes rest said seen s a.kind true lt old in
    let f : fault_after wide s.before a ≡ Some (bare 1) = rw n refl in
    front_fault wide bytes rest said seen s a later (bare 1) e f

pub fails : (wide : Bool) (bytes rest : List ℕ) (said : Said) (seen : List Bool)
    (s : SoFar wide bytes rest said seen) (a : WireAttr) (later : List ℕ) (stop : CodecFault)
    → attr_at rest ≡ Some (a, later) → a.kind < 256 → get_or seen a.kind false ≡ false → Stops stop (own_fault wide a)
    → Stops stop (fault_in (all_said wide bytes))
fails wide bytes rest said seen s a later stops.NoMemory e lt new f = tt
fails wide bytes rest said seen s a later (stops.Wire n) e lt new f =
    let no : is_some (attr_of a.kind s.before) ≡ false = stood wide bytes rest said seen s a.kind false lt new in
    let g : fault_after wide s.before a ≡ Some n = rw (no, f) refl in
    front_fault wide bytes rest said seen s a later n e g

pub cut_short : (wide : Bool) (bytes rest : List ℕ) (said : Said) (seen : List Bool) (s : SoFar wide bytes rest said seen) → attr_at rest ≡ None
    → 0 < length rest → fault_in (all_said wide bytes) ≡ Some (bare 1)
unfolding attrs_fault
cut_short wide bytes [] said seen s e lt = absurd (omega arith)
cut_short wide bytes (b ∷ rest) said seen s e lt =
    rest_fault wide bytes (b ∷ rest) said seen s
    ∙ ap (λ (m : List WireAttr × List ℕ). attrs_fault wide s.before m.0 m.1) (after_stop attr_at [] (b ∷ rest) (many attr_at (b ∷ rest)) e refl)

pub ends : (wide : Bool) (bytes rest : List ℕ) (said : Said) (seen : List Bool) → SoFar wide bytes rest said seen → length rest ≡ 0
    → all_said wide bytes ≡ Ok said
unfolding all_said attrs_fault many many_within
ends wide bytes [] said seen s e =
    let m : many attr_at bytes ≡ (s.before, []) = sym s.cut ∙ ap (λ (xs : List WireAttr). (xs, [])) (append-nil s.before) in
    let c : attrs_fault wide [] s.before [] ≡ None = ap (λ (xs : List WireAttr). attrs_fault wide [] xs []) (sym (append-nil s.before)) ∙ s.clean [] [] in
    ap (λ (x : List WireAttr × List ℕ). unless (attrs_fault wide [] x.0 x.1) (attributes_said wide x.0)) m
    ∙ (ap (λ (o : Option Notice). unless o (attributes_said wide s.before)) c ∙ ap (λ (f : Said). Ok f) (sym s.said_is))
ends wide bytes (b ∷ rest) said seen s e = absurd (omega arith)

-- ---- what they say together

found_is : (wide : Bool) (attrs : List WireAttr) → found_in wide attrs ≡ found_of (attributes_said wide attrs)
unfolding found_in attributes_said
found_is wide attrs = refl

pub same_fault : (wide : Bool) (bytes : List ℕ) → fault_in (all_said wide bytes) ≡ fault_in (attrs_in wide bytes)
unfolding all_said attrs_in
same_fault wide bytes =
    let o = attrs_fault wide [] (many attr_at bytes).0 (many attr_at bytes).1 in
    fault_unless o (attributes_said wide (many attr_at bytes).0) ∙ sym (fault_unless o (found_in wide (many attr_at bytes).0))

unless_ok : (o : Option Notice) (said said' : Said) (found : FoundAttrs) → found ≡ found_of said
    → (let r : Result Said Notice = unless o said in r) ≡ Ok said' → (let r : Result FoundAttrs Notice = unless o found in r) ≡ Ok (found_of said')
unless_ok None said said' found f e =
    let same : said ≡ said' = cc in ap (λ (x : FoundAttrs). (let r : Result FoundAttrs Notice = Ok x in r)) (f ∙ ap found_of same)
unless_ok (Some n) said said' found f e = absurd cc

pub said_together : (wide : Bool) (bytes : List ℕ) (said : Said) → all_said wide bytes ≡ Ok said → attrs_in wide bytes ≡ Ok (found_of said)
unfolding all_said attrs_in
said_together wide bytes said e = unless_ok (attrs_fault wide [] (many attr_at bytes).0 (many attr_at bytes).1)
    (attributes_said wide (many attr_at bytes).0) said (found_in wide (many attr_at bytes).0) (found_is wide (many attr_at bytes).0) e
