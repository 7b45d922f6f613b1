-- Parameters and capabilities, read one after another.
use Rattle.std.proofs.Common.{◌≡◌, ℕ, ◌<◌, List, [], ◌∷◌, ◌++◌, length, drop, Bool, true, false, cond, eqb, ltb, Option, Some}
use Rattle.std.proofs.Common.{None, Result, Ok, Err, refl, sym, ap, subst, ◌∙◌, arith, append_assoc, length-drop}
use Rattle.std.specs.Prelude.{is_some}
use Rattle.std.proofs.lemmas.List.{append-nil}
use Rattle.std.proofs.lemmas.Option.{same_Some}
use Rattle.bgp_types.specs.declared.message.Cap.{Cap}
use Rattle.bgp_types.specs.declared.message.Notice.{Notice}
use Rattle.bgp_types.specs.Faults.{fault_in}
use Rattle.bgp_types.specs.Many.{many, if_whole, all_of}
use Rattle.bgp_types.specs.OpenBody.{cap_at, open_fault, caps_of, with_caps, with_params}
use Rattle.bgp_types.proofs.ManyLaws.{Shortens, after, after_more, many_some, many_none, kept_out}
use Rattle.attr_codec.proofs.PathLaws.{stopped, finished}
use Rattle.attr_codec.specs.declared.fault.CodecFault.{CodecFault}
use Rattle.attr_codec.specs.declared.fault.CodecFault.TheVariants as stops
use Rattle.attr_codec.specs.Decoding.{Stops}
use Rattle.bgp_wire.specs.Caps.{caps_fault, AddsCaps, caps_after}

cap_shorter : (bytes : List ℕ) (x : Cap × List ℕ) → cap_at bytes ≡ Some x → length x.1 < length bytes
unfolding cap_at
cap_shorter [] x e = absurd cc
cap_shorter (code ∷ []) x e = absurd cc
cap_shorter (code ∷ size ∷ bytes) x e =
    let h = kept_out (ltb (length bytes) size) _ x e in
    let d : x.1 ≡ drop size bytes = ap (λ (y : Cap × List ℕ). y.1) (sym (same_Some _ x h.1)) in
    rw (d, length-drop size bytes) (omega arith)

cap_shortens : Shortens cap_at
cap_shortens = record { shorter = cap_shorter }

-- the octets so far: the items before the rest
pub record SoFar (octets rest : List ℕ) : Type 0 where
  pub before : List Cap
  pub cut : after before (many cap_at rest) ≡ many cap_at octets

pub begins : (octets : List ℕ) → SoFar octets octets
begins octets = record { before = []; cut = refl }

pub goes_on : (octets rest : List ℕ) (cap : Cap) (later : List ℕ) → SoFar octets rest → cap_at rest ≡ Some (cap, later) → SoFar octets later
goes_on octets rest cap later s e =
    record { before = s.before ++ cap ∷ []; cut = after_more cap_at cap_shortens s.before rest (cap, later) (many cap_at octets) e s.cut }

pub stops_short : (octets rest : List ℕ) → SoFar octets rest → cap_at rest ≡ None → 0 < length rest → all_of cap_at octets ≡ None
stops_short octets rest s e lt = stopped cap_at s.before rest (many cap_at octets) e lt s.cut

pub ends : (octets rest : List ℕ) (s : SoFar octets rest) → length rest ≡ 0 → all_of cap_at octets ≡ Some s.before
ends octets rest s e = finished cap_at s.before rest (many cap_at octets) e s.cut

-- ---- capabilities that are added to a list

pub record Adding (octets rest : List ℕ) (old new : List Cap) : Type 0 where
  pub so_far : SoFar octets rest
  pub added : new ≡ old ++ so_far.before

pub adds_none : (octets : List ℕ) (old : List Cap) → Adding octets octets old old
unfolding begins
adds_none octets old = record { so_far = begins octets; added = sym (append-nil old) }

pub adds_one : (octets rest : List ℕ) (old new : List Cap) (cap : Cap) (later : List ℕ) (new' : List Cap) → Adding octets rest old new
    → cap_at rest ≡ Some (cap, later) → new' ≡ new ++ cap ∷ [] → Adding octets later old new'
unfolding goes_on
adds_one octets rest old new cap later new' a e more = record {
  so_far = goes_on octets rest cap later a.so_far e;
  added = more ∙ (ap (λ (xs : List Cap). xs ++ cap ∷ []) a.added ∙ append_assoc old a.so_far.before (cap ∷ []));
}

pub added_all : (octets rest : List ℕ) (old new : List Cap) → Adding octets rest old new → length rest ≡ 0
    → AddsCaps old new (all_of cap_at octets) × (caps_fault (all_of cap_at octets) ≡ None)
added_all octets rest old new a e =
    let all = ends octets rest a.so_far e in
    (subst (AddsCaps old new) (sym all) a.added, ap caps_fault all)

-- ---- parameters

-- what is left of the parameters, and what was read
pub record Reading (params rest : List ℕ) (caps : List Cap) : Type 0 where
  pub left : (many cap_at rest).1 ≡ []
  pub result : caps_after caps (caps_of (many cap_at rest).0) ≡ with_params (all_of cap_at params)

whole_rest : (xs : List Cap) (rest : List ℕ) → is_some (if_whole xs rest) ≡ true → (rest ≡ []) × (if_whole xs rest ≡ Some xs)
whole_rest xs [] e = (refl, refl)
whole_rest xs (b ∷ rest) e = absurd cc

after_nothing : (r : Result (List Cap) Notice) → caps_after [] r ≡ r
after_nothing (Ok caps) = refl
after_nothing (Err n) = refl

pub reads_none : (params : List ℕ) (caps : List Cap) → caps ≡ [] → is_some (all_of cap_at params) ≡ true → Reading params params caps
reads_none params caps none whole =
    let w = whole_rest (many cap_at params).0 (many cap_at params).1 whole in
    record {
      left = w.0;
      result = ap (λ (xs : List Cap). caps_after xs (caps_of (many cap_at params).0)) none
          ∙ (after_nothing (caps_of (many cap_at params).0) ∙ sym (ap with_params w.1));
    }

front_is : (rest : List ℕ) (param : Cap) (later : List ℕ) → cap_at rest ≡ Some (param, later)
    → many cap_at rest ≡ (param ∷ (many cap_at later).0, (many cap_at later).1)
front_is rest param later e = many_some cap_at cap_shortens rest (param, later) e

not_eq : (t : Bool) (r : Result (List Cap) Notice) (n : Notice) → t ≡ false → (let s : Result (List Cap) Notice = cond t r (Err n) in s) ≡ Err n
not_eq t r n e = ap (λ (b : Bool). (let s : Result (List Cap) Notice = cond b r (Err n) in s)) e

pub other_type : (params rest : List ℕ) (caps : List Cap) (param : Cap) (later : List ℕ) → Reading params rest caps
    → cap_at rest ≡ Some (param, later) → eqb param.code 2 ≡ false → fault_in (with_params (all_of cap_at params)) ≡ Some (open_fault 4)
unfolding caps_of
other_type params rest caps param later r e code =
    let first : caps_of (many cap_at rest).0 ≡ Err (open_fault 4) = ap (λ (m : List Cap × List ℕ). caps_of m.0) (front_is rest param later e)
    ∙ not_eq (eqb param.code 2) (with_caps (all_of cap_at param.bytes) (caps_of (many cap_at later).0)) (open_fault 4) code in
    ap fault_in (sym r.result ∙ ap (caps_after caps) first)

front_caps : (rest : List ℕ) (param : Cap) (later : List ℕ) → cap_at rest ≡ Some (param, later) → eqb param.code 2 ≡ true
    → caps_of (many cap_at rest).0 ≡ with_caps (all_of cap_at param.bytes) (caps_of (many cap_at later).0)
unfolding caps_of
front_caps rest param later e code =
    ap (λ (m : List Cap × List ℕ). caps_of m.0) (front_is rest param later e)
    ∙ ap (λ (b : Bool).
    (let s : Result (List Cap) Notice = cond b (with_caps (all_of cap_at param.bytes) (caps_of (many cap_at later).0)) (Err (open_fault 4)) in s)) code

pub caps_fail : (params rest : List ℕ) (caps : List Cap) (param : Cap) (later : List ℕ) (stop : CodecFault) → Reading params rest caps
    → cap_at rest ≡ Some (param, later) → eqb param.code 2 ≡ true → Stops stop (caps_fault (all_of cap_at param.bytes))
    → Stops stop (fault_in (with_params (all_of cap_at params)))
caps_fail params rest caps param later stops.NoMemory r e code f = tt
caps_fail params rest caps param later (stops.Wire n) r e code f =
    let n_is = none_is (all_of cap_at param.bytes) (caps_of (many cap_at later).0) n f in
    ap fault_in (sym r.result ∙ ap (caps_after caps) (front_caps rest param later e code ∙ n_is))
  where
    none_is : (o : Option (List Cap)) (later : Result (List Cap) Notice) (n : Notice) → caps_fault o ≡ Some n → with_caps o later ≡ Err n
    none_is None later n e = ap (λ (m : Notice). (let r : Result (List Cap) Notice = Err m in r)) (same_Some _ n e)
    none_is (Some caps) later n e = absurd cc

pub reads_one : (params rest : List ℕ) (caps : List Cap) (param : Cap) (later : List ℕ) (caps' : List Cap) → Reading params rest caps
    → cap_at rest ≡ Some (param, later) → eqb param.code 2 ≡ true → AddsCaps caps caps' (all_of cap_at param.bytes) → Reading params later caps'
reads_one params rest caps param later caps' r e code added = record {
  left = sym (ap (λ (m : List Cap × List ℕ). m.1) (front_is rest param later e)) ∙ r.left;
  result = joined (all_of cap_at param.bytes) (caps_of (many cap_at later).0) added
      ∙ (sym (ap (caps_after caps) (front_caps rest param later e code)) ∙ r.result);
} where
  joined : (o : Option (List Cap)) (later : Result (List Cap) Notice) → AddsCaps caps caps' o → caps_after caps' later ≡ caps_after caps (with_caps o later)
  joined None later a = absurd a
  joined (Some more) (Ok others) a = ap (λ (xs : List Cap). (let r : Result (List Cap) Notice = Ok (xs ++ others) in r)) a
      ∙ ap (λ (xs : List Cap). (let r : Result (List Cap) Notice = Ok xs in r)) (append_assoc caps more others)
  joined (Some more) (Err n) a = refl

pub reads_all : (params rest : List ℕ) (caps : List Cap) → Reading params rest caps → cap_at rest ≡ None → with_params (all_of cap_at params) ≡ Ok caps
unfolding caps_of
reads_all params rest caps r e =
    let none : caps_of (many cap_at rest).0 ≡ Ok [] = ap (λ (m : List Cap × List ℕ). caps_of m.0) (many_none cap_at rest e) in
    sym r.result ∙ (ap (caps_after caps) none ∙ ap (λ (xs : List Cap). (let s : Result (List Cap) Notice = Ok xs in s)) (append-nil caps))
