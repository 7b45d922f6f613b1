-- An OPEN reads as what its octets say.
use Rattle.std.proofs.Common.{◌≡◌, ℕ, zero, suc, ◌^◌, ◌≤◌, ◌<◌, List, [], ◌∷◌, ◌++◌, length, take, drop, Bool, true, false, cond, eqb, ltb}
use Rattle.std.proofs.Common.{Option, Some, None, Result, Ok, Err, refl, sym, ap, ◌∙◌, arith, length-drop, length-append, subst}
use Rattle.std.specs.Prelude.{not, ◌&&◌}
use Rattle.std.specs.List.{flat_map, AllByRecursion}
use Rattle.std.specs.Int.{w16, w32, from_be_bytes, to_be_bytes}
use Rattle.std.proofs.lemmas.Option.{same_Some}
use Rattle.std.proofs.lemmas.Bool.{le-ltb, ltb-false, eqb-true}
use Rattle.std.proofs.lemmas.Bool.Decides.{nat_tests}
use Rattle.std.proofs.lemmas.List.{length-take-le, take_at, drop_at, take-append-drop}
use Rattle.bgp_types.specs.declared.fault.Expected.{Expected}
use Rattle.bgp_types.specs.declared.message.Cap.{Cap}
use Rattle.bgp_types.specs.declared.message.Notice.{Notice}
use Rattle.bgp_types.specs.declared.message.OpenMsg.{OpenMsg}
use Rattle.bgp_types.specs.Expect.{is_remote_as}
use Rattle.bgp_types.specs.Many.{all_of}
use Rattle.bgp_types.specs.OctetLists.{AreOctets}
use Rattle.bgp_types.specs.OpenBody.{cap_at, open_fault, with_caps, caps_of, params_of, with_params, as_said, is_field, is_said}
use Rattle.bgp_types.specs.OpenBody.{version_in, as_in, hold_in, identifier_in, open_with, unless_fault, with_said, open_of}
use Rattle.bgp_types.specs.Reads.{ReadsOpen}
use Rattle.bgp_types.specs.Spelling.{cap_octets, param_octets, open_octets}
use Rattle.bgp_types.specs.Values.{is_no_host, is_short_hold}
use Rattle.bgp_types.proofs.AttrLaws.{wide16, wide32}
use Rattle.bgp_types.proofs.ManyLaws.{Reads, all_again, kept_out}
use Rattle.bgp_types.proofs.TakesLaws.{TakesOne, all_taken}

-- ---- capabilities, and parameters likewise

abbrev Any : List ℕ → Type 0
Any bytes = Unit {0}

abbrev AnyCap : Cap → Type 0
AnyCap cap = Unit {0}

cap_takes : (bytes : List ℕ) (x : Cap × List ℕ) → Any bytes → cap_at bytes ≡ Some x → TakesOne Any cap_at cap_octets AnyCap bytes x
unfolding cap_at
cap_takes [] x b e = absurd cc
cap_takes (code ∷ []) x b e = absurd cc
cap_takes (code ∷ size ∷ bytes) x b e =
    let cap : Cap = record { code = code; bytes = take size bytes } in
    let h = kept_out (ltb (length bytes) size) (Some (cap, drop size bytes)) x e in
    let len : length (take size bytes) ≡ size = length-take-le size bytes (ltb-false _ _ h.0) in
    let here : TakesOne Any cap_at cap_octets AnyCap (code ∷ size ∷ bytes) (cap, drop size bytes) = record {
      parts = ap (λ (y : List ℕ). code ∷ size ∷ y) (sym (take-append-drop size bytes))
          ∙ ap (λ (n : ℕ). code ∷ n ∷ take size bytes ++ drop size bytes) (sym len);
      fits = tt;
      rest = tt;
    } in
    subst (λ (y : Cap × List ℕ). TakesOne Any cap_at cap_octets AnyCap (code ∷ size ∷ bytes) y) (same_Some _ x h.1) here

cap_shorter : (bytes : List ℕ) (x : Cap × List ℕ) → cap_at bytes ≡ Some x → length x.1 < length bytes
unfolding cap_at
cap_shorter [] x e = absurd cc
cap_shorter (code ∷ []) x e = absurd cc
cap_shorter (code ∷ size ∷ bytes) x e =
    let cap : Cap = record { code = code; bytes = take size bytes } in
    let h = kept_out (ltb (length bytes) size) (Some (cap, drop size bytes)) x e in
    let d : x.1 ≡ drop size bytes = ap (λ (y : Cap × List ℕ). y.1) (sym (same_Some _ x h.1)) in
    rw (d, length-drop size bytes) (omega arith)

cap_again : (cap : Cap) (rest : List ℕ) → AnyCap cap → cap_at (cap_octets cap ++ rest) ≡ Some (cap, rest)
unfolding cap_at
cap_again cap rest fits =
    let n : ℕ = length cap.bytes in
    let long : ltb (length (cap.bytes ++ rest)) n ≡ false = le-ltb _ _ (omega (arith, length-append cap.bytes rest)) in
    rw (long, take_at cap.bytes rest n refl, drop_at cap.bytes rest n refl) refl

pub cap_reads : Reads cap_at cap_octets AnyCap
cap_reads = record { shortens = record { shorter = cap_shorter }; again = cap_again }

no_cap : cap_at [] ≡ None
unfolding cap_at
no_cap = refl

any_caps : (caps : List Cap) → AllByRecursion AnyCap caps
any_caps [] = tt
any_caps (cap ∷ caps) = (tt, any_caps caps)

caps_again : (caps : List Cap) → all_of cap_at (flat_map cap_octets caps) ≡ Some caps
caps_again caps = all_again cap_at cap_octets AnyCap cap_reads caps (any_caps caps) no_cap

caps_taken : (bytes : List ℕ) (caps : List Cap) → all_of cap_at bytes ≡ Some caps → bytes ≡ flat_map cap_octets caps
caps_taken bytes caps e = (all_taken Any cap_at cap_octets AnyCap cap_takes bytes caps tt e).0

-- ---- parameters

-- a parameter of type 2 with these capabilities
abbrev param_of : List Cap → Cap
param_of caps = record { code = 2; bytes = flat_map cap_octets caps }

abbrev params_with : List (List Cap) → List Cap
params_with [] = []
params_with (caps ∷ params) = param_of caps ∷ params_with params

abbrev all_caps : List (List Cap) → List Cap
all_caps params = flat_map (λ caps. caps) params

params_octets : (params : List (List Cap)) → flat_map cap_octets (params_with params) ≡ flat_map (λ caps. param_octets (flat_map cap_octets caps)) params
params_octets [] = refl
params_octets (caps ∷ params) = ap (λ (y : List ℕ). param_octets (flat_map cap_octets caps) ++ y) (params_octets params)

caps_of_again : (params : List (List Cap)) → caps_of (params_with params) ≡ Ok (all_caps params)
unfolding caps_of
caps_of_again [] = refl
caps_of_again (caps ∷ params) =
    ap (λ (o : Option (List Cap)). with_caps o (caps_of (params_with params))) (caps_again caps)
    ∙ ap (λ (r : Result (List Cap) Notice). with_caps (Some caps) r) (caps_of_again params)

with_caps_ok : (o : Option (List Cap)) (later : Result (List Cap) Notice) (caps : List Cap) → with_caps o later ≡ Ok caps
    → (first : List Cap) × (others : List Cap) × (o ≡ Some first) × (later ≡ Ok others) × (first ++ others ≡ caps)
with_caps_ok None later caps e = absurd cc
with_caps_ok (Some first) (Err n) caps e = absurd cc
with_caps_ok (Some first) (Ok others) caps e = (first, others, refl, refl, cc)

if_ok : {A : Type 0} (t : Bool) (r : Result A Notice) (n : Notice) (x : A) → cond t r (Err n) ≡ Ok x → (t ≡ true) × (r ≡ Ok x)
if_ok true r n x e = (refl, e)
if_ok false r n x e = absurd cc

same_cap : (p : Cap) (caps : List Cap) → p.code ≡ 2 → p.bytes ≡ flat_map cap_octets caps → p ≡ param_of caps
same_cap p caps e f = grind arith

params_read : (ps : List Cap) (caps : List Cap) → caps_of ps ≡ Ok caps → (params : List (List Cap)) × (ps ≡ params_with params) × (caps ≡ all_caps params)
unfolding caps_of
params_read [] caps e = ([], refl, cc)
params_read (p ∷ ps) caps e =
    let t = if_ok (eqb p.code 2) (with_caps (all_of cap_at p.bytes) (caps_of ps)) (open_fault 4) caps e in
    let w = with_caps_ok (all_of cap_at p.bytes) (caps_of ps) caps t.1 in
    let r = params_read ps w.1 w.3 in
    let first : p ≡ param_of w.0 = same_cap p w.0 (eqb-true _ _ t.0) (caps_taken p.bytes w.0 w.2) in
    (w.0 ∷ r.0, ap (λ (q : Cap). q ∷ ps) first ∙ ap (λ (qs : List Cap). param_of w.0 ∷ qs) r.1, sym w.4 ∙ ap (λ (cs : List Cap). w.0 ++ cs) r.2)

-- ---- the body

octets2 : (a b : ℕ) → a < 256 → b < 256 → AreOctets (a ∷ b ∷ [])
octets2 a b x y zero = x
octets2 a b x y (suc zero) = y
octets2 a b x y (suc (suc i)) = omega arith

octets4 : (a b c d : ℕ) → a < 256 → b < 256 → c < 256 → d < 256 → AreOctets (a ∷ b ∷ c ∷ d ∷ [])
octets4 a b c d x y z w zero = x
octets4 a b c d x y z w (suc zero) = y
octets4 a b c d x y z w (suc (suc zero)) = z
octets4 a b c d x y z w (suc (suc (suc zero))) = w
octets4 a b c d x y z w (suc (suc (suc (suc i)))) = omega arith

record Fields (body : List ℕ) : Type 0 where
  version : ℕ
  a : ℕ
  b : ℕ
  c : ℕ
  d : ℕ
  e : ℕ
  f : ℕ
  g : ℕ
  h : ℕ
  size : ℕ
  params : List ℕ
  all : body ≡ version ∷ a ∷ b ∷ c ∷ d ∷ e ∷ f ∷ g ∷ h ∷ size ∷ params

fields : (body : List ℕ) → 10 ≤ length body → Fields body
fields (v ∷ a ∷ b ∷ c ∷ d ∷ e ∷ f ∷ g ∷ h ∷ size ∷ params) le =
    record { version = v; a = a; b = b; c = c; d = d; e = e; f = f; g = g; h = h; size = size; params = params; all = refl }
fields [] le = absurd (omega arith)
fields (v ∷ []) le = absurd (omega arith)
fields (v ∷ a ∷ []) le = absurd (omega arith)
fields (v ∷ a ∷ b ∷ []) le = absurd (omega arith)
fields (v ∷ a ∷ b ∷ c ∷ []) le = absurd (omega arith)
fields (v ∷ a ∷ b ∷ c ∷ d ∷ []) le = absurd (omega arith)
fields (v ∷ a ∷ b ∷ c ∷ d ∷ e ∷ []) le = absurd (omega arith)
fields (v ∷ a ∷ b ∷ c ∷ d ∷ e ∷ f ∷ []) le = absurd (omega arith)
fields (v ∷ a ∷ b ∷ c ∷ d ∷ e ∷ f ∷ g ∷ []) le = absurd (omega arith)
fields (v ∷ a ∷ b ∷ c ∷ d ∷ e ∷ f ∷ g ∷ h ∷ []) le = absurd (omega arith)

-- the tests are passed
pub record Passes (expected : Expected) (body : List ℕ) (caps : List Cap) : Type 0 where
  pub version : version_in body ≡ 4
  pub hold : is_short_hold (hold_in body) ≡ false
  pub host : is_no_host (identifier_in body) ≡ false
  pub params : with_params (params_of (drop 9 body)) ≡ Ok caps

unless_ok : {A : Type 0} (t : Bool) (n : Notice) (later : Result A Notice) (x : A) → unless_fault t n later ≡ Ok x → (t ≡ false) × (later ≡ Ok x)
unless_ok true n later x e = absurd cc
unless_ok false n later x e = (refl, e)

not_false : (t : Bool) → not t ≡ false → t ≡ true
not_false true e = refl
not_false false e = absurd cc

said_ok : (expected : Expected) (body : List ℕ) (r : Result (List Cap) Notice) (o : OpenMsg) → with_said expected body r ≡ Ok o →
    (caps : List Cap) × (r ≡ Ok caps) × ((expected.offered && not (is_said expected.remote_as (as_in body) (as_said caps))) ≡ false) × (open_with body caps ≡ o)
said_ok expected body (Err n) o e = absurd cc
said_ok expected body (Ok caps) o e =
    let u = unless_ok (expected.offered && not (is_said expected.remote_as (as_in body) (as_said caps))) (open_fault 2) (Ok (open_with body caps)) o e in
    (caps, refl, u.0, cc)

both_tests : (offered field said : Bool) → (not offered && not field) ≡ false → (offered && not said) ≡ false → cond offered said field ≡ true
both_tests true field said e f = not_false said f
both_tests false field said e f = not_false field e

first_test : (offered field said : Bool) → cond offered said field ≡ true → (not offered && not field) ≡ false
first_test true field said e = refl
first_test false field said e = ap not e

last_test : (offered field said : Bool) → cond offered said field ≡ true → (offered && not said) ≡ false
last_test true field said e = ap not e
last_test false field said e = refl

open_passes : (expected : Expected) (body : List ℕ) (o : OpenMsg) → open_of expected body ≡ Ok o
    → (caps : List Cap) × Passes expected body caps × (is_remote_as expected (as_in body) caps ≡ true) × (open_with body caps ≡ o)
unfolding open_of
open_passes expected body o e =
    let version = unless_ok _ _ _ o e in
    let field = unless_ok _ _ _ o version.1 in
    let hold = unless_ok _ _ _ o field.1 in
    let host = unless_ok _ _ _ o hold.1 in
    let said = said_ok expected body (with_params (params_of (drop 9 body))) o host.1 in (
      said.0,
      record { version = eqb-true _ _ (not_false _ version.0); hold = hold.0; host = host.0; params = said.1 },
      both_tests expected.offered (is_field expected.remote_as (as_in body)) (is_said expected.remote_as (as_in body) (as_said said.0)) field.0 said.2,
      said.3,
    )

passes_open : (expected : Expected) (body : List ℕ) (caps : List Cap) → Passes expected body caps → is_remote_as expected (as_in body) caps ≡ true
    → open_of expected body ≡ Ok (open_with body caps)
unfolding open_of
passes_open expected body caps p is =
    let offered = expected.offered in
    let f : Bool = is_field expected.remote_as (as_in body) in
    let s : Bool = is_said expected.remote_as (as_in body) (as_said caps) in
    let version : not (eqb (version_in body) 4) ≡ false = ap (λ (n : ℕ). not (eqb n 4)) p.version in
    rw (version, first_test offered f s is, p.hold, p.host, p.params, last_test offered f s is) refl

-- ---- what is read is spelled so

-- the length that is told is that of the parameters
params_told : (size : ℕ) (params : List ℕ) (caps : List Cap) → with_params (params_of (size ∷ params)) ≡ Ok caps
    → (length params ≡ size) × (ps : List Cap) × (all_of cap_at params ≡ Some ps) × (caps_of ps ≡ Ok caps)
unfolding params_of
params_told size params caps e = by_test (eqb (length params) size) refl (all_of cap_at params) refl e where
  by_test : (t : Bool) → eqb (length params) size ≡ t → (o : Option (List Cap)) → all_of cap_at params ≡ o → with_params (cond t o None) ≡ Ok caps
      → (length params ≡ size) × (ps : List Cap) × (all_of cap_at params ≡ Some ps) × (caps_of ps ≡ Ok caps)
  by_test true f (Some ps) g e = (eqb-true _ _ f, ps, g, e)
  by_test true f None g e = absurd cc
  by_test false f o g e = absurd cc

-- the octets of the fields
two_octets : (a b : ℕ) → a < 256 → b < 256 → to_be_bytes w16 (from_be_bytes w16 (a ∷ b ∷ [])) ≡ a ∷ b ∷ []
two_octets a b x y = wide16.back (a ∷ b ∷ []) refl (octets2 a b x y)

four_octets : (a b c d : ℕ) → a < 256 → b < 256 → c < 256 → d < 256 → to_be_bytes w32 (from_be_bytes w32 (a ∷ b ∷ c ∷ d ∷ [])) ≡ a ∷ b ∷ c ∷ d ∷ []
four_octets a b c d x y z w = wide32.back (a ∷ b ∷ c ∷ d ∷ []) refl (octets4 a b c d x y z w)

pub open_spelled : (v a b c d e f g h size : ℕ) (params : List ℕ) (caps : List Cap) (expected : Expected) →
    (let body : List ℕ = v ∷ a ∷ b ∷ c ∷ d ∷ e ∷ f ∷ g ∷ h ∷ size ∷ params in AreOctets body → Passes expected body caps → ReadsOpen body (open_with body caps))
open_spelled v a b c d e f g h size params caps expected bytes p =
    let body : List ℕ = v ∷ a ∷ b ∷ c ∷ d ∷ e ∷ f ∷ g ∷ h ∷ size ∷ params in
    let told = params_told size params caps p.params in
    let read = params_read told.1 caps told.3 in
    let octets : params ≡ flat_map (λ cs. param_octets (flat_map cap_octets cs)) read.0 =
    caps_taken params told.1 told.2 ∙ (ap (λ (ps : List Cap). flat_map cap_octets ps) read.1 ∙ params_octets read.0) in
    let below : size < 256 = bytes 9 in
    let two = two_octets a b (bytes 1) (bytes 2) in
    let hold = two_octets c d (bytes 3) (bytes 4) in
    let four = four_octets e f g h (bytes 5) (bytes 6) (bytes 7) (bytes 8) in
    let len : length (flat_map (λ cs. param_octets (flat_map cap_octets cs)) read.0) ≡ size = ap (λ (y : List ℕ). length y) (sym octets) ∙ told.0 in
    record {
      params = read.0;
      octets = same_open v a b c d e f g h size params _ _ _ _ p.version two hold four len octets;
      room = rw len below;
      caps = read.2;
      as_number = wide16.below (a ∷ b ∷ []) (octets2 a b (bytes 1) (bytes 2));
      hold = wide16.below (c ∷ d ∷ []) (octets2 c d (bytes 3) (bytes 4));
      identifier = wide32.below (e ∷ f ∷ g ∷ h ∷ []) (octets4 e f g h (bytes 5) (bytes 6) (bytes 7) (bytes 8));
      hold_time = p.hold;
      host = p.host;
    }
  where
    same_open : (v a b c d e f g h size : ℕ) (params xs ys zs ps : List ℕ) → v ≡ 4 → xs ≡ a ∷ b ∷ [] → ys ≡ c ∷ d ∷ [] → zs ≡ e ∷ f ∷ g ∷ h ∷ []
        → length ps ≡ size → params ≡ ps
        → v ∷ a ∷ b ∷ c ∷ d ∷ e ∷ f ∷ g ∷ h ∷ size ∷ params ≡ 4 ∷ xs ++ (ys ++ (zs ++ length ps ∷ ps))
    same_open v a b c d e f g h size params xs ys zs ps e1 e2 e3 e4 e5 e6 = rw (e1, e2, e3, e4, e5, e6) refl

with_fields : (expected : Expected) (body : List ℕ) (caps : List Cap) → Fields body → AreOctets body → Passes expected body caps
    → ReadsOpen body (open_with body caps)
with_fields expected body caps f bytes p =
    let Q : List ℕ → Type 0 = λ y. AreOctets y → Passes expected y caps → ReadsOpen y (open_with y caps) in
    subst Q (sym f.all) (open_spelled f.version f.a f.b f.c f.d f.e f.f f.g f.h f.size f.params caps expected) bytes p

pub open_read : (expected : Expected) (body : List ℕ) (o : OpenMsg) → AreOctets body → 10 ≤ length body → open_of expected body ≡ Ok o
    → ReadsOpen body o × (is_remote_as expected o.as_number o.caps ≡ true)
open_read expected body o bytes le e =
    let s = open_passes expected body o e in (
      subst (λ (m : OpenMsg). ReadsOpen body m) s.3 (with_fields expected body s.0 (fields body le) bytes s.1),
      subst (λ (m : OpenMsg). is_remote_as expected m.as_number m.caps ≡ true) s.3 s.2,
    )

-- ---- what is spelled is read

params_again : (params : List (List Cap))
    → (let octets : List ℕ = flat_map (λ caps. param_octets (flat_map cap_octets caps)) params in
    with_params (params_of (length octets ∷ octets)) ≡ Ok (all_caps params))
unfolding params_of
params_again params =
    let octets : List ℕ = flat_map (λ caps. param_octets (flat_map cap_octets caps)) params in
    let same : eqb (length octets) (length octets) ≡ true = grind (arith, nat_tests) in
    let cut : all_of cap_at octets ≡ Some (params_with params) = ap (all_of cap_at) (sym (params_octets params)) ∙ caps_again (params_with params) in
    rw (same, cut) (caps_of_again params)

opened : (as_number hold identifier : ℕ) (params : List (List Cap)) → as_number < 2 ^ 16 → hold < 2 ^ 16 → identifier < 2 ^ 32 →
    (let body : List ℕ = open_octets as_number hold identifier (flat_map (λ caps. param_octets (flat_map cap_octets caps)) params) in
    (as_in body ≡ as_number) × (hold_in body ≡ hold) × (identifier_in body ≡ identifier))
opened as_number hold identifier params a h i = (wide16.again as_number a, wide16.again hold h, wide32.again identifier i)

pub open_are : (expected : Expected) (body : List ℕ) (o : OpenMsg) → ReadsOpen body o → is_remote_as expected o.as_number o.caps ≡ true
    → open_of expected body ≡ Ok o
open_are expected body o r is =
    let params : List ℕ = flat_map (λ caps. param_octets (flat_map cap_octets caps)) r.params in
    let spelled : List ℕ = open_octets o.as_number o.hold o.identifier params in
    let n = opened o.as_number o.hold o.identifier r.params r.as_number r.hold r.identifier in
    let passes : Passes expected spelled (all_caps r.params) = record {
      version = refl;
      hold = ap is_short_hold n.1 ∙ r.hold_time;
      host = ap is_no_host n.2 ∙ r.host;
      params = params_again r.params;
    } in
    let as_is : is_remote_as expected (as_in spelled) (all_caps r.params) ≡ true = rw (n.0, sym r.caps) is in
    ap (open_of expected) r.octets
    ∙ (passes_open expected spelled (all_caps r.params) passes as_is
    ∙ ap (λ (m : OpenMsg). (let x : Result OpenMsg Notice = Ok m in x)) (same_open _ _ _ _ o n.0 n.1 n.2 (sym r.caps)))
  where
    same_open : (a h i : ℕ) (caps : List Cap) (o : OpenMsg) → a ≡ o.as_number → h ≡ o.hold → i ≡ o.identifier → caps ≡ o.caps
        → (let m : OpenMsg = record { as_number = a; hold = h; identifier = i; caps = caps } in m ≡ o)
    same_open a h i caps o e1 e2 e3 e4 = grind arith

pub as_again : (body : List ℕ) (o : OpenMsg) → ReadsOpen body o → as_in body ≡ o.as_number
as_again body o r = ap (λ (y : List ℕ). as_in y) r.octets ∙ (opened o.as_number o.hold o.identifier r.params r.as_number r.hold r.identifier).0
