-- The messages of a stream that comes in pieces.
use Rattle.std.proofs.Common.{◌≡◌, ℕ, zero, suc, ◌≤◌, List, [], ◌++◌, length, take, drop, get_or, eqb, ltb, cond, Bool, true, false}
use Rattle.std.proofs.Common.{Option, Some, None, refl, sym, ap, ◌∙◌, subst, append_assoc, arith}
use Rattle.std.specs.Prelude.{◌||◌, Result, Ok, Err}
use Rattle.std.specs.List.{flat_map, list_all, AllByRecursion}
use Rattle.std.proofs.lemmas.Bool.{ltb-false}
use Rattle.std.proofs.lemmas.List.{append-nil, get_or-take, length-take-le}
use Rattle.bgp_frame.specs.Next.{IsFrontOf}
use Rattle.bgp_frame.specs.declared.front.FrontFrame.{FrontFrame}
use Rattle.bgp_types.specs.declared.fault.HeaderFault.{HeaderFault}
use Rattle.bgp_types.specs.declared.fault.HeaderFault.TheVariants.{NotSynchronized, BadLength, BadType}
use Rattle.bgp_types.specs.Header.{frame_at, header_fault, kind_in, len_in, has_room, fault_of_kind}
use Rattle.bgp_types.specs.Many.{many}
use Rattle.imported_sessions.specs.Heard.{IsMessageAt}
use Rattle.bgp_types.proofs.FrameLaws.{IsFrame, frame_is, front_frame, frame_reads, frame_shortens}
use Rattle.bgp_types.proofs.ManyLaws.{after, many_front, many_none, many_some}

-- the messages of octets and what is behind them, joined, are the octets, and each message stands by itself
pub record AreParts (bytes : List ℕ) (all : List (List ℕ)) (rest : List ℕ) : Type 0 where
  pub joined : flat_map (λ (message : List ℕ). message) all ++ rest ≡ bytes
  pub frames : AllByRecursion IsFrame all

abbrev pub HasParts : List ℕ → Type 0
HasParts bytes = AreParts bytes (many frame_at bytes).0 (many frame_at bytes).1

parts_at : (bytes : List ℕ) (front : Option (List ℕ × List ℕ)) → frame_at bytes ≡ front
    → ((x : List ℕ × List ℕ) → front ≡ Some x → HasParts x.1) → HasParts bytes
parts_at bytes None e behind =
    subst (λ (m : List (List ℕ) × List ℕ). AreParts bytes m.0 m.1) (sym (many_none frame_at bytes e)) (record { joined = refl; frames = tt })
parts_at bytes (Some x) e behind =
    let f = front_frame bytes x e in
    let b = behind x refl in
    let all = (many frame_at x.1).0 in
    subst (λ (m : List (List ℕ) × List ℕ). AreParts bytes m.0 m.1) (sym (many_some frame_at frame_shortens bytes x e)) (record {
      joined = append_assoc x.0 (flat_map (λ (message : List ℕ). message) all) (many frame_at x.1).1
          ∙ (ap (λ (y : List ℕ). x.0 ++ y) b.joined ∙ sym f.0);
      frames = (f.1, b.frames);
    })

parts_within : (n : ℕ) (bytes : List ℕ) → length bytes ≤ n → HasParts bytes
parts_within zero bytes few = parts_at bytes (frame_at bytes) refl (λ x e. absurd (omega (arith, few, frame_shortens.shorter bytes x e)))
parts_within (suc n) bytes few =
    parts_at bytes (frame_at bytes) refl (λ x e. parts_within n x.1 (omega (arith, few, frame_shortens.shorter bytes x e)))

pub parts : (bytes : List ℕ) → HasParts bytes
parts bytes = parts_within (length bytes) bytes (omega arith)

-- octets behind others give the messages of those, and then those of what was behind them
pub fed : (stream octets : List ℕ)
    → many frame_at (stream ++ octets) ≡ after (many frame_at stream).0 (many frame_at ((many frame_at stream).1 ++ octets))
fed stream octets =
    let p = parts stream in
    let all = (many frame_at stream).0 in
    let rest = (many frame_at stream).1 in
    ap (λ (y : List ℕ). many frame_at (y ++ octets)) (sym p.joined)
    ∙ ap (many frame_at) (append_assoc (flat_map (λ (message : List ℕ). message) all) rest octets)
    ∙ many_front frame_at (λ message. message) IsFrame frame_reads all (rest ++ octets) p.frames

-- ---- how long a message is

kind_short : (kind len : ℕ) → fault_of_kind kind len ≡ None → len ≤ 4096
kind_short kind len e = by_test (ltb len 19) (ltb 4096 len) refl e where
  by_test : (t u : Bool) → ltb 4096 len ≡ u
      → cond (t || u) (Some (BadLength len))
      (cond ((eqb kind 0) || ltb 4 kind) (Some (BadType kind)) (cond (has_room kind len) None (Some (BadLength len)))) ≡ None
      → len ≤ 4096
  by_test true u f e = absurd cc
  by_test false true f e = absurd cc
  by_test false false f e = ltb-false _ _ f

short_enough : (bytes : List ℕ) → header_fault bytes ≡ None → len_in bytes ≤ 4096
unfolding header_fault
short_enough bytes e = by_test (list_all (λ b. eqb b 255) (take 16 bytes)) e where
  by_test : (t : Bool) → cond t (fault_of_kind (get_or bytes 18 0) (len_in bytes)) (Some NotSynchronized) ≡ None → len_in bytes ≤ 4096
  by_test true e = kind_short (get_or bytes 18 0) (len_in bytes) e
  by_test false e = absurd cc

-- a message has 19 to 4,096 octets
pub record IsSized (message : List ℕ) : Type 0 where
  pub long : 19 ≤ length message
  pub short : length message ≤ 4096

pub sized : (message : List ℕ) → IsFrame message → IsSized message
sized message frame =
    let whole : frame_at message ≡ Some (message, []) = ap frame_at (sym (append-nil message)) ∙ frame [] in
    let f = frame_is message (message, []) whole in
    let is : length message ≡ len_in message =
    ap (λ (x : List ℕ × List ℕ). length x.0) (sym f.3) ∙ length-take-le (len_in message) message f.2 in
    record { long = f.0; short = omega (arith, is, short_enough message f.1) }

-- ---- the message at the front

-- what is cut off at the front is the message there
pub at_front : (bytes rest message left : List ℕ) (front : FrontFrame) → IsFrontOf (Ok (Some front)) bytes → bytes ≡ rest → message ≡ take front.len rest
    → left ≡ drop front.len rest → (frame_at rest ≡ Some (message, left)) × (front.kind ≡ kind_in message)
at_front bytes rest message left front is same cut dropped =
    let long = is.2 in
    let kind : get_or (take front.len rest) 18 0 ≡ get_or rest 18 0 = get_or-take front.len rest 18 0 (omega (arith, long)) in (
      ap frame_at (sym same) ∙ is.0 ∙ ap (λ (xs : List ℕ). Some (take front.len xs, drop front.len xs)) same
          ∙ ap (λ (m : List ℕ). Some (m, drop front.len rest)) (sym cut) ∙ ap (λ (l : List ℕ). Some (message, l)) (sym dropped),
      is.1 ∙ ap (λ (xs : List ℕ). kind_in xs) same ∙ sym kind ∙ ap (λ (xs : List ℕ). kind_in xs) (sym cut),
    )

-- at a faulty header there is no message
pub none_faulty : (bytes : List ℕ) (fault : HeaderFault) → header_fault bytes ≡ Some fault → frame_at bytes ≡ None
none_faulty bytes fault faulty = by_front (frame_at bytes) refl where
  by_front : (front : Option (List ℕ × List ℕ)) → frame_at bytes ≡ front → front ≡ None
  by_front None e = refl
  by_front (Some x) e = let sound = (frame_is bytes x e).1 in absurd cc

pub front_at : (r : Result (Option FrontFrame) HeaderFault) (bytes : List ℕ) → IsFrontOf r bytes → (front : Option FrontFrame) → r ≡ Ok front
    → IsMessageAt front bytes
front_at (Ok None) bytes is None e = is.0
front_at (Ok None) bytes is (Some f) e = absurd cc
front_at (Ok (Some f)) bytes is None e = absurd cc
front_at (Ok (Some f)) bytes is (Some g) e = subst (λ (o : Option FrontFrame). IsMessageAt o bytes) (same_Ok (Some f) (Some g) e) is where
  same_Ok : (x y : Option FrontFrame) → ◌≡◌ {A = Result (Option FrontFrame) HeaderFault} (Ok x) (Ok y) → x ≡ y
  same_Ok x y e = cc
front_at (Err fault) bytes is front e = absurd cc
