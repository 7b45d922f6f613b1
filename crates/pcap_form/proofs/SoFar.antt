-- The parts that were read so far.
use Rattle.std.proofs.Common.{◌≡◌, ◌≢◌, inl, inr, ℕ, ◌+◌, ◌-◌, List, [], ◌∷◌, ◌++◌, length, take, drop, refl, sym, ap, ◌∙◌, subst, arith}
use Rattle.std.proofs.Common.{append_assoc, length-append}
use Rattle.std.specs.Prelude.{true, false, None, Some}
use Rattle.std.proofs.lemmas.Bool.{cond-true, cond-false}
use Rattle.std.proofs.lemmas.List.{append-nil, take-append-drop}
use Rattle.pcap_form.specs.Numbers.{first_wrong}
use Rattle.pcap_form.specs.Pcap.{header_order, header_link, header_fields}
use Rattle.pcap_form.specs.Blocks.{Captured, begins_section, section_order, section_size, section_fields}
use Rattle.pcap_form.specs.Captures.{Before, Start, BehindHeader, InSection, fields, size, IsPart, packets_of, behind}
use Rattle.pcap_form.specs.Captures.{AreParts, packets_in, behind_all, joined, IsCapture, IsFormFault}
use Rattle.pcap_form.proofs.Rows.{all_right}
use Rattle.pcap_form.proofs.Locality.{begins-take_at}
use Rattle.pcap_form.proofs.PartKinds.{header_holds, section_holds}
use Rattle.pcap_form.proofs.Parts.{IsPart-take}

-- The file begins with parts that have these packets; behind them is what is left, and this stands before it.
pub record SoFar (file : List ℕ) (before : Before) (packets : List Captured) (left : List ℕ) : Type 0 where
  pub parts : List (List ℕ)
  pub are_parts : AreParts Start parts
  pub file_is : file ≡ joined parts ++ left
  pub packets_are : packets ≡ packets_in Start parts
  pub before_is : before ≡ behind_all Start parts

-- ---- one part more

AreParts-more : (before : Before) (ps : List (List ℕ)) (p : List ℕ) → AreParts before ps → IsPart (behind_all before ps) p
    → AreParts before (ps ++ p ∷ [])
AreParts-more before [] p all is = (is, tt)
AreParts-more before (q ∷ ps) p all is = (all.0, AreParts-more (behind before q) ps p all.1 is)

packets_more : (before : Before) (ps : List (List ℕ)) (p : List ℕ)
    → packets_in before (ps ++ p ∷ []) ≡ packets_in before ps ++ packets_of (behind_all before ps) p
packets_more before [] p = append-nil (packets_of before p)
packets_more before (q ∷ ps) p =
    ap (λ (xs : List Captured). packets_of before q ++ xs) (packets_more (behind before q) ps p)
    ∙ sym (append_assoc (packets_of before q) (packets_in (behind before q) ps) (packets_of (behind_all (behind before q) ps) p))

behind_more : (before : Before) (ps : List (List ℕ)) (p : List ℕ) → behind_all before (ps ++ p ∷ []) ≡ behind (behind_all before ps) p
behind_more before [] p = refl
behind_more before (q ∷ ps) p = behind_more (behind before q) ps p

joined_more : (ps : List (List ℕ)) (p : List ℕ) → joined (ps ++ p ∷ []) ≡ joined ps ++ p
joined_more [] p = append-nil p
joined_more (q ∷ ps) p = ap (λ (xs : List ℕ). q ++ xs) (joined_more ps p) ∙ sym (append_assoc q (joined ps) p)

pub SoFar-none : (file : List ℕ) → SoFar file Start [] file
SoFar-none file = record { parts = []; are_parts = tt; file_is = refl; packets_are = refl; before_is = refl }

pub SoFar-one : (file : List ℕ) (before : Before) (packets : List Captured) (left : List ℕ) → SoFar file before packets left
    → first_wrong (fields before left) ≡ None
    → SoFar file (behind before (take (size before left) left)) (packets ++ packets_of before (take (size before left) left)) (drop (size before left) left)
SoFar-one file before packets left s right =
    let n = size before left in
    let part = take n left in
    record {
      parts = s.parts ++ part ∷ [];
      are_parts = AreParts-more Start s.parts part s.are_parts (subst (λ (b : Before). IsPart b part) s.before_is (IsPart-take before left right));
      file_is = s.file_is ∙ ap (λ (xs : List ℕ). joined s.parts ++ xs) (sym (take-append-drop n left))
          ∙ sym (append_assoc (joined s.parts) part (drop n left)) ∙ ap (λ (xs : List ℕ). xs ++ drop n left) (sym (joined_more s.parts part));
      packets_are = ap (λ (ps : List Captured). ps ++ packets_of before part) s.packets_are
          ∙ ap (λ (b : Before). packets_in Start s.parts ++ packets_of b part) s.before_is ∙ sym (packets_more Start s.parts part);
      before_is = ap (λ (b : Before). behind b part) s.before_is ∙ sym (behind_more Start s.parts part);
    }

-- ---- the first part

pub SoFar-header : (file : List ℕ) → begins_section file ≡ false → first_wrong (header_fields file) ≡ None
    → SoFar file (BehindHeader (header_order (take 24 file)) (header_link (take 24 file))) [] (drop 24 file)
SoFar-header file other right =
    let one = SoFar-one file Start [] file (SoFar-none file)
    (ap first_wrong (cond-false (begins_section file) (section_fields file) (header_fields file) other) ∙ right) in
    let n : size Start file ≡ 24 = cond-false (begins_section file) (section_size file) 24 other in
    let same = begins-take_at file 24 (omega arith) (header_holds file (all_right (header_fields file) right)) ∙ other in
    let state : behind Start (take 24 file) ≡ BehindHeader (header_order (take 24 file)) (header_link (take 24 file)) =
    cond-false (begins_section (take 24 file)) (InSection (section_order (take 24 file)) [])
    (BehindHeader (header_order (take 24 file)) (header_link (take 24 file))) same in
    subst (λ (b : Before). SoFar file b [] (drop 24 file)) state (subst (λ (k : ℕ). SoFar file (behind Start (take k file)) [] (drop k file)) n one)

pub SoFar-section : (file : List ℕ) → begins_section file ≡ true → first_wrong (section_fields file) ≡ None
    → SoFar file (InSection (section_order (take (section_size file) file)) []) [] (drop (section_size file) file)
SoFar-section file begins right =
    let one = SoFar-one file Start [] file (SoFar-none file)
    (ap first_wrong (cond-true (begins_section file) (section_fields file) (header_fields file) begins) ∙ right) in
    let n : size Start file ≡ section_size file = cond-true (begins_section file) (section_size file) 24 begins in
    let first = take (section_size file) file in
    let holds = section_holds file (all_right (section_fields file) right) in
    let same = begins-take_at file (section_size file) (omega (arith, holds.1)) holds.2 ∙ begins in
    let state : behind Start first ≡ InSection (section_order first) [] =
    cond-true (begins_section first) (InSection (section_order first) []) (BehindHeader (header_order first) (header_link first)) same in
    subst (λ (b : Before). SoFar file b [] (drop (section_size file) file)) state
    (subst (λ (k : ℕ). SoFar file (behind Start (take k file)) [] (drop k file)) n one)

-- ---- the others

-- octets that are the part that stands there
pub right_part : (before : Before) (left : List ℕ) (n : ℕ) (part : List ℕ) → first_wrong (fields before left) ≡ None → n ≡ size before left
    → part ≡ take n left → first_wrong (fields before part) ≡ None
right_part before left n part right n_is part_is =
    ap (λ (xs : List ℕ). first_wrong (fields before xs)) (part_is ∙ ap (λ (k : ℕ). take k left) n_is) ∙ (IsPart-take before left right).right

pub SoFar-part : (file : List ℕ) (before after : Before) (packets packets' : List Captured) (left : List ℕ) (n : ℕ) (part rest : List ℕ)
    → SoFar file before packets left → first_wrong (fields before left) ≡ None → n ≡ size before left → part ≡ take n left → rest ≡ drop n left
    → packets' ≡ packets ++ packets_of before part → after ≡ behind before part → SoFar file after packets' rest
SoFar-part file before after packets packets' left n part rest s right n_is part_is rest_is packets_are after_is =
    let same : part ≡ take (size before left) left = part_is ∙ ap (λ (k : ℕ). take k left) n_is in
    subst (λ (xs : List ℕ). SoFar file after packets' xs) (sym (rest_is ∙ ap (λ (k : ℕ). drop k left) n_is))
    (subst (λ (ps : List Captured). SoFar file after ps (drop (size before left) left))
    (sym (packets_are ∙ ap (λ (xs : List ℕ). packets ++ packets_of before xs) same))
    (subst (λ (b : Before). SoFar file b (packets ++ packets_of before (take (size before left) left)) (drop (size before left) left))
    (sym (after_is ∙ ap (behind before) same)) (SoFar-one file before packets left s right)))

-- ---- how the reading ends

pub SoFar-capture : (file : List ℕ) (before : Before) (packets : List Captured) (left : List ℕ) → before ≢ Start → SoFar file before packets left
    → left ≡ [] → IsCapture file packets
SoFar-capture file before packets left further s none = record {
  parts = s.parts;
  some = λ e. further (s.before_is ∙ ap (behind_all Start) e);
  are_parts = s.are_parts;
  file_is = s.file_is ∙ ap (λ (xs : List ℕ). joined s.parts ++ xs) none ∙ append-nil (joined s.parts);
  packets_are = s.packets_are;
}

pub SoFar-fault : (file : List ℕ) (before : Before) (packets : List Captured) (left : List ℕ) (offset : ℕ) → SoFar file before packets left → left ≢ []
    → first_wrong (fields before left) ≡ Some offset → IsFormFault file (length file - length left + offset)
SoFar-fault file before packets left offset s more wrong = record {
  parts = s.parts;
  left = left;
  offset = offset;
  more = inr more;
  are_parts = s.are_parts;
  file_is = s.file_is;
  wrong = ap (λ (b : Before). first_wrong (fields b left)) (sym s.before_is) ∙ wrong;
  place_is = omega (arith, ap (λ (xs : List ℕ). length xs) s.file_is, length-append (joined s.parts) left);
}

first_fault : (file : List ℕ) (offset : ℕ) → first_wrong (fields Start file) ≡ Some offset → IsFormFault file offset
first_fault file offset wrong = record {
  parts = [];
  left = file;
  offset = offset;
  more = inl refl;
  are_parts = tt;
  file_is = refl;
  wrong = wrong;
  place_is = omega arith;
}

pub header_fault : (file : List ℕ) (offset : ℕ) → begins_section file ≡ false → first_wrong (header_fields file) ≡ Some offset → IsFormFault file offset
header_fault file offset other wrong =
    first_fault file offset (ap first_wrong (cond-false (begins_section file) (section_fields file) (header_fields file) other) ∙ wrong)

pub section_fault : (file : List ℕ) (offset : ℕ) → begins_section file ≡ true → first_wrong (section_fields file) ≡ Some offset → IsFormFault file offset
section_fault file offset begins wrong =
    first_fault file offset (ap first_wrong (cond-true (begins_section file) (section_fields file) (header_fields file) begins) ∙ wrong)
