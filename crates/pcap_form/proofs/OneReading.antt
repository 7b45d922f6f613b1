-- A file falls into parts in one way, so it has one list of packets or one first fault.
use Rattle.std.proofs.Common.{◌≡◌, ◌≢◌, ◌⊎◌, inl, inr, ℕ, ◌+◌, List, [], ◌∷◌, ◌++◌, length, take, refl, sym, ap, ◌∙◌, subst, append_assoc}
use Rattle.std.specs.Prelude.{Option, None, Some, Result, Ok, Err, IfOk, MatchResult}
use Rattle.std.proofs.Math.Seq.{take-append_seam}
use Rattle.std.proofs.lemmas.List.{append-nil, append_cancel_left}
use Rattle.pcap_form.specs.declared.stop.CaptureStop.{CaptureStop}
use Rattle.pcap_form.specs.declared.stop.CaptureStop.TheVariants as stops
use Rattle.pcap_form.specs.Numbers.{first_wrong}
use Rattle.pcap_form.specs.Blocks.{Captured}
use Rattle.pcap_form.specs.Captures.{Before, Start, fields, size, IsPart, behind, AreParts, behind_all, packets_in, joined, IsCapture, IsFormFault}
use Rattle.pcap_form.proofs.Parts.{right_behind, size_behind, none_empty}

-- the part that these octets begin with is one alone
one_part : (before : Before) (p q x y : List ℕ) → IsPart before p → IsPart before q → p ++ x ≡ q ++ y → p ≡ q
one_part before p q x y one other e =
    let long : length p ≡ length q = sym (size_behind before p x one) ∙ ap (size before) e ∙ size_behind before q y other in
    sym (take-append_seam p x) ∙ ap (take (length p)) e ∙ ap (λ (n : ℕ). take n (q ++ y)) long ∙ take-append_seam q y

-- no part stands there
abbrev Ends : Before → List ℕ → Type 0
Ends before left = first_wrong (fields before left) ≢ None

same_parts : (before : Before) (ps qs : List (List ℕ)) (x y : List ℕ) → AreParts before ps → AreParts before qs → joined ps ++ x ≡ joined qs ++ y
    → Ends (behind_all before ps) x → Ends (behind_all before qs) y → (ps ≡ qs) × (x ≡ y)
same_parts before [] [] x y one other e end end' = (refl, e)
same_parts before [] (q ∷ qs) x y one other e end end' =
    absurd (end (ap (λ (xs : List ℕ). first_wrong (fields before xs)) (e ∙ append_assoc q (joined qs) y) ∙ right_behind before q (joined qs ++ y) other.0))
same_parts before (p ∷ ps) [] x y one other e end end' =
    absurd (end' (ap (λ (xs : List ℕ). first_wrong (fields before xs)) (sym e ∙ append_assoc p (joined ps) x) ∙ right_behind before p (joined ps ++ x) one.0))
same_parts before (p ∷ ps) (q ∷ qs) x y one other e end end' =
    let e' : p ++ (joined ps ++ x) ≡ q ++ (joined qs ++ y) = sym (append_assoc p (joined ps) x) ∙ e ∙ append_assoc q (joined qs) y in
    let same : p ≡ q = one_part before p q (joined ps ++ x) (joined qs ++ y) one.0 other.0 e' in
    let rest = same_parts (behind before p) ps qs x y one.1 (subst (λ (r : List ℕ). AreParts (behind before r) qs) (sym same) other.1)
    (append_cancel_left p (joined ps ++ x) (joined qs ++ y) (e' ∙ ap (λ (r : List ℕ). r ++ (joined qs ++ y)) (sym same))) end
    (subst (λ (r : List ℕ). Ends (behind_all (behind before r) qs) y) (sym same) end') in
    (ap (λ (r : List ℕ). r ∷ ps) same ∙ ap (λ (rs : List (List ℕ)). q ∷ rs) rest.0, rest.1)

pub one_capture : (file : List ℕ) (one other : List Captured) → IsCapture file one → IsCapture file other → one ≡ other
one_capture file one other a b =
    let same = same_parts Start a.parts b.parts [] [] a.are_parts b.are_parts
    (append-nil (joined a.parts) ∙ sym a.file_is ∙ b.file_is ∙ sym (append-nil (joined b.parts)))
    (none_empty (behind_all Start a.parts)) (none_empty (behind_all Start b.parts)) in
    a.packets_are ∙ ap (packets_in Start) same.0 ∙ sym b.packets_are

is_end : (o : Option ℕ) (n : ℕ) → o ≡ Some n → o ≢ None
is_end None n e = absurd cc
is_end (Some m) n e = λ none. absurd cc

pub no_fault : (file : List ℕ) (packets : List Captured) (place : ℕ) → IsCapture file packets → ¬ IsFormFault file place
no_fault file packets place a f =
    let same = same_parts Start a.parts f.parts [] f.left a.are_parts f.are_parts (append-nil (joined a.parts) ∙ sym a.file_is ∙ f.file_is)
    (none_empty (behind_all Start a.parts)) (is_end (first_wrong (fields (behind_all Start f.parts) f.left)) f.offset f.wrong) in
    by same.0 same.1 f.more
  where
    by : a.parts ≡ f.parts → [] ≡ f.left → (f.parts ≡ []) ⊎ (f.left ≢ []) → ⊥
    by parts left (inl none) = a.some (parts ∙ none)
    by parts left (inr some) = some (sym left)

pub one_fault : (file : List ℕ) (one other : ℕ) → IsFormFault file one → IsFormFault file other → one ≡ other
one_fault file one other a b =
    let same = same_parts Start a.parts b.parts a.left b.left a.are_parts b.are_parts (sym a.file_is ∙ b.file_is)
    (is_end (first_wrong (fields (behind_all Start a.parts) a.left)) a.offset a.wrong)
    (is_end (first_wrong (fields (behind_all Start b.parts) b.left)) b.offset b.wrong) in
    let wrong : Some a.offset ≡ Some b.offset =
    sym a.wrong ∙ ap (λ (ps : List (List ℕ)). first_wrong (fields (behind_all Start ps) a.left)) same.0
    ∙ ap (λ (xs : List ℕ). first_wrong (fields (behind_all Start b.parts) xs)) same.1 ∙ b.wrong in
    let offset : a.offset ≡ b.offset = cc in
    a.place_is ∙ ap (λ (ps : List (List ℕ)). length (joined ps) + a.offset) same.0
    ∙ ap (λ (n : ℕ). length (joined b.parts) + n) offset ∙ sym b.place_is

-- ---- what follows of any answer that is right

pub is_read : (file : List ℕ) (packets : List Captured) (r : Result (List Captured) CaptureStop) → IfOk r (λ read. IsCapture file read)
    → ((place : ℕ) → r ≡ Err (stops.Form place) → IsFormFault file place) → IsCapture file packets
    → MatchResult r (λ read. read ≡ packets) (λ stop. stop ≡ stops.NoMemory)
is_read file packets (Ok read) ok err is = one_capture file read packets ok is
is_read file packets (Err (stops.Form place)) ok err is = absurd (no_fault file packets place is (err place refl))
is_read file packets (Err stops.NoMemory) ok err is = refl

pub is_refused : (file : List ℕ) (place : ℕ) (r : Result (List Captured) CaptureStop) → IfOk r (λ read. IsCapture file read)
    → ((place : ℕ) → r ≡ Err (stops.Form place) → IsFormFault file place) → IsFormFault file place
    → (r ≡ Err (stops.Form place)) ⊎ (r ≡ Err stops.NoMemory)
is_refused file place (Ok read) ok err is = absurd (no_fault file read place ok is)
is_refused file place (Err (stops.Form found)) ok err is =
    inl (ap (λ (n : ℕ). let r : Result (List Captured) CaptureStop = Err (stops.Form n) in r) (one_fault file found place (err found refl) is))
is_refused file place (Err stops.NoMemory) ok err is = inr refl
