-- A part, whatever stands behind it, and the part that octets begin with.
use Rattle.std.proofs.Common.{◌≡◌, ◌≢◌, ℕ, ◌≤◌, List, [], ◌++◌, length, take, drop, sym, ap, ◌∙◌, arith}
use Rattle.std.specs.Prelude.{None}
use Rattle.std.proofs.lemmas.List.{take-append-drop, length-take-le}
use Rattle.pcap_form.specs.Numbers.{first_wrong}
use Rattle.pcap_form.specs.Pcap.{header_fields}
use Rattle.pcap_form.specs.Blocks.{section_fields, section_size, block_fields}
use Rattle.pcap_form.specs.Numbers.{word_at}
use Rattle.pcap_form.specs.Captures.{Before, Start, BehindHeader, InSection, fields, size, IsPart}
use Rattle.pcap_form.proofs.Rows.{all_right}
use Rattle.pcap_form.proofs.Locality.{IsLocal, EnoughIf, if_local}
use Rattle.pcap_form.proofs.PartKinds.{EnoughBlock, header_local, record_local, section_local, block_local}

abbrev Enough : Before → List ℕ → Type 0
Enough Start xs = EnoughIf (λ ys. 28 ≤ length ys) (λ ys. 24 ≤ length ys) xs
Enough (BehindHeader order link) xs = 16 ≤ length xs
Enough (InSection order interfaces) xs = EnoughIf (λ ys. 28 ≤ length ys) (EnoughBlock order) xs

local_of : (before : Before) → IsLocal (fields before) (size before) (Enough before)
local_of Start =
    if_local section_fields header_fields section_size (λ xs. 24) (λ xs. 28 ≤ length xs) (λ xs. 24 ≤ length xs) section_local header_local
local_of (BehindHeader order link) = record_local order
local_of (InSection order interfaces) =
    if_local section_fields (block_fields order interfaces) section_size (λ xs. word_at order xs 4) (λ xs. 28 ≤ length xs) (EnoughBlock order)
    section_local (block_local order interfaces)

-- A part is read as that part, whatever stands behind it.
pub right_behind : (before : Before) (part rest : List ℕ) → IsPart before part → first_wrong (fields before (part ++ rest)) ≡ None
right_behind before part rest is =
    let l = local_of before in
    ap first_wrong (l.same part rest (l.enough part (all_right (fields before part) is.right)) is.whole) ∙ is.right

pub size_behind : (before : Before) (part rest : List ℕ) → IsPart before part → size before (part ++ rest) ≡ length part
size_behind before part rest is =
    let l = local_of before in
    l.same_size part rest (l.enough part (all_right (fields before part) is.right)) ∙ sym is.whole

-- no part is empty
pub none_empty : (before : Before) → first_wrong (fields before []) ≢ None
none_empty before = λ e.
    let l = local_of before in
    let long = l.some [] (l.enough [] (all_right (fields before []) e)) in
    omega (arith, long)

-- Where no field is wrong, a part stands there.
pub part_within : (before : Before) (left : List ℕ) → first_wrong (fields before left) ≡ None → size before left ≤ length left
part_within before left right = (local_of before).short left (all_right (fields before left) right)

pub part_some : (before : Before) (left : List ℕ) → first_wrong (fields before left) ≡ None → 4 ≤ size before left
part_some before left right =
    let l = local_of before in
    let rows = all_right (fields before left) right in
    omega (arith, l.some (take (size before left) left) (l.front left rows), length-take-le (size before left) left (l.short left rows))

pub IsPart-take : (before : Before) (left : List ℕ) → first_wrong (fields before left) ≡ None → IsPart before (take (size before left) left)
IsPart-take before left right =
    let l = local_of before in
    let rows = all_right (fields before left) right in
    let n = size before left in
    let part = take n left in
    let rest = drop n left in
    let join : part ++ rest ≡ left = take-append-drop n left in
    let enough = l.front left rows in
    let whole : length part ≡ size before part =
    length-take-le n left (l.short left rows) ∙ sym (sym (l.same_size part rest enough) ∙ ap (size before) join) in
    record {
      right = ap first_wrong (sym (l.same part rest enough whole)) ∙ ap (λ (xs : List ℕ). first_wrong (fields before xs)) join ∙ right;
      whole = whole;
    }
