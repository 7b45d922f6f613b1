-- The kinds of parts: the header and the records of a pcap file, the block that begins a section, and the other blocks.
use Rattle.std.proofs.Common.{◌≡◌, ℕ, ◌+◌, ◌-◌, ◌≤◌, Bool, List, [], ◌∷◌, ◌++◌, length, take, drop, refl, sym, ap, ◌∙◌, arith}
use Rattle.std.specs.Prelude.{◌==◌, ◌%◌, not, ◌||◌, ◌&&◌, nat_lt, nat_le, if◌then◌else◌}
use Rattle.std.proofs.lemmas.Bool.{leb-true, eqb-true, eq-eqb, and_parts, cond_both}
use Rattle.std.proofs.lemmas.List.{length-take-le, take-append-drop}
use Rattle.pcap_form.specs.declared.order.ByteOrder.{ByteOrder}
use Rattle.pcap_form.specs.declared.blocks.Interface.{Interface}
use Rattle.pcap_form.specs.Numbers.{word_at, half_at}
use Rattle.pcap_form.specs.Pcap.{header_order, header_fields, record_size, record_fields}
use Rattle.pcap_form.specs.Blocks.{is_length, is_simple, is_enhanced, least_length}
use Rattle.pcap_form.specs.Blocks.{section_order, section_size, section_fields, block_fields}
use Rattle.pcap_form.proofs.Rows.{AllRight, or_same, or_then, reaches, lengths}
use Rattle.pcap_form.proofs.Fronts.{word-append, half-append, header_order-append, section_order-append, section_size-append}
use Rattle.pcap_form.proofs.Locality.{IsLocal}

-- a front of a list that is long enough
front_long : (least n : ℕ) (xs : List ℕ) → least ≤ n → n ≤ length xs → least ≤ length (take n xs)
front_long least n xs long within = omega (arith, length-take-le n xs within, long)

-- ---- the header

header_word : (xs ys : List ℕ) → 24 ≤ length xs → word_at (header_order (xs ++ ys)) (xs ++ ys) 0 ≡ word_at (header_order xs) xs 0
header_word xs ys long =
    ap (λ (order : ByteOrder). word_at order (xs ++ ys) 0) (header_order-append xs ys (omega (arith, long)))
    ∙ word-append (header_order xs) xs ys 0 (omega (arith, long))

header_half : (xs ys : List ℕ) (place : ℕ) → 24 ≤ length xs → place + 2 ≤ length xs
    → half_at (header_order (xs ++ ys)) (xs ++ ys) place ≡ half_at (header_order xs) xs place
header_half xs ys place long within =
    ap (λ (order : ByteOrder). half_at order (xs ++ ys) place) (header_order-append xs ys (omega (arith, long)))
    ∙ half-append (header_order xs) xs ys place within

header_same : (xs ys : List ℕ) → 24 ≤ length xs → header_fields (xs ++ ys) ≡ header_fields xs
header_same xs ys long =
    let w = header_word xs ys long in
    let major = header_half xs ys 4 long (omega (arith, long)) in
    let minor = header_half xs ys 6 long (omega (arith, long)) in
    let r4 = reaches 4 xs ys (omega (arith, long)) in
    let r6 = reaches 6 xs ys (omega (arith, long)) in
    let r8 = reaches 8 xs ys (omega (arith, long)) in
    let r12 = reaches 12 xs ys (omega (arith, long)) in
    let r16 = reaches 16 xs ys (omega (arith, long)) in
    let r20 = reaches 20 xs ys (omega (arith, long)) in
    let r24 = reaches 24 xs ys long in
    cc

pub header_holds : (xs : List ℕ) → AllRight (header_fields xs) → 24 ≤ length xs
header_holds xs rows = leb-true 24 (length xs) rows.1.1.1.1.1.1.0

pub header_local : IsLocal header_fields (λ xs. 24) (λ xs. 24 ≤ length xs)
header_local = record {
  some = λ xs e. omega (arith, e);
  same_size = λ xs ys e. refl;
  same = λ xs ys e whole. header_same xs ys e;
  enough = header_holds;
  short = header_holds;
  front = λ xs rows. front_long 24 24 xs (omega arith) (header_holds xs rows);
}

-- ---- a record

pub record_holds : (order : ByteOrder) (xs : List ℕ) → AllRight (record_fields order xs) → (16 ≤ length xs) × (record_size order xs ≤ length xs)
record_holds order xs rows = (leb-true 16 (length xs) rows.0, leb-true (record_size order xs) (length xs) rows.1.0)

record_size-append : (order : ByteOrder) (xs ys : List ℕ) → 16 ≤ length xs → record_size order (xs ++ ys) ≡ record_size order xs
record_size-append order xs ys long = ap (λ (n : ℕ). 16 + n) (word-append order xs ys 8 (omega (arith, long)))

record_same : (order : ByteOrder) (xs ys : List ℕ) → 16 ≤ length xs → length xs ≡ record_size order xs
    → record_fields order (xs ++ ys) ≡ record_fields order xs
record_same order xs ys long whole =
    let r16 = reaches 16 xs ys long in
    let size = record_size-append order xs ys long in
    let all = reaches (record_size order xs) xs ys (omega (arith, whole)) in
    ap (λ (n : ℕ). (0, nat_le 16 (length (xs ++ ys))) ∷ (8, nat_le n (length (xs ++ ys))) ∷ []) size
    ∙ ap (λ (b : Bool). (0, b) ∷ (8, nat_le (record_size order xs) (length (xs ++ ys))) ∷ []) r16
    ∙ ap (λ (b : Bool). (0, nat_le 16 (length xs)) ∷ (8, b) ∷ []) all

pub record_local : (order : ByteOrder) → IsLocal (record_fields order) (record_size order) (λ xs. 16 ≤ length xs)
record_local order = record {
  some = λ xs e. omega (arith, e);
  same_size = record_size-append order;
  same = record_same order;
  enough = λ xs rows. (record_holds order xs rows).0;
  short = λ xs rows. (record_holds order xs rows).1;
  front = λ xs rows. front_long 16 (record_size order xs) xs (omega arith) (record_holds order xs rows).1;
}

-- ---- the block that begins a section

pub section_holds : (xs : List ℕ) → AllRight (section_fields xs) → (12 ≤ length xs) × (28 ≤ section_size xs) × (section_size xs ≤ length xs)
section_holds xs rows =
    let l = lengths 28 (section_size xs) xs rows.1.1.0 in (leb-true 12 (length xs) rows.0, l.0, l.1)

is_length-append : (least size : ℕ) (xs ys : List ℕ) → size ≤ length xs → is_length least size (xs ++ ys) ≡ is_length least size xs
is_length-append least size xs ys within =
    ap (λ (b : Bool). nat_le least size && size % 4 == 0 && b) (reaches size xs ys within)

section_same : (xs ys : List ℕ) → 28 ≤ length xs → length xs ≡ section_size xs → section_fields (xs ++ ys) ≡ section_fields xs
section_same xs ys long whole =
    let order = section_order-append xs ys (omega (arith, long)) in
    let size = section_size-append xs ys (omega (arith, long)) in
    let r12 = reaches 12 xs ys (omega (arith, long)) in
    let magic = word-append (section_order xs) xs ys 8 (omega (arith, long)) in
    let fits = is_length-append 28 (section_size xs) xs ys (omega (arith, whole)) in
    let major = half-append (section_order xs) xs ys 12 (omega (arith, long)) in
    let again = word-append (section_order xs) xs ys (section_size xs - 4) (omega (arith, long, whole)) in
    cc

pub section_local : IsLocal section_fields section_size (λ xs. 28 ≤ length xs)
section_local = record {
  some = λ xs e. omega (arith, e);
  same_size = λ xs ys e. section_size-append xs ys (omega (arith, e));
  same = section_same;
  enough = λ xs rows. let l = section_holds xs rows in omega (arith, l.1, l.2);
  short = λ xs rows. (section_holds xs rows).2;
  front = λ xs rows. let l = section_holds xs rows in front_long 28 (section_size xs) xs l.1 l.2;
}

-- ---- another block

abbrev pub EnoughBlock : ByteOrder → List ℕ → Type 0
EnoughBlock order xs = (12 ≤ length xs) × (least_length order xs ≤ length xs)

-- what a right block holds
pub record HoldsBlock (order : ByteOrder) (xs : List ℕ) : Type 0 where
  pub some : 12 ≤ length xs
  pub least : least_length order xs ≤ word_at order xs 4
  pub within : word_at order xs 4 ≤ length xs

pub block_holds : (order : ByteOrder) (interfaces : List Interface) (xs : List ℕ) → AllRight (block_fields order interfaces xs) → HoldsBlock order xs
block_holds order interfaces xs rows =
    let first = and_parts (nat_le 12 (length xs)) (not (is_simple order xs) || nat_lt 0 (length interfaces)) rows.0 in
    let l = lengths (least_length order xs) (word_at order xs 4) xs rows.1.0 in
    record { some = leb-true 12 (length xs) first.0; least = l.0; within = l.1 }

least_of : ℕ → ℕ
least_of n = if n == 1 then 20 else if n == 3 then 16 else if n == 6 then 32 else 12

at_least_12 : (n : ℕ) → 12 ≤ least_of n
unfolding least_of
at_least_12 n =
    cond_both (n == 1) 20 (if n == 3 then 16 else if n == 6 then 32 else 12) (λ m. 12 ≤ m) (λ e. omega arith)
    (λ e. cond_both (n == 3) 16 (if n == 6 then 32 else 12) (λ m. 12 ≤ m) (λ f. omega arith)
    (λ f. cond_both (n == 6) 32 12 (λ m. 12 ≤ m) (λ g. omega arith) (λ g. omega arith)))

pub least_12 : (order : ByteOrder) (xs : List ℕ) → 12 ≤ least_length order xs
unfolding least_of
least_12 order xs = at_least_12 (word_at order xs 0)

pub least_interface : (order : ByteOrder) (xs : List ℕ) → word_at order xs 0 ≡ 1 → least_length order xs ≡ 20
unfolding least_of
least_interface order xs e = ap least_of e

pub least_simple : (order : ByteOrder) (xs : List ℕ) → word_at order xs 0 ≡ 3 → least_length order xs ≡ 16
unfolding least_of
least_simple order xs e = ap least_of e

pub least_enhanced : (order : ByteOrder) (xs : List ℕ) → word_at order xs 0 ≡ 6 → least_length order xs ≡ 32
unfolding least_of
least_enhanced order xs e = ap least_of e

least-append : (order : ByteOrder) (xs ys : List ℕ) → 12 ≤ length xs → least_length order (xs ++ ys) ≡ least_length order xs
unfolding least_of
least-append order xs ys some = ap least_of (word-append order xs ys 0 (omega (arith, some)))

enhanced_same : (order : ByteOrder) (xs ys : List ℕ) → EnoughBlock order xs
    → (not (is_enhanced order (xs ++ ys)) || nat_le (word_at order (xs ++ ys) 20) (word_at order (xs ++ ys) 4 - 32))
    ≡ (not (is_enhanced order xs) || nat_le (word_at order xs 20) (word_at order xs 4 - 32))
enhanced_same order xs ys enough =
    ap (λ (n : ℕ). not (n == 6) || nat_le (word_at order (xs ++ ys) 20) (word_at order (xs ++ ys) 4 - 32)) (word-append order xs ys 0 (omega (arith, enough.0)))
    ∙ or_same (is_enhanced order xs) (nat_le (word_at order (xs ++ ys) 20) (word_at order (xs ++ ys) 4 - 32))
    (nat_le (word_at order xs 20) (word_at order xs 4 - 32))
    (λ e. let least = least_enhanced order xs (eqb-true (word_at order xs 0) 6 e) in
    let captured = word-append order xs ys 20 (omega (arith, least, enough.1)) in
    let size = word-append order xs ys 4 (omega (arith, enough.0)) in cc)

block_same : (order : ByteOrder) (interfaces : List Interface) (xs ys : List ℕ) → EnoughBlock order xs → length xs ≡ word_at order xs 4
    → block_fields order interfaces (xs ++ ys) ≡ block_fields order interfaces xs
block_same order interfaces xs ys enough whole =
    let kind = word-append order xs ys 0 (omega (arith, enough.0)) in
    let size = word-append order xs ys 4 (omega (arith, enough.0)) in
    let number = word-append order xs ys 8 (omega (arith, enough.0)) in
    let r12 = reaches 12 xs ys enough.0 in
    let least = least-append order xs ys enough.0 in
    let fits = is_length-append (least_length order xs) (word_at order xs 4) xs ys (omega (arith, whole)) in
    let captured = enhanced_same order xs ys enough in
    let again = word-append order xs ys (word_at order xs 4 - 4) (omega (arith, enough.0, whole)) in
    cc

pub block_local : (order : ByteOrder) (interfaces : List Interface)
    → IsLocal (block_fields order interfaces) (λ xs. word_at order xs 4) (EnoughBlock order)
block_local order interfaces = record {
  some = λ xs e. omega (arith, e.0);
  same_size = λ xs ys e. word-append order xs ys 4 (omega (arith, e.0));
  same = block_same order interfaces;
  enough = λ xs rows. let h = block_holds order interfaces xs rows in (h.some, omega (arith, h.least, h.within));
  short = λ xs rows. (block_holds order interfaces xs rows).within;
  front = λ xs rows.
      let h = block_holds order interfaces xs rows in
      let n = word_at order xs 4 in
      let some = front_long 12 n xs (omega (arith, least_12 order xs, h.least)) h.within in
      let same : least_length order (take n xs) ≡ least_length order xs =
      sym (least-append order (take n xs) (drop n xs) some) ∙ ap (least_length order) (take-append-drop n xs) in
      (some, omega (arith, same, front_long (least_length order xs) n xs h.least h.within));
}

-- the octets that a packet of its own takes
pub enhanced_holds : (order : ByteOrder) (interfaces : List Interface) (xs : List ℕ) → AllRight (block_fields order interfaces xs) → word_at order xs 0 ≡ 6
    → 32 + word_at order xs 20 ≤ length xs
enhanced_holds order interfaces xs rows e =
    let h = block_holds order interfaces xs rows in
    let captured = or_then (is_enhanced order xs) (nat_le (word_at order xs 20) (word_at order xs 4 - 32)) rows.1.1.1.0 (eq-eqb (word_at order xs 0) 6 e) in
    omega (arith, leb-true (word_at order xs 20) (word_at order xs 4 - 32) captured, least_enhanced order xs e, h.least, h.within)
