-- Numbers of a part, whatever stands behind the part.
use Rattle.std.proofs.Common.{◌≡◌, ℕ, ◌+◌, ◌≤◌, List, [], ◌∷◌, ◌++◌, length, drop, refl, sym, ap, ◌∙◌, arith, length-drop}
use Rattle.std.specs.Prelude.{◌==◌, Bool, ◌&&◌, nat_le, if◌then◌else◌}
use Rattle.std.proofs.lemmas.List.{drop-append-le}
use Rattle.pcap_form.specs.declared.order.ByteOrder.{ByteOrder}
use Rattle.pcap_form.specs.declared.order.ByteOrder.TheVariants.{Big, Little}
use Rattle.pcap_form.specs.Numbers.{word_at, half_at}
use Rattle.pcap_form.specs.Pcap.{is_magic, header_order}
use Rattle.pcap_form.specs.Blocks.{begins_section, section_order, section_size}
use Rattle.pcap_form.proofs.Rows.{reaches}

word-front : (order : ByteOrder) (xs ys : List ℕ) → 4 ≤ length xs → word_at order (xs ++ ys) 0 ≡ word_at order xs 0
unfolding word_at
word-front Big (a ∷ b ∷ c ∷ d ∷ xs) ys long = refl
word-front Little (a ∷ b ∷ c ∷ d ∷ xs) ys long = refl
word-front order [] ys long = absurd (omega (arith, long))
word-front order (a ∷ []) ys long = absurd (omega (arith, long))
word-front order (a ∷ b ∷ []) ys long = absurd (omega (arith, long))
word-front order (a ∷ b ∷ c ∷ []) ys long = absurd (omega (arith, long))

word-later : (order : ByteOrder) (xs : List ℕ) (place : ℕ) → word_at order xs place ≡ word_at order (drop place xs) 0
unfolding word_at
word-later Big xs place = refl
word-later Little xs place = refl

pub word-append : (order : ByteOrder) (xs ys : List ℕ) (place : ℕ) → place + 4 ≤ length xs → word_at order (xs ++ ys) place ≡ word_at order xs place
word-append order xs ys place long =
    word-later order (xs ++ ys) place
    ∙ ap (λ (zs : List ℕ). word_at order zs 0) (drop-append-le place xs ys (omega (arith, long)))
    ∙ word-front order (drop place xs) ys (omega (arith, length-drop place xs, long))
    ∙ sym (word-later order xs place)

half-front : (order : ByteOrder) (xs ys : List ℕ) → 2 ≤ length xs → half_at order (xs ++ ys) 0 ≡ half_at order xs 0
unfolding half_at
half-front Big (a ∷ b ∷ xs) ys long = refl
half-front Little (a ∷ b ∷ xs) ys long = refl
half-front order [] ys long = absurd (omega (arith, long))
half-front order (a ∷ []) ys long = absurd (omega (arith, long))

half-later : (order : ByteOrder) (xs : List ℕ) (place : ℕ) → half_at order xs place ≡ half_at order (drop place xs) 0
unfolding half_at
half-later Big xs place = refl
half-later Little xs place = refl

pub half-append : (order : ByteOrder) (xs ys : List ℕ) (place : ℕ) → place + 2 ≤ length xs → half_at order (xs ++ ys) place ≡ half_at order xs place
half-append order xs ys place long =
    half-later order (xs ++ ys) place
    ∙ ap (λ (zs : List ℕ). half_at order zs 0) (drop-append-le place xs ys (omega (arith, long)))
    ∙ half-front order (drop place xs) ys (omega (arith, length-drop place xs, long))
    ∙ sym (half-later order xs place)

-- ---- orders, and which kind of part it is

pub header_order-append : (xs ys : List ℕ) → 4 ≤ length xs → header_order (xs ++ ys) ≡ header_order xs
header_order-append xs ys long = ap (λ (n : ℕ). if is_magic n then Big else Little) (word-append Big xs ys 0 long)

pub section_order-append : (xs ys : List ℕ) → 12 ≤ length xs → section_order (xs ++ ys) ≡ section_order xs
section_order-append xs ys long = ap (λ (n : ℕ). if n == 0x1A2B3C4D then Big else Little) (word-append Big xs ys 8 long)

pub section_size-append : (xs ys : List ℕ) → 12 ≤ length xs → section_size (xs ++ ys) ≡ section_size xs
section_size-append xs ys long =
    ap (λ (order : ByteOrder). word_at order (xs ++ ys) 4) (section_order-append xs ys long)
    ∙ word-append (section_order xs) xs ys 4 (omega (arith, long))

pub begins-append : (xs ys : List ℕ) → 4 ≤ length xs → begins_section (xs ++ ys) ≡ begins_section xs
begins-append xs ys long =
    ap (λ (b : Bool). b && word_at Big (xs ++ ys) 0 == 0x0A0D0D0A) (reaches 4 xs ys long)
    ∙ ap (λ (n : ℕ). nat_le 4 (length xs) && n == 0x0A0D0D0A) (word-append Big xs ys 0 long)
