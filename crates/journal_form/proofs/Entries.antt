-- Lines of entries: which entry a line is of, and what stands behind it.
use Rattle.std.proofs.Common.{◌≡◌, ℕ, ◌-◌, ◌^◌, ◌<◌, ◌≤◌, List, [], ◌∷◌, ◌++◌, length, get_or, refl, sym, ap, ◌∙◌, subst, arith}
use Rattle.std.proofs.Common.{append_assoc, length-append}
use Rattle.std.specs.Prelude.{codes, decimal}
use Rattle.std.specs.List.{flat_map}
use Rattle.std.proofs.lemmas.List.{append-nil}
use Rattle.std.proofs.lemmas.Grind.{flat_map-append}
use Rattle.ring_net.specs.declared.entry.JournalEntry.{JournalEntry}
use Rattle.journal_form.specs.Journals.{end_line, entry_line}
use Rattle.journal_form.specs.Numbers.{BeginsWithNumber}
use Rattle.journal_form.specs.Reading.{FitsWidths, AreEntries, BeginsWithEntry}
use Rattle.journal_form.proofs.Lines.{Without, Without-append}
use Rattle.journal_form.proofs.Numbers.{Without-decimal, same_number, digit_first}

-- ---- the fields of a line

-- what stands from each field on
abbrev from_c : JournalEntry → List ℕ → List ℕ
from_c e behind = decimal e.c ++ 10 ∷ behind

abbrev from_b : JournalEntry → List ℕ → List ℕ
from_b e behind = decimal e.b ++ 32 ∷ from_c e behind

abbrev from_a : JournalEntry → List ℕ → List ℕ
from_a e behind = decimal e.a ++ 32 ∷ from_b e behind

abbrev from_kind : JournalEntry → List ℕ → List ℕ
from_kind e behind = decimal e.kind ++ 32 ∷ from_a e behind

abbrev from_actor : JournalEntry → List ℕ → List ℕ
from_actor e behind = decimal e.actor ++ 32 ∷ from_kind e behind

abbrev pub from_clock : JournalEntry → List ℕ → List ℕ
from_clock e behind = decimal e.clock ++ 32 ∷ from_actor e behind

-- what stands up to each field
abbrev upto_clock : JournalEntry → List ℕ
upto_clock e = decimal e.clock ++ codes " "

abbrev upto_actor : JournalEntry → List ℕ
upto_actor e = upto_clock e ++ decimal e.actor ++ codes " "

abbrev upto_kind : JournalEntry → List ℕ
upto_kind e = upto_actor e ++ decimal e.kind ++ codes " "

abbrev upto_a : JournalEntry → List ℕ
upto_a e = upto_kind e ++ decimal e.a ++ codes " "

abbrev upto_b : JournalEntry → List ℕ
upto_b e = upto_a e ++ decimal e.b ++ codes " "

-- a field goes over from the front part to the other one
field : (xs ds ys zs : List ℕ) → xs ++ ds ++ ys ++ zs ≡ xs ++ (ds ++ (ys ++ zs))
field xs ds ys zs = append_assoc (xs ++ ds) ys zs ∙ append_assoc xs ds (ys ++ zs)

pub by_fields : (e : JournalEntry) (behind : List ℕ) → entry_line e ++ behind ≡ from_clock e behind
by_fields e behind =
    let c : entry_line e ++ behind ≡ upto_b e ++ from_c e behind = field (upto_b e) (decimal e.c) (codes "\n") behind in
    let b : upto_b e ++ from_c e behind ≡ upto_a e ++ from_b e behind = field (upto_a e) (decimal e.b) (codes " ") (from_c e behind) in
    let a : upto_a e ++ from_b e behind ≡ upto_kind e ++ from_a e behind = field (upto_kind e) (decimal e.a) (codes " ") (from_b e behind) in
    let kind : upto_kind e ++ from_a e behind ≡ upto_actor e ++ from_kind e behind = field (upto_actor e) (decimal e.kind) (codes " ") (from_a e behind) in
    let actor : upto_actor e ++ from_kind e behind ≡ upto_clock e ++ from_actor e behind =
    field (upto_clock e) (decimal e.actor) (codes " ") (from_kind e behind) in
    let clock : upto_clock e ++ from_actor e behind ≡ from_clock e behind = append_assoc (decimal e.clock) (codes " ") (from_actor e behind) in
    c ∙ b ∙ a ∙ kind ∙ actor ∙ clock

-- the line without its newline
abbrev body_b : JournalEntry → List ℕ
body_b e = decimal e.b ++ 32 ∷ decimal e.c

abbrev body_a : JournalEntry → List ℕ
body_a e = decimal e.a ++ 32 ∷ body_b e

abbrev body_kind : JournalEntry → List ℕ
body_kind e = decimal e.kind ++ 32 ∷ body_a e

abbrev body_actor : JournalEntry → List ℕ
body_actor e = decimal e.actor ++ 32 ∷ body_kind e

abbrev pub body : JournalEntry → List ℕ
body e = decimal e.clock ++ 32 ∷ body_actor e

joined : (ds : List ℕ) (s : ℕ) (xs ys us : List ℕ) → xs ++ ys ≡ us → (ds ++ s ∷ xs) ++ ys ≡ ds ++ s ∷ us
joined ds s xs ys us e = append_assoc ds (s ∷ xs) ys ∙ ap (λ (zs : List ℕ). ds ++ s ∷ zs) e

pub with_newline : (e : JournalEntry) (behind : List ℕ) → entry_line e ++ behind ≡ body e ++ 10 ∷ behind
with_newline e behind = by_fields e behind ∙ sym
    (joined (decimal e.clock) 32 (body_actor e) (10 ∷ behind) (from_actor e behind)
    (joined (decimal e.actor) 32 (body_kind e) (10 ∷ behind) (from_kind e behind)
    (joined (decimal e.kind) 32 (body_a e) (10 ∷ behind) (from_a e behind)
    (joined (decimal e.a) 32 (body_b e) (10 ∷ behind) (from_b e behind)
    (joined (decimal e.b) 32 (decimal e.c) (10 ∷ behind) (from_c e behind) refl)))))

pub Without-body : (e : JournalEntry) → FitsWidths e → Without 10 (body e)
Without-body e fits =
    before e.clock (body_actor e) fits.clock (before e.actor (body_kind e) (omega (arith, fits.actor))
    (before e.kind (body_a e) (omega (arith, fits.kind)) (before e.a (body_b e) (omega (arith, fits.a))
    (before e.b (decimal e.c) (omega (arith, fits.b)) (Without-decimal 10 (omega arith) e.c (omega (arith, fits.c)))))))
  where
    before : (n : ℕ) (xs : List ℕ) → n < 2 ^ 64 → Without 10 xs → Without 10 (decimal n ++ 32 ∷ xs)
    before n xs small rest = Without-append 10 (decimal n) (32 ∷ xs) (Without-decimal 10 (omega arith) n small) (λ e. omega (arith, e), rest)

-- ---- what a text begins with

-- fields, given as the greatest number of each and the octet behind it
abbrev pub BeginsWithFields : List (ℕ × ℕ) → List ℕ → Type 0
BeginsWithFields [] text = Unit {0}
BeginsWithFields (f ∷ fs) text =
    (number : ℕ) × (number ≤ f.0) × (behind : List ℕ) × (text ≡ decimal number ++ f.1 ∷ behind) × BeginsWithFields fs behind

-- those of an entry, from each one on
abbrev pub from_sixth : List (ℕ × ℕ)
from_sixth = (2 ^ 32 - 1, 10) ∷ []

abbrev pub from_fifth : List (ℕ × ℕ)
from_fifth = (2 ^ 32 - 1, 32) ∷ from_sixth

abbrev pub from_fourth : List (ℕ × ℕ)
from_fourth = (2 ^ 32 - 1, 32) ∷ from_fifth

abbrev pub from_third : List (ℕ × ℕ)
from_third = (2 ^ 16 - 1, 32) ∷ from_fourth

abbrev pub from_second : List (ℕ × ℕ)
from_second = (2 ^ 16 - 1, 32) ∷ from_third

abbrev pub fields : List (ℕ × ℕ)
fields = (2 ^ 64 - 1, 32) ∷ from_second

pub entry_fields : (text : List ℕ) → BeginsWithEntry text → BeginsWithFields fields text
entry_fields text begins =
    let e = begins.entry in
    let fits = begins.fits in (
      e.clock,
      omega (arith, fits.clock),
      from_actor e begins.behind,
      begins.line ∙ by_fields e begins.behind,
      (
        e.actor,
        omega (arith, fits.actor),
        from_kind e begins.behind,
        refl,
        (
          e.kind,
          omega (arith, fits.kind),
          from_a e begins.behind,
          refl,
          (
            e.a,
            omega (arith, fits.a),
            from_b e begins.behind,
            refl,
            (
              e.b,
              omega (arith, fits.b),
              from_c e begins.behind,
              refl,
              (e.c, omega (arith, fits.c), begins.behind, refl, tt),
            ),
          ),
        ),
      ),
    )

-- a number of at most `most` that the octet `s` ends was read, and this is behind it
abbrev pub IsRead : (most s : ℕ) (text : List ℕ) (n : ℕ) (rest : List ℕ) → Type 0
IsRead most s text n rest = (n ≤ most) × (text ≡ decimal n ++ s ∷ rest)

-- the other fields stand there
next_fields : (most s : ℕ) (fs : List (ℕ × ℕ)) (text rest : List ℕ) (n : ℕ) → most < 2 ^ 64 → s < 48 → IsRead most s text n rest
    → BeginsWithFields ((most, s) ∷ fs) text → BeginsWithFields fs rest
next_fields most s fs text rest n wide below read (number, within, behind, is, more) =
    let same = same_number s below n number rest behind (omega (arith, read.0, wide)) (omega (arith, within, wide)) (sym read.1 ∙ is) in
    subst (BeginsWithFields fs) (sym same.1) more

pub first_field : (most s : ℕ) (fs : List (ℕ × ℕ)) (text : List ℕ) → BeginsWithFields ((most, s) ∷ fs) text → BeginsWithNumber most s text
first_field most s fs text (number, within, behind, is, more) = record { number = number; within = within; behind = behind; text_is = is }

-- each field of an entry, behind the one that was read
pub at_actor : (text rest : List ℕ) (n : ℕ) → IsRead (2 ^ 64 - 1) 32 text n rest → BeginsWithEntry text → BeginsWithFields from_second rest
at_actor text rest n read begins = next_fields (2 ^ 64 - 1) 32 from_second text rest n (omega arith) (omega arith) read (entry_fields text begins)

pub at_kind : (text rest : List ℕ) (n : ℕ) → IsRead (2 ^ 16 - 1) 32 text n rest → BeginsWithFields from_second text → BeginsWithFields from_third rest
at_kind text rest n read begins = next_fields (2 ^ 16 - 1) 32 from_third text rest n (omega arith) (omega arith) read begins

pub at_a : (text rest : List ℕ) (n : ℕ) → IsRead (2 ^ 16 - 1) 32 text n rest → BeginsWithFields from_third text → BeginsWithFields from_fourth rest
at_a text rest n read begins = next_fields (2 ^ 16 - 1) 32 from_fourth text rest n (omega arith) (omega arith) read begins

pub at_b : (text rest : List ℕ) (n : ℕ) → IsRead (2 ^ 32 - 1) 32 text n rest → BeginsWithFields from_fourth text → BeginsWithFields from_fifth rest
at_b text rest n read begins = next_fields (2 ^ 32 - 1) 32 from_fifth text rest n (omega arith) (omega arith) read begins

pub at_c : (text rest : List ℕ) (n : ℕ) → IsRead (2 ^ 32 - 1) 32 text n rest → BeginsWithFields from_fifth text → BeginsWithFields from_sixth rest
at_c text rest n read begins = next_fields (2 ^ 32 - 1) 32 from_sixth text rest n (omega arith) (omega arith) read begins

-- ---- one entry, and what stands behind it

abbrev made : (clock actor kind a b c : ℕ) → JournalEntry
made clock actor kind a b c = record { clock = clock; actor = actor; kind = kind; a = a; b = b; c = c }

pub same_entry : (e f : JournalEntry) (us vs : List ℕ) → FitsWidths e → FitsWidths f → entry_line e ++ us ≡ entry_line f ++ vs → (e ≡ f) × (us ≡ vs)
same_entry e f us vs fits fits' is =
    let clock = same_number 32 (omega arith) e.clock f.clock (from_actor e us) (from_actor f vs) fits.clock fits'.clock
    (sym (by_fields e us) ∙ is ∙ by_fields f vs) in
    let actor = same_number 32 (omega arith) e.actor f.actor (from_kind e us) (from_kind f vs) (omega (arith, fits.actor)) (omega (arith, fits'.actor))
    clock.1 in
    let kind = same_number 32 (omega arith) e.kind f.kind (from_a e us) (from_a f vs) (omega (arith, fits.kind)) (omega (arith, fits'.kind)) actor.1 in
    let a = same_number 32 (omega arith) e.a f.a (from_b e us) (from_b f vs) (omega (arith, fits.a)) (omega (arith, fits'.a)) kind.1 in
    let b = same_number 32 (omega arith) e.b f.b (from_c e us) (from_c f vs) (omega (arith, fits.b)) (omega (arith, fits'.b)) a.1 in
    let c = same_number 10 (omega arith) e.c f.c us vs (omega (arith, fits.c)) (omega (arith, fits'.c)) b.1 in
    (same clock.0 actor.0 kind.0 a.0 b.0 c.0, c.1)
  where
    same : e.clock ≡ f.clock → e.actor ≡ f.actor → e.kind ≡ f.kind → e.a ≡ f.a → e.b ≡ f.b → e.c ≡ f.c
        → made e.clock e.actor e.kind e.a e.b e.c ≡ made f.clock f.actor f.kind f.a f.b f.c
    same clock actor kind a b c = rw (clock, actor, kind, a, b, c) refl

-- an entry's line begins with a digit
pub begins_with_digit : (e : JournalEntry) (behind : List ℕ) → FitsWidths e → 48 ≤ get_or (entry_line e ++ behind) 0 0
begins_with_digit e behind fits =
    omega (arith, digit_first e.clock (32 ∷ from_actor e behind) fits.clock, ap (λ (xs : List ℕ). get_or xs 0 0) (by_fields e behind))

-- the line that ends a journal is no entry's
pub end_is_no_entry : (text behind : List ℕ) → text ≡ end_line ++ behind → ¬ BeginsWithEntry text
end_is_no_entry text behind is = λ begins.
    omega (arith, begins_with_digit begins.entry begins.behind begins.fits, ap (λ (xs : List ℕ). get_or xs 0 0) (sym is ∙ begins.line))

-- ---- lists of entries

-- lists of entries are one where no entry's line stands behind them
pub same_entries : (ones others : List JournalEntry) (us vs : List ℕ) → AreEntries ones → AreEntries others
    → flat_map entry_line ones ++ us ≡ flat_map entry_line others ++ vs → ¬ BeginsWithEntry us → ¬ BeginsWithEntry vs → (ones ≡ others) × (us ≡ vs)
same_entries [] [] us vs fit fit' e end end' = (refl, e)
same_entries [] (f ∷ fs) us vs fit fit' e end end' =
    absurd (end (record {
      entry = f;
      fits = fit'.0;
      behind = flat_map entry_line fs ++ vs;
      line = e ∙ append_assoc (entry_line f) (flat_map entry_line fs) vs;
    }))
same_entries (f ∷ fs) [] us vs fit fit' e end end' =
    absurd (end' (record {
      entry = f;
      fits = fit.0;
      behind = flat_map entry_line fs ++ us;
      line = sym e ∙ append_assoc (entry_line f) (flat_map entry_line fs) us;
    }))
same_entries (f ∷ fs) (g ∷ gs) us vs fit fit' e end end' =
    let one = same_entry f g (flat_map entry_line fs ++ us) (flat_map entry_line gs ++ vs) fit.0 fit'.0
    (sym (append_assoc (entry_line f) (flat_map entry_line fs) us) ∙ e ∙ append_assoc (entry_line g) (flat_map entry_line gs) vs) in
    let more = same_entries fs gs us vs fit.1 fit'.1 one.1 end end' in
    (ap (λ (h : JournalEntry). h ∷ fs) one.0 ∙ ap (λ (hs : List JournalEntry). g ∷ hs) more.0, more.1)

-- one entry more
pub AreEntries-more : (es : List JournalEntry) (e : JournalEntry) → AreEntries es → FitsWidths e → AreEntries (es ++ e ∷ [])
AreEntries-more [] e all fits = (fits, tt)
AreEntries-more (f ∷ fs) e all fits = (all.0, AreEntries-more fs e all.1 fits)

pub lines_more : (rest : List ℕ) (es : List JournalEntry) (e : JournalEntry) (left behind : List ℕ) → rest ≡ flat_map entry_line es ++ left
    → left ≡ entry_line e ++ behind → rest ≡ flat_map entry_line (es ++ e ∷ []) ++ behind
lines_more rest es e left behind before line =
    before ∙ ap (λ (xs : List ℕ). flat_map entry_line es ++ xs) line ∙ sym (append_assoc (flat_map entry_line es) (entry_line e) behind)
    ∙ ap (λ (xs : List ℕ). (flat_map entry_line es ++ xs) ++ behind) (sym (append-nil (entry_line e)))
    ∙ ap (λ (xs : List ℕ). xs ++ behind) (sym (flat_map-append entry_line es (e ∷ [])))

-- an entry and what stands behind it, from its fields
pub entry_from_fields : (e : JournalEntry) (text actor kind a b c behind : List ℕ) → text ≡ decimal e.clock ++ 32 ∷ actor
    → actor ≡ decimal e.actor ++ 32 ∷ kind → kind ≡ decimal e.kind ++ 32 ∷ a → a ≡ decimal e.a ++ 32 ∷ b → b ≡ decimal e.b ++ 32 ∷ c
    → c ≡ decimal e.c ++ 10 ∷ behind → text ≡ entry_line e ++ behind
entry_from_fields e text actor kind a b c behind text_is actor_is kind_is a_is b_is c_is =
    text_is ∙ on e.clock (actor_is ∙ on e.actor (kind_is ∙ on e.kind (a_is ∙ on e.a (b_is ∙ on e.b c_is)))) ∙ sym (by_fields e behind)
  where
    on : {xs ys : List ℕ} (n : ℕ) → xs ≡ ys → decimal n ++ 32 ∷ xs ≡ decimal n ++ 32 ∷ ys
    on n is = ap (λ (zs : List ℕ). decimal n ++ 32 ∷ zs) is

-- a line has octets
pub line_is_long : (e : JournalEntry) → 0 < length (entry_line e)
line_is_long e =
    omega (arith, ap (λ (xs : List ℕ). length xs) (with_newline e []), length-append (entry_line e) [], length-append (body e) (10 ∷ []))
