-- Another best route is due to the other routers and on the established sessions alone.
use Rattle.std.proofs.Common.{◌≡◌, ◌||◌, ◌&&◌, ◌==◌, ℕ, cond, Bool, true, false, [], None, refl, sym, ap, ◌∙◌, inl, inr}
use Rattle.bgp_types.specs.Header.{header_fault}
use Rattle.bgp_types.specs.Prefixes.{PrefixValue, same_prefix}
use Rattle.bgp_story.specs.WorkedSessions.{ten}
use Rattle.session_value.specs.Sets.{Prefixes, has}
use Rattle.graft_model.specs.Parts.{Vacant, Live, RouterPart}
use Rattle.graft_model.specs.TableRows.{Decides, holds_established}
use Rattle.graft_worked.specs.Base.{base}
use Rattle.graft_worked.specs.Due.{b_due_to_itself, b_due_on_vacant, a_opening, a_opening_decided, a_due_too_early}
use Rattle.graft_worked.specs.Places.{holding}
use Rattle.graft_worked.specs.First.{session_first}
use Rattle.graft_worked.specs.Graft.{ten_alone, b_landed}
use Rattle.graft_worked.proofs.GraftRows.{a_decides}
use Rattle.graft_worked.proofs.Puts.{due_ten}
use Rattle.graft_worked.proofs.Tens.{empty, some_in_none, keeps_none}

due_or_not : has ten_alone ten ≡ has empty ten → ⊥
due_or_not e = let apart : ◌≡◌ {A = Bool} true false = sym due_ten ∙ (e ∙ some_in_none _ ten) in cc

pub not_to_itself : Decides base 1 ten b_landed None [] b_due_to_itself → ⊥
not_to_itself row = elim row.due [
  | inl same ↦ due_or_not (ap (λ (due : ℕ → Prefixes). has (due 0) ten) same.1)
  | inr other ↦ due_or_not ((other.1.routers 1).members ten ∙ sym (keeps_none ten))
]

pub not_on_vacant : Decides base 1 ten b_landed None [] b_due_on_vacant → ⊥
not_on_vacant row = elim row.due [
  | inl same ↦ due_or_not (ap (λ (due : ℕ → Prefixes). has (due 1) ten) same.2)
  | inr other ↦ due_or_not ((other.1.peerings 1).members ten ∙ sym (keeps_none ten))
]

not_up : holds_established (Live session_first None) ≡ false
unfolding header_fault
not_up = refl

pub not_too_early : Decides base 0 ten a_opening None [] a_due_too_early → ⊥
not_too_early row = elim row.due [
  | inl same ↦ due_or_not (ap (λ (due : ℕ → Prefixes). has (due 0) ten) same.2)
  | inr other ↦ due_or_not ((other.1.peerings 0).members ten ∙ (ap (λ up. has empty ten || (same_prefix ten ten && up)) not_up ∙ sym (keeps_none ten)))
]

held : (t : Bool) (x : PrefixValue) → has empty x ≡ (has empty x || (same_prefix ten x && holds_established (cond t (Live session_first None) Vacant)))
unfolding header_fault
held true x = keeps_none x
held false x = keeps_none x

-- the session that has put its OPEN changes nothing else
pub decides_early : Decides base 0 ten a_opening None [] a_opening_decided
decides_early = record {
  alone = a_decides.alone;
  dirty = a_decides.dirty;
  due = elim a_decides.due [
    | inl same ↦ absurd (due_or_not (ap (λ (due : ℕ → Prefixes). has (due 1) ten) same.1))
    | inr other ↦ inr (other.0, record { routers = other.1.routers; peerings = λ p. record { members = λ x. held (p == 0) x } })
  ];
  effect = ap (λ (part : RouterPart). holding part (Live session_first None)) a_decides.effect;
}
