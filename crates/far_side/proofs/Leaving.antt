-- When the segments of a link leave it.
use Rattle.std.proofs.Common.{◌≡◌, ℕ, ◌<◌, ◌≤◌, Bool, true, false, refl, sym, ◌∙◌, arith}
use Rattle.std.specs.Prelude.{IsTrue, ◌↔◌, ◌==◌, nat_le, if◌then◌else◌}
use Rattle.std.proofs.lemmas.Bool.Decides.{nat_tests}
use Rattle.link_bag.specs.declared.plan.Fate.{Fate}
use Rattle.link_bag.specs.declared.plan.Fate.TheVariants.{Pass, Lose, Repeat, Hold, Stray}
use Rattle.far_side.specs.declared.link.InLink.{InLink}
use Rattle.far_side.specs.declared.link.Act.{Act}
use Rattle.far_side.specs.declared.link.Act.TheVariants.{Stays, Delivered, Copied}
use Rattle.far_side.specs.Links.{act_of, act_in, is_gone, older, last_turn}

-- what is delivered at once and then again is gone by the second delivery
gone_later : (first past : Bool) (last : Act) → is_gone last ≡ true → is_gone (if past then last else if first then Delivered true else Stays) ≡ past
gone_later first true last h = h
gone_later true false last h = refl
gone_later false false last h = refl

gone_held : (past : Bool) → is_gone (if past then Delivered false else Stays) ≡ past
gone_held true = refl
gone_held false = refl

-- it is gone where its last turn is past
gone_is : (fate : Fate) (turns : ℕ) → is_gone (act_of fate turns) ≡ nat_le (last_turn fate) turns
gone_is Pass turns = let e : nat_le 0 turns ≡ true = grind (arith, nat_tests) in sym e
gone_is Lose turns = let e : nat_le 0 turns ≡ true = grind (arith, nat_tests) in sym e
gone_is (Repeat after) turns = gone_later (turns == 0) (nat_le after turns) (Delivered false) refl
gone_is (Hold after) turns = gone_held (nat_le after turns)
gone_is (Stray after) turns = gone_later (turns == 0) (nat_le after turns) Copied refl

pub leaves_then : (fate : Fate) (turns : ℕ) → turns ≤ last_turn fate → IsTrue (is_gone (act_of fate turns)) ↔ (turns ≡ last_turn fate)
leaves_then fate turns h = (
  (λ gone. let e : nat_le (last_turn fate) turns ≡ true = sym (gone_is fate turns) ∙ gone in
      let le : last_turn fate ≤ turns = grind (arith, nat_tests) in omega (arith, le, h)),
  (λ last. gone_is fate turns ∙ (let e : nat_le (last_turn fate) turns ≡ true = grind (arith, nat_tests) in e)),
)

pub stays_young : (x : InLink) → x.turns ≤ last_turn x.fate → is_gone (act_in x) ≡ false → (older x).turns ≤ last_turn x.fate
stays_young x h stays =
    let e : nat_le (last_turn x.fate) x.turns ≡ false = sym (gone_is x.fate x.turns) ∙ stays in
    let lt : x.turns < last_turn x.fate = grind (arith, nat_tests) in
    omega (arith, lt)
