use Rattle.std.proofs.Common.{ℕ, List, ◌++◌, ap, ◌∙◌, codes, string_bytes}
use Rattle.std.proofs.lemmas.List.{append_assoc}
use Rattle.lab_words.proofs.hint.push_meant.Goals as goal

pub returns-in_ok-push_str-in-Some-3 : goal.returns-in_ok-push_str-in-Some-3
returns-in_ok-push_str-in-Some-3 c =
    let old = string_bytes c.args.text.now in
    let front = codes "no job is called so; did you mean " in
    let name = c.in-Some.name.now in
    let named = c.in_ok-push_str-in-Some-2.ensures.bytes ∙ ap (λ (l : List ℕ). l ++ name) c.in_ok-push_str-in-Some.ensures.bytes
    ∙ append_assoc old front name in
    let all = c.in_ok-push_str-in-Some-3.ensures.bytes ∙ ap (λ (l : List ℕ). l ++ codes "?") named ∙ append_assoc old (front ++ name) (codes "?") in
    rw c.in-Some.is all

pub returns-in_ok-push_str-in-None : goal.returns-in_ok-push_str-in-None
returns-in_ok-push_str-in-None c = rw c.in-None.is c.in_ok-push_str-in-None.ensures.bytes
