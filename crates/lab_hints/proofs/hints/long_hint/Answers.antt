use Rattle.std.proofs.Common.{◌≡◌, ◌++◌, [], ◌∷◌, ◌∙◌, string_bytes, append_assoc}
use Rattle.std.proofs.lemmas.Result.{IfOk-weaker}
use Rattle.lab_hints.specs.Hints.{hint_line, long_words}
use Rattle.lab_hints.proofs.Hinted.{hinted}
use Rattle.lab_hints.proofs.hints.long_hint.Goals as goal

pub returns : goal.returns
returns c =
    let text = string_bytes c.write.new.self in
    IfOk-weaker c.ended.result (λ line. line ≡ text ++ 10 ∷ []) (λ line. line ≡ hint_line long_words)
    (λ line is. is ∙ hinted (string_bytes c.in_ok-text.text) text long_words c.in_ok-text.ensures (simp append_assoc c.in_ok-write.ensures.bytes))
    c.ended.ensures
