use Rattle.std.proofs.Common.{◌≡◌, ◌++◌, [], ◌∷◌, ◌∙◌, string_bytes}
use Rattle.std.proofs.lemmas.Result.{IfOk-weaker}
use Rattle.lab_hints.specs.Hints.{place_words}
use Rattle.lab_hints.specs.Hints.{hint_line}
use Rattle.lab_hints.proofs.Hinted.{hinted}
use Rattle.lab_hints.proofs.hints.place_hint.Goals as goal

pub returns : goal.returns
returns c =
    let text = string_bytes c.push_place.new.text in
    let words = place_words c.args.bytes.now c.args.at c.args.message.now in
    IfOk-weaker c.ended.result (λ line. line ≡ text ++ 10 ∷ []) (λ line. line ≡ hint_line words)
    (λ line is. is ∙ hinted (string_bytes c.in_ok-text.text) text words c.in_ok-text.ensures c.in_ok-push_place.ensures) c.ended.ensures
