-- What both OPENs agreed on, in words.
use Rattle.std.proofs.Common.{◌≡◌, ℕ, ◌++◌, min, Bool, List, Option, Some, sym, ap, ◌∙◌, append_assoc}
use Rattle.std.specs.Prelude.{codes, decimal}
use Rattle.bgp_types.specs.declared.message.OpenMsg as open_type
use Rattle.bgp_story.specs.Legal.{both_offer}
use Rattle.show_view.specs.Sessions.{agreed_words, as_octets}

abbrev words : (hold octets : ℕ) → List ℕ
words hold octets = codes " hold " ++ decimal hold ++ codes " as-octets " ++ decimal octets

pub agreed_are : (ours : open_type.OpenMsg) (opened : Option open_type.OpenMsg) (theirs : open_type.OpenMsg) (hold octets : ℕ) (wide : Bool)
    → opened ≡ Some theirs → hold ≡ min ours.hold theirs.hold → octets ≡ as_octets wide → wide ≡ both_offer ours opened
    → codes " hold " ++ (decimal hold ++ (codes " as-octets " ++ decimal octets)) ≡ agreed_words ours opened
agreed_are ours opened theirs hold octets wide is smaller written offered =
    ap (λ l. codes " hold " ++ l) (sym (append_assoc (decimal hold) (codes " as-octets ") (decimal octets)))
    ∙ ap (λ h. words h octets) smaller
    ∙ ap (words (min ours.hold theirs.hold)) (written ∙ ap as_octets (offered ∙ ap (both_offer ours) is)) ∙ ap (agreed_words ours) (sym is)
