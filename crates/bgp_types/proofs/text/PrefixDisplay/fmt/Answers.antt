use Rattle.std.proofs.Common.{◌≡◌, [], ◌∷◌, ◌++◌, refl, sym, subst, ◌∙◌, append_assoc, decimal}
use Rattle.std.specs.Fmt.{HasWritten}
use Rattle.bgp_types.specs.Texts.{address_text, prefix_text}
use Rattle.bgp_types.proofs.text.PrefixDisplay.fmt.Goals as goal

pub returns-clause-writes : goal.returns-clause-writes
returns-clause-writes g c = λ plain ok.
    let p = c.args.self.now in
    let written : address_text c.address.result ++ 47 ∷ decimal c.len-len.result ≡ address_text p.address ++ 47 ∷ decimal p.len =
    rw (c.address.ensures.value, c.len-len.ensures.value) refl in
    let whole : address_text c.address.result ++ 47 ∷ decimal c.len-len.result ≡ prefix_text p =
    written ∙ sym (append_assoc (address_text p.address) (47 ∷ []) (decimal p.len)) in
    subst (λ bs. HasWritten {W = g.row.W.Denot} g.W.Write.write_str_gives c.args.f.now bs c.write.new.self) whole (c.write.ensures.writes plain ok)
