use Rattle.std.proofs.Common.{◌≡◌, ◌++◌, subst, codes, string_bytes, append_assoc}
use Rattle.std.specs.Prelude.{decimal}
use Rattle.lab_hints.proofs.crowd.push_crowd.Goals as goal

pub returns : goal.returns
returns c =
    subst (λ name. string_bytes c.write.new.self ≡ string_bytes c.args.text.now
    ++ (codes "router " ++ name ++ codes " has sessions = " ++ decimal c.args.router.now.sessions ++ codes ", and the peerings that start there are "
    ++ decimal c.args.peerings)) c.as_str-name.ensures (simp append_assoc c.in_ok-write.ensures.bytes)
