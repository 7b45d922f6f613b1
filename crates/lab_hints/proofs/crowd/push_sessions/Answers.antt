use Rattle.std.proofs.Common.{◌∙◌, ◌++◌, ap, codes, string_bytes}
use Rattle.std.specs.Prelude.{unwrap_or}
use Rattle.std.proofs.lemmas.Result.{IfOk-equal}
use Rattle.lab_keys.specs.Kinds.{each_from}
use Rattle.lab_hints.specs.Later.{crowded_words}
use Rattle.lab_hints.proofs.crowd.push_sessions.Goals as goal

-- the words go by the first router that hasn't room
pub returns-in-Some : goal.returns-in-Some
returns-in-Some c =
    let lab = c.args.lab.now in
    IfOk-equal c.push_crowd.result _ _ _ c.push_crowd.ensures
    (ap (λ o. string_bytes c.args.text.now ++ unwrap_or o (codes "a router has room for all peerings that start there"))
    (c.in-Some.ensures ∙ ap (λ ps. each_from (crowded_words ps) 0 c.as_slice-routers.result.now) c.as_slice-peerings.ensures
    ∙ ap (each_from (crowded_words lab.peerings) 0) c.as_slice-routers.ensures))

pub returns-in-None : goal.returns-in-None
returns-in-None c =
    let lab = c.args.lab.now in
    IfOk-equal c.push_words.result _ _ _ c.push_words.ensures
    (ap (λ o. string_bytes c.args.text.now ++ unwrap_or o (codes "a router has room for all peerings that start there"))
    (c.in-None.ensures ∙ ap (λ ps. each_from (crowded_words ps) 0 c.as_slice-routers.result.now) c.as_slice-peerings.ensures
    ∙ ap (each_from (crowded_words lab.peerings) 0) c.as_slice-routers.ensures))
