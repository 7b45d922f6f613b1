use Rattle.std.proofs.Common.{length, refl, sym, ◌∙◌, subst}
use Rattle.imported_sessions.specs.Heard.{told_by}
use Rattle.imported_sessions.specs.Opened.{AreAllOpened}
use Rattle.imported_sessions.specs.Packed.{AreStepsOf}
use Rattle.imported_sessions.proofs.Importing.{is_import}
use Rattle.imported_sessions.proofs.Sizes.{are_small}
use Rattle.imported_sessions.proofs.Telling.{says_all}
use Rattle.imported_sessions.proofs.sessions.import_sessions.Goals as goal

pub returns-clause-import : goal.returns-clause-import
returns-clause-import c =
    let s = c.args.streams.now in
    let opened = c.in_ok-opened.opened in
    let home_as = c.in_ok-home_as.home_as in
    let all = c.in_ok-opened.ensures.opened in
    let whole = c.in_ok-heard.heard.steps.items in
    let flows = c.deref-4.ensures in
    let packed = subst (λ os. AreStepsOf os home_as (told_by (length s.peers) s.flows (length s.flows)) whole) c.deref-5.ensures
    (subst (λ fs. AreStepsOf c.deref-5.result.now home_as (told_by (length s.peers) fs (length fs)) whole) flows
    (subst (λ n. AreStepsOf c.deref-5.result.now home_as (told_by n c.deref-4.result.now (length c.deref-4.result.now)) whole) c.len-2.ensures
    c.in_ok-heard.ensures.steps)) in
    is_import s opened _ all (c.in_ok-home_as.ensures s (subst (AreAllOpened s) (sym c.deref-2.ensures) all))
    (c.home_id-home_id.ensures s (subst (AreAllOpened s) (sym c.deref-3.ensures) all)) refl refl (record {
      whole = whole;
      packed = packed;
      steps_are = c.from_vec.ensures ∙ c.in_ok-kept.ensures.steps;
      peerings_are = c.in_ok-kept.ensures.peerings;
      internal = c.in_ok-kept.ensures.internal;
    })

pub returns-clause-says : goal.returns-clause-says
returns-clause-says c = says_all _ _ (returns-clause-import c)

pub returns-clause-small : goal.returns-clause-small
returns-clause-small c = are_small _ _ (returns-clause-import c)
