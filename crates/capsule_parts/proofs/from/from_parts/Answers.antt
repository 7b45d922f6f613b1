use Rattle.std.proofs.Common.{◌≡◌, ap, sym, subst, ◌∙◌, Err}
use Rattle.std.proofs.lemmas.Result.{err_from_is_err_and}
use Rattle.tcp_seq.specs.declared.state.EndState.{EndState}
use Rattle.bgp_session.specs.Steps.{IsEndFor, with_end}
use Rattle.capsule_parts.specs.declared.stop.PartsStop.{PartsStop}
use Rattle.capsule_parts.specs.declared.stop.PartsStop.TheVariants as stops
use Rattle.capsule_parts.proofs.Whole.{end_for, end_of_sound, its_story_in, made_sound, refused_unsound, result_parts, result_rests, result_same, retold_parts}
use Rattle.capsule_parts.proofs.from.from_parts.Goals as goal

pub returns-in_err-received-clause-unsound : goal.returns-in_err-received-clause-unsound
returns-in_err-received-clause-unsound c = λ e sound.
    let answer = err_from_is_err_and c.from_residual.result c.from_residual.ensures.1 in
    let is = answer.1 in
    let says = answer.2 in
    let stop : ◌≡◌ {A = PartsStop} c.in_err-received.field-0.0 stops.Unsound = cc in
    c.in_err-received.ensures.unsound (ap (λ (s : PartsStop). Err s) stop) (end_of_sound c.args.parts sound)

pub returns-in_err-session-clause-unsound : goal.returns-in_err-session-clause-unsound
returns-in_err-session-clause-unsound c = λ e.
    let answer = err_from_is_err_and c.from_residual-in_err-session.result c.from_residual-in_err-session.ensures.1 in
    let is = answer.1 in
    let says = answer.2 in
    let stop : ◌≡◌ {A = PartsStop} c.in_err-session.field-0.0 stops.Unsound = cc in
    refused_unsound c.args.parts c.apart-config.result.0 c.in_ok-received.received c.as_slice.result.now c.apart-config.ensures.config
    (c.as_slice.ensures ∙ c.apart-config.ensures.story) c.in_ok-received.ensures.octets
    (c.in_err-session.ensures.refused (ap (λ (s : PartsStop). Err s) stop))

pub set_end-requires : goal.set_end-requires
set_end-requires c =
    let told = retold_parts c.args.parts c.apart-config.result.0 c.as_slice.result.now c.in_ok-session.session.session c.apart-config.ensures.config
    (c.as_slice.ensures ∙ c.apart-config.ensures.story) c.in_ok-session.ensures.ok in
    subst (IsEndFor c.in_ok-session.session.session) (sym c.apart-config.ensures.end)
    (end_for c.args.parts c.in_ok-received.ensures.sound c.in_ok-session.session.session told)

pub returns-clause-sound : goal.returns-clause-sound
returns-clause-sound c =
    let told = retold_parts c.args.parts c.apart-config.result.0 c.as_slice.result.now c.in_ok-session.session.session c.apart-config.ensures.config
    (c.as_slice.ensures ∙ c.apart-config.ensures.story) c.in_ok-session.ensures.ok in
    made_sound c.args.parts c.in_ok-received.ensures.sound c.in_ok-session.session.session told

pub returns-clause-parts : goal.returns-clause-parts
returns-clause-parts c =
    let told = retold_parts c.args.parts c.apart-config.result.0 c.as_slice.result.now c.in_ok-session.session.session c.apart-config.ensures.config
    (c.as_slice.ensures ∙ c.apart-config.ensures.story) c.in_ok-session.ensures.ok in
    let is = c.leave.ensures ∙ c.freeze.ensures ∙ c.set_end.ensures
    ∙ ap (λ (end : EndState). with_end c.in_ok-session.session.session end) c.apart-config.ensures.end in
    result_parts c.args.parts c.in_ok-received.ensures.sound c.in_ok-session.session.session told c.leave.result is

pub returns-clause-at_rest : goal.returns-clause-at_rest
returns-clause-at_rest c =
    let told = retold_parts c.args.parts c.apart-config.result.0 c.as_slice.result.now c.in_ok-session.session.session c.apart-config.ensures.config
    (c.as_slice.ensures ∙ c.apart-config.ensures.story) c.in_ok-session.ensures.ok in
    let is = c.leave.ensures ∙ c.freeze.ensures ∙ c.set_end.ensures
    ∙ ap (λ (end : EndState). with_end c.in_ok-session.session.session end) c.apart-config.ensures.end in
    result_rests c.args.parts c.in_ok-received.ensures.sound c.in_ok-session.session.session told c.leave.result is

pub returns-clause-same : goal.returns-clause-same
returns-clause-same c = λ capsule of_story same.
    let told = retold_parts c.args.parts c.apart-config.result.0 c.as_slice.result.now c.in_ok-session.session.session c.apart-config.ensures.config
    (c.as_slice.ensures ∙ c.apart-config.ensures.story) c.in_ok-session.ensures.ok in
    let is = c.leave.ensures ∙ c.freeze.ensures ∙ c.set_end.ensures
    ∙ ap (λ (end : EndState). with_end c.in_ok-session.session.session end) c.apart-config.ensures.end in
    result_same c.args.parts c.in_ok-received.ensures.sound c.in_ok-session.session.session told c.leave.result is capsule of_story same
    (c.in_ok-session.ensures.same capsule.session.story
    (its_story_in c.args.parts c.in_ok-received.ensures.sound c.in_ok-session.session.session told capsule of_story same c.apart-config.result.0
    c.as_slice.result.now c.in_ok-received.received c.apart-config.ensures.config (c.as_slice.ensures ∙ c.apart-config.ensures.story)
    c.in_ok-received.ensures.octets))
