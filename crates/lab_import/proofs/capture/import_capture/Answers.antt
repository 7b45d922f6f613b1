use Rattle.std.proofs.Common.{◌≡◌, ℕ, ◌<◌, List, length, Some, refl, sym, ap, ◌∙◌, subst}
use Rattle.std.specs.Prelude.{Err}
use Rattle.std.specs.List.{slice_get}
use Rattle.std.proofs.lemmas.Bool.Decides.{when_true, when_false}
use Rattle.captured_streams.specs.declared.directed.Peer.{Peer}
use Rattle.captured_streams.specs.declared.streams.Streams.{Streams}
use Rattle.imported_sessions.specs.declared.imported.Imported.{Imported}
use Rattle.lab_input.specs.Labs.{InputOf}
use Rattle.lab_import.specs.Texts.{text_of}
use Rattle.lab_import.specs.Inputs.{input_of_import}
use Rattle.lab_import.specs.Captures.{IsFault}
use Rattle.lab_import.specs.declared.limits.Beyond.{Beyond}
use Rattle.lab_import.specs.declared.capture.CaptureFault.TheVariants.{Limit, NoOpen, Unread}
use Rattle.lab_import.proofs.Peers.{beyond_below}
use Rattle.lab_import.proofs.capture.import_capture.Goals as goal

pub returns-in-Err-NoOpen-clause-fault : goal.returns-in-Err-NoOpen-clause-fault
returns-in-Err-NoOpen-clause-fault c = λ fault e.
    let remote = c.in-Err-NoOpen.remote in
    let same : NoOpen remote ≡ fault = cc (e) in
    subst (IsFault c.args.home c.args.file) same
    (c.in_ok-streams.streams, c.in_ok-streams.ensures.streams, c.in-Err-NoOpen.ensures.stop remote (ap Err c.in-Err-NoOpen.field-0-is))

pub remote_of-remote-requires : goal.remote_of-remote-requires
remote_of-remote-requires c =
    let s : Streams = c.in_ok-streams.streams in
    let beyond : Beyond = c.in-Err-Beyond.beyond in
    let is = c.in-Err-Beyond.ensures.beyond beyond (ap Err c.in-Err-Beyond.field-0-is) in
    let below : beyond.peer < length c.deref.result.now
    = subst (λ (ps : List Peer). beyond.peer < length ps) (sym c.deref.ensures) (beyond_below s c.in-Ok.imported beyond c.in-Ok.ensures.import is) in
    subst (λ (b : Beyond). b.peer < length c.deref.result.now) (sym c.in-Err-Beyond.beyond-is) below

pub returns-in-Err-Beyond-clause-fault : goal.returns-in-Err-Beyond-clause-fault
returns-in-Err-Beyond-clause-fault c = λ fault e.
    let beyond : Beyond = c.in-Err-Beyond.beyond in
    let there = c.remote_of-remote.ensures in
    let at : slice_get c.deref.result.now beyond.peer ≡ Some there.0
    = subst (λ (b : Beyond). slice_get c.deref.result.now b.peer ≡ Some there.0) c.in-Err-Beyond.beyond-is there.1 in
    let same : Limit c.remote_of-remote.result beyond.octet ≡ fault = cc (e, ap (λ (b : Beyond). b.octet) c.in-Err-Beyond.beyond-is) in
    subst (IsFault c.args.home c.args.file) same (record {
      s = c.in_ok-streams.streams;
      i = c.in-Ok.imported;
      has = record { streams = c.in_ok-streams.ensures.streams; imported = c.in-Ok.ensures.import };
      beyond = beyond;
      is = c.in-Err-Beyond.ensures.beyond beyond (ap Err c.in-Err-Beyond.field-0-is);
      peer = there.0;
      at = subst (λ (ps : List Peer). slice_get ps beyond.peer ≡ Some there.0) c.deref.ensures at;
      remote_is = there.2;
      octet_is = refl;
    })

pub returns-then-not-branch-clause-fault : goal.returns-then-not-branch-clause-fault
returns-then-not-branch-clause-fault c = λ fault e.
    let i : Imported = c.in-Ok.imported in
    let text = c.in-Ok-lab_text.text in
    let text_is : c.deref-2.result.now ≡ text_of i = c.deref-2.ensures ∙ c.in-Ok-lab_text.ensures.text in
    let other : ¬ InputOf c.deref-2.result.now (input_of_import i)
    = when_false (InputOf c.deref-2.result.now (input_of_import i)) (¬ InputOf c.deref-2.result.now (input_of_import i)) c.if-not-branch.true
    c.in_ok-is_read.ensures in
    let same : Unread ≡ fault = cc (e) in
    subst (IsFault c.args.home c.args.file) same (record {
      s = c.in_ok-streams.streams;
      i = i;
      has = record { streams = c.in_ok-streams.ensures.streams; imported = c.in-Ok.ensures.import };
      fits = c.in-Ok-lab_text.ensures.fits;
      other = subst (λ (t : List ℕ). ¬ InputOf t (input_of_import i)) text_is other;
    })

pub returns-clause-imported : goal.returns-clause-imported
returns-clause-imported c =
    let i : Imported = c.in-Ok.imported in
    let text = c.in-Ok-lab_text.text in
    let reads : InputOf c.deref-2.result.now (input_of_import i)
    = when_true (InputOf c.deref-2.result.now (input_of_import i)) (¬ InputOf c.deref-2.result.now (input_of_import i)) c.if-not-branch.false
    c.in_ok-is_read.ensures in
    record {
      s = c.in_ok-streams.streams;
      i = i;
      has = record { streams = c.in_ok-streams.ensures.streams; imported = c.in-Ok.ensures.import };
      says = c.in-Ok.ensures.says;
      text_is = record {
        fits = c.in-Ok-lab_text.ensures.fits;
        text_is = c.in-Ok-lab_text.ensures.text;
        reads = subst (λ (t : List ℕ). InputOf t (input_of_import i)) c.deref-2.ensures reads;
      };
    }
