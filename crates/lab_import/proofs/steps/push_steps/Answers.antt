use Rattle.std.proofs.Common.{◌≡◌, ℕ, ◌<◌, true, length, Some, sym, ap, ◌∙◌, arith, string_bytes}
use Rattle.std.specs.Prelude.{◌&&◌, nat_le, nat_lt}
use Rattle.std.specs.List.{slice_get}
use Rattle.std.proofs.lemmas.Option.{slice_get_within}
use Rattle.imported_sessions.specs.declared.imported.Said.{Said}
use Rattle.imported_sessions.specs.declared.imported.Imported.{Imported}
use Rattle.lab_import.specs.Limits.{fits_step, place_of}
use Rattle.lab_import.proofs.StepsSoFar.{item_at, text_more, len_more, place_here, counts_more, fits_more, fits_is, exact}
use Rattle.lab_import.proofs.steps.push_steps.Goals as goal

pub returns-then-not-fits_step-clause-beyond : goal.returns-then-not-fits_step-clause-beyond
returns-then-not-fits_step-clause-beyond c = λ beyond e.
    let i : Imported = c.args.imported.now in
    let n = c.loop-n.n in
    let step : Said = c.step-item.result in
    let at : slice_get i.steps n ≡ Some step
    = item_at i.steps c.deref-step-items.result.now n step c.deref-step-items.ensures c.loop-n-test.true c.step-item.is in
    let place = c.said_so_far-place.result in
    let place_is : place ≡ place_of i n step
    = place_here i n step at c.loop-n.said c.deref.result.now place c.loop-n.invariant.counts c.deref.ensures c.said_so_far-place.ensures in
    let old = string_bytes c.args.text.now in
    let one = string_bytes c.loop-n.text in
    let two = string_bytes c.push_step.new.text in
    let len = len_more i n step at old one two c.loop-n.invariant.text c.in_ok-push_step.ensures c.requires.head in
    let many : c.len-in-loop-n.result ≡ length two = omega (arith, c.len-in-loop-n.ensures, c.push_step.new.text.bytes.ok.0) in
    let fits : (nat_lt n 4095 && nat_le c.saturating_add-end.result 1048576 && nat_le c.saturating_add.result 4194304) ≡ fits_step i n step
    = fits_is i n step at place c.len.result c.saturating_add-end.result c.len-in-loop-n.result c.args.tail c.saturating_add.result place_is
    c.len.ensures c.saturating_add-end.ensures (many ∙ len) c.requires.tail c.saturating_add.ensures in
    let same : beyond ≡ record { peer = step.peer; octet = place } = cc (e) in
    record {
      n = n;
      step = step;
      at = at;
      fails = sym fits ∙ sym c.fits_step.ensures ∙ c.if-not-fits_step.true;
      first = c.loop-n.invariant.fits;
      is = same ∙ ap (λ (octet : ℕ). record { peer = step.peer; octet = octet }) place_is;
    }

pub loop-n-preserved : goal.loop-n-preserved
loop-n-preserved c =
    let i : Imported = c.args.imported.now in
    let n = c.loop-n.n in
    let step : Said = c.step-item.result in
    let at : slice_get i.steps n ≡ Some step
    = item_at i.steps c.deref-step-items.result.now n step c.deref-step-items.ensures c.loop-n-test.true c.step-item.is in
    let place = c.said_so_far-place.result in
    let place_is : place ≡ place_of i n step
    = place_here i n step at c.loop-n.said c.deref.result.now place c.loop-n.invariant.counts c.deref.ensures c.said_so_far-place.ensures in
    let old = string_bytes c.args.text.now in
    let one = string_bytes c.loop-n.text in
    let two = string_bytes c.push_step.new.text in
    let len = len_more i n step at old one two c.loop-n.invariant.text c.in_ok-push_step.ensures c.requires.head in
    let many : c.len-in-loop-n.result ≡ length two = omega (arith, c.len-in-loop-n.ensures, c.push_step.new.text.bytes.ok.0) in
    let fits : (nat_lt n 4095 && nat_le c.saturating_add-end.result 1048576 && nat_le c.saturating_add.result 4194304) ≡ fits_step i n step
    = fits_is i n step at place c.len.result c.saturating_add-end.result c.len-in-loop-n.result c.args.tail c.saturating_add.result place_is
    c.len.ensures c.saturating_add-end.ensures (many ∙ len) c.requires.tail c.saturating_add.ensures in
    let here : fits_step i n step ≡ true = sym fits ∙ sym c.fits_step.ensures ∙ c.if-not-fits_step.false in
    let end = c.saturating_add-end.result in
    let end_is = exact i n step at place c.len.result end place_is c.len.ensures c.saturating_add-end.ensures here in
    record {
      text = text_more i n step at old one two c.loop-n.invariant.text c.in_ok-push_step.ensures;
      counts = counts_more i n step at c.loop-n.said c.note_said.new.said c.loop-n.invariant.counts end end_is c.in_ok-note_said.ensures;
      fits = fits_more i n step at c.loop-n.invariant.fits here;
    }

pub returns-clause-fits : goal.returns-clause-fits
returns-clause-fits c = λ n step at.
    let many : length c.deref-step-items.result.now ≡ length c.args.imported.now.steps = ap length c.deref-step-items.ensures in
    let within : n < length c.args.imported.now.steps = slice_get_within c.args.imported.now.steps n step at in
    c.loop-n.invariant.fits n step (omega (arith, c.loop-n-test.false, many, within)) at
