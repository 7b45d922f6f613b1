use Rattle.std.proofs.Common.{◌≡◌, ◌<◌, ℕ, ap, rules, arith, length, get_or, Some, None, true, false, subst, sym, ◌∙◌}
use Rattle.std.proofs.Math.ListN.{set, length-set}
use Rattle.std.proofs.lemmas.List.Elements.{All-get_or}
use Rattle.std.proofs.lemmas.Result.{err_from_is_err_and}
use Rattle.bgp_types.specs.WireAttrs.{attr_at}
use Rattle.attr_codec.specs.Decoding.{Stops}
use Rattle.attr_codec.specs.Pieces.{wire}
use Rattle.attr_codec.proofs.ReadLaws.{begins, goes_on, repeats, fails, cut_short, ends}
use Rattle.attr_codec.proofs.read.said_at.Goals as goal

pub loop-rest-init : goal.loop-rest-init
loop-rest-init c =
    let e = c.no_types-seen.ensures in
    begins c.args.wide c.args.bytes.now c.new-said.result c.no_types-seen.result (c.new-said.ensures c.args.wide) e.size
    (λ k lt. let size = e.size in All-get_or (λ there. there ≡ false) c.no_types-seen.result k false (omega arith) e.none)

pub returns-in_default : goal.returns-in_default
returns-in_default c =
    let e : attr_at c.loop-rest.rest.now ≡ None = search rules in
    let lt : 0 < length c.loop-rest.rest.now = search rules in
    subst (Stops c.bare_fault.result)
    (sym (cut_short c.args.wide c.args.bytes.now c.loop-rest.rest.now c.loop-rest.said c.loop-rest.seen c.loop-rest.invariant e lt))
    c.bare_fault.ensures

pub returns-then-seen-kind : goal.returns-then-seen-kind
returns-then-seen-kind c =
    let e : attr_at c.loop-rest.rest.now ≡ Some (wire c.in-Some.piece, c.in-Some.after.now) = search rules in
    let lt : c.in-Some.piece.kind < 256 = c.in-Some.ensures.kind in
    let k = c.from-kind.ensures in
    let h = c.if-seen-kind.true in
    let old : get_or c.loop-rest.seen c.in-Some.piece.kind false ≡ true = subst (λ (i : ℕ). get_or c.loop-rest.seen i false ≡ true) k h in
    subst (Stops c.bare_fault-then-seen-kind.result) (sym (repeats c.args.wide c.args.bytes.now c.loop-rest.rest.now c.loop-rest.said
    c.loop-rest.seen c.loop-rest.invariant (wire c.in-Some.piece) c.in-Some.after.now e lt old)) c.bare_fault-then-seen-kind.ensures

pub returns-in_err-add : goal.returns-in_err-add
returns-in_err-add c =
    let e : attr_at c.loop-rest.rest.now ≡ Some (wire c.in-Some.piece, c.in-Some.after.now) = search rules in
    let lt : c.in-Some.piece.kind < 256 = c.in-Some.ensures.kind in
    let k = c.from-kind.ensures in
    let h = c.if-seen-kind.false in
    let new : get_or c.loop-rest.seen c.in-Some.piece.kind false ≡ false = subst (λ (i : ℕ). get_or c.loop-rest.seen i false ≡ false) k h in
    let p = err_from_is_err_and c.from_residual.result c.from_residual.ensures.1 in
    rw (p.1, p.2) (fails c.args.wide c.args.bytes.now c.loop-rest.rest.now c.loop-rest.said c.loop-rest.seen c.loop-rest.invariant
    (wire c.in-Some.piece) c.in-Some.after.now c.in_err-add.field-0.0 e lt new c.in_err-add.ensures.fault)

pub loop-rest-preserved : goal.loop-rest-preserved
loop-rest-preserved c =
    let e : attr_at c.loop-rest.rest.now ≡ Some (wire c.in-Some.piece, c.in-Some.after.now) = search rules in
    let lt : c.in-Some.piece.kind < 256 = c.in-Some.ensures.kind in
    let k = c.from-kind.ensures in
    let h = c.if-seen-kind.false in
    let new : get_or c.loop-rest.seen c.in-Some.piece.kind false ≡ false = subst (λ (i : ℕ). get_or c.loop-rest.seen i false ≡ false) k h in
    goes_on c.args.wide c.args.bytes.now c.loop-rest.rest.now c.loop-rest.said c.loop-rest.seen
    (wire c.in-Some.piece) c.in-Some.after.now c.add.new.self _ c.loop-rest.invariant e lt new c.in_ok-add.ensures.fault c.in_ok-add.ensures.said
    (ap (λ (i : ℕ). set c.loop-rest.seen i true) k) (length-set c.loop-rest.seen c.from-kind.result true ∙ c.loop-rest.invariant.table.size)

pub returns : goal.returns
returns c =
    ends c.args.wide c.args.bytes.now c.loop-rest.rest.now c.loop-rest.said c.loop-rest.seen c.loop-rest.invariant (search rules)
