use Rattle.std.proofs.Common.{◌∙◌, None, ap, arith, refl, sym}
use Rattle.cwt_verify.specs.Layers.{begins_with_tag}
use Rattle.cwt_verify.specs.Policy.{policy_view}
use Rattle.cwt_verify.specs.Walk.{OpensAll, verified_views, voucher_view}
use Rattle.cwt_verify.proofs.Reading.{passed_on}
use Rattle.cwt_verify.proofs.Walking.{below, first_opened, first_refused, inner_refused, longer, no_views, one_more, too_deep}
use Rattle.cwt_verify.proofs.layers.open_all.Goals as goal

pub returns-in_err-opened : goal.returns-in_err-opened
returns-in_err-opened g c =
    let k = g.K.Keys.view c.args.keys.now in
    let p = policy_view c.args.policy.now in
    let e = c.in_err-opened.field-0.0 in
    passed_on (OpensAll k p c.args.token.now) c.from_residual.result e c.from_residual.ensures.1
    (first_refused k p c.args.token.now (verified_views c.new.result) None e (no_views c.new.result c.new.ensures.items) c.in_err-opened.ensures)

pub loop-alloc-init : goal.loop-alloc-init
loop-alloc-init g c =
    first_opened (g.K.Keys.view c.args.keys.now) (policy_view c.args.policy.now) c.args.token.now (verified_views c.new.result) _
    c.in_ok-opened.opened (no_views c.new.result c.new.ensures.items) refl c.in_ok-opened.ensures

pub returns-then-len-eq-MAX_LAYERS : goal.returns-then-len-eq-MAX_LAYERS
returns-then-len-eq-MAX_LAYERS g c =
    too_deep (g.K.Keys.view c.args.keys.now) (policy_view c.args.policy.now) c.args.token.now c.loop-alloc.opened c.deref.result.now c.loop-alloc.invariant
    c.deref.ensures.value (sym c.begins_with_tag.ensures ∙ c.loop-alloc-test.true)
    (omega (arith, c.len.ensures, c.if-len-eq-MAX_LAYERS.true, c.loop-alloc.opened.layers.ok.0))

pub returns-in_err-opened-2 : goal.returns-in_err-opened-2
returns-in_err-opened-2 g c =
    let k = g.K.Keys.view c.args.keys.now in
    let p = policy_view c.args.policy.now in
    let o = c.loop-alloc.opened in
    let e = c.in_err-opened-2.field-0.0 in
    let more = ap begins_with_tag (c.deref-in-loop-alloc.ensures.value ∙ sym c.deref.ensures.value)
    ∙ (sym c.begins_with_tag.ensures ∙ c.loop-alloc-test.true) in
    passed_on (OpensAll k p c.args.token.now) c.from_residual-in_err-opened-2.result e c.from_residual-in_err-opened-2.ensures.1
    (inner_refused k p c.args.token.now o (verified_views o.layers) (voucher_view o.voucher) c.deref-in-loop-alloc.result.now e c.loop-alloc.invariant
    c.deref-in-loop-alloc.ensures.value refl more
    (below k p c.args.token.now o c.loop-alloc.invariant c.len.result
    (omega (arith, c.len.ensures, c.loop-alloc.opened.layers.ok.0)) c.if-len-eq-MAX_LAYERS.false) c.in_err-opened-2.ensures)

pub loop-alloc-smaller : goal.loop-alloc-smaller
loop-alloc-smaller g c =
    let o = c.loop-alloc.opened in
    let few = below (g.K.Keys.view c.args.keys.now) (policy_view c.args.policy.now) c.args.token.now o c.loop-alloc.invariant c.len.result
    (omega (arith, c.len.ensures, c.loop-alloc.opened.layers.ok.0)) c.if-len-eq-MAX_LAYERS.false in
    let more = longer o c.in_ok-opened-2.opened _ c.in_ok-opened-2.ensures.2 in
    omega (arith, few, more)

pub loop-alloc-preserved : goal.loop-alloc-preserved
loop-alloc-preserved g c =
    let k = g.K.Keys.view c.args.keys.now in
    let p = policy_view c.args.policy.now in
    let o = c.loop-alloc.opened in
    let more = ap begins_with_tag (c.deref-in-loop-alloc.ensures.value ∙ sym c.deref.ensures.value)
    ∙ (sym c.begins_with_tag.ensures ∙ c.loop-alloc-test.true) in
    one_more k p c.args.token.now o c.in_ok-opened-2.opened (verified_views o.layers) (voucher_view o.voucher) c.deref-in-loop-alloc.result.now
    c.loop-alloc.invariant c.deref-in-loop-alloc.ensures.value refl refl more
    (below k p c.args.token.now o c.loop-alloc.invariant c.len.result
    (omega (arith, c.len.ensures, c.loop-alloc.opened.layers.ok.0)) c.if-len-eq-MAX_LAYERS.false) c.in_ok-opened-2.ensures
