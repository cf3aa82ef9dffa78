use Rattle.std.proofs.Common.{◌+◌, ◌++◌, ◌∙◌, ap, map, sym, subst, take}
use Rattle.std.proofs.lemmas.List.{take_all}
use Rattle.cwt_ring.specs.Attempts.{fitting, fitting_of, issuer_view}
use Rattle.coset.specs.Keys.{key_view}
use Rattle.cwt_ring.specs.Fits.{nonce_view}
use Rattle.cwt_keys.specs.Keys.{name_view}
use Rattle.cwt_keys.specs.Sealed.{seal_view}
use Rattle.cwt_ring.proofs.Trying.{Tried, found, issuer_more, kept, one_too_many, passed_over, refused_too}
use Rattle.cwt_ring.proofs.attempt.try_each.Goals as goal
use Rattle.cwt_ring.proofs.attempt.try_each.Goals.{in-Some+else-tried-eq-MAX_KEYS+in-Err, in_default}

pub returns-then-tried-eq-MAX_KEYS-clause-refused : goal.returns-then-tried-eq-MAX_KEYS-clause-refused
returns-then-tried-eq-MAX_KEYS-clause-refused g c =
    one_too_many (g.A.Attempt.refuses c.args.attempt.now) (seal_view c.args.sealed.now) c.args.issuers.now c.loop-issuer.issuer-index
    c.issuer-item.result c.deref-key-items.result.now c.loop-key.key-index c.key-item.result (nonce_view c.in-Some.nonce) c.loop-key.refused
    c.loop-key.tried c.loop-issuer-test.true c.issuer-item.is c.deref-key-items.ensures.value c.loop-key-test.true c.key-item.is c.in-Some.ensures
    c.if-tried-eq-MAX_KEYS.true c.loop-key.invariant

-- The result is shown as a long read of the tuple; it computes to `c.in-Ok.given`.
pub returns-in-Ok-clause-found : goal.returns-in-Ok-clause-found
returns-in-Ok-clause-found g c =
    found (g.A.Attempt.refuses c.args.attempt.now) (seal_view c.args.sealed.now) (λ k. g.A.Attempt.gives c.args.attempt.now k c.in-Ok.given)
    c.args.issuers.now c.loop-issuer.issuer-index c.issuer-item.result c.deref-key-items.result.now c.loop-key.key-index c.key-item.result
    (nonce_view c.in-Some.nonce) c.loop-key.refused c.loop-key.tried c.loop-issuer-test.true c.issuer-item.is c.deref-key-items.ensures.value
    c.loop-key-test.true c.key-item.is c.in-Some.ensures c.in-Ok.ensures.given c.if-tried-eq-MAX_KEYS.false c.loop-key.invariant

pub loop-key-preserved : goal.loop-key-preserved
loop-key-preserved g c =
    let refuses = g.A.Attempt.refuses c.args.attempt.now in
    let l = seal_view c.args.sealed.now in
    let name = name_view c.issuer-item.result.name in
    let keys = c.deref-key-items.result.now in
    let before = fitting l (map issuer_view (take c.loop-issuer.issuer-index c.args.issuers.now)) in
    let ks = before ++ fitting_of l name (map key_view (take (c.loop-key.key-index + 1) keys)) in
    elim c.match-fits.branch [
      | in-Some+else-tried-eq-MAX_KEYS+in-Err w ↦ kept refuses l ks _ _ _ _ w.refused-is w.tried-is
          (refused_too refuses l name before keys c.loop-key.key-index c.key-item.result (nonce_view w.in-Some.nonce) c.loop-key.refused w.in-Err.error
          c.loop-key.tried c.loop-key-test.true c.key-item.is w.in-Some.ensures w.in-Err.ensures.refused w.if-tried-eq-MAX_KEYS.false c.loop-key.invariant)
      | in_default w ↦ kept refuses l ks _ _ _ _ w.refused-is w.tried-is
          (passed_over refuses l name before keys c.loop-key.key-index c.key-item.result c.loop-key.refused c.loop-key.tried c.loop-key-test.true
          c.key-item.is w.in_default.ensures c.loop-key.invariant)
    ]

pub loop-issuer-preserved : goal.loop-issuer-preserved
loop-issuer-preserved g c =
    let refuses = g.A.Attempt.refuses c.args.attempt.now in
    let l = seal_view c.args.sealed.now in
    let name = name_view c.issuer-item.result.name in
    let keys = c.deref-key-items.result.now in
    let before = fitting l (map issuer_view (take c.loop-issuer.issuer-index c.args.issuers.now)) in
    subst (λ ks. Tried refuses ks c.loop-key.refused c.loop-key.tried)
    (ap (λ ks. before ++ fitting_of l name (map key_view ks)) (take_all c.loop-key.key-index keys c.loop-key-test.false ∙ c.deref-key-items.ensures.value)
    ∙ sym (issuer_more l c.args.issuers.now c.loop-issuer.issuer-index c.issuer-item.result c.loop-issuer-test.true c.issuer-item.is))
    c.loop-key.invariant
