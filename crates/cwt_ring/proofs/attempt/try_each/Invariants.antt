use Rattle.std.proofs.Common.{◌++◌, map, take}
use Rattle.cwt_ring.specs.Attempts.{fitting, fitting_of, issuer_view}
use Rattle.coset.specs.Keys.{key_view}
use Rattle.cwt_keys.specs.Keys.{name_view}
use Rattle.cwt_keys.specs.Sealed.{seal_view}
use Rattle.cwt_ring.proofs.Trying.{Tried}
use Rattle.cwt_ring.proofs.attempt.try_each.Given as goal

abbrev pub invariant-loop-key : goal.invariant-loop-key
invariant-loop-key g l =
    Tried (g.A.Attempt.refuses l.attempt) (fitting (seal_view l.sealed) (map issuer_view (take l.issuer-index l.issuers))
    ++ fitting_of (seal_view l.sealed) (name_view l.issuer.name) (map key_view (take l.key-index l.key-items))) l.refused l.tried

abbrev pub invariant-loop-issuer : goal.invariant-loop-issuer
invariant-loop-issuer g l =
    Tried (g.A.Attempt.refuses l.attempt) (fitting (seal_view l.sealed) (map issuer_view (take l.issuer-index l.issuers))) l.refused l.tried
