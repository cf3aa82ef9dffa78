use Rattle.std.proofs.Common.{map}
use Rattle.coset_iana.specs.Algorithm.{number}
use Rattle.cwt_keys.specs.Keys.{name_view}
use Rattle.cwt_keys.specs.Sealed.{seal_view}
use Rattle.cwt_ring.specs.Attempts.{fitting, issuer_view}
use Rattle.cwt_ring.proofs.Asking.{none_fits, not_verified, verified}
use Rattle.cwt_ring.proofs.ring.KeyRingKeys.verify.Goals as goal

pub returns-in_default-clause-refused : goal.returns-in_default-clause-refused
returns-in_default-clause-refused g c = none_fits (seal_view c.args.sealed.now) (map issuer_view c.args.self.now.issuers.now) c.in_default.ensures

pub returns-in-Ok-clause-accepted : goal.returns-in-Ok-clause-accepted
returns-in-Ok-clause-accepted g c =
    let s = seal_view c.args.sealed.now in
    verified (g.C.Ciphers.view c.args.self.now.ciphers) s (number c.in-Some.algorithm) c.in-Some.ensures
    (fitting s (map issuer_view c.args.self.now.issuers.now)) (name_view c.in-Ok.name) c.in-Ok.ensures.found

pub returns-in-Err-clause-refused : goal.returns-in-Err-clause-refused
returns-in-Err-clause-refused g c =
    let s = seal_view c.args.sealed.now in
    not_verified (g.C.Ciphers.view c.args.self.now.ciphers) s (number c.in-Some.algorithm) c.in-Some.ensures
    (fitting s (map issuer_view c.args.self.now.issuers.now)) c.in-Err.error c.in-Err.ensures.refused
