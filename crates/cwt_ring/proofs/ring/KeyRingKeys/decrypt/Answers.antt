use Rattle.std.proofs.Common.{map}
use Rattle.coset_iana.specs.Algorithm.{number}
use Rattle.cwt_keys.specs.Keys.{name_view}
use Rattle.cwt_keys.specs.Sealed.{seal_view}
use Rattle.cwt_ring.specs.Attempts.{fitting, issuer_view}
use Rattle.cwt_ring.proofs.Asking.{decrypted, none_fits, not_decrypted}
use Rattle.std.proofs.lemmas.Result.{IfErr-weaker, IfOk-weaker}
use Rattle.cwt_ring.proofs.ring.KeyRingKeys.decrypt.Goals as goal

pub returns-in_default-clause-refused : goal.returns-in_default-clause-refused
returns-in_default-clause-refused g c = none_fits (seal_view c.args.sealed.now) (map issuer_view c.args.self.now.issuers.now) c.in_default.ensures

pub returns-clause-decrypted : goal.returns-clause-decrypted
returns-clause-decrypted g c =
    let s = seal_view c.args.sealed.now in
    IfOk-weaker c.try_each.result _ _
    (λ x h. decrypted (g.C.Ciphers.view c.args.self.now.ciphers) s (number c.in-Some.algorithm) c.in-Some.ensures
    (fitting s (map issuer_view c.args.self.now.issuers.now)) x.0.items (name_view x.1) h) c.try_each.ensures.found

pub returns-clause-refused : goal.returns-clause-refused
returns-clause-refused g c =
    let s = seal_view c.args.sealed.now in
    IfErr-weaker c.try_each.result _ _
    (λ e h. not_decrypted (g.C.Ciphers.view c.args.self.now.ciphers) s (number c.in-Some.algorithm) c.in-Some.ensures
    (fitting s (map issuer_view c.args.self.now.issuers.now)) e h) c.try_each.ensures.refused
