use Rattle.coset.specs.Pulls.{pull_item}
use Rattle.ffi_query.specs.Critical.{IsCriticalIn, IsCriticalOf}
use Rattle.ffi_query.proofs.Known.{if_ok, of_one}
use Rattle.ffi_query.proofs.critical.critical_of.Goals as goal

pub returns-in_ok-signer-in-Sign-clause-critical : goal.returns-in_ok-signer-in-Sign-clause-critical
returns-in_ok-signer-in-Sign-clause-critical c =
    let m = c.in_ok-message-in-Sign.message in
    let s = c.in_ok-signer-in-Sign.signer in
    let is_message = rw c.in-Sign.is at c.in_ok-message-in-Sign.ensures.critical in
    rw c.in-Sign.is (record {
      in_message = m.is_there;
      of_message = m.is_understood;
      in_signer = s.is_there;
      of_signer = s.is_understood;
      is_message = is_message;
      is_signer = c.in_ok-signer-in-Sign.ensures.critical;
      is_there = c.either.ensures;
      is_understood = c.both.ensures;
    })

pub returns-in_default : goal.returns-in_default
returns-in_default c =
    let k = c.args.kind in
    let ns = c.args.known.now in
    let v = pull_item c.args.item in
    let s = pull_item c.args.bearer in record {
      critical = if_ok (λ r. IsCriticalIn k ns v r.is_there r.is_understood) (λ r. IsCriticalOf k ns v s r.is_there r.is_understood)
          c.critical_in-in_default.result
          (λ r h. of_one k ns v s r.is_there r.is_understood c.in_default.not-Sign h) c.critical_in-in_default.ensures.critical;
      memory = c.critical_in-in_default.ensures.memory;
    }
