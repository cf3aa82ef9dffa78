use Rattle.std.proofs.Common.{rules, pos, ◌∷◌, [], Ok, Err}
use Rattle.coset.specs.Keys.{key_view}
use Rattle.coset.specs.LabelData.{number}
use Rattle.coset.specs.Registry.{minus}
use Rattle.cose_thumbprint.specs.Thumbprint.{byte_string, rsa}
use Rattle.cose_thumbprint.specs.Views.{member_view}
use Rattle.cose_thumbprint.proofs.Finding.{found, failed, last, more, gives, refuses}
use Rattle.cose_thumbprint.proofs.input.rsa.Goals as goal

pub returns-in_err-e : goal.returns-in_err-e
returns-in_err-e c =
    let k = key_view c.args.key.now in
    let error = c.in_err-e.field-0.0 in
    let modulus = found k _ (minus 1) byte_string c.in_ok-n.n (search rules) c.in_ok-n.ensures in
    let exponent = failed k _ (minus 2) byte_string error (search rules) c.in_err-e.ensures in
    refuses (number (pos 3)) k rsa error c.from_residual-in_err-e.result
    (more k (minus 1, byte_string) ((minus 2, byte_string) ∷ []) (member_view c.in_ok-n.n) _ modulus
    (last k (minus 2, byte_string) (Err error) exponent))
    c.from_residual-in_err-e.ensures.1

pub returns : goal.returns
returns c =
    let k = key_view c.args.key.now in
    let modulus = found k _ (minus 1) byte_string c.in_ok-n.n (search rules) c.in_ok-n.ensures in
    let exponent = found k _ (minus 2) byte_string c.in_ok-e.e (search rules) c.in_ok-e.ensures in
    gives (pos 3) _ k rsa _ c.encode.result (search rules)
    (more k (minus 1, byte_string) ((minus 2, byte_string) ∷ []) (member_view c.in_ok-n.n) _ modulus
    (last k (minus 2, byte_string) (Ok (member_view c.in_ok-e.e)) exponent))
    c.encode.ensures.ok c.encode.ensures.memory
