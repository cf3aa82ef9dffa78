use Rattle.std.proofs.Common.{rules, pos, ◌∷◌, [], Ok, Err}
use Rattle.coset.specs.Keys.{key_view}
use Rattle.coset.specs.LabelData.{number}
use Rattle.coset.specs.Registry.{minus}
use Rattle.cose_thumbprint.specs.Thumbprint.{curve, byte_string, okp}
use Rattle.cose_thumbprint.specs.Views.{member_view}
use Rattle.cose_thumbprint.proofs.Finding.{found, failed, last, more, gives, refuses}
use Rattle.cose_thumbprint.proofs.input.octet_key_pair.Goals as goal

pub returns-in_err-x : goal.returns-in_err-x
returns-in_err-x c =
    let k = key_view c.args.key.now in
    let e = c.in_err-x.field-0.0 in
    let crv = found k _ (minus 1) curve c.in_ok-crv.crv (search rules) c.in_ok-crv.ensures in
    let x = failed k _ (minus 2) byte_string e (search rules) c.in_err-x.ensures in
    refuses (number (pos 1)) k okp e c.from_residual-in_err-x.result
    (more k (minus 1, curve) ((minus 2, byte_string) ∷ []) (member_view c.in_ok-crv.crv) _ crv
    (last k (minus 2, byte_string) (Err e) x))
    c.from_residual-in_err-x.ensures.1

pub returns : goal.returns
returns c =
    let k = key_view c.args.key.now in
    let crv = found k _ (minus 1) curve c.in_ok-crv.crv (search rules) c.in_ok-crv.ensures in
    let x = found k _ (minus 2) byte_string c.in_ok-x.x (search rules) c.in_ok-x.ensures in
    gives (pos 1) _ k okp _ c.encode.result (search rules)
    (more k (minus 1, curve) ((minus 2, byte_string) ∷ []) (member_view c.in_ok-crv.crv) _ crv
    (last k (minus 2, byte_string) (Ok (member_view c.in_ok-x.x)) x))
    c.encode.ensures.ok c.encode.ensures.memory
