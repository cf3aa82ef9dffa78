use Rattle.std.proofs.Common.{rules, pos, ◌∷◌, [], Ok, Err}
use Rattle.coset.specs.Keys.{key_view}
use Rattle.coset.specs.LabelData.{number}
use Rattle.coset.specs.Registry.{minus}
use Rattle.cose_thumbprint.specs.Thumbprint.{curve, byte_string, coordinate, ec2}
use Rattle.cose_thumbprint.specs.Views.{member_view}
use Rattle.cose_thumbprint.proofs.Finding.{found, failed, last, more, gives, refuses}
use Rattle.cose_thumbprint.proofs.input.elliptic_curve.Goals as goal

pub returns-in_err-y : goal.returns-in_err-y
returns-in_err-y c =
    let k = key_view c.args.key.now in
    let e = c.in_err-y.field-0.0 in
    let crv = found k _ (minus 1) curve c.in_ok-crv.crv (search rules) c.in_ok-crv.ensures in
    let x = found k _ (minus 2) byte_string c.in_ok-x.x (search rules) c.in_ok-x.ensures in
    let y = failed k _ (minus 3) coordinate e (search rules) c.in_err-y.ensures in
    refuses (number (pos 2)) k ec2 e c.from_residual-in_err-y.result
    (more k (minus 1, curve) ((minus 2, byte_string) ∷ (minus 3, coordinate) ∷ []) (member_view c.in_ok-crv.crv) _ crv
    (more k (minus 2, byte_string) ((minus 3, coordinate) ∷ []) (member_view c.in_ok-x.x) _ x
    (last k (minus 3, coordinate) (Err e) y)))
    c.from_residual-in_err-y.ensures.1

pub returns : goal.returns
returns c =
    let k = key_view c.args.key.now in
    let crv = found k _ (minus 1) curve c.in_ok-crv.crv (search rules) c.in_ok-crv.ensures in
    let x = found k _ (minus 2) byte_string c.in_ok-x.x (search rules) c.in_ok-x.ensures in
    let y = found k _ (minus 3) coordinate c.in_ok-y.y (search rules) c.in_ok-y.ensures in
    gives (pos 2) _ k ec2 _ c.encode.result (search rules)
    (more k (minus 1, curve) ((minus 2, byte_string) ∷ (minus 3, coordinate) ∷ []) (member_view c.in_ok-crv.crv) _ crv
    (more k (minus 2, byte_string) ((minus 3, coordinate) ∷ []) (member_view c.in_ok-x.x) _ x
    (last k (minus 3, coordinate) (Ok (member_view c.in_ok-y.y)) y)))
    c.encode.ensures.ok c.encode.ensures.memory
