use Rattle.std.proofs.Common.{◌≡◌, None, option_map}
use Rattle.coset.specs.View.{value_item}
use Rattle.ffi_make.specs.Makes.{IsMade, IsMisfit}
use Rattle.ffi_make.proofs.Making.{written}
use Rattle.ffi_make.proofs.made.write_made.Goals as goal

pub returns-in-Ok : goal.returns-in-Ok
returns-in-Ok c =
    let k = c.args.kind in
    let o = option_map value_item c.in-Ok.made in
    rw c.in-Ok.is (written (λ b. b.items) (IsMade k o) (o ≡ None) (IsMisfit k o) c.args.out.now c.write_found.new.out c.encoded.result c.write_found.result
    c.encoded.ensures c.write_found.ensures)
