use Rattle.std.proofs.Common.{◌≡◌, None, option_map}
use Rattle.coset.specs.View.{value_item}
use Rattle.ffi_make.specs.LabelsMade.{IsMap, IsNoMap}
use Rattle.ffi_make.proofs.Making.{written}
use Rattle.ffi_make.proofs.labels.write_map.Goals as goal

pub returns-in-Ok : goal.returns-in-Ok
returns-in-Ok c =
    let k = c.args.kind in
    let o = option_map value_item c.in-Ok.made in
    rw c.in-Ok.is (written (λ b. b.items) (IsMap k o) (o ≡ None) (IsNoMap k o) c.args.out.now c.write_found.new.out c.encoded_map.result
    c.write_found.result c.encoded_map.ensures c.write_found.ensures)
