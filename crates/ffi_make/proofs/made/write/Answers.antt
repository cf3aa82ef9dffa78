use Rattle.std.proofs.Common.{inl}
use Rattle.coset.specs.View.{value_item}
use Rattle.ffi_make.proofs.made.write.Goals as goal

pub returns-in-Ok : goal.returns-in-Ok
returns-in-Ok c = inl (value_item c.in-Ok.value, c.in-Ok.ensures.0, c.write_made.ensures)
