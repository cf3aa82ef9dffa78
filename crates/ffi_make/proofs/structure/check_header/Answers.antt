use Rattle.std.proofs.Common.{sym}
use Rattle.std.proofs.lemmas.Bool.{eqb-false}
use Rattle.ffi_make.proofs.Making.{header_checked}
use Rattle.ffi_make.proofs.structure.check_header.Goals as goal

pub returns : goal.returns
returns c = header_checked c.args.bytes.now c.check.result (eqb-false _ 0 (sym c.if-is_empty.ensures)) c.check.ensures
