use Rattle.std.proofs.Common.{[], append-nil, sym}
use Rattle.coset_cbor.proofs.Cursors.{stands_item}
use Rattle.coset_cbor.proofs.cursor.Cursor.new.Goals as goal

pub returns-clause-whole : goal.returns-clause-whole
returns-clause-whole c = λ v is. stands_item v c.args.bytes.now c.args.bytes.now [] is (sym (append-nil c.args.bytes.now))
