use Rattle.std.proofs.Common.{◌∙◌, sym}
use Rattle.ffi_query.proofs.Spanning.{encrypted_same}
use Rattle.ffi_query.proofs.spans.given_content.Goals as goal

pub returns-then-is_encrypted : goal.returns-then-is_encrypted
returns-then-is_encrypted c = encrypted_same c.args.kind (sym c.is_encrypted.ensures ∙ c.if-is_encrypted.true) _ _ _
