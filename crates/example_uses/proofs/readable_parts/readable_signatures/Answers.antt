use Rattle.example_uses.specs.ReadableParts.{IsNoList}
use Rattle.example_uses.proofs.Refusing.{passed}
use Rattle.example_uses.proofs.readable_parts.readable_signatures.Goals as goal

pub returns-in_err-protected-clause-refused : goal.returns-in_err-protected-clause-refused
returns-in_err-protected-clause-refused c = passed (IsNoList c.args.bytes.now) _ _ c.from_residual.ensures.1 c.in_err-protected.ensures
