use Rattle.std.proofs.Common.{◌≡◌, drop}
use Rattle.coset.specs.Known.{known_view}
use Rattle.cwt_verify.proofs.Missing.{first_missing}
use Rattle.cwt_verify.proofs.claims.check_required.Given as goal

abbrev pub invariant-loop-name : goal.invariant-loop-name
invariant-loop-name g l = first_missing (known_view l.known) l.required ≡ first_missing (known_view l.known) (drop l.name-index l.required)
