use Rattle.coset_value.specs.View.{value_item}
use Rattle.coset_codec.proofs.Finding.{found_view}
use Rattle.coset_claims.specs.Claims.{name_view, same_label}
use Rattle.coset_claims.proofs.claims_set.ClaimsSet.get.Goals as goal

pub returns : goal.returns
returns c =
    found_view name_view value_item (same_label (name_view c.args.name.now)) c.args.self.now.rest.items c.find_value.result
    (rw c.deref.ensures.value at c.find_value.ensures)
