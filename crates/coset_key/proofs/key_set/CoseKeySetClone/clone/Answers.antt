use Rattle.coset_label.proofs.Copies.{list_copied}
use Rattle.coset_key.specs.Keys.{key_view}
use Rattle.coset_key.proofs.key_set.CoseKeySetClone.clone.Goals as goal

pub returns : goal.returns
returns c = record { cases = list_copied key_view _ (λ x y same. same) _ _ c.in_ok-clone.ensures.cases.0 }
