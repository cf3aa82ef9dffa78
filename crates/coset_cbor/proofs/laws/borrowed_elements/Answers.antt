use Rattle.coset_cbor.proofs.Between.{items_alone, pairs_alone}
use Rattle.coset_cbor.proofs.laws.borrowed_elements.Goals as goal

pub returns-clause-items : goal.returns-clause-items
returns-clause-items c = λ it. items_alone it.rest.now it.checked

pub returns-clause-pairs : goal.returns-clause-pairs
returns-clause-pairs c = λ it. pairs_alone it.rest.now it.checked
