use Rattle.std.proofs.Common.{[], refl}
use Rattle.coset_recipient.specs.AnyStructure.{structure_of}
use Rattle.coset_recipient.proofs.Contexts.{same_structured}
use Rattle.coset_recipient.proofs.laws.one_of_all_structures.Goals as goal

pub returns : goal.returns
returns c = λ b x y h k.
    let encoding = c.shortest_is_encoding.ensures in
    same_structured x y (c.one_item.ensures (structure_of x) (structure_of y) b b [] [] (encoding (structure_of x) b h) (encoding (structure_of y) b k) refl).0
