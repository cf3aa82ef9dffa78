use Rattle.std.proofs.Common.{[], refl}
use Rattle.coset_core.specs.Structure.{structure}
use Rattle.coset_core.proofs.Structures.{same_structure}
use Rattle.coset_sign.proofs.laws.one_structure.Goals as goal

pub returns : goal.returns
returns k = λ c d b p q x y.
    let is_text = k.shortest_is_encoding.ensures in
    same_structure c d p q (k.one_item.ensures (structure c p) (structure d q) b b [] [] (is_text (structure c p) b x) (is_text (structure d q) b y) refl).0
