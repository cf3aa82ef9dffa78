-- Reading items one after another.
use Rattle.std.proofs.Common.{◌≡◌, ◌∙◌, map, ℕ, List, [], ◌∷◌, ◌++◌, append_assoc, append-nil, ap, length, refl, subst, sym, arith}
use Rattle.std.proofs.lemmas.List.{map-append}
use Rattle.coset_value.specs.Item.{Item}
use Rattle.coset_value.specs.View.{value_item}
use Rattle.coset_value.specs.declared.value.Value.{Value}
use Rattle.coset_cbor.specs.Grammar.{IsItem}
use Rattle.example_uses.specs.Sequence.{IsSequence}

-- Some items were read. If the remaining bytes are a sequence, all bytes together are a sequence too.
abbrev pub GoesOn : List ℕ → List Item → List ℕ → Type 0
GoesOn all vs left = (ws : List Item) → IsSequence ws left → IsSequence (vs ++ ws) all

pub item_on : (all old new b : List ℕ) (v : Item) (vs us : List Item) → GoesOn all vs old → old ≡ b ++ new → IsItem b v → us ≡ vs ++ v ∷ [] → GoesOn all us new
item_on all old new b v vs us g e is q = λ ws h.
    subst (λ xs. IsSequence xs all) (sym (ap (λ xs. xs ++ ws) q ∙ append_assoc vs (v ∷ []) ws)) (g (v ∷ ws) (b, new, e, is, h))

pub all_read : (all left : List ℕ) (vs : List Item) → GoesOn all vs left → length left ≡ 0 → IsSequence vs all
all_read all [] vs g none = subst (λ xs. IsSequence xs all) (append-nil vs) (g [] refl)
all_read all (x ∷ left) vs g none = absurd (omega (arith, none))

pub pushed : (old new : List Value) (x : Value) (v : Item) → new ≡ old ++ x ∷ [] → value_item x ≡ v → map value_item new ≡ map value_item old ++ v ∷ []
pushed old new x v e q = ap (map value_item) e ∙ (map-append value_item old (x ∷ []) ∙ ap (λ w. map value_item old ++ w ∷ []) q)
