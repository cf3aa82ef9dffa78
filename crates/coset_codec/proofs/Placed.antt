-- Elements of an array that are read one after the other.
use Rattle.std.proofs.Common.{◌≡◌, Result, Ok, Err, sym, subst, ◌∙◌}
use Rattle.std.specs.Prelude.{IsErrAnd}
use Rattle.coset_value.specs.Item.{Item, Items, item}
use Rattle.coset_codec.specs.declared.error.CoseError.{CoseError}
use Rattle.coset_codec.specs.declared.read.decoder.ArrayElements.{ArrayElements}
use Rattle.coset_codec.specs.Results.{Reads}
use Rattle.coset_codec.specs.Errors.{UnlessMemory}
use Rattle.coset_codec.specs.Inputs.{State, ItemAt, AreWithin, ReadsAt}
use Rattle.coset_codec.specs.Shape.{Shape}

-- The first of the elements vs was read, Q holds of it, and the others are still to be read.
pub record Placed (Q : Item → Type 0) (vs : Items) (m : ArrayElements) (s z : State) : Type 0 where
  pub first : Item
  pub others : Items
  pub parts : vs ≡ item first others
  pub read : Q first
  pub within : AreWithin m others s z

pub placed :
    (t u z : State) (n : ArrayElements) {Q : Item → Type 0} {vs : Items} → (v : Item) × (others : Items) × (mid : State) × (vs ≡ item v others) × ItemAt v t mid
    × AreWithin n others mid z → ReadsAt t u Q → Placed Q vs n u z
placed t u z n p reads =
    let here = reads p.0 p.2 p.4 in
    record { first = p.0; others = p.1; parts = p.3; read = here.1; within = subst (λ (y : State). AreWithin n p.1 y z) (sym here.0) p.5 }

-- Passes on an error.
pub passed_on : {T A : Type 0} (s : Shape A) (view : T → A) (v : Item) (r : Result T CoseError) (e : CoseError) → IsErrAnd r (λ f. f ≡ e)
    → UnlessMemory e (s.faults v) → Reads s view v r
passed_on s view v (Ok x) e is h = absurd is
passed_on s view v (Err f) e is h = λ n. subst (s.faults v) (sym is) (h (λ m. n (is ∙ m)))
