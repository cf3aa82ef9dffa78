-- Items at the front of bytes.
use Rattle.std.proofs.Common.{ℕ, List, Result, Ok, Err, Bool}
use Rattle.std.specs.Prelude.{IfOk, IsTrue}
use Rattle.coset.specs.Item.{Item}
use Rattle.tool_fault.specs.Places.{StandTogether}
use Rattle.tool_fault.specs.Steps.{IsAtFront}

-- A true result that implies P also implies Q, if P implies Q.
pub where_ok : {E : Type 0} {P Q : Type 0} (r : Result Bool E) → IfOk r (λ b. IsTrue b → P) → (P → Q) → IfOk r (λ b. IsTrue b → Q)
where_ok (Ok b) told goes = λ holds. goes (told holds)
where_ok (Err e) told goes = tt

pub together : {P Q : Item → Type 0} {R : Item → Item → Type 0} (one other : List ℕ) → ((v w : Item) → P v → Q w → R v w) → IsAtFront P one → IsAtFront Q other
    → StandTogether R one other
together one other join (b, r, v, parts, is, p) (b2, r2, w, parts2, is2, q) = (b, r, v, parts, is, (b2, r2, w, parts2, is2, join v w p q))

-- An item at the front of bytes, with a property that P implies.
pub standing : {P Q : Item → Type 0} (t : List ℕ) → ((v : Item) → P v → Q v) → IsAtFront P t → IsAtFront Q t
standing t goes (b, r, v, parts, is, p) = (b, r, v, parts, is, goes v p)
