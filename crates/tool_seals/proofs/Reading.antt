-- Messages that are read by a form that isn't given.
use Rattle.std.proofs.Common.{◌≡◌, ◌∙◌, ◌++◌, List, [], ℕ, Option, Some, None, Result, Ok, Err, ap, refl, subst, sym}
use Rattle.std.specs.Prelude.{IfOk, IfSome}
use Rattle.std.proofs.lemmas.List.{append_assoc}
use Rattle.coset.specs.CoseError.{CoseError}
use Rattle.cwt_keys.specs.declared.form.Form.{Form}
use Rattle.tool_seals.specs.Seals.{IsOutermost, IsRead, IsReadSomehow}
use Rattle.tool_seals.specs.declared.message.Message.{Message}

pub somehow : (f : Form) (bytes : List ℕ) (r : Result Message CoseError) → IfOk r (IsRead f bytes) → IfOk r (IsReadSomehow bytes)
somehow f bytes (Ok m) h = (f, [], bytes, refl, h)
somehow f bytes (Err e) h = tt

-- What is read of a suffix is read of the bytes, if no form is given.
pub behind :
    (form : Option Form) (bytes inner : List ℕ) (r : Result Message CoseError) → form ≡ None → ((front : List ℕ) × (bytes ≡ front ++ inner))
    → IfOk r (IsReadSomehow inner) → IfOk r (IsOutermost form bytes)
behind (Some f) bytes inner r none front h = absurd cc
behind None bytes inner (Ok m) none front h =
    (h.0, front.0 ++ h.1, h.2, front.1 ∙ (ap (λ (xs : List ℕ). front.0 ++ xs) h.3 ∙ sym (append_assoc front.0 h.1 h.2)), h.4)
behind None bytes inner (Err e) none front h = tt

-- The message that was read, and that no error hides.
pub outermost :
    (form : Option Form) (bytes : List ℕ) (r : Result Message CoseError) (o : Option Message) (m : Message) → IfOk r (IsOutermost form bytes)
    → IfSome o (λ x. r ≡ Ok x) → o ≡ Some m → IsOutermost form bytes m
outermost form bytes r o m h read is =
    let same : r ≡ Ok m = subst (λ (x : Option Message). IfSome x (λ y. r ≡ Ok y)) is read in
    subst (λ (x : Result Message CoseError). IfOk x (IsOutermost form bytes)) same h
