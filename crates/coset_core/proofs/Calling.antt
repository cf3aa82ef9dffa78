-- The results of calls that take a closure.
use Rattle.std.proofs.Common.{◌≡◌, ℕ, List, Option, Result, Ok, Err, sym, subst}
use Rattle.std.specs.Prelude.{IsErrAnd}
use Rattle.std.specs.Borrow.{Bor}
use Rattle.std.specs.Fn.{Once}
use Rattle.coset_value.specs.Item.{Item}
use Rattle.coset_codec.specs.declared.error.CallError.{CallError}
use Rattle.coset_codec.specs.declared.error.CallError.TheVariants.{Coset, Caller}
use Rattle.coset_core.specs.Calls.{TriesToCreate}

module _ {F V A B E : Type 0} (g : Once F (Bor (List ℕ) × Unit {0}) (Result V E)) (f : F) (o : Option Item) (kept : V → A → Type 0)
    (stores : V → B → Type 0) where
  refused : (e : CallError E) → TriesToCreate g f o kept (Err e) → TriesToCreate g f o stores (Err e)
  refused (Caller e) h = h
  refused (Coset e) h = h

  -- An error that is passed on, however the result would have been stored.
  pub passed_on : (e : CallError E) (r : Result B (CallError E)) → IsErrAnd r (λ x. x ≡ e) → TriesToCreate g f o kept (Err e) → TriesToCreate g f o stores r
  passed_on e (Ok x) is h = absurd is
  passed_on e (Err x) is h = subst (λ y. TriesToCreate g f o stores (Err y)) (sym is) (refused e h)
