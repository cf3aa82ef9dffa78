-- Properties of values that are present, and errors returned unchanged.
use Rattle.std.proofs.Common.{◌≡◌, ℕ, List, Option, Some, Result, Ok, Err, sym, subst}
use Rattle.std.specs.Option.{IfSome}
use Rattle.std.specs.Prelude.{IsErrAnd}
use Rattle.std.specs.Borrow.{Bor}
use Rattle.std.specs.Fn.{Once}
use Rattle.coset_value.specs.Item.{Item}
use Rattle.coset_codec.specs.declared.error.CallError.{CallError}
use Rattle.coset_codec.specs.declared.error.CallError.TheVariants.{Coset, Caller}
use Rattle.coset_core.specs.Calls.{CallsWith}
use Rattle.coset_msg.specs.Presence.{TriesToCreateOf}

-- A property of the value that is present.
pub if_there : {A : Type 0} {o : Option A} {x : A} (P : A → Type 0) → o ≡ Some x → P x → IfSome o P
if_there P e h = subst (λ q. IfSome q P) (sym e) h

module _ {F V B E : Type 0} (g : Once F (Bor (List ℕ) × (Bor (List ℕ) × Unit {0})) (Result V E)) (f : F) (s : List ℕ) (o : Option Item)
    (stores : V → B → Type 0) where
  refused : (e : CallError E) → CallsWith g f s o (Err e) → TriesToCreateOf g f s o stores (Err e)
  refused (Caller e) h = h
  refused (Coset e) h = h

  -- An error that is returned unchanged, whatever would have been stored.
  pub passed_on : (e : CallError E) (r : Result B (CallError E)) → IsErrAnd r (λ x. x ≡ e) → CallsWith g f s o (Err e) → TriesToCreateOf g f s o stores r
  passed_on e (Ok x) is h = absurd is
  passed_on e (Err x) is h = subst (λ y. TriesToCreateOf g f s o stores (Err y)) (sym is) (refused e h)
