-- The results for numbers that have a meaning.
use Rattle.std.proofs.Common.{◌≡◌, Option, Some, Result, Ok, Err, refl, subst}
use Rattle.std.specs.Prelude.{MatchOption}
use Rattle.ffi_query.specs.declared.refusal.Refusal as refusals
use Rattle.ffi_query.specs.declared.view.MessageView.{MessageView}
use Rattle.ffi_c.specs.Replies.{reply_status}
use Rattle.ffi_c.specs.Views.{texts_len}

pub replied : {A : Type 0} (P : A → Type 0) (X : Type 0) (o : Option A) (x : A) → Some x ≡ o → P x → MatchOption o X P
replied P X o x e h = subst (λ p. MatchOption p X P) e h

-- The status of the texts' length is the status of the view.
pub same_status : (r : Result MessageView refusals.Refusal) → reply_status (texts_len r) ≡ reply_status r
same_status (Ok n) = refl
same_status (Err e) = refl
