-- Lists of recipients.
use Rattle.std.proofs.Common.{◌≡◌, ◌≢◌, ◌++◌, ◌∙◌, ◌==◌, ℕ, suc, List, [], ◌∷◌, false, Option, map, option_map, length, refl, sym, ap, arith}
use Rattle.std.specs.Prelude.{OnOk, Result, Ok, Err}
use Rattle.std.specs.declared.alloc.AllocError.{AllocError}
use Rattle.std.proofs.lemmas.Bool.{and_right}
use Rattle.std.proofs.lemmas.Grind.{common_steps}
use Rattle.std.proofs.lemmas.List.{map_push}
use Rattle.coset_core.specs.Headers.{HeaderView, ProtectedView}
use Rattle.coset_core.specs.Views.{header_view, protected_view}
use Rattle.coset_recipient.specs.Recipient.{RecipientView, Recipients, are_none, push_recipient, and_recipients, recipients_of, then_recipient}
use Rattle.coset_recipient.specs.RecipientSame.{recipients_eq}
use Rattle.coset_recipient.specs.RecipientViews.{recipient_view, recipient-rolled, recipient-unrolled}
use Rattle.coset_recipient.specs.declared.recipient.CoseRecipient.{CoseRecipient, CoseRecipient-F, out-CoseRecipient, roll-CoseRecipient}

-- Lists of unequal lengths aren't equal.
pub unequal : {T : Type 0} (view : T → RecipientView) (rs ss : List T) → length rs ≢ length ss
    → false ≡ recipients_eq (recipients_of (map view rs)) (recipients_of (map view ss))
unequal view [] [] h = absurd (h refl)
unequal view (r ∷ rs) (s ∷ ss) h = sym (and_right _ _ (sym (unequal view rs ss (λ e. h (ap suc e)))))
unequal view [] (s ∷ ss) h = refl
unequal view (r ∷ rs) [] h = refl

-- There are no recipients exactly if the list is empty.
pub none_where_empty : {T : Type 0} (view : T → RecipientView) (rs : List T) → (length rs == 0) ≡ are_none (recipients_of (map view rs))
none_where_empty view [] = refl
none_where_empty view (r ∷ rs) = grind (arith, common_steps)

-- Pushing one more recipient.
pub recipients-pushed : (rs : List RecipientView) (r : RecipientView) → recipients_of (rs ++ r ∷ []) ≡ then_recipient (recipients_of rs) r
recipients-pushed [] r = refl
recipients-pushed (x ∷ rs) r = ap (and_recipients x) (recipients-pushed rs r)

-- ---- a copy of a recipient, and one more nested recipient

abbrev fields_of : CoseRecipient-F CoseRecipient → ProtectedView × (HeaderView × Option (List ℕ))
fields_of x = (protected_view x.protected, (header_view x.unprotected, option_map (λ b. b.items) x.ciphertext))

abbrev made : ProtectedView × (HeaderView × Option (List ℕ)) → Recipients → RecipientView
made f rs = record { protected = f.0; unprotected = f.1.0; ciphertext = f.1.1; recipients = rs }

pub recipient-copied :
    (r : CoseRecipient) (x : CoseRecipient-F CoseRecipient) (a : Result (Unit {0}) AllocError) → fields_of x ≡ fields_of (out-CoseRecipient r)
    → OnOk a (map recipient_view x.recipients.items ≡ map recipient_view (out-CoseRecipient r).recipients.items)
    → OnOk a (recipient_view (roll-CoseRecipient x) ≡ recipient_view r)
recipient-copied r x (Ok u) fields inside = recipient-rolled x ∙ ((λ i. made (fields i) (recipients_of (inside i))) ∙ sym (recipient-unrolled r))
recipient-copied r x (Err e) fields inside = tt

pub recipient-added :
    (r : CoseRecipient) (x : CoseRecipient-F CoseRecipient) (s : CoseRecipient) → fields_of x ≡ fields_of (out-CoseRecipient r)
    → x.recipients.items ≡ (out-CoseRecipient r).recipients.items ++ s ∷ []
    → recipient_view (roll-CoseRecipient x) ≡ push_recipient (recipient_view s) (recipient_view r)
recipient-added r x s fields pushed =
    let old : List CoseRecipient = (out-CoseRecipient r).recipients.items in
    let f = fields_of (out-CoseRecipient r) in
    recipient-rolled x
    ∙ (λ i. made (fields i) (recipients_of (map recipient_view (pushed i))))
    ∙ ap (λ rs. made f (recipients_of rs)) (map_push recipient_view old s)
    ∙ ap (made f) (recipients-pushed (map recipient_view old) (recipient_view s))
    ∙ sym (ap (push_recipient (recipient_view s)) (recipient-unrolled r))
