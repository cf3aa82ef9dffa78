-- Recipients, of which there must be exactly one.
use Rattle.std.proofs.Common.{◌≡◌, ◌∙◌, ◌++◌, ◌==◌, ◌&&◌, not, Bool, true, false, true≢false, List, [], ◌∷◌, None, ap, arith, length, map, option_map}
use Rattle.std.proofs.Common.{refl, sym}
use Rattle.std.proofs.lemmas.Bool.Decides.{nat_tests}
use Rattle.std.proofs.lemmas.List.{length-append}
use Rattle.coset.specs.CoseRecipient.{CoseRecipient, out-CoseRecipient}
use Rattle.coset.specs.Recipient.{RecipientView, are_none, recipients_of}
use Rattle.coset.specs.RecipientViews.{recipient_view, recipient-unrolled}
use Rattle.coset.specs.Views.{header_view, protected_view}
use Rattle.cwt_verify.specs.Recipients.{has_zero_length, holds_key, is_direct, names_key, only_direct}

-- The last element of a list is its only one.
pub one_left : {A : Type 0} (xs ys : List A) (x : A) → xs ≡ ys ++ x ∷ [] → length xs ≡ 1 → xs ≡ x ∷ []
one_left xs [] x e n = e
one_left xs (y ∷ ys) x e n = absurd (omega (arith, length-append ys (x ∷ []), length-append (y ∷ ys) (x ∷ []), ap length e))

pub not_one : (rs : List RecipientView) → (length rs ≡ 1 → ⊥) → only_direct rs ≡ None
not_one [] h = refl
not_one (r ∷ []) h = absurd (h refl)
not_one (r ∷ s ∷ rs) h = refl

pub none_inside : {A : Type 0} (f : A → RecipientView) (xs : List A) → are_none (recipients_of (map f xs)) ≡ (length xs == 0)
none_inside f [] = refl
none_inside f (x ∷ xs) = grind (arith, nat_tests)

last_of_four : (a b h d : Bool) → a ≡ true → b ≡ true → h ≡ false → a && b && not h && d ≡ d
last_of_four true true false d p q s = refl
last_of_four true true true d p q s = absurd (true≢false s)
last_of_four true false h d p q s = absurd (true≢false (sym q))
last_of_four false b h d p q s = absurd (true≢false (sym p))

-- A recipient of which only the recipients inside are left to look at.
pub unless_inside : (r : CoseRecipient) → has_zero_length (protected_view (out-CoseRecipient r).protected) ≡ true
    → names_key (header_view (out-CoseRecipient r).unprotected) ≡ true → holds_key (option_map (λ b. b.items) (out-CoseRecipient r).ciphertext) ≡ false
    → is_direct (recipient_view r) ≡ (length (out-CoseRecipient r).recipients.items == 0)
unless_inside r a b h =
    let o = out-CoseRecipient r in
    ap is_direct (recipient-unrolled r)
    ∙ (last_of_four (has_zero_length (protected_view o.protected)) (names_key (header_view o.unprotected)) (holds_key (option_map (λ b. b.items) o.ciphertext))
    (are_none (recipients_of (map recipient_view o.recipients.items))) a b h
    ∙ none_inside recipient_view o.recipients.items)
