-- Tests that compute whether two recipients are equal. They return `true` exactly when the views are equal.
use Rattle.std.specs.Prelude.{◌≡◌, Bool, true, false, ◌==◌, ◌&&◌, refl}
use Rattle.std.specs.Option.{option_eq}
use Rattle.std.specs.Cmp.{IsEquivalence, decided}
use Rattle.std.specs.Cmp.Lexicographic.{pointwise, bytes_decides}
use Rattle.std.proofs.Common.{sym, ap, subst, true≢false}
use Rattle.std.proofs.lemmas.Bool.{and_parts}
use Rattle.std.proofs.lemmas.Bool.Decides.{Decides-like, Decides-and}
use Rattle.coset_label.specs.Same.{IsEquality}
use Rattle.coset_core.specs.Same.{header_eq, protected_eq}
use Rattle.coset_core.specs.SameLaws.{option_eq-decides, header_eq-decides, protected_eq-decides}
use Rattle.std.specs.Ordering.{on}
use Rattle.coset_codec.specs.EqDecides.{EqDecides}
use Rattle.coset_recipient.specs.RecipientViews.{recipient_view}
use Rattle.coset_recipient.specs.Recipient.{Recipients, no_recipients, recipient_and, RecipientView}

-- Both lists have the same number of recipients, and each recipient has the same fields as its counterpart.
abbrev pub recipients_eq : Recipients → Recipients → Bool
recipients_eq no_recipients no_recipients = true
recipients_eq (recipient_and p u c inside more) (recipient_and q v d others rest) =
    (protected_eq p q && (header_eq u v && (option_eq (pointwise ◌==◌) c d && recipients_eq inside others))) && recipients_eq more rest
recipients_eq rs ss = false

-- The test whether two recipients are equal.
abbrev pub recipient_eq : RecipientView → RecipientView → Bool
recipient_eq r s =
    protected_eq r.protected s.protected
    && (header_eq r.unprotected s.unprotected
    && (option_eq (pointwise ◌==◌) r.ciphertext s.ciphertext && recipients_eq r.recipients s.recipients))

recipients-sound : (rs ss : Recipients) → recipients_eq rs ss ≡ true → rs ≡ ss
recipients-sound no_recipients no_recipients h = refl
recipients-sound (recipient_and p u c inside more) (recipient_and q v d others rest) h =
    let last = option_eq (pointwise ◌==◌) c d && recipients_eq inside others in
    let all = and_parts (protected_eq p q && (header_eq u v && last)) (recipients_eq more rest) h in
    let first = and_parts (protected_eq p q) (header_eq u v && last) all.0 in
    let second = and_parts (header_eq u v) last first.1 in
    let third = and_parts (option_eq (pointwise ◌==◌) c d) (recipients_eq inside others) second.1 in
    let protected = (protected_eq-decides p q).0 first.0 in
    let unprotected = (header_eq-decides u v).0 second.0 in
    let ciphertext = (option_eq-decides (pointwise ◌==◌) bytes_decides c d).0 third.0 in
    let within = recipients-sound inside others third.1 in
    let after = recipients-sound more rest all.1 in
    λ i. recipient_and (protected i) (unprotected i) (ciphertext i) (within i) (after i)
recipients-sound rs ss h = absurd (true≢false (sym h))

recipients-itself : (rs : Recipients) → recipients_eq rs rs ≡ true
recipients-itself no_recipients = refl
recipients-itself (recipient_and p u c inside more) =
    let protected = (protected_eq-decides p p).1 refl in
    let unprotected = (header_eq-decides u u).1 refl in
    let ciphertext = (option_eq-decides (pointwise ◌==◌) bytes_decides c c).1 refl in
    rw (protected, unprotected, ciphertext, recipients-itself inside, recipients-itself more) refl

pub recipients_eq-decides : IsEquality recipients_eq
recipients_eq-decides rs ss = (recipients-sound rs ss, λ e. subst (λ x. recipients_eq rs x ≡ true) e (recipients-itself rs))

pub recipient_eq-decides : IsEquality recipient_eq
recipient_eq-decides r s =
    Decides-like (recipient_eq r s)
    (λ e i. record { protected = e.0 i; unprotected = e.1.0 i; ciphertext = e.1.1.0 i; recipients = e.1.1.1 i })
    (λ e. (ap (λ x. x.protected) e, (ap (λ x. x.unprotected) e, (ap (λ x. x.ciphertext) e, ap (λ x. x.recipients) e))))
    (Decides-and (protected_eq r.protected s.protected) _ (protected_eq-decides r.protected s.protected)
    (Decides-and (header_eq r.unprotected s.unprotected) _ (header_eq-decides r.unprotected s.unprotected)
    (Decides-and (option_eq (pointwise ◌==◌) r.ciphertext s.ciphertext) (recipients_eq r.recipients s.recipients)
    (option_eq-decides (pointwise ◌==◌) bytes_decides r.ciphertext s.ciphertext) (recipients_eq-decides r.recipients s.recipients))))

-- Therefore the test is reflexive, symmetric and transitive.
pub recipient_eq_equiv : IsEquivalence recipient_eq
recipient_eq_equiv = decided recipient_eq recipient_eq-decides

-- `==` is equality of views.
pub recipient_decides : EqDecides recipient_view (on recipient_view recipient_eq)
recipient_decides r s = recipient_eq-decides (recipient_view r) (recipient_view s)
