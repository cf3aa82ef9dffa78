-- Reading recipients, from the results of reading their parts.
use Rattle.std.proofs.Common.{◌≡◌, ◌⊎◌, ℕ, List, [], map, Option, Result, Ok, Err, refl, sym, ap, subst, ◌∙◌, inl, inr}
use Rattle.std.specs.Prelude.{IsErrAnd}
use Rattle.coset_value.specs.Item.{Item, array, Items, no_items, item}
use Rattle.coset_codec.specs.declared.error.CoseError.{CoseError}
use Rattle.coset_codec.specs.declared.error.ErrorStored.{ErrorStored}
use Rattle.coset_codec.specs.declared.read.decoder.ArrayElements.{ArrayElements}
use Rattle.coset_codec.specs.Errors.{UnlessMemory, stored}
use Rattle.coset_codec.specs.InPlace.{Fills}
use Rattle.coset_codec.specs.Inputs.{State, AreWithin, EntersArray}
use Rattle.coset_codec.specs.Shape.{FirstWrongLength, LastWrongLength, ElementsFaults, bstr, list_of, or_nil, optional_last}
use Rattle.coset_codec.specs.Sources.{Never, wrong_length_after}
use Rattle.coset_codec.proofs.InPlace.{not_filled}
use Rattle.coset_core.specs.Headers.{HeaderView, ProtectedView, header, protected}
use Rattle.coset_recipient.specs.Recipient.{RecipientView, recipients_of, each_of, empty_recipient, are_some, recipient, recipient_step}
use Rattle.coset_recipient.specs.RecipientLaws.{each-again, recipient-made}
use Rattle.coset_recipient.specs.RecipientReading.{BeginsThree, FillsFirst, FillsLast}
use Rattle.coset_recipient.specs.RecipientViews.{recipient_view, recipient-unrolled}
use Rattle.coset_recipient.specs.declared.recipient.CoseRecipient.{CoseRecipient, out-CoseRecipient}

-- A fault of one level is a fault of the recipient.
fault_made : (v : Item) (e : CoseError) → (recipient_step recipient).faults v e → recipient.faults v e
fault_made v e f = (recipient-made.faults v e f).1

-- ---- a recipient

-- an item that is no array
pub not_entered :
    (want : List ℕ) (v : Item) (t z : State) (x : RecipientView) (given : Result ArrayElements CoseError) (kept : Result ArrayElements ErrorStored)
    (e : CoseError)
    (y : ErrorStored) (r : Result (Unit {0}) ErrorStored) → IsErrAnd r (λ i. i ≡ y)
    → stored e kept ≡ given → kept ≡ Err y → EntersArray want v t z given → (t ≡ z) × Fills recipient v x (stored e r)
not_entered want v t z x given kept e y r is same was entered =
    let here : EntersArray want v t z (Err e) = subst (EntersArray want v t z) (sym same ∙ ap (stored e) was) entered in
    (here.0, not_filled recipient x v r e y is (λ n. fault_made v e (inl (here.1, here.2))))

-- ---- the elements of a recipient

too_few : (m : Items → Type 0) (vs : Items) → wrong_length_after 3 Never vs → FirstWrongLength (FirstWrongLength (FirstWrongLength m)) vs
too_few m no_items h = tt
too_few m (item a no_items) h = tt
too_few m (item a (item b no_items)) h = tt
too_few m (item a (item b (item c vs))) h = absurd h

pub few_refused :
    (vs : Items) (p : ProtectedView) (u : HeaderView) (c : Option (List ℕ)) (t z : State) (m : ArrayElements) (x : RecipientView)
    (r : Result (Unit {0}) ErrorStored)
    (e : CoseError) (y : ErrorStored) → IsErrAnd r (λ i. i ≡ y) → BeginsThree vs p u c t z m (Err e)
    → ((left : Items) × AreWithin m left t z) × Fills recipient (array vs) x (stored e r)
few_refused vs p u c t z m x r e y is b =
    ((b.0, b.1), not_filled recipient x (array vs) r e y is (λ n. fault_made (array vs) e (inr (vs, refl, inl (too_few LastWrongLength vs b.2, b.3)))))

last_fault : (p u c : Item) (others : Items) (e : CoseError) → ElementsFaults (optional_last [] are_some (list_of recipient)) others e
    → (recipient_step recipient).faults (array (item p (item u (item c others)))) e
last_fault p u c others e (inl f) = inr (item p (item u (item c others)), refl, inl f)
last_fault p u c others e (inr f) = inr (item p (item u (item c others)), refl, inr (f.0, inr (inr (inr f.1))))

pub last_refused :
    (vs : Items) (p : ProtectedView) (u : HeaderView) (c : Option (List ℕ)) (s t z : State) (m n : ArrayElements) (first : Result (Unit {0}) CoseError)
    (x : RecipientView) (rs : List RecipientView) (r : Result (Unit {0}) ErrorStored) (e : CoseError) (y : ErrorStored)
    → IsErrAnd r (λ i. i ≡ y) → BeginsThree vs p u c s z m (Ok first)
    → ((others : Items) → AreWithin m others s z → ((left : Items) × AreWithin n left t z) × FillsLast others rs (Err e))
    → ((left : Items) × AreWithin n left t z) × Fills recipient (array vs) x (stored e r)
last_refused vs p u c s t z m n first x rs r e y is b last =
    let h = last b.3 b.5 in (
      h.0,
      not_filled recipient x (array vs) r e y is
          (subst (λ ws. UnlessMemory e (recipient.faults (array ws))) (sym b.4)
          (λ k. fault_made (array (item b.0 (item b.1 (item b.2 b.3)))) e (last_fault b.0 b.1 b.2 b.3 e (h.1 k)))),
    )

last_fits : (vs : Items) (rs : List RecipientView) → FillsLast vs rs (Ok tt) → LastWrongLength vs → ⊥
last_fits no_items rs d m = m
last_fits (item v no_items) rs d m = m tt
last_fits (item v (item w vs)) rs d m = d

elements_read :
    (p u c : Item) (others : Items) (x : RecipientView) (rs : List RecipientView) (r : Result (Unit {0}) CoseError) → FillsLast others rs (Ok tt)
    → x.recipients ≡ recipients_of rs
    → FillsFirst p u c x.protected x.unprotected x.ciphertext r → Fills recipient (array (item p (item u (item c others)))) x r
elements_read p u c others x rs (Ok t) last inside first =
    let all : each_of x.recipients ≡ rs = ap each_of inside ∙ each-again rs in
    let d : (optional_last [] are_some (list_of recipient)).describes others (each_of x.recipients) =
    subst (λ ys. (optional_last [] are_some (list_of recipient)).describes others ys) (sym all) last in
    (recipient-made.describes (array (item p (item u (item c others)))) x (item p (item u (item c others)), refl, (first.0, (first.1, (first.2, d))))).1
elements_read p u c others x rs (Err e) last inside first =
    λ n. fault_made (array (item p (item u (item c others)))) e (inr (item p (item u (item c others)), refl, inr (last_fits others rs last, placed (first n))))
  where
    placed : protected.faults p e ⊎ header.faults u e ⊎ (or_nil bstr).faults c e → protected.faults p e
        ⊎ (header.faults u e ⊎ ((or_nil bstr).faults c e ⊎ (optional_last [] are_some (list_of recipient)).faults others e))
    placed (inl f) = inl f
    placed (inr (inl f)) = inr (inl f)
    placed (inr (inr f)) = inr (inr (inl f))

pub elements_filled :
    (vs : Items) (s t z : State) (m n : ArrayElements) (x : RecipientView) (rs : List RecipientView) (r : Result (Unit {0}) CoseError)
    → BeginsThree vs x.protected x.unprotected x.ciphertext s z m (Ok r)
    → ((others : Items) → AreWithin m others s z → ((left : Items) × AreWithin n left t z) × FillsLast others rs (Ok tt)) → x.recipients ≡ recipients_of rs
    → ((left : Items) × AreWithin n left t z) × Fills recipient (array vs) x r
elements_filled vs s t z m n x rs r b last inside =
    let h = last b.3 b.5 in
    (h.0, subst (λ ws. Fills recipient (array ws) x r) (sym b.4) (elements_read b.0 b.1 b.2 b.3 x rs r h.1 inside b.6))

-- ---- the empty recipient

pub none_inside : (r : CoseRecipient) → recipient_view r ≡ empty_recipient → map recipient_view (out-CoseRecipient r).recipients.items ≡ []
none_inside r e = sym (each-again (map recipient_view (out-CoseRecipient r).recipients.items)) ∙ ap (λ x. each_of x.recipients) (sym (recipient-unrolled r) ∙ e)
