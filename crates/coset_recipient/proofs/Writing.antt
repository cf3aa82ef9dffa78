-- Writing recipients, from the results of writing their parts.
use Rattle.std.proofs.Common.{◌≡◌, ◌≢◌, ◌<◌, ◌+◌, ◌^◌, ◌++◌, ◌∙◌, ℕ, suc, List, [], ◌∷◌, true, false, true≢false, Option, Some, None, option_map, Result, Ok}
use Rattle.std.proofs.Common.{Err, refl, sym, ap, subst, arith}
use Rattle.coset_value.specs.Item.{Item, array, Items, no_items, item}
use Rattle.coset_cbor.specs.Least.{least_head}
use Rattle.coset_codec.specs.declared.error.CoseError.{CoseError}
use Rattle.coset_codec.specs.Encoding.{AppendsImage, AppendsElements, Encodes}
use Rattle.coset_codec.specs.Shape.{both, bstr, images, last_image, or_nil}
use Rattle.coset_codec.proofs.Encoding.{array-put, nothing-put, place-put}
use Rattle.coset_core.specs.Headers.{header, protected}
use Rattle.coset_recipient.specs.Recipient.{Recipients, no_recipients, recipient_and, RecipientView, are_none, recipients_of}
use Rattle.coset_recipient.specs.Recipient.{recipients_element, recipient_array, recipient_image, recipients_image}
use Rattle.coset_recipient.specs.RecipientWriting.{Begins, last_elements}

pub images_of : (rs : List RecipientView) → images recipient_image rs ≡ recipients_image (recipients_of rs)
images_of [] = refl
images_of (r ∷ rs) = ap (both item (recipient_image r)) (images_of rs)

-- ---- three elements

pub without_last : (r : RecipientView) (old mid : List ℕ) → r.recipients ≡ no_recipients → Begins r old mid (Ok tt) → AppendsImage (recipient_image r) old mid
without_last r old mid e b =
    subst (λ rs. AppendsImage (recipient_array r.protected r.unprotected r.ciphertext (recipients_element rs (recipients_image rs))) old mid) (sym e)
    (b (Some no_items) mid (subst (λ rs. AppendsElements (Some no_items) (last_elements rs) mid mid) (sym e) (nothing-put mid)))

-- ---- four elements

alone : (o : Option Item) → both item o (Some no_items) ≡ option_map (λ v. item v no_items) o
alone (Some v) = refl
alone None = refl

one_place : (o : Option Item) (mid new : List ℕ) → AppendsImage o mid new → AppendsElements (option_map (λ v. item v no_items) o) 1 mid new
one_place o mid new p = subst (λ os. AppendsElements os 1 mid new) (alone o) (place-put p (nothing-put new))

with_last :
    (r : RecipientView) (old mid new : List ℕ) (rs : List RecipientView) → r.recipients ≡ recipients_of rs → rs ≢ [] → Begins r old mid (Ok tt)
    → AppendsImage (option_map array (images recipient_image rs)) mid new
    → AppendsImage (recipient_image r) old new
with_last r old mid new [] e some b p = absurd (some refl)
with_last r old mid new (x ∷ xs) e some b p =
    let all : Recipients = recipients_of (x ∷ xs) in
    let last : AppendsElements (last_image true (option_map array (recipients_image all))) 1 mid new =
    one_place (option_map array (recipients_image all)) mid new (subst (λ o. AppendsImage (option_map array o) mid new) (images_of (x ∷ xs)) p) in
    subst (λ rs. AppendsImage (recipient_array r.protected r.unprotected r.ciphertext (recipients_element rs (recipients_image rs))) old new) (sym e)
    (b (last_image true (option_map array (recipients_image all))) new
    (subst (λ rs. AppendsElements (last_image true (option_map array (recipients_image all))) (last_elements rs) mid new) (sym e) last))

no_last : {A B C : Type 0} (f : A → B → C) (o : Option A) → both f o None ≡ None
no_last f (Some a) = refl
no_last f None = refl

no_array : (o : Option Items) → option_map array o ≡ None → o ≡ None
no_array (Some vs) e = absurd (cc)
no_array None e = refl

-- An array has no image if one of its elements has none.
unplaced : (a b c : Option Item) (o : Option Items) → o ≡ None → option_map array (both item a (both item b (both item c o))) ≡ None
unplaced a b c o e =
    ap (λ p. option_map array (both item a (both item b (both item c p)))) e
    ∙ (ap (λ p. option_map array (both item a (both item b p))) (no_last item c)
    ∙ (ap (λ p. option_map array (both item a p)) (no_last item b) ∙ ap (option_map array) (no_last item a)))

hidden : (rs : Recipients) → (rs ≡ no_recipients → ⊥) → recipients_image rs ≡ None → recipients_element rs (recipients_image rs) ≡ None
hidden no_recipients some e = absurd (some refl)
hidden (recipient_and p u c inside more) some e = ap (λ o. last_image true (option_map array o)) e

some_recipients : (rs : List RecipientView) → rs ≢ [] → recipients_of rs ≡ no_recipients → ⊥
some_recipients [] some e = some refl
some_recipients (r ∷ rs) some e = absurd (cc)

pub last_written :
    (r : RecipientView) (old mid new : List ℕ) (rs : List RecipientView) (a : Result (Unit {0}) CoseError) → r.recipients ≡ recipients_of rs → rs ≢ []
    → Begins r old mid (Ok tt)
    → Encodes (option_map array (images recipient_image rs)) mid new a → Encodes (recipient_image r) old new a
last_written r old mid new rs (Ok t) e some b p = with_last r old mid new rs e some b p
last_written r old mid new rs (Err f) e some b p =
    λ m.
    let none = p m in
    let missing : recipients_image (recipients_of rs) ≡ None = sym (images_of rs) ∙ no_array (images recipient_image rs) none.1 in
    let inside : recipients_element r.recipients (recipients_image r.recipients) ≡ None = ap (λ all. recipients_element all (recipients_image all)) e
    ∙ hidden (recipients_of rs) (some_recipients rs some) missing in
    (none.0, unplaced _ _ _ (recipients_element r.recipients (recipients_image r.recipients)) inside)

-- ---- the first three elements

no_third : (a b c : Option Item) (o : Option Items) → c ≡ None → option_map array (both item a (both item b (both item c o))) ≡ None
no_third a b c o e =
    ap (λ q. option_map array (both item a (both item b (both item q o)))) e
    ∙ (ap (λ q. option_map array (both item a q)) (no_last item b) ∙ ap (option_map array) (no_last item a))

three : (n m : ℕ) → n ≡ 3 + m → n ≡ suc (suc (suc m))
three n m e = omega (arith, e)

pub first_written :
    (r : RecipientView) (n : ℕ) (old head one two new : List ℕ) (a : Result (Unit {0}) CoseError) → n ≡ 3 + last_elements r.recipients → n < 2 ^ 64
    → head ≡ old ++ least_head 4 n → AppendsImage (protected.image r.protected) head one
    → AppendsImage (header.image r.unprotected) one two → Encodes ((or_nil bstr).image r.ciphertext) two new a → Begins r old new a
first_written r n old head one two new (Ok t) count small first p u c =
    λ last all put.
    array-put (suc (suc (suc (last_elements r.recipients)))) (subst (λ k. k < 2 ^ 64) (three n (last_elements r.recipients) count) small)
    (first ∙ ap (λ k. old ++ least_head 4 k) (three n (last_elements r.recipients) count))
    (place-put p (place-put u (place-put c put)))
first_written r n old head one two new (Err e) count small first p u c =
    λ m. let none = c m in (none.0, no_third _ _ ((or_nil bstr).image r.ciphertext) _ none.1)

-- ---- the number of elements

pub none_of : (rs : Recipients) → are_none rs ≡ true → rs ≡ no_recipients
none_of no_recipients e = refl
none_of (recipient_and p u c inside more) e = absurd (true≢false (sym e))

pub some_of : (rs : List RecipientView) → are_none (recipients_of rs) ≡ false → rs ≢ []
some_of [] e = absurd (true≢false e)
some_of (r ∷ rs) e = λ h. cc

pub three_elements : (rs : Recipients) → are_none rs ≡ true → 3 ≡ 3 + last_elements rs
three_elements no_recipients e = refl
three_elements (recipient_and p u c inside more) e = absurd (true≢false (sym e))

pub four_elements : (rs : Recipients) → are_none rs ≡ false → 4 ≡ 3 + last_elements rs
four_elements no_recipients e = absurd (true≢false e)
four_elements (recipient_and p u c inside more) e = refl
