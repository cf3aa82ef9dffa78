-- The laws of the shape of recipients.
use Rattle.std.proofs.Common.{◌≡◌, ℕ, List, [], ◌∷◌, false, Option, option_map, refl, sym, ap, ◌∙◌, true≢false}
use Rattle.coset_value.specs.Item.{array, Items, item}
use Rattle.coset_codec.specs.RecursiveLaws.{IsCoveredBy, Below, Step, mapped_passes, array_passes, then_passes, optional_last_passes, list_below}
use Rattle.coset_codec.specs.RecursiveLaws.{recursive_laws, recursive_step, step_recursive}
use Rattle.coset_codec.specs.Shape.{Shape, both, bstr, or_nil, optional_last, last_image, list_of, images}
use Rattle.coset_codec.specs.ShapeLaws.{Lawful, LawfulElements, mapped_laws, then_laws, bstr_laws, bytes_no_nil, or_nil_laws, optional_last_laws, list_of_laws}
use Rattle.coset_core.specs.Headers.{header, protected}
use Rattle.coset_core.specs.Messages.{with_headers_laws}
use Rattle.coset_recipient.specs.Recipient.{Recipients, no_recipients, recipient_and, RecipientView, recipients_of, each_of, are_some, recipient_of}
use Rattle.coset_recipient.specs.Recipient.{recipient_fields, recipient_elements, recipient_with, recipient_step}
use Rattle.coset_recipient.specs.Recipient.{recipients_element, recipients_image, recipient_image}
use Rattle.coset_recipient.specs.Recipient.{recipient_array, recipient}

-- ---- recipients and lists

pub recipients-again : (rs : Recipients) → recipients_of (each_of rs) ≡ rs
recipients-again no_recipients = refl
recipients-again (recipient_and p u c inside more) = ap (recipient_and p u c inside) (recipients-again more)

pub each-again : (rs : List RecipientView) → each_of (recipients_of rs) ≡ rs
each-again [] = refl
each-again (r ∷ rs) = ap (λ all. r ∷ all) (each-again rs)

recipient-back : (r : RecipientView) → recipient_of (recipient_fields r) ≡ r
recipient-back r = ap (λ rs. record r { recipients = rs }) (recipients-again r.recipients)

-- ---- the step

none_where_hidden : {A : Type 0} (xs : List A) → are_some xs ≡ false → xs ≡ []
none_where_hidden [] h = refl
none_where_hidden (x ∷ xs) h = absurd (true≢false h)

pub recipient_elements_laws : (s : Shape (List RecipientView)) → Lawful (List RecipientView) s
    → LawfulElements (Option (List ℕ) × List RecipientView) (recipient_elements s)
recipient_elements_laws s l = then_laws (or_nil bstr) (optional_last [] are_some s) (or_nil_laws bstr bytes_no_nil bstr_laws)
    (optional_last_laws [] are_some refl none_where_hidden s l)

step_laws : (s : Shape RecipientView) → Lawful RecipientView s → Lawful RecipientView (recipient_step s)
step_laws s l = mapped_laws recipient_of recipient_fields recipient-back _
    (with_headers_laws (recipient_elements (list_of s)) (recipient_elements_laws (list_of s) (list_of_laws s l)))

step_passes : {I : Type 0} (some : I) (s : Shape (List RecipientView)) (t : I → Shape (List RecipientView)) → IsCoveredBy I (List RecipientView) s t
    → IsCoveredBy I RecipientView (recipient_with s) (λ i. recipient_with (t i))
step_passes some s t p =
    mapped_passes recipient_of recipient_fields _ _
    (array_passes some _ _ (then_passes some protected _ _
    (then_passes some header _ _ (then_passes some (or_nil bstr) _ _ (optional_last_passes some [] are_some s t p)))))

-- ---- images of recipients

images_are : (s : Shape RecipientView) → ((r : RecipientView) → s.image r ≡ recipient_image r) → (rs : Recipients)
    → images s.image (each_of rs) ≡ recipients_image rs
images_are s same no_recipients = refl
images_are s same (recipient_and p u c inside more) = λ i. both item (same (record { protected = p; unprotected = u; ciphertext = c; recipients = inside }) i)
    (images_are s same more i)

place_is : (rs : Recipients) (o : Option Items) → last_image (are_some (each_of rs)) (option_map array o) ≡ recipients_element rs o
place_is no_recipients o = refl
place_is (recipient_and p u c inside more) o = refl

step_written : (s : Shape RecipientView) → ((r : RecipientView) → s.image r ≡ recipient_image r) → (r : RecipientView)
    → (recipient_step s).image r ≡ recipient_image r
step_written s same r =
    ap (recipient_array r.protected r.unprotected r.ciphertext)
    (ap (λ o. last_image (are_some (each_of r.recipients)) (option_map array o)) (images_are s same r.recipients)
    ∙ place_is r.recipients (recipients_image r.recipients))

-- ---- the shape

pub step : Step RecipientView recipient_step recipient_image
step =
    record {
      lawful = step_laws;
      rises = λ s t p. step_passes tt (list_of s) (λ i. list_of t) (list_below s t p);
      gathers = λ s t p. step_passes 0 (list_of s) (λ n. list_of (t n)) p;
      written = step_written;
    }

pub recipient_laws : Lawful RecipientView recipient
unfolding recipient
recipient_laws = recursive_laws recipient_step recipient_image step

-- A recipient with nested recipients of this shape has this shape.
pub recipient-made : Below RecipientView (recipient_step recipient) recipient
unfolding recipient
recipient-made = recursive_step recipient_step recipient_image step

pub recipient-opened : Below RecipientView recipient (recipient_step recipient)
unfolding recipient
recipient-opened = step_recursive recipient_step recipient_image step

pub recipient-written : (r : RecipientView) → recipient.image r ≡ recipient_image r
unfolding recipient
recipient-written r = refl

pub recipient-of_step : (r : RecipientView) → recipient.image r ≡ (recipient_step recipient).image r
recipient-of_step r = recipient-written r ∙ sym (step_written recipient recipient-written r)
