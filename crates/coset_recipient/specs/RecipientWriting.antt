-- Writing a recipient: the result of writing its first three elements.
use Rattle.std.specs.Prelude.{ℕ, List, Option, Result, Ok, Err}
use Rattle.coset_value.specs.Item.{Items}
use Rattle.coset_codec.specs.declared.error.CoseError.{CoseError}
use Rattle.coset_codec.specs.Encoding.{AppendsImage, AppendsElements, HasNoImage}
use Rattle.coset_recipient.specs.Recipient.{Recipients, no_recipients, recipient_and, RecipientView, recipient_array, recipient_image}

-- The number of elements after the first three.
abbrev pub last_elements : Recipients → ℕ
last_elements no_recipients = 0
last_elements (recipient_and p u c inside more) = 1

-- new is old, then the array's head and its first three elements. The last element, if there is one, completes the
-- array. An error other than `OutOfMemory` says that the recipient has no image.
abbrev pub Begins : RecipientView → List ℕ → List ℕ → Result (Unit {0}) CoseError → Type 0
Begins r old new (Ok x) =
    (last : Option Items) (all : List ℕ) → AppendsElements last (last_elements r.recipients) new all
    → AppendsImage (recipient_array r.protected r.unprotected r.ciphertext last) old all
Begins r old new (Err e) = HasNoImage (recipient_image r) e
