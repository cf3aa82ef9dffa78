-- Recipients, and messages with recipients, after reading, and after writing and reading.
use Rattle.std.proofs.Common.{◌≡◌, List, [], ◌∷◌, false, sym, ◌∙◌, true≢false}
use Rattle.std.specs.Prelude.{⊤}
use Rattle.coset_codec.specs.AsWritten.{AsWritten, WhenRead, ElementsAsWritten, ElementsWhenRead}
use Rattle.coset_value.specs.Item.{Item}
use Rattle.coset_codec.specs.Lists.{EachHas, EachWith}
use Rattle.coset_codec.specs.Shape.{Shape, ◌then◌, end, bstr, or_nil, list_of, optional_last}
use Rattle.coset_codec.proofs.AsWritten.{list_as_written, list_when_read, optional_last_as_written, optional_last_when_read}
use Rattle.coset_codec.proofs.AsWritten.{recursive_as_written, recursive_when_read}
use Rattle.coset_codec.proofs.AsWritten.{then_as_written, then_when_read}
use Rattle.coset_core.specs.Kept.{KeepsFirst}
use Rattle.coset_core.proofs.Messages.{KeepsBytes, KeptAsWritten, header_as_written, message_as_written, message_when_read}
use Rattle.coset_msg.proofs.Written.{authenticates_as_written, authenticates_when_read, encrypts_as_written, encrypts_when_read}
use Rattle.coset_msg.specs.Encrypt0.{encrypt0, encrypt0_elements, encrypt0_fields}
use Rattle.coset_msg.specs.EncStructure.{Encrypts, EncryptsSame}
use Rattle.coset_msg.specs.Mac0.{mac0, mac0_elements, mac0_fields}
use Rattle.coset_msg.specs.MacStructure.{Authenticates, AuthenticatesSame}
use Rattle.coset_recipient.specs.Encrypt.{EncryptView, encrypt, encrypt_fields, encrypt_elements}
use Rattle.coset_recipient.specs.Mac.{MacView, mac, mac_fields, mac_elements}
use Rattle.coset_recipient.specs.Recipient.{Recipients, no_recipients, recipient_and, RecipientView, are_some, each_of, recipient, recipient_fields}
use Rattle.coset_recipient.specs.Recipient.{recipient_image, recipient_elements, recipient_step}
use Rattle.coset_recipient.specs.RecipientLaws.{recipient-of_step, recipient-opened, step}
use Rattle.coset_recipient.specs.Structures.{EachEncrypts, EachEncryptsSame, EncryptsAll, EncryptsAllSame, Macs, MacsSame, RecipientEncrypts}
use Rattle.coset_recipient.specs.Structures.{RecipientEncryptsSame}
use Rattle.coset_sign.specs.Countersigned.{EachCountersigns, EachCountersignsSame}
use Rattle.coset_sign.proofs.Countersigned.{SignaturesKeptAsReceived, SignaturesKeptAsWritten, countersigned_as_written, countersigned_when_read}
use Rattle.coset_core.proofs.Received.{message_received}

-- ---- recipients

each_same : (rs ss : Recipients) → EachWith RecipientEncryptsSame (each_of rs) (each_of ss) → EachEncryptsSame rs ss
each_same no_recipients no_recipients h = tt
each_same no_recipients (recipient_and q w d within others) h = absurd h
each_same (recipient_and p u c inside more) no_recipients h = absurd h
each_same (recipient_and p u c inside more) (recipient_and q w d within others) h = (h.0.0, h.0.1, each_same more others h.1)

none_same : (rs : List RecipientView) → are_some rs ≡ false → EachWith RecipientEncryptsSame rs []
none_same [] h = tt
none_same (r ∷ rs) h = absurd (true≢false h)

step_as_written : KeptAsWritten → (s : Shape RecipientView) → AsWritten s RecipientEncryptsSame → AsWritten (recipient_step s) RecipientEncryptsSame
step_as_written kept s h v r t e d =
    let inside = optional_last_as_written [] are_some (list_of s) (EachWith RecipientEncryptsSame) (list_as_written s RecipientEncryptsSame h) none_same in
    let elements = then_as_written (or_nil bstr) (optional_last [] are_some (list_of s)) (λ p q. ⊤) (EachWith RecipientEncryptsSame) (λ w p q f g. tt) inside in
    let all = message_as_written (recipient_elements (list_of s)) EncryptsSame _ (encrypts_as_written kept) elements v (recipient_fields r)
    (recipient_fields t) e d in
    (all.0, each_same r.recipients t.recipients all.1.1.1)

pub recipient_as_written : KeptAsWritten → AsWritten recipient RecipientEncryptsSame
unfolding recipient
recipient_as_written kept = recursive_as_written recipient_step recipient_image step RecipientEncryptsSame (step_as_written kept)

each_has : (rs : Recipients) → EachHas RecipientEncrypts (each_of rs) → EachEncrypts rs
each_has no_recipients h = tt
each_has (recipient_and p u c inside more) h = (h.0.0, h.0.1, each_has more h.1)

step_when_read : (s : Shape RecipientView) → WhenRead s RecipientEncrypts → WhenRead (recipient_step s) RecipientEncrypts
step_when_read s h v r d =
    let inside = optional_last_when_read [] are_some (list_of s) (EachHas RecipientEncrypts) (list_when_read s RecipientEncrypts h) tt in
    let elements = then_when_read (or_nil bstr) (optional_last [] are_some (list_of s)) (λ p. ⊤) (EachHas RecipientEncrypts) (λ w p f. tt) inside in
    let all = message_when_read (recipient_elements (list_of s)) Encrypts _ encrypts_when_read elements v (recipient_fields r) d in
    (all.0, each_has r.recipients all.1.1.1)

pub recipient_when_read : WhenRead recipient RecipientEncrypts
unfolding recipient
recipient_when_read = recursive_when_read recipient_step recipient_image RecipientEncrypts step_when_read

-- ---- messages

lists_as_written : KeptAsWritten → ElementsAsWritten (list_of recipient then end) (λ x y. EachWith RecipientEncryptsSame x.0 y.0 × ⊤)
lists_as_written kept =
    then_as_written (list_of recipient) end (EachWith RecipientEncryptsSame) (λ x y. ⊤)
    (list_as_written recipient RecipientEncryptsSame (recipient_as_written kept)) (λ vs x y f g. tt)

lists_when_read : ElementsWhenRead (list_of recipient then end) (λ x. EachHas RecipientEncrypts x.0 × ⊤)
lists_when_read =
    then_when_read (list_of recipient) end (EachHas RecipientEncrypts) (λ x. ⊤) (list_when_read recipient RecipientEncrypts recipient_when_read) (λ vs x f. tt)

pub mac_as_written : KeptAsWritten → AsWritten mac MacsSame
mac_as_written kept v m n e d =
    let behind_tag = then_as_written bstr (list_of recipient then end) (λ x y. ⊤) _ (λ w x y f g. tt) (lists_as_written kept) in
    let elements = then_as_written (or_nil bstr) (bstr then list_of recipient then end) (λ x y. ⊤) _ (λ w x y f g. tt) behind_tag in
    let all = message_as_written mac_elements AuthenticatesSame _ (authenticates_as_written kept) elements v (mac_fields m) (mac_fields n) e d in
    (all.0, all.1.1.1.1.0)

pub mac_when_read : WhenRead mac Macs
mac_when_read v m d =
    let behind_tag = then_when_read bstr (list_of recipient then end) (λ x. ⊤) _ (λ w x f. tt) lists_when_read in
    let elements = then_when_read (or_nil bstr) (bstr then list_of recipient then end) (λ x. ⊤) _ (λ w x f. tt) behind_tag in
    let all = message_when_read mac_elements Authenticates _ authenticates_when_read elements v (mac_fields m) d in
    (all.0, all.1.1.1.1.0)

pub encrypt_as_written : KeptAsWritten → AsWritten encrypt EncryptsAllSame
encrypt_as_written kept v m n e d =
    let elements = then_as_written (or_nil bstr) (list_of recipient then end) (λ x y. ⊤) _ (λ w x y f g. tt) (lists_as_written kept) in
    let all = message_as_written encrypt_elements EncryptsSame _ (encrypts_as_written kept) elements v (encrypt_fields m) (encrypt_fields n) e d in
    (all.0, all.1.1.1.0)

pub encrypt_when_read : WhenRead encrypt EncryptsAll
encrypt_when_read v m d =
    let elements = then_when_read (or_nil bstr) (list_of recipient then end) (λ x. ⊤) _ (λ w x f. tt) lists_when_read in
    let all = message_when_read encrypt_elements Encrypts _ encrypts_when_read elements v (encrypt_fields m) d in
    (all.0, all.1.1.1.0)

-- ---- protected bytes

pub recipient_kept : KeptAsWritten → AsWritten recipient (λ r s. KeepsBytes r.protected s.protected)
recipient_kept kept v r s e d =
    header_as_written (recipient_elements (list_of recipient)) KeepsBytes kept v (recipient_fields r) (recipient_fields s) (sym (recipient-of_step r) ∙ e)
    (recipient-opened.describes v s d).1

pub mac_kept : KeptAsWritten → AsWritten mac (λ m n. KeepsBytes m.protected n.protected)
mac_kept kept v m n e d = header_as_written mac_elements KeepsBytes kept v (mac_fields m) (mac_fields n) e d

pub encrypt_kept : KeptAsWritten → AsWritten encrypt (λ m n. KeepsBytes m.protected n.protected)
encrypt_kept kept v m n e d = header_as_written encrypt_elements KeepsBytes kept v (encrypt_fields m) (encrypt_fields n) e d

-- ---- protected headers as received

pub recipient_received : (v : Item) (r : RecipientView) → recipient.describes v r → KeepsFirst v r.protected
recipient_received v r d = message_received (recipient_elements (list_of recipient)) v (recipient_fields r) (recipient-opened.describes v r d).1

pub mac_received : (v : Item) (m : MacView) → mac.describes v m → KeepsFirst v m.protected
mac_received v m = message_received mac_elements v (mac_fields m)

pub encrypt_received : (v : Item) (m : EncryptView) → encrypt.describes v m → KeepsFirst v m.protected
encrypt_received v m = message_received encrypt_elements v (encrypt_fields m)

-- ---- countersignatures

pub recipient_countersigned :
    KeptAsWritten → SignaturesKeptAsWritten → AsWritten recipient (λ r s. EachCountersignsSame r.protected r.unprotected s.protected s.unprotected)
recipient_countersigned kept signatures v r s e d =
    countersigned_as_written (recipient_elements (list_of recipient)) kept signatures v (recipient_fields r) (recipient_fields s)
    (sym (recipient-of_step r) ∙ e) (recipient-opened.describes v s d).1

pub mac_countersigned :
    KeptAsWritten → SignaturesKeptAsWritten → AsWritten mac (λ m n. EachCountersignsSame m.protected m.unprotected n.protected n.unprotected)
mac_countersigned kept signatures v m n = countersigned_as_written mac_elements kept signatures v (mac_fields m) (mac_fields n)

pub encrypt_countersigned :
    KeptAsWritten → SignaturesKeptAsWritten → AsWritten encrypt (λ m n. EachCountersignsSame m.protected m.unprotected n.protected n.unprotected)
encrypt_countersigned kept signatures v m n = countersigned_as_written encrypt_elements kept signatures v (encrypt_fields m) (encrypt_fields n)

pub mac0_countersigned :
    KeptAsWritten → SignaturesKeptAsWritten → AsWritten mac0 (λ m n. EachCountersignsSame m.protected m.unprotected n.protected n.unprotected)
mac0_countersigned kept signatures v m n = countersigned_as_written mac0_elements kept signatures v (mac0_fields m) (mac0_fields n)

pub encrypt0_countersigned :
    KeptAsWritten → SignaturesKeptAsWritten → AsWritten encrypt0 (λ m n. EachCountersignsSame m.protected m.unprotected n.protected n.unprotected)
encrypt0_countersigned kept signatures v m n = countersigned_as_written encrypt0_elements kept signatures v (encrypt0_fields m) (encrypt0_fields n)

pub recipient_countersigns : SignaturesKeptAsReceived → WhenRead recipient (λ r. EachCountersigns r.protected r.unprotected)
recipient_countersigns signatures v r d =
    countersigned_when_read (recipient_elements (list_of recipient)) signatures v (recipient_fields r) (recipient-opened.describes v r d).1

pub mac_countersigns : SignaturesKeptAsReceived → WhenRead mac (λ m. EachCountersigns m.protected m.unprotected)
mac_countersigns signatures v m = countersigned_when_read mac_elements signatures v (mac_fields m)

pub encrypt_countersigns : SignaturesKeptAsReceived → WhenRead encrypt (λ m. EachCountersigns m.protected m.unprotected)
encrypt_countersigns signatures v m = countersigned_when_read encrypt_elements signatures v (encrypt_fields m)

pub mac0_countersigns : SignaturesKeptAsReceived → WhenRead mac0 (λ m. EachCountersigns m.protected m.unprotected)
mac0_countersigns signatures v m = countersigned_when_read mac0_elements signatures v (mac0_fields m)

pub encrypt0_countersigns : SignaturesKeptAsReceived → WhenRead encrypt0 (λ m. EachCountersigns m.protected m.unprotected)
encrypt0_countersigns signatures v m = countersigned_when_read encrypt0_elements signatures v (encrypt0_fields m)
