-- Tokens: messages with one signature under at most two tags (RFC 8392, section 6).
use Rattle.std.specs.Prelude.{◌≡◌, ◌==◌, ◌&&◌, ℕ, Bool, false, if◌then◌else◌}
use Rattle.coset.specs.Item.{Item, tag}
use Rattle.coset.specs.CoseError.{CoseError}
use Rattle.coset.specs.Shape.{Shape}
use Rattle.coset.specs.Sign1.{Sign1View, sign1, sign1_laws, sign1_view}
use Rattle.cwt_gate.specs.declared.token.Token as declared

-- Returns true if the item is under the tag `number`.
abbrev pub is_under : ℕ → Item → Bool
is_under number (tag t v) = t == number
is_under number v = false

-- The content of a tag, or any other item itself.
abbrev pub untagged : Item → Item
untagged (tag t v) = v
untagged v = v

-- Returns true if the item is under the tag of web tokens, and then under that of messages with one signature.
abbrev pub is_cwt_tagged : Item → Bool
is_cwt_tagged v = is_under 61 v && is_under 18 (untagged v)

-- The item of the message in a token. It is under both tags, or under the tag of messages with one signature alone. Any
-- other item is itself the message, even under another tag.
abbrev pub message_in : Item → Item
message_in v = if is_under 18 v then untagged v else (if is_cwt_tagged v then untagged (untagged v) else v)

-- COSE_Sign1 / #6.18(COSE_Sign1) / #6.61(#6.18(COSE_Sign1)). Writing adds no tag.
abbrev pub token : Shape Sign1View
token = record {
  describes = λ v m. sign1.describes (message_in v) m;
  image = sign1.image;
  faults = λ v e. sign1.faults (message_in v) e;
}

abbrev pub token_view : declared.Token → Sign1View
token_view t = sign1_view t.0

pub token_unique : (v : Item) (m n : Sign1View) → token.describes v m → token.describes v n → m ≡ n
token_unique v = sign1_laws.unique (message_in v)

pub token_sound : (v : Item) (m : Sign1View) (e : CoseError) → token.describes v m → token.faults v e → ⊥
token_sound v = sign1_laws.sound (message_in v)
