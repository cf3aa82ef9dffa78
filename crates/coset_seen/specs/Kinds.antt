-- The kinds of messages (RFC 8152, sections 2, 4.2, 5 and 6).
use Rattle.std.specs.Prelude.{ℕ, Bool, false, true}
use Rattle.coset_seen.specs.declared.kind.Kind as kinds
use Rattle.coset_seen.specs.declared.kind.Kind.TheVariants.{Sign1, Mac0, Encrypt0, Mac, Encrypt}

-- The number of the message's tag.
abbrev pub tag_of : kinds.Kind → ℕ
tag_of Sign1 = 18
tag_of Mac0 = 17
tag_of Encrypt0 = 16
tag_of Mac = 97
tag_of Encrypt = 96

-- The number of the message's elements.
abbrev pub elements_of : kinds.Kind → ℕ
elements_of Sign1 = 4
elements_of Mac0 = 4
elements_of Encrypt0 = 3
elements_of Mac = 5
elements_of Encrypt = 4

-- Messages of the kind have recipients.
abbrev pub has_recipients : kinds.Kind → Bool
has_recipients Sign1 = false
has_recipients Mac0 = false
has_recipients Encrypt0 = false
has_recipients Mac = true
has_recipients Encrypt = true
