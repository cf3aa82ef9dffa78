-- The structures of messages with recipients, and of their recipients (RFC 8152, sections 5.3 and 6.3). A message with
-- a MAC has a `MAC_structure`. An encrypted message or a recipient has an `Enc_structure`.
use Rattle.std.specs.Prelude.{⊤}
use Rattle.coset_codec.specs.Lists.{EachHas, EachWith}
use Rattle.coset_msg.specs.EncStructure.{Encrypts, EncryptsSame}
use Rattle.coset_msg.specs.MacStructure.{Authenticates, AuthenticatesSame}
use Rattle.coset_recipient.specs.Encrypt.{EncryptView}
use Rattle.coset_recipient.specs.Mac.{MacView}
use Rattle.coset_recipient.specs.Recipient.{Recipients, no_recipients, recipient_and, RecipientView}

-- Both lists have the same number of recipients. Corresponding recipients have the same structure, and so have those
-- nested in them, at any depth.
abbrev pub EachEncryptsSame : Recipients → Recipients → Type 0
EachEncryptsSame no_recipients no_recipients = ⊤
EachEncryptsSame (recipient_and p u c inside more) (recipient_and q w d within others) =
    EncryptsSame p q × EachEncryptsSame inside within × EachEncryptsSame more others
EachEncryptsSame rs ss = ⊥

-- Both recipients have the same structure, and so have those nested in them, at any depth.
abbrev pub RecipientEncryptsSame : RecipientView → RecipientView → Type 0
RecipientEncryptsSame r s = EncryptsSame r.protected s.protected × EachEncryptsSame r.recipients s.recipients

-- Each recipient has a structure, and so has each one nested in it, at any depth.
abbrev pub EachEncrypts : Recipients → Type 0
EachEncrypts no_recipients = ⊤
EachEncrypts (recipient_and p u c inside more) = Encrypts p × EachEncrypts inside × EachEncrypts more

-- The recipient has a structure, and so has each one nested in it, at any depth.
abbrev pub RecipientEncrypts : RecipientView → Type 0
RecipientEncrypts r = Encrypts r.protected × EachEncrypts r.recipients

-- ---- messages

-- Both messages have the same structure to be authenticated. Corresponding recipients have the same structures too.
abbrev pub MacsSame : MacView → MacView → Type 0
MacsSame m n = AuthenticatesSame m.protected n.protected × EachWith RecipientEncryptsSame m.recipients n.recipients

-- The message has a structure to be authenticated, and each recipient has its own.
abbrev pub Macs : MacView → Type 0
Macs m = Authenticates m.protected × EachHas RecipientEncrypts m.recipients

-- Both messages have the same structure. Corresponding recipients have the same structures too.
abbrev pub EncryptsAllSame : EncryptView → EncryptView → Type 0
EncryptsAllSame m n = EncryptsSame m.protected n.protected × EachWith RecipientEncryptsSame m.recipients n.recipients

-- The message has a structure, and each recipient has its own.
abbrev pub EncryptsAll : EncryptView → Type 0
EncryptsAll m = Encrypts m.protected × EachHas RecipientEncrypts m.recipients
