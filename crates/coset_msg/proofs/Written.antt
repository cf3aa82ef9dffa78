-- Messages after reading, and after writing and reading.
use Rattle.std.proofs.Common.{option_map, sym, ap}
use Rattle.coset_codec.specs.AsWritten.{AsWritten, WhenRead}
use Rattle.coset_codec.specs.ShapeLaws.{some-none}
use Rattle.coset_core.specs.Headers.{protected}
use Rattle.coset_core.proofs.Messages.{KeepsBytes, KeptAsWritten, has_bytes, header_as_written, header_when_read}
use Rattle.coset_msg.specs.EncStructure.{Encrypts, EncryptsSame, enc_structure}
use Rattle.coset_msg.specs.MacStructure.{Authenticates, AuthenticatesSame, mac_structure}
use Rattle.coset_msg.specs.Encrypt0.{encrypt0, encrypt0_fields, encrypt0_elements}
use Rattle.coset_msg.specs.Mac0.{mac0, mac0_fields, mac0_elements}

-- ---- the structures of a protected header

pub encrypts_as_written : KeptAsWritten → AsWritten protected EncryptsSame
encrypts_as_written kept v p q e d = λ context a. ap (option_map (λ b. enc_structure context b a)) (sym (kept v p q e d))

pub encrypts_when_read : WhenRead protected Encrypts
encrypts_when_read v p d = λ context a none. some-none (ap (option_map (λ b. enc_structure context b a)) (has_bytes v p d).1) none

pub authenticates_as_written : KeptAsWritten → AsWritten protected AuthenticatesSame
authenticates_as_written kept v p q e d = λ context a l. ap (option_map (λ b. mac_structure context b a l)) (sym (kept v p q e d))

pub authenticates_when_read : WhenRead protected Authenticates
authenticates_when_read v p d = λ context a l none. some-none (ap (option_map (λ b. mac_structure context b a l)) (has_bytes v p d).1) none

-- ---- the structures of a message

pub mac0_as_written : KeptAsWritten → AsWritten mac0 (λ m n. AuthenticatesSame m.protected n.protected)
mac0_as_written kept v m n e d = header_as_written mac0_elements AuthenticatesSame (authenticates_as_written kept) v (mac0_fields m) (mac0_fields n) e d

pub mac0_when_read : WhenRead mac0 (λ m. Authenticates m.protected)
mac0_when_read v m d = header_when_read mac0_elements Authenticates authenticates_when_read v (mac0_fields m) d

pub encrypt0_as_written : KeptAsWritten → AsWritten encrypt0 (λ m n. EncryptsSame m.protected n.protected)
encrypt0_as_written kept v m n e d = header_as_written encrypt0_elements EncryptsSame (encrypts_as_written kept) v (encrypt0_fields m) (encrypt0_fields n) e d

pub encrypt0_when_read : WhenRead encrypt0 (λ m. Encrypts m.protected)
encrypt0_when_read v m d = header_when_read encrypt0_elements Encrypts encrypts_when_read v (encrypt0_fields m) d

-- ---- protected bytes

pub mac0_kept : KeptAsWritten → AsWritten mac0 (λ m n. KeepsBytes m.protected n.protected)
mac0_kept kept v m n e d = header_as_written mac0_elements KeepsBytes kept v (mac0_fields m) (mac0_fields n) e d

pub encrypt0_kept : KeptAsWritten → AsWritten encrypt0 (λ m n. KeepsBytes m.protected n.protected)
encrypt0_kept kept v m n e d = header_as_written encrypt0_elements KeepsBytes kept v (encrypt0_fields m) (encrypt0_fields n) e d
