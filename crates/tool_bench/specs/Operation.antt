-- The names of operations.
use Rattle.std.specs.Prelude.{ℕ, List, ◌++◌, codes}
use Rattle.tool_bench.specs.declared.kind.Kind.{Kind}
use Rattle.tool_bench.specs.declared.kind.Kind.TheVariants.{Value, Header, Countersignature, Sign1, Sign, Mac0, Mac, Encrypt0, Encrypt, Recipient, Key, KeySet}
use Rattle.tool_bench.specs.declared.kind.Kind.TheVariants.{Claims, Kdf}
use Rattle.tool_bench.specs.declared.structure.Structure.{Structure}
use Rattle.tool_bench.specs.declared.structure.Structure.TheVariants.{CountersignatureTbs, Sign1Tbs, SignTbs, Mac0Tbm, MacTbm, Encrypt0Aad, EncryptAad}
use Rattle.tool_bench.specs.declared.operation.Operation.{Operation}
use Rattle.tool_bench.specs.declared.operation.Operation.TheVariants.{Check, Read, Write, Make, Sign1Refused, Sign1Copy, Sign1Compare, RecipientRefused}
use Rattle.tool_bench.specs.declared.operation.Operation.TheVariants.{RecipientCopy, RecipientCompare, KeyCanonicalize, VerifyToken, Seen, Judge, TokenByHand}

-- The name of the operation that reads a type.
abbrev pub kind_name : Kind → List ℕ
kind_name Value = codes "value"
kind_name Header = codes "header"
kind_name Countersignature = codes "countersignature"
kind_name Sign1 = codes "sign1"
kind_name Sign = codes "sign"
kind_name Mac0 = codes "mac0"
kind_name Mac = codes "mac"
kind_name Encrypt0 = codes "encrypt0"
kind_name Encrypt = codes "encrypt"
kind_name Recipient = codes "recipient"
kind_name Key = codes "key"
kind_name KeySet = codes "keyset"
kind_name Claims = codes "claims"
kind_name Kdf = codes "kdf"

-- The name of the operation that makes a structure.
abbrev pub structure_name : Structure → List ℕ
structure_name CountersignatureTbs = codes "countersignature_tbs"
structure_name Sign1Tbs = codes "sign1_tbs"
structure_name SignTbs = codes "sign_tbs"
structure_name Mac0Tbm = codes "mac0_tbm"
structure_name MacTbm = codes "mac_tbm"
structure_name Encrypt0Aad = codes "encrypt0_aad"
structure_name EncryptAad = codes "encrypt_aad"

-- The name of an operation, as the command line gives it.
abbrev pub operation_name : Operation → List ℕ
operation_name Check = codes "check"
operation_name (Read k) = kind_name k
operation_name (Write k) = kind_name k ++ codes "_write"
operation_name (Make s) = structure_name s
operation_name Sign1Refused = codes "sign1_refused"
operation_name Sign1Copy = codes "sign1_copy"
operation_name Sign1Compare = codes "sign1_compare"
operation_name RecipientRefused = codes "recipient_refused"
operation_name RecipientCopy = codes "recipient_copy"
operation_name RecipientCompare = codes "recipient_compare"
operation_name KeyCanonicalize = codes "key_canonicalize"
operation_name VerifyToken = codes "verify_token"
operation_name Seen = codes "seen"
operation_name Judge = codes "judge"
operation_name TokenByHand = codes "token_by_hand"
