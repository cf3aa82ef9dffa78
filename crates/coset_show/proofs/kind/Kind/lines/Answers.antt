use Rattle.coset_show.proofs.kind.Kind.lines.Goals as goal

pub returns-in-Value : goal.returns-in-Value
returns-in-Value c = rw c.in-Value.is c.type_line.ensures

pub returns-in-Sign1 : goal.returns-in-Sign1
returns-in-Sign1 c = rw c.in-Sign1.is c.sign1_lines.ensures

pub returns-in-Sign : goal.returns-in-Sign
returns-in-Sign c = rw c.in-Sign.is c.message_lines.ensures

pub returns-in-Mac0 : goal.returns-in-Mac0
returns-in-Mac0 c = rw c.in-Mac0.is c.message_lines-in-Mac0.ensures

pub returns-in-Encrypt0 : goal.returns-in-Encrypt0
returns-in-Encrypt0 c = rw c.in-Encrypt0.is c.message_lines-in-Encrypt0.ensures

pub returns-in-Mac : goal.returns-in-Mac
returns-in-Mac c = rw c.in-Mac.is c.message_lines-in-Mac.ensures

pub returns-in-Encrypt : goal.returns-in-Encrypt
returns-in-Encrypt c = rw c.in-Encrypt.is c.message_lines-in-Encrypt.ensures

pub returns-in-Countersignature : goal.returns-in-Countersignature
returns-in-Countersignature c = rw c.in-Countersignature.is c.message_lines-in-Countersignature.ensures

pub returns-in-Claims : goal.returns-in-Claims
returns-in-Claims c = rw c.in-Claims.is c.type_line-in-Claims.ensures

pub returns-in-Kdf : goal.returns-in-Kdf
returns-in-Kdf c = rw c.in-Kdf.is c.type_line-in-Kdf.ensures

pub returns-in-Key : goal.returns-in-Key
returns-in-Key c = rw c.in-Key.is c.type_line-in-Key.ensures

pub returns-in-Keyset : goal.returns-in-Keyset
returns-in-Keyset c = rw c.in-Keyset.is c.type_line-in-Keyset.ensures
