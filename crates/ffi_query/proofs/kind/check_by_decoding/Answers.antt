use Rattle.ffi_query.proofs.kind.check_by_decoding.Goals as goal

pub returns-in-Sign1 : goal.returns-in-Sign1
returns-in-Sign1 c = rw c.in-Sign1.is c.check_message.ensures

pub returns-in-Sign : goal.returns-in-Sign
returns-in-Sign c = rw c.in-Sign.is c.check_message-in-Sign.ensures

pub returns-in-Mac0 : goal.returns-in-Mac0
returns-in-Mac0 c = rw c.in-Mac0.is c.check_message-in-Mac0.ensures

pub returns-in-Mac : goal.returns-in-Mac
returns-in-Mac c = rw c.in-Mac.is c.check_message-in-Mac.ensures

pub returns-in-Encrypt0 : goal.returns-in-Encrypt0
returns-in-Encrypt0 c = rw c.in-Encrypt0.is c.check_message-in-Encrypt0.ensures

pub returns-in-Encrypt : goal.returns-in-Encrypt
returns-in-Encrypt c = rw c.in-Encrypt.is c.check_message-in-Encrypt.ensures

pub returns-in-Signature : goal.returns-in-Signature
returns-in-Signature c = rw c.in-Signature.is c.check_plain.ensures

pub returns-in-Recipient : goal.returns-in-Recipient
returns-in-Recipient c = rw c.in-Recipient.is c.check_plain-in-Recipient.ensures

pub returns-in-Header : goal.returns-in-Header
returns-in-Header c = rw c.in-Header.is c.check_plain-in-Header.ensures

pub returns-in-Key : goal.returns-in-Key
returns-in-Key c = rw c.in-Key.is c.check_plain-in-Key.ensures

pub returns-in-KeySet : goal.returns-in-KeySet
returns-in-KeySet c = rw c.in-KeySet.is c.check_plain-in-KeySet.ensures

pub returns-in-Claims : goal.returns-in-Claims
returns-in-Claims c = rw c.in-Claims.is c.check_plain-in-Claims.ensures

pub returns-in-Any : goal.returns-in-Any
returns-in-Any c = rw c.in-Any.is c.check_plain-in-Any.ensures

pub returns-in-KdfContext : goal.returns-in-KdfContext
returns-in-KdfContext c = rw c.in-KdfContext.is c.check_plain-in-KdfContext.ensures
