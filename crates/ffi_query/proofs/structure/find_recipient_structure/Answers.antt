use Rattle.ffi_query.proofs.structure.find_recipient_structure.Goals as goal

pub returns-in-Encrypt-clause-found : goal.returns-in-Encrypt-clause-found
returns-in-Encrypt-clause-found c = rw c.in-Encrypt.is c.encryption_structure.ensures.found

pub returns-in-Mac-clause-found : goal.returns-in-Mac-clause-found
returns-in-Mac-clause-found c = rw c.in-Mac.is c.encryption_structure-in-Mac.ensures.found

pub returns-in-Recipient-clause-found : goal.returns-in-Recipient-clause-found
returns-in-Recipient-clause-found c = rw c.in-Recipient.is c.encryption_structure-in-Recipient.ensures.found
