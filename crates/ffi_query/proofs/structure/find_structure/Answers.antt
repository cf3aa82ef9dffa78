use Rattle.ffi_query.proofs.structure.find_structure.Goals as goal

pub returns-in-Sign1-clause-found : goal.returns-in-Sign1-clause-found
returns-in-Sign1-clause-found c = rw c.in-Sign1.is c.content_structure.ensures.found

pub returns-in-Sign-clause-found : goal.returns-in-Sign-clause-found
returns-in-Sign-clause-found c = rw c.in-Sign.is (rw c.in-Sign.is at c.signer_structure.ensures.found)

pub returns-in-Mac0-clause-found : goal.returns-in-Mac0-clause-found
returns-in-Mac0-clause-found c = rw c.in-Mac0.is c.content_structure-in-Mac0.ensures.found

pub returns-in-Mac-clause-found : goal.returns-in-Mac-clause-found
returns-in-Mac-clause-found c = rw c.in-Mac.is c.content_structure-in-Mac.ensures.found

pub returns-in-Encrypt0-clause-found : goal.returns-in-Encrypt0-clause-found
returns-in-Encrypt0-clause-found c = rw c.in-Encrypt0.is c.encryption_structure.ensures.found

pub returns-in-Encrypt-clause-found : goal.returns-in-Encrypt-clause-found
returns-in-Encrypt-clause-found c = rw c.in-Encrypt.is c.encryption_structure-in-Encrypt.ensures.found
