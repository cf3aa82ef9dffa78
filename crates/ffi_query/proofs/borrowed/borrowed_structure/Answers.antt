use Rattle.ffi_query.proofs.borrowed.borrowed_structure.Goals as goal

pub returns-in-Encrypt0-clause-found : goal.returns-in-Encrypt0-clause-found
returns-in-Encrypt0-clause-found c = rw c.in-Encrypt0.is c.beside_ciphertext.ensures.found

pub returns-in-Encrypt-clause-found : goal.returns-in-Encrypt-clause-found
returns-in-Encrypt-clause-found c = rw c.in-Encrypt.is c.beside_ciphertext-in-Encrypt.ensures.found
