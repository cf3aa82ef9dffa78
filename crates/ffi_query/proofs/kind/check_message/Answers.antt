use Rattle.ffi_query.proofs.kind.check_message.Goals as goal

pub returns-in-Plain : goal.returns-in-Plain
returns-in-Plain g c = rw c.in-Plain.is c.check_plain.ensures

pub returns-in-Tagged : goal.returns-in-Tagged
returns-in-Tagged g c = rw c.in-Tagged.is c.check_tagged.ensures

pub returns-in-Either : goal.returns-in-Either
returns-in-Either g c = rw c.in-Either.is c.check_either.ensures
