use Rattle.test_cbor.proofs.reading.check_front.Given as goal

abbrev pub ghosts-check_counted : goal.ghosts-check_counted
ghosts-check_counted a = record { name = a.blank.name; parts = a.blank.parts }
