use Rattle.coset_cbor.proofs.de.item_length.Given as goal

abbrev pub ghosts-counted_length : goal.ghosts-counted_length
ghosts-counted_length a = record { name = a.blank.name; parts = a.blank.parts }
