use Rattle.example_uses.proofs.sequences.uncounted_lengths.Given as goal

abbrev pub ghosts-counted_lengths : goal.ghosts-counted_lengths
ghosts-counted_lengths a = record { name = a.blank.name; parts = a.blank.parts }
