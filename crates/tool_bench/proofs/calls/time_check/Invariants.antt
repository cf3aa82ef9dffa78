use Rattle.tool_bench.proofs.calls.time_check.Given as goal

abbrev pub ghosts-check_each : goal.ghosts-check_each
ghosts-check_each g a = record { name = a.blank.name; parts = a.blank.parts }
