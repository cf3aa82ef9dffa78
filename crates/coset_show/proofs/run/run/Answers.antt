use Rattle.std.proofs.Common.{refl, sym, ◌∙◌}
use Rattle.coset_show.specs.Refusal.{no_memory}
use Rattle.coset_show.proofs.Answering.{kind_of_name, memory_refuses, refusal_answers}
use Rattle.coset_show.proofs.run.run.Goals as goal

pub returns-in-Ok-refusal_line-clause-known : goal.returns-in-Ok-refusal_line-clause-known
returns-in-Ok-refusal_line-clause-known g c = λ k named read_sound write_sound.
    refusal_answers _ _ _ k c.in-Some.kind c.in-Err.refusal c.as_str-in-Ok-refusal_line.result.now _
    (kind_of_name k c.in-Some.kind (sym named ∙ c.in-Some.ensures))
    (c.as_str-in-Ok-refusal_line.ensures.value ∙ c.in-Ok-refusal_line.ensures)
    (c.write_lines-in-Ok-refusal_line.ensures.written write_sound)
    (c.in-Err.ensures.known read_sound)

pub returns-in-Err-refusal_line-clause-known : goal.returns-in-Err-refusal_line-clause-known
returns-in-Err-refusal_line-clause-known g c = λ k named read_sound write_sound.
    refusal_answers _ _ _ k k no_memory _ _ refl refl (c.write_lines-in-Err-refusal_line.ensures.written write_sound) (memory_refuses _ k)
