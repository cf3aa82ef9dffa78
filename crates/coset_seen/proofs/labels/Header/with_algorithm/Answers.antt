use Rattle.std.proofs.Common.{◌∙◌, sym}
use Rattle.coset.specs.Pulls.{pull_item}
use Rattle.coset_seen.proofs.Labelling.{algorithm_kept, algorithm_taken}
use Rattle.coset_seen.proofs.labels.Header.with_algorithm.Goals as goal

pub returns-then-has_algorithm : goal.returns-then-has_algorithm
returns-then-has_algorithm c =
    algorithm_kept c.args.self (pull_item c.args.value) (sym c.has_algorithm.ensures ∙ c.if-has_algorithm.true)

pub returns : goal.returns
returns c =
    algorithm_taken c.args.self c.with_number.result (pull_item c.args.value) c.number_of.result (sym c.has_algorithm.ensures ∙ c.if-has_algorithm.false)
    c.number_of.ensures c.with_number.ensures
