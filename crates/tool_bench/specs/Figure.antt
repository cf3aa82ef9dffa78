-- The text of a `Figure`.
use Rattle.std.specs.Prelude.{ℕ, List, ◌++◌, ◌/◌, ◌%◌, codes}
use Rattle.std.specs.Fmt.{decimal}
use Rattle.tool_bench.specs.declared.figure.Figure.{Figure}
use Rattle.tool_bench.specs.declared.figure.Figure.TheVariants.{Unknown, Untimed, Tenths}

-- Nanoseconds with one decimal. An unknown operation is a dash.
abbrev pub figure_text : Figure → List ℕ
figure_text Unknown = codes "-"
figure_text Untimed = codes "0.0"
figure_text (Tenths n) = decimal (n / 10) ++ codes "." ++ decimal (n % 10)
