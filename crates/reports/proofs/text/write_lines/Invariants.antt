use Rattle.std.proofs.Common.{◌≡◌, ◌++◌, take, vec_items}
use Rattle.reports.specs.Texts.{lines_text}
use Rattle.reports.proofs.text.write_lines.Given as goal

abbrev pub invariant-loop-line : goal.invariant-loop-line
invariant-loop-line l = vec_items l.text ≡ vec_items l.initial.text ++ lines_text (take l.line-index l.lines)
