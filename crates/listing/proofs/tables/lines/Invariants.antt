use Rattle.std.proofs.Common.{vec_items, string_bytes}
use Rattle.listing.specs.Tables.{Listed}
use Rattle.listing.proofs.tables.lines.Given as goal

abbrev pub invariant-loop-code : goal.invariant-loop-code
invariant-loop-code g l = Listed string_bytes (g.F.Format.meaning l.format) (vec_items l.lines) l.code
