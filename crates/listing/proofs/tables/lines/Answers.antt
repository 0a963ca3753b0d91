use Rattle.std.proofs.Common.{vec_items, string_bytes}
use Rattle.listing.proofs.TableLaws.{listed_more}
use Rattle.listing.proofs.tables.lines.Goals as goal

pub loop-code-preserved : goal.loop-code-preserved
loop-code-preserved g c =
    listed_more string_bytes (g.F.Format.meaning c.args.format.now) (vec_items c.loop-code.lines) (vec_items c.push.new.self)
    c.in_ok-row.field-0 c.loop-code.code c.loop-code.invariant c.in_ok-push.ensures.items c.in_ok-row.ensures
