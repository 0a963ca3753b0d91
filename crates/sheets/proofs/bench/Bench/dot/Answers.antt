use Rattle.std.proofs.Common.{◌∙◌, w8, SFits, to_z, of_z, arith, rules}
use Rattle.std.proofs.lemmas.Int.{to_z-of_z}
use Rattle.sheets.proofs.BenchLaws.{signed_is, dot_performs}
use Rattle.sheets.proofs.bench.Bench.dot.Goals as goal

pub returns : goal.returns
returns c n =
    let scale = c.cast_signed-scale.result in
    let fits : SFits w8 scale = search rules in
    dot_performs n c.args.register c.args.x_format c.args.y_format c.args.scale c.args.pairs.now
    c.in_ok-register.register (to_z w8 (of_z w8 scale)) c.in_ok-x_format.x_format c.in_ok-y_format.y_format
    c.args.self.now _ c.dot.new.register c.dot.result c.placed.result
    c.in_ok-register.ensures c.in_ok-x_format.ensures c.in_ok-y_format.ensures
    (to_z-of_z w8 scale fits ∙ c.cast_signed-scale.ensures ∙ signed_is c.args.scale (omega arith)) c.dot.ensures c.placed.ensures
