use Rattle.std.proofs.Common.{◌≡◌, ◌-◌, ◌≤◌, length, take, drop, arith}
use Rattle.std.proofs.lemmas.Grind.{common_steps}
use Rattle.sheets.specs.Sheets.{record_length, kind_number}
use Rattle.sheets.proofs.SheetLaws.{whole_at}
use Rattle.sheets.proofs.run.whole.Goals as goal

pub returns : goal.returns
returns c =
    let rest = c.args.rest.now in
    let after = take (length rest - 4) (drop 4 rest) in
    let long : c.from.result ≡ record_length rest = grind (arith, common_steps) in
    let number : c.from_le_bytes-2.result ≡ kind_number rest = grind (arith, common_steps) in
    let two : 2 ≤ c.from.result = grind (arith, common_steps) in
    let short : c.from.result - 2 ≤ length rest - 4 = grind (arith, common_steps) in
    let body : c.in_ok-body.body.now ≡ take (c.from.result - 2) after = grind (arith, common_steps) in
    let left : c.in_ok-body.left.now ≡ drop (c.from.result - 2) after = grind (arith, common_steps) in
    whole_at rest _ _ _ _ c.in-len4-up.len_at_least long number two short body left
