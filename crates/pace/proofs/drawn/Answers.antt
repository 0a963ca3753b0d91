use Rattle.std.proofs.Common.{◌*◌, ◌/◌, ◌%◌, ◌^◌, ◌<◌, arith}
use Rattle.pace.proofs.TermLaws.{term_most}
use Rattle.pace.proofs.drawn.Goals as goal

pub invariant_of-result : goal.invariant_of-result
invariant_of-result c =
    let digits = c.args.i * 2654435761 % 4294967296 / 256 in
    let place = c.args.i * 2654435761 % 4294967296 % 128 in
    let short : digits < 2 ^ 24 = omega arith in
    let low : place < 128 = omega arith in
    record { short = short; low = omega arith; small = omega (arith, term_most digits place short low) }
