use Rattle.std.proofs.Common.{◌-◌, ◌≤◌, ◌∙◌, arith, rules}
use Rattle.std.proofs.lemmas.Nat.{one_shl}
use Rattle.layout.proofs.CodeLaws.{shift_room, shift_left, shift_odd, shift_past, shift_divided}
use Rattle.layout.proofs.magnitudes.shifted.Goals as goal

pub overflow_cast-result : goal.overflow_cast-result
overflow_cast-result c =
    let room = shift_room c.args.significand c.args.from c.args.to c.requires.some c.requires.fits in search rules

pub overflow_shl-result : goal.overflow_shl-result
overflow_shl-result c = shift_room c.args.significand c.args.from c.args.to c.requires.some c.requires.fits

pub returns-then-to-from : goal.returns-then-to-from
returns-then-to-from c = shift_left c.args.significand c.args.from c.args.to c.if-to-from.true c.requires.some c.requires.fits

pub returns-in_err-unit : goal.returns-in_err-unit
returns-in_err-unit c =
    let large : 16 ≤ c.args.to - c.args.from = omega (arith, c.in_err-unit.ensures) in
    rw c.from_residual.ensures
    (λ t e. shift_past c.args.significand t (c.args.to - c.args.from) c.requires.some (omega (arith, c.ranges.significand.fits)) large
    (shift_odd c.args.significand c.args.from c.args.to t c.if-to-from.false e))

pub returns : goal.returns
returns c =
    let unit = c.in_ok-unit.ensures in
    rw c.then_some.ensures
    (shift_divided c.args.significand c.args.from c.args.to c.in_ok-unit.unit c.is_multiple_of-whole.result c.if-to-from.false
    (unit.1 ∙ one_shl (c.args.to - c.args.from) 16 unit.0) c.is_multiple_of-whole.ensures)
