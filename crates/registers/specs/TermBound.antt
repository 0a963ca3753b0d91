-- A term is below 2^191 units of 2^-96.
use Rattle.std.proofs.Common.{◌*◌, ◌^◌, ◌≤◌, arith}
use Rattle.formats.specs.ValueLaws.{abs_signed}
use Rattle.sums.specs.Sums.{size_of}
use Rattle.terms.specs.Readings.{term_value}
use Rattle.terms.specs.declared.term.Term.{Term}
use Rattle.terms.specs.declared.term.Term.TheVariants.{Nan, Infinite, Finite}

pub term_bounded : (t : Term) → size_of (term_value t) ≤ 1 * 2 ^ 191
term_bounded Nan = omega arith
term_bounded (Infinite negative) = omega arith
term_bounded (Finite t) = omega (arith, abs_signed t.negative (t.digits * 2 ^ t.place), t.small)
