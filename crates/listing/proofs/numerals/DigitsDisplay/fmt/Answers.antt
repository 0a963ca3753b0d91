use Rattle.std.proofs.Common.{arith, lit≤, sym, subst, []}
use Rattle.std.specs.Fmt.{DisplaysOnOk}
use Rattle.std.proofs.Output.{writes_in_calls_nil, has_written_of_eq}
use Rattle.listing.specs.Texts.{numeral_text}
use Rattle.listing.proofs.PaddingLaws.{no_digits, radix_padded}
use Rattle.listing.proofs.numerals.DigitsDisplay.fmt.Goals as goal

pub returns-then-self-eq0-clause-writes : goal.returns-then-self-eq0-clause-writes
returns-then-self-eq0-clause-writes g c plain ok =
    let d = c.args.self.now in
    has_written_of_eq g.W.Write.write_str_gives c.args.f.now [] (numeral_text 2 d.count d.number) c.args.f.now (sym (no_digits 2 d.count d.number c.if-self-eq0.true)) (record { wrote = writes_in_calls_nil g.W.Write.write_str_gives _; plain = plain })

pub returns-clause-writes : goal.returns-clause-writes
returns-clause-writes g c plain ok =
    let d = c.args.self.now in
    let text = radix_padded c.in_radix.result c.laid_out.result 2 d.count d.number c.in_radix.ensures (rw c.from-count.ensures at c.laid_out.ensures) (lit≤ tt) (omega (arith, c.if-self-eq0.false)) (omega (arith, d.short)) d.fits in
    subst (λ o. DisplaysOnOk g.W.Write.write_str_gives c.args.f.now c.write.result o c.write.new.self) text c.write.ensures.writes plain ok
