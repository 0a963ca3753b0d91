use Rattle.std.proofs.Common.{◌≡◌, ◌+◌, ◌/◌, ◌++◌, IfSome, Some, codes, string_bytes, subst, arith, lit≤}
use Rattle.std.specs.Fmt.{option_append}
use Rattle.std.proofs.lemmas.Result.{IfOk-weaker}
use Rattle.listing.specs.Rows.{parts_of}
use Rattle.listing.specs.Texts.{bits_text, value_text}
use Rattle.listing.proofs.PaddingLaws.{radix_padded}
use Rattle.listing.proofs.RowLaws.{hex_covers, some_width, fits, line}
use Rattle.listing.proofs.rows.line.Goals as goal

pub invariant_of-read : goal.invariant_of-read
invariant_of-read g c =
    let (near, small) = fits _ (g.met.F.Format.lawful c.args.format.now) c.args.code c.args.reading c.requires in record { near = near; fits = small }

pub returns : goal.returns
returns g c =
    let laws = g.met.F.Format.lawful c.args.format.now in
    let w = c.shape-shape.result.width in
    let p = c.shape-shape.result.precision in
    let digits : c.div_ceil-digits.result ≡ (w + 3) / 4 = omega (arith, c.div_ceil-digits.ensures, c.from.ensures) in
    let hex =
    radix_padded c.in_radix.result c.laid_out.result 16 ((w + 3) / 4) c.args.code c.in_radix.ensures (rw digits at c.laid_out.ensures) (lit≤ tt)
    (omega (arith, some_width _ laws, c.shape-shape.ensures.width)) (omega (arith, laws.narrow, c.shape-shape.ensures.width)) (hex_covers c.args.code w (rw (← c.shape-shape.ensures.width) at c.requires.0)) in
    IfOk-weaker c.format.result _ _
    (λ s e.
    line _ laws c.args.code w p c.args.reading (string_bytes s) c.shape-shape.ensures.width c.shape-shape.ensures.precision c.requires
    (subst (λ o. IfSome (option_append (Some (codes "0x")) (option_append o (Some (codes " " ++ (bits_text w p c.args.code ++ (codes " " ++ (parts_of c.args.reading ++ (codes " " ++ value_text c.args.reading)))))))) (λ bs. string_bytes s ≡ bs)) hex e))
    c.format.ensures.ok
