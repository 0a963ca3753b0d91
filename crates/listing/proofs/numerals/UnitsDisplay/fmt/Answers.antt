use Rattle.std.proofs.Common.{◌≡◌, ℕ, ◌/◌, Bool, List, ◌++◌, max, decimal, refl, ◌%◌, ◌^◌, cond, [], codes, arith, lit<}
use Rattle.std.proofs.Output.{has_written_of_eq}
use Rattle.std.proofs.lemmas.Nat.{mod_below}
use Rattle.listing.specs.Texts.{numeral_text, places_after, number_after, units_text}
use Rattle.listing.proofs.NumeralLaws.{number_below}
use Rattle.listing.proofs.PaddingLaws.{decimal_padded}
use Rattle.listing.proofs.numerals.UnitsDisplay.fmt.Goals as goal
use Rattle.listing.proofs.numerals.UnitsDisplay.fmt.Goals.{then-self, else-self}

-- the text from its parts
units_written : (negative : Bool) (n places number : ℕ) (sign text : List ℕ) → sign ≡ cond negative (codes "-") [] → places ≡ places_after (n % 2 ^ 32) → number ≡ number_after (n % 2 ^ 32) → text ≡ numeral_text 10 (max places 1) number
    → sign ++ (decimal (n / 2 ^ 32) ++ (codes "." ++ text)) ≡ units_text negative n
unfolding units_text
units_written negative n places number sign text sign_is places_is number_is is = rw (is, sign_is, places_is, number_is) refl

pub returns-clause-writes : goal.returns-clause-writes
returns-clause-writes g c plain ok =
    let u = c.args.self.now in
    let (number, places) = c.decimals-number.result in
    let is = c.decimals-number.ensures in
    let sign : c.if-self.sign.now ≡ cond u.negative (codes "-") [] = elim c.if-self.branch [ then-self w ↦ cc | else-self w ↦ cc ] in
    let below = number_below (u.units % 2 ^ 32) (mod_below u.units (2 ^ 32) (lit< tt)) in
    let text = decimal_padded c.laid_out.result places number c.laid_out.ensures (omega (arith, is.1)) (rw (is.0, is.1) below) in
    has_written_of_eq g.W.Write.write_str_gives c.args.f.now _ _ c.write.new.self
    (units_written u.negative u.units places number c.if-self.sign.now _ sign is.1 is.0 text) (c.write.ensures.writes plain ok)
