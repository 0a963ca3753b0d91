-- What a list of lines needs to have a line for each code.
use Rattle.std.proofs.Common.{◌≡◌, ℕ, ◌+◌, List, [], ◌∷◌, ◌++◌, sym, ◌∙◌, subst, ⊎_elim, arith}
use Rattle.std.proofs.lemmas.List.{length_push, get_or_push, get_or_append_left}
use Rattle.std.proofs.lemmas.Bool.{cases_lt}
use Rattle.formats.specs.Meaning.{Meaning}
use Rattle.listing.specs.Rows.{Line}
use Rattle.listing.specs.Tables.{Listed}

module _ {S : Type 0} (bytes : S → List ℕ) (m : Meaning) where
  -- one more line at the end
  listed_push : (lines : List S) (x : S) (c : ℕ) → Listed bytes m lines c → Line m c (bytes x) → Listed bytes m (lines ++ (x ∷ [])) (c + 1)
  listed_push lines x c (long, each) line = (
    omega (arith, length_push lines x),
    λ k none lt.
        ⊎_elim
        (λ l. subst (λ s. Line m k (bytes s)) (sym (get_or_append_left lines (x ∷ []) none k (omega arith))) (each k none l))
        (λ l.
        let same : c ≡ k = omega arith in
        subst (λ s. Line m k (bytes s)) (sym (get_or_push lines x none k (long ∙ same))) (subst (λ n. Line m n (bytes x)) same line))
        (cases_lt k c),
  )

  pub listed_more : (lines more : List S) (x : S) (c : ℕ) → Listed bytes m lines c → more ≡ lines ++ (x ∷ []) → Line m c (bytes x) → Listed bytes m more (c + 1)
  listed_more lines more x c listed e line = subst (λ ls. Listed bytes m ls (c + 1)) (sym e) (listed_push lines x c listed line)
