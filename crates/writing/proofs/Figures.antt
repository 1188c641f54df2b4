use Rattle.std.proofs.Common.{◌≡◌, inl, inr, ℕ, zero, suc, ◌+◌, ◌/◌, ◌%◌, ◌^◌, ◌<◌, false, List, [], ◌∷◌, ◌++◌, map, refl, sym, ap, ◌∙◌, lit≤, append_assoc, arith}
use Rattle.std.specs.Fmt.{digits, digits_onto}
use Rattle.std.specs.Int.Digits.{digits_of}
use Rattle.std.proofs.lemmas.Bool.{cases_lt}
use Rattle.std.proofs.lemmas.Int.Digits.{digits_of_step}
use Rattle.std.proofs.lemmas.List.{map_push, append-nil}
use Rattle.writing.specs.Write.{figures, spaced, octal}

pub figures_step : (n : ℕ) → 0 < n → figures n ≡ figures (n / 8) ++ ((48 + n % 8) ∷ [])
unfolding figures
figures_step n h =
    ap (map (λ (d : ℕ). 48 + d)) (digits_of_step 8 n (lit≤ tt) h) ∙ map_push (λ (d : ℕ). 48 + d) (digits_of 8 (n / 8)) (n % 8)

pub figures_none : figures 0 ≡ []
unfolding figures
figures_none = refl

pub spaced_none : spaced [] ≡ []
spaced_none = refl

pub spaced_more : (n : ℕ) (ns : List ℕ) → spaced (n ∷ ns) ≡ 32 ∷ (octal n ++ spaced ns)
spaced_more n ns = refl

figures_onto : (k n : ℕ) (acc : List ℕ) → 0 < n → n < 8 ^ k → digits_onto k 8 false n acc ≡ figures n ++ acc
figures_onto zero n acc h l = let z : ⊥ = omega arith in elim z [ ]
figures_onto (suc k) n acc h l =
    let e = figures_step n h in
    let ih = λ (h : 0 < n / 8). figures_onto k (n / 8) ((48 + n % 8) ∷ acc) h (omega arith) in
    grind (arith, e, ih, figures_none, append_assoc)

digits_from : (n : ℕ) → digits_onto 64 8 false n [] ≡ digits 8 false n
unfolding digits
digits_from n = refl

octal_some : (n : ℕ) → 0 < n → figures n ≡ octal n
unfolding octal
octal_some n h = grind arith

-- what `{:o}` writes
pub octal_digits : (n : ℕ) → n < 2 ^ 16 → digits 8 false n ≡ octal n
unfolding octal digits
octal_digits n l =
    elim (cases_lt 0 n) [
      | inl h ↦ sym (digits_from n) ∙ figures_onto 64 n [] h (omega arith) ∙ append-nil (figures n) ∙ octal_some n h
      | inr h ↦ let e : n ≡ 0 = omega arith in rw e (refl {a = octal 0})
    ]
