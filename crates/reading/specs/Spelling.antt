-- What a row looks like, in words of its text.
use Rattle.std.specs.Prelude.{◌≡◌, ℕ, ◌+◌, ◌-◌, ◌*◌, ◌≤◌, List, [], ◌∷◌, ◌++◌, length, Some}
use Rattle.reading.specs.declared.row.Fields.{Fields}
use Rattle.reading.specs.Read.{fields}

abbrev pub Octal : List ℕ → Type 0
Octal [] = Unit {0}
Octal (b ∷ bs) = (48 ≤ b) × (b ≤ 55) × Octal bs

-- the number that octal digits write, after digits that write v
abbrev pub spelt : ℕ → List ℕ → ℕ
spelt v [] = v
spelt v (b ∷ bs) = spelt (v * 8 + (b - 48)) bs

-- an octal number of one to six digits, at most 0177777
pub record Spells (ds : List ℕ) (n : ℕ) : Type 0 where
  pub digits : Octal ds
  pub some : 1 ≤ length ds
  pub few : length ds ≤ 6
  pub is : n ≡ spelt 0 ds
  pub within : n ≤ 65535

-- four such numbers, with one space between and a newline after
pub record Written (bs : List ℕ) (f : Fields) (cs : List ℕ) : Type 0 where
  pub d0 : List ℕ
  pub d1 : List ℕ
  pub d2 : List ℕ
  pub d3 : List ℕ
  pub text : bs ≡ d0 ++ (32 ∷ (d1 ++ (32 ∷ (d2 ++ (32 ∷ (d3 ++ (10 ∷ cs)))))))
  pub act : Spells d0 f.act
  pub user : Spells d1 f.user
  pub at : Spells d2 f.at
  pub word : Spells d3 f.word

unfoldable pub ReadsWhatIsWritten : Type 0
ReadsWhatIsWritten =
    (bs cs : List ℕ) (f : Fields) → (fields bs ≡ Some (f, cs) → Written bs f cs) × (Written bs f cs → fields bs ≡ Some (f, cs))
