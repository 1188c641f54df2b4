-- How numbers and lines are written, as bytes.
use Rattle.std.specs.Prelude.{ℕ, ◌+◌, if◌then◌else◌, List, [], ◌∷◌, ◌++◌, map, ◌==◌}
use Rattle.std.specs.Int.Digits.{digits_of}
use Rattle.std.specs.List.{flat_map}

-- the octal digits of a number as text, none for 0
unfoldable pub figures : ℕ → List ℕ
figures n = map (λ d. 48 + d) (digits_of 8 n)

-- with no leading zero, and one digit for 0
unfoldable pub octal : ℕ → List ℕ
octal n = if n == 0 then 48 ∷ [] else figures n

-- a space before each
abbrev pub spaced : List ℕ → List ℕ
spaced = flat_map (λ n. 32 ∷ octal n)

-- a first number and others, with one space between and a newline after
unfoldable pub line : ℕ → List ℕ → List ℕ
line n ns = octal n ++ (spaced ns ++ (10 ∷ []))
