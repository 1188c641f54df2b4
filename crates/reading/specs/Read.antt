-- How a sheet is read, over the bytes of its text.
use Rattle.std.specs.Prelude.{ℕ, zero, suc, ◌+◌, ◌-◌, ◌*◌, Bool, if◌then◌else◌, ◌&&◌, List, [], ◌∷◌, ◌++◌, length, Some, None, codes, Option, ◌==◌, nat_le, nat_lt}
use Rattle.std.specs.Borrow.{Bor}
use Rattle.reading.specs.declared.row.Fields.{Fields}
use Rattle.model.specs.declared.user.Who.{Who}
use Rattle.model.specs.declared.user.Who.TheVariants.{A, B}
use Rattle.reading.specs.declared.row.Row.{Row}
use Rattle.reading.specs.declared.row.Row.TheVariants.{Map, Put, Start, Run}

infixl 1 ◌>>=◌
-- an answer's text by its bytes
abbrev pub left : Option (Bor (List ℕ)) → Option (List ℕ)
left None = None
left (Some r) = Some r.now

abbrev pub taken : {X : Type 0} → Option (X × Bor (List ℕ)) → Option (X × List ℕ)
taken None = None
taken (Some (x, r)) = Some (x, r.now)

-- what follows a word in a text that begins with it
unfoldable pub after : List ℕ → List ℕ → Option (List ℕ)
after [] bs = Some bs
after (w ∷ ws) [] = None
after (w ∷ ws) (b ∷ bs) = if b == w then after ws bs else None

-- with its newline
abbrev pub first_line : List ℕ
first_line = codes "do user at word" ++ (10 ∷ [])

-- what follows the first line of a sheet; more than 4,096 bytes is too long
abbrev pub opened : List ℕ → Option (List ℕ)
opened bs = if nat_lt 4096 (length bs) then None else after first_line bs

-- an octal digit, and what follows it
unfoldable pub digit : List ℕ → Option (ℕ × List ℕ)
digit [] = None
digit (b ∷ bs) = if nat_le 48 b && nat_le b 55 then Some (b - 48, bs) else None

abbrev pub either : {X Y : Type 0} → Option (X × List ℕ) → Y → (X → List ℕ → Y) → Y
either None y f = y
either (Some (x, bs)) y f = f x bs

-- at most k further digits of a number that is v so far, and at most 0177777 in all
abbrev pub further : ℕ → ℕ → List ℕ → Option (ℕ × List ℕ)
further zero v bs = Some (v, bs)
further (suc k) v bs = either (digit bs) (Some (v, bs)) (λ d cs. if nat_lt v 8192 then further k (v * 8 + d) cs else None)

-- one to six octal digits
unfoldable pub number : List ℕ → Option (ℕ × List ℕ)
number bs = either (digit bs) None (further 5)

-- readers: what they take of a text, and what they leave
abbrev pub Reads : Type 0 → Type 0
Reads X = List ℕ → Option (X × List ℕ)

abbrev pub ◌>>=◌ : {X Y : Type 0} → Reads X → (X → Reads Y) → Reads Y
◌>>=◌ f k bs = either (f bs) None k

abbrev pub ret : {X : Type 0} → X → Reads X
ret x bs = Some (x, bs)

abbrev pub ending : {X : Type 0} → X → Option (List ℕ) → Option (X × List ℕ)
ending x None = None
ending x (Some cs) = Some (x, cs)

abbrev pub past : List ℕ → Reads (Unit {0})
past w bs = ending tt (after w bs)

-- a number and what ends it
abbrev pub field : List ℕ → Reads ℕ
field end = do
  n ← number
  _ ← past end
  ret n

-- four numbers, with one space between and a newline after
abbrev pub fields : Reads Fields
fields = do
  act ← field (32 ∷ [])
  user ← field (32 ∷ [])
  at ← field (32 ∷ [])
  word ← field (10 ∷ [])
  ret (record { act = act; user = user; at = at; word = word })

-- user 0 is A and 1 is B; over 1 is wrong
abbrev pub who : ℕ → Option Who
who n = if n == 0 then Some A else if n == 1 then Some B else None

abbrev pub by : Option Who → (Who → Row) → Option Row
by None f = None
by (Some w) f = Some (f w)

abbrev pub only : Bool → Option Row → Option Row
only b o = if b then o else None

-- `do` 0 maps, 1 puts, 2 starts, 3 runs, and over 3 is wrong; a field that `do` does not name must be 0
abbrev pub meant : Fields → Option Row
meant f =
    if f.act == 0 then only (f.user == 0 && f.at == 0) (Some (Map f.word))
    else if f.act == 1 then only (f.user == 0) (Some (Put f.at f.word))
    else if f.act == 2 then only (f.word == 0) (by (who f.user) (λ w. Start w f.at))
    else if f.act == 3 then only (f.at == 0) (by (who f.user) (λ w. Run w f.word))
    else None

abbrev pub kept : {X : Type 0} → Option X → Reads X
kept None bs = None
kept (Some x) bs = Some (x, bs)

-- four numbers that ask for something
unfoldable pub row : Reads Row
row = do
  f ← fields
  kept (meant f)
